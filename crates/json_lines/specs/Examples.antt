-- A line of each kind, by computation.
use Rattle.std.specs.Prelude.{◌≡◌, refl, None, Some, [], ◌∷◌, ◌++◌, replicate}
use Rattle.rules.specs.Printout.{digits_of, bytes}
use Rattle.lines.specs.Hexadecimal.{hex_digit, hex_digits}
use Rattle.rules.specs.declared.BaseChoice.TheVariants.{StateWindow, NoBase}
use Rattle.members.specs.declared.Outcome.TheVariants.{Unlisted}
use Rattle.members.specs.Strings.{quoted_byte, quoted}
use Rattle.members.specs.Members.{outcome_text, number_text, dword_text, base_text}
use Rattle.json_lines.specs.Objects.{with_answer, judged, not_judged, head_text, place_text, file_line, reason_text, reasons_on, counts_text, totals_line}

pub an_accepted_file : file_line (bytes "a \"b\"") (bytes "accepted") (judged (Some 56) (record { reason = 0; window = 0; index = 0; count = 2 }) (Some 7))
    ≡ bytes "{\"name\":\"a \\\"b\\\"\",\"size\":56,\"verdict\":\"accepted\",\"reason\":0,\"words\":\"accepted\",\"window\":0,\"index\":0,\"dword\":null,\"count\":2}\n"
unfolding digits_of hex_digit hex_digits quoted_byte quoted outcome_text number_text dword_text with_answer judged head_text place_text file_line
an_accepted_file = refl

pub a_refused_file : file_line (bytes "a\\x0A") (bytes "an address range does not fit") (judged None (record { reason = 13; window = 0; index = 2; count = 1 }) (Some 0x0030100F))
    ≡ bytes "{\"name\":\"a\\\\x0A\",\"size\":null,\"verdict\":\"refused\",\"reason\":13,\"words\":\"an address range does not fit\",\"window\":0,\"index\":2,\"dword\":\"0030100F\",\"count\":1}\n"
unfolding digits_of hex_digit hex_digits quoted_byte quoted outcome_text number_text dword_text with_answer judged head_text place_text file_line
a_refused_file = refl

pub an_unlisted_file : file_line (bytes "a\n") (bytes "not listed") (not_judged (Some 0) Unlisted)
    ≡ bytes "{\"name\":\"a\\u000A\",\"size\":0,\"verdict\":\"unlisted\",\"reason\":null,\"words\":\"not listed\",\"window\":null,\"index\":null,\"dword\":null,\"count\":null}\n"
unfolding digits_of hex_digit hex_digits quoted_byte quoted outcome_text number_text dword_text not_judged head_text place_text file_line
an_unlisted_file = refl

-- 13 refused two, 19 one; by the default
pub the_totals : totals_line (record { accepted = 4; refused = 3; unread = 0; missing = 1; unlisted = 2 }) (replicate 13 0 ++ (2 ∷ 0 ∷ 0 ∷ 0 ∷ 0 ∷ 0 ∷ 1 ∷ 0 ∷ 0 ∷ 0 ∷ [])) StateWindow
    ≡ bytes "{\"accepted\":4,\"refused\":3,\"unread\":0,\"missing\":1,\"unlisted\":2,\"reasons\":{\"13\":2,\"19\":1},\"rules\":\"01+1+2+3+4+5+6+7\",\"base\":\"state\"}\n"
unfolding digits_of reason_text reasons_on counts_text base_text totals_line
the_totals = refl

-- without a base
pub no_refusal : totals_line (record { accepted = 1; refused = 0; unread = 0; missing = 0; unlisted = 0 }) (replicate 23 0) NoBase
    ≡ bytes "{\"accepted\":1,\"refused\":0,\"unread\":0,\"missing\":0,\"unlisted\":0,\"reasons\":{},\"rules\":\"01+1+2+3+4+5+6+7\",\"base\":\"none\"}\n"
unfolding digits_of reason_text reasons_on counts_text base_text totals_line
no_refusal = refl
