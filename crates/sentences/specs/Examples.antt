-- A line of each kind, and of each detail, shown by computation.
use Rattle.std.specs.Prelude.{◌≡◌, refl, ◌++◌}
use Rattle.rules.specs.declared.BaseChoice.TheVariants.{StateWindow, NoBase}
use Rattle.rules.specs.declared.Within.TheVariants.{ScratchOnly}
use Rattle.rules.specs.Commands.{store_row, set_registers_row}
use Rattle.rules.specs.Printout.{digits_of, bytes}
use Rattle.clauses.specs.declared.Unread.TheVariants.{NoSuchFile, Folder}
use Rattle.clauses.specs.declared.Detail.TheVariants.{NoMore, InCommand, Reach, HasBytes}
use Rattle.lines.specs.Hexadecimal.{hex_digit, hex_digits}
use Rattle.phrases.specs.Words.{words_in, reason_table, writing_table, command_table, access_table, within_words}
use Rattle.clauses.specs.Clauses.{commands_text, window_text, dword_text, place_text, progress_text, bytes_text, command_text, address_text, reach_text, size_text, detail_text}
use Rattle.clauses.specs.Clauses.{refused_words, unread_words, is_missing, base_text}
use Rattle.sentences.specs.Lines.{accepted_line, refused_line, unread_line, totals_line, writing_line}

-- a capture that is accepted
pub an_accepted_line : accepted_line (bytes "a.capture") 214 ≡ bytes "a.capture: accepted, 214 commands\n"
unfolding digits_of commands_text accepted_line
an_accepted_line = refl

-- a number that has a dword at its place, and what happened there
pub a_refused_line : refused_line (bytes "a.capture") (record { reason = 13; window = 0; index = 2; count = 1 }) 0x00301000
    (Reach store_row 0x00301000 4 ScratchOnly) ≡
    bytes "a.capture: refused, 13 at batch dword 2 (00301000h) after 1 command: an address range does not fit"
    ++ bytes ": MI_STORE_DATA_IMM, store to 4 bytes at 000000301000h, which should lie in scratch\n"
unfolding digits_of hex_digit hex_digits words_in reason_table commands_text window_text dword_text place_text progress_text refused_line refused_words command_table
    access_table within_words bytes_text command_text address_text reach_text detail_text
a_refused_line = refl

-- a number whose command is named
pub a_line_of_a_command : refused_line (bytes "a.capture") (record { reason = 12; window = 0; index = 2; count = 1 }) 0x00002000
    (InCommand set_registers_row) ≡
    bytes "a.capture: refused, 12 at batch dword 2 (00002000h) after 1 command: a value is not allowed: MI_LOAD_REGISTER_IMM\n"
unfolding digits_of hex_digit hex_digits words_in reason_table commands_text window_text dword_text place_text progress_text refused_line refused_words command_table
    command_text detail_text
a_line_of_a_command = refl

-- a number that is found before the walk
pub a_line_without_a_place : refused_line (bytes "a.capture") (record { reason = 4; window = 0; index = 0; count = 0 }) 0 NoMore ≡
    bytes "a.capture: refused, 4: two windows share a byte\n"
unfolding digits_of words_in reason_table progress_text detail_text refused_line refused_words
a_line_without_a_place = refl

-- number 6
pub a_line_at_the_end : refused_line (bytes "a.capture") (record { reason = 6; window = 0; index = 9; count = 3 }) 0 NoMore ≡
    bytes "a.capture: refused, 6 at the end of the batch after 3 commands: the run has not ended there\n"
unfolding digits_of words_in reason_table commands_text place_text progress_text detail_text refused_line refused_words
a_line_at_the_end = refl

-- number 18: the program has room for 4,096 records
pub a_line_of_a_loop : refused_line (bytes "a.capture") (record { reason = 18; window = 0; index = 0; count = 4096 }) 0x18800101 NoMore ≡
    bytes "a.capture: refused, 18 at batch dword 0 (18800101h) after 4096 commands: the run has not ended after 4,096 commands\n"
unfolding digits_of hex_digit hex_digits words_in reason_table commands_text window_text dword_text place_text progress_text refused_line refused_words detail_text
a_line_of_a_loop = refl

-- number 19, by the file's size
pub a_line_of_a_size : refused_line (bytes "a.capture") (record { reason = 19; window = 0; index = 0; count = 0 }) 0 (HasBytes 39) ≡
    bytes "a.capture: refused, 19: the file is shorter than its trailer or longer than any capture: it has 39 bytes\n"
unfolding digits_of words_in reason_table progress_text bytes_text size_text detail_text refused_line refused_words
a_line_of_a_size = refl

-- a file that is not there, and one that was not read
pub a_missing_line : unread_line (bytes "a.capture") NoSuchFile ≡ bytes "a.capture: missing: there is no such file\n"
unfolding unread_words is_missing unread_line
a_missing_line = refl

pub an_unread_line : unread_line (bytes "a.capture") Folder ≡ bytes "a.capture: unread: it is a folder\n"
unfolding unread_words is_missing unread_line
an_unread_line = refl

-- the last line, by either base
pub a_totals_line : totals_line 2 1 0 0 StateWindow ≡ bytes "2 accepted, 1 refused, 0 unread, 0 missing; base: state window\n"
unfolding digits_of base_text totals_line
a_totals_line = refl

pub a_totals_line_without_a_base : totals_line 1 2 0 0 NoBase ≡ bytes "1 accepted, 2 refused, 0 unread, 0 missing; base: none\n"
unfolding digits_of base_text totals_line
a_totals_line_without_a_base = refl

-- a line of compose's that is refused
pub a_writing_line : writing_line (bytes "mine.txt") 3 22 ≡ bytes "lungevati: mine.txt: line 3: refused, 22: there is no room for it in the 4,096 dwords\n"
unfolding digits_of words_in writing_table writing_line
a_writing_line = refl
