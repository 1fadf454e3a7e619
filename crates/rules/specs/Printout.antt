-- Document 01, the printout: "prints in decimal the answer, then index, level, row and length per record".
use Rattle.std.specs.Prelude.{ℕ, zero, suc, ◌+◌, ◌/◌, ◌%◌, ◌≡◌, refl, cond, List, [], ◌∷◌, ◌++◌, ltb}
use Prim.Native.Char.{code}
use Prim.Native.String.{String, [] as no_text, ◌∷◌ as ◌then◌}
use Rattle.rules.specs.declared.Command.{Command}
use Rattle.rules.specs.declared.Answer.{Answer}
use Rattle.rules.specs.declared.BaseChoice.{BaseChoice}
use Rattle.rules.specs.declared.BaseChoice.TheVariants.{NoBase}
use Rattle.rules.specs.Walk.{Run, commands_of, answer_of}
use Rattle.rules.specs.Records.{room_of, words_of, command_of, commands_in}
use Rattle.rules.specs.File.{file_limit, trailer_of, file_checks, opened_of, opened_verdict, dwords_from, batch_dwords, state_dwords, file_capture, file_run, file_base}
use Rattle.rules.specs.Book.{book}

-- "in decimal": the bytes of a number, with no leading zero; so many digits at most
unfoldable pub digits_of : ℕ → ℕ → List ℕ
digits_of zero n = []
digits_of (suc more) n = cond (ltb n 10) [] (digits_of more (n / 10)) ++ ((48 + n % 10) ∷ [])

-- "in decimal": a number below 2^64 has at most 20 digits
abbrev pub decimal : ℕ → List ℕ
decimal n = digits_of 20 n

-- "reason 0 window 0 index 0 commands 2": a text as its bytes, in ASCII
abbrev pub bytes : String → List ℕ
bytes no_text = []
bytes (c then s) = code c ∷ bytes s

-- "prints in decimal the answer": its line
unfoldable pub answer_line : Answer → List ℕ
answer_line a =
    bytes "reason " ++ (decimal a.reason ++ (bytes " window " ++ (decimal a.window ++ (bytes " index " ++ (decimal a.index ++ (bytes " commands " ++ (decimal a.count ++ bytes "\n")))))))

-- "index, level, row and length": a record's line
unfoldable pub command_line : Command → List ℕ
command_line c = decimal c.index ++ (bytes " " ++ (decimal c.level ++ (bytes " " ++ (decimal c.row ++ (bytes " " ++ (decimal c.length ++ bytes "\n"))))))

-- "index, level, row and length per record": the line of one, by its two words
abbrev pub record_line : ℕ → ℕ → List ℕ
record_line first second = command_line (command_of first second)

-- "per record": a line for each
unfoldable pub command_lines : List Command → List ℕ
command_lines [] = []
command_lines (c ∷ cs) = command_line c ++ command_lines cs

-- "prints in decimal the answer, then index, level, row and length per record"
unfoldable pub printout : Answer → List ℕ → List ℕ
printout answer records = answer_line answer ++ command_lines (commands_in records)

-- Request 7: "the file program keeps 4,096 and lends 8,192 record words"
abbrev pub record_words : ℕ
record_words = 8192

-- "The program lends .. record words and prints": what it prints for a file; the two word buffers hold the largest windows. Request 5: "The drill
-- program and the printout relied on 14 to spot captures cut too late: both now ask for "none" by name and keep their old answers"
unfoldable pub printed : BaseChoice → List ℕ → List ℕ
printed choice file =
    let run : Run = file_run (file_base choice file) file file_limit file_limit (room_of record_words) in printout (answer_of run) (words_of (commands_of run))

-- "For batch 00000000h, 05000000h": its file, in the windows of "Cases", with no state dword
abbrev example_file : List ℕ
example_file =
    -- batch dwords
    0x00 ∷ 0x00 ∷ 0x00 ∷ 0x00 ∷ 0x00 ∷ 0x00 ∷ 0x00 ∷ 0x05
    -- batch, state and scratch address: 100000h, 200000h, 300000h
    ∷ 0x00 ∷ 0x00 ∷ 0x10 ∷ 0x00 ∷ 0x00 ∷ 0x00 ∷ 0x00 ∷ 0x00
    ∷ 0x00 ∷ 0x00 ∷ 0x20 ∷ 0x00 ∷ 0x00 ∷ 0x00 ∷ 0x00 ∷ 0x00
    ∷ 0x00 ∷ 0x00 ∷ 0x30 ∷ 0x00 ∷ 0x00 ∷ 0x00 ∷ 0x00 ∷ 0x00
    -- scratch length 4,096, batch count 2, state count 0, distance 48
    ∷ 0x00 ∷ 0x10 ∷ 0x00 ∷ 0x00 ∷ 0x02 ∷ 0x00 ∷ 0x00 ∷ 0x00
    ∷ 0x00 ∷ 0x00 ∷ 0x00 ∷ 0x00 ∷ 0x30 ∷ 0x00 ∷ 0x00 ∷ 0x00
    ∷ []

-- "For batch 00000000h, 05000000h": the document's own example, the file's bytes in and the three lines out
pub the_example : printed NoBase example_file ≡ bytes "reason 0 window 0 index 0 commands 2\n0 0 0 1\n1 0 1 1\n"
unfolding book trailer_of file_checks opened_of opened_verdict dwords_from batch_dwords state_dwords file_capture file_run digits_of answer_line command_line command_lines printout printed
the_example = refl
