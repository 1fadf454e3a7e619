-- Document 01, "Capture file and printout": the reader, and the whole answer for a file.
use Rattle.std.specs.Prelude.{ℕ, zero, suc, ◌+◌, ◌-◌, ◌*◌, ◌^◌, ◌≡◌, Bool, not, ◌&&◌, ◌||◌, List, [], ◌∷◌, ◌++◌, length, get_or, drop, ltb, eqb, Ok, Err, Option, Result}
use Rattle.rules.specs.declared.Reason.{Reason}
use Rattle.rules.specs.declared.Contents.{Contents}
use Rattle.rules.specs.Refusals.{Verdict}
use Rattle.rules.specs.declared.Reason.TheVariants.{WrongCounts, FileSize, FileDistance, BufferShort}
use Rattle.rules.specs.declared.Answer.{Answer}
use Rattle.rules.specs.declared.BaseChoice.{BaseChoice}
use Rattle.rules.specs.Refusals.{batch_window, fault, refuse_if, first_fault, Told, told}
use Rattle.rules.specs.Windows.{Capture, window, counts_wrong}
use Rattle.rules.specs.Walk.{Run, unless, walk, starting_base, answer_of}
use Rattle.rules.specs.Records.{room_of, written_of}

-- "Little-endian"
abbrev pub word : List ℕ → ℕ → ℕ
word file at = get_or file at 0 + 2 ^ 8 * get_or file (at + 1) 0 + 2 ^ 16 * get_or file (at + 2) 0 + 2 ^ 24 * get_or file (at + 3) 0

-- "(64 bits each)", little-endian as well
abbrev pub long_word : List ℕ → ℕ → ℕ
long_word file at = word file at + 2 ^ 32 * word file (at + 4)

-- "a 40-byte trailer"
abbrev pub trailer_bytes : ℕ
trailer_bytes = 40

-- "batch, state and scratch address (64 bits each), scratch length, batch count, state count, distance back from the file's end to the first batch byte (32 each)"
pub record Trailer : Type 0 where
  pub batch_at : ℕ
  pub state_at : ℕ
  pub scratch_at : ℕ
  pub scratch_bytes : ℕ
  pub batch_count : ℕ
  pub state_count : ℕ
  pub distance : ℕ

-- "then a 40-byte trailer": its parts, in order, from its first byte on
abbrev pub trailer_at : List ℕ → ℕ → Trailer
trailer_at file from = record {
  batch_at = long_word file from;
  state_at = long_word file (from + 8);
  scratch_at = long_word file (from + 16);
  scratch_bytes = word file (from + 24);
  batch_count = word file (from + 28);
  state_count = word file (from + 32);
  distance = word file (from + 36);
}

-- "then a 40-byte trailer": the last of the file
unfoldable pub trailer_of : List ℕ → Trailer
trailer_of file = trailer_at file (length file - trailer_bytes)

-- "The reader fills two lent word buffers": what it is asked, which is a file and how many words the two buffers have
pub record Offer : Type 0 where
  pub file : List ℕ
  pub batch_room : ℕ
  pub state_room : ℕ

-- "two lent word buffers": the same, part by part
abbrev pub offer : List ℕ → ℕ → ℕ → Offer
offer file batch_room state_room = record { file = file; batch_room = batch_room; state_room = state_room }

-- "1 for counts": "over 4,096", of a file
abbrev pub file_limit : ℕ
file_limit = 4096

-- 19: "file under 40 or over 32,808 bytes"
abbrev pub size_wrong : Offer → Bool
size_wrong o = ltb (length o.file) trailer_bytes || ltb 32808 (length o.file)

-- 20: "distance not both the file length and 40+4(counts)"
abbrev pub distance_wrong : Offer → Bool
distance_wrong o =
    let t : Trailer = trailer_of o.file in
    not (eqb t.distance (length o.file) && eqb t.distance (trailer_bytes + 4 * (t.batch_count + t.state_count)))

-- 1: "for counts"
abbrev pub file_counts_wrong : Offer → Bool
file_counts_wrong o = counts_wrong file_limit (trailer_of o.file).batch_count (trailer_of o.file).state_count

-- 21: "a lent buffer too short"
abbrev pub buffer_short : Offer → Bool
buffer_short o = ltb o.batch_room (trailer_of o.file).batch_count || ltb o.state_room (trailer_of o.file).state_count

-- "Refusals in order: 19 ..; 20 ..; 1 ..; 21 ..", all with "place 0,0"
unfoldable pub file_checks : List (Offer → Verdict)
file_checks =
    (λ o. refuse_if (size_wrong o) (fault FileSize batch_window 0))
    ∷ (λ o. refuse_if (distance_wrong o) (fault FileDistance batch_window 0))
    ∷ (λ o. refuse_if (file_counts_wrong o) (fault WrongCounts batch_window 0))
    ∷ (λ o. refuse_if (buffer_short o) (fault BufferShort batch_window 0))
    ∷ []

-- "batch, state and scratch address .., scratch length, batch count, state count": what the reader answers of a file that it accepts
abbrev pub contents_of : Trailer → Contents
contents_of t = record {
  batch = record { at = t.batch_at; count = t.batch_count };
  state = record { at = t.state_at; count = t.state_count };
  scratch = window t.scratch_at t.scratch_bytes;
}

-- "Refusals in order": the first, or the contents
abbrev pub opened_by : Verdict → Trailer → Result Contents Reason
opened_by (Ok _) t = Ok (contents_of t)
opened_by (Err f) t = Err f.reason

-- "Refusals in order": what the reader answers
unfoldable pub opened_of : List ℕ → ℕ → ℕ → Result Contents Reason
opened_of file batch_room state_room =
    opened_by (first_fault file_checks (offer file batch_room state_room)) (trailer_of file)

-- "place 0,0": what each case of the reader's answer says of the file
unfoldable pub opened_verdict : Result Contents Reason → Verdict
opened_verdict (Ok contents) = Ok tt
opened_verdict (Err reason) = Err (fault reason batch_window 0)

-- "batch, state and scratch address .., scratch length, batch count, state count": the values of contents, and none with a refusal
unfoldable pub numbers_of : Result Contents Reason → List ℕ
numbers_of (Ok t) = t.batch.at ∷ t.state.at ∷ t.scratch.at ∷ t.scratch.bytes ∷ t.batch.count ∷ t.state.count ∷ []
numbers_of (Err reason) = []

-- "a definition gives this paper's number and values for each of the enum's cases"; "place 0,0, count 0"
abbrev pub opened_told : Result Contents Reason → Told ℕ
opened_told opened = told (opened_verdict opened) (numbers_of opened)

-- "batch dwords, state dwords": n dwords of the file, from a byte on
unfoldable pub dwords_from : List ℕ → ℕ → ℕ → List ℕ
dwords_from file at zero = []
dwords_from file at (suc n) = word file at ∷ dwords_from file (at + 4) n

-- "distance back from the file's end to the first batch byte"
abbrev pub batch_from : List ℕ → ℕ
batch_from file = length file - (trailer_of file).distance

-- "batch dwords", from the first batch byte on
unfoldable pub batch_dwords : List ℕ → List ℕ
batch_dwords file = dwords_from file (batch_from file) (trailer_of file).batch_count

-- "batch dwords, state dwords": behind them
unfoldable pub state_dwords : List ℕ → List ℕ
state_dwords file = dwords_from file (batch_from file + 4 * (trailer_of file).batch_count) (trailer_of file).state_count

-- "The reader fills two lent word buffers from word 0 and leaves their other words."
abbrev pub filled : List ℕ → List ℕ → List ℕ
filled dwords old = dwords ++ drop (length dwords) old

-- "All leave both buffers untouched"
unfoldable pub filled_by : Result Contents Reason → List ℕ → List ℕ → List ℕ
filled_by (Ok contents) dwords old = filled dwords old
filled_by (Err reason) dwords old = old

-- "Each public call is promised completely". THE PROMISE of `capture::read`: its answer, what that tells, which is the first fault of 19, 20, 1
-- and 21, or else the trailer's numbers, and every word of the two buffers as it returns
pub record FileRead (file batch state : List ℕ) (opened : Result Contents Reason) (new_batch new_state : List ℕ) : Type 0 where
  pub answers : opened ≡ opened_of file (length batch) (length state)
  pub tells : opened_told opened ≡ told (first_fault file_checks (offer file (length batch) (length state))) (numbers_of (Ok (contents_of (trailer_of file))))
  pub batch_filled : new_batch ≡ filled_by (opened_of file (length batch) (length state)) (batch_dwords file) batch
  pub state_filled : new_state ≡ filled_by (opened_of file (length batch) (length state)) (state_dwords file) state

-- "Little-endian: batch dwords, state dwords, then a 40-byte trailer": the capture that a file holds
unfoldable pub file_capture : List ℕ → Capture
file_capture file =
    let t : Trailer = trailer_of file in
    record {
      batch = batch_dwords file;
      batch_at = t.batch_at;
      state = state_dwords file;
      state_at = t.state_at;
      scratch_at = t.scratch_at;
      scratch_bytes = t.scratch_bytes;
    }

-- "Capture file and printout": the run of a file, which is its refusal by the reader, or the walk of the capture that it holds
abbrev pub run_by : Option ℕ → Result Contents Reason → List ℕ → ℕ → Run
run_by base opened file room = unless (opened_verdict opened) (walk base (file_capture file) room)

-- "Capture file and printout": the run of a file, by the room of the three lent buffers
unfoldable pub file_run : Option ℕ → List ℕ → ℕ → ℕ → ℕ → Run
file_run base file batch_room state_room room = run_by base (opened_of file batch_room state_room) file room

-- "Each public call is promised completely": the answer for a file, whose walk starts with this base, and every word of the three buffers as it returns
pub record Judged (base : Option ℕ) (file batch state records : List ℕ) (answer : Answer) (new_batch new_state new_records : List ℕ) : Type 0 where
  pub answers : answer ≡ answer_of (file_run base file (length batch) (length state) (room_of (length records)))
  pub batch_filled : new_batch ≡ filled_by (opened_of file (length batch) (length state)) (batch_dwords file) batch
  pub state_filled : new_state ≡ filled_by (opened_of file (length batch) (length state)) (state_dwords file) state
  pub written : new_records ≡ written_of (file_run base file (length batch) (length state) (room_of (length records))) records

-- Request 5: the base that is chosen, of the capture that a file holds
abbrev pub file_base : BaseChoice → List ℕ → Option ℕ
file_base choice file = starting_base choice (file_capture file).state_at

-- THE PROMISE of `capture::judge`, by the base that is chosen
abbrev pub JudgedFrom : BaseChoice → List ℕ → List ℕ → List ℕ → List ℕ → Answer → List ℕ → List ℕ → List ℕ → Type 0
JudgedFrom choice file batch state records answer new_batch new_state new_records =
    Judged (file_base choice file) file batch state records answer new_batch new_state new_records
