-- What gathering lines in a page comes to: one line more behind those that are there, and how many there is room for.
-- Assumes nothing.
use Prim.Native.Nat.{ℕ, suc, ◌+◌, ◌-◌, ◌*◌, ◌/◌, ◌≤◌, ◌<◌}
use native.Mathlib.Nat.{zero-add, sub-zero}
use native.Mathlib.Numerals.{add-one}
use native.Mathlib.Omega.{arith}
use mathlib.Core.Path.{◌≡◌, refl, sym, ap, ◌∙◌}
use mathlib.Core.Bool.{Bool, true, false, cond}
use mathlib.Core.List.{List, [], ◌∷◌, ◌++◌, append_assoc, append-nil}
use lib.ListN.{length, get_or, take, drop, drop_of_length-le}
use lib.Seq.{drop-cons, take-suc}
use lib.Dec.{ltb}
use borrow.Author.Tests.{lt-ltb, le-ltb}
use Rattle.rules.specs.declared.Command.{Command}
use Rattle.rules.specs.Records.{commands_in, room_of}
use Rattle.rules.specs.Printout.{command_line, command_lines, record_line}
use Rattle.rules.proofs.Listing.{commands_counted, command_at_lem, room_is}
use Rattle.lines.specs.declared.OpenLine.{OpenLine}
use Rattle.lines.specs.Lines.{Line}
use Rattle.lines.specs.Writing.{Puts}
use Rattle.lines.proofs.Putting.{then, nothing, counted, from_start}
use Rattle.printout.specs.declared.Page.{Page}
use Rattle.printout.specs.Pages.{line_bytes, lines_in, Gathered}

-- no command at all
abbrev no_command : Command
no_command = record { index = 0; level = 0; row = 0; length = 0 }

-- the lines of one command more
alone_behind : (cs : List Command) (c : Command) → command_lines (cs ++ (c ∷ [])) ≡ command_lines cs ++ command_line c
unfolding command_lines
alone_behind [] c = append-nil (command_line c)
alone_behind (x ∷ cs) c = ap (λ (t : List ℕ). command_line x ++ t) (alone_behind cs c) ∙ sym (append_assoc (command_line x) _ _)

lines_more : (cs : List Command) (i : ℕ) → i < length cs
    → command_lines (take (i + 1) cs) ≡ command_lines (take i cs) ++ command_line (get_or cs i no_command)
lines_more cs i h =
    ap command_lines (ap (λ (n : ℕ). take n cs) (add-one i) ∙ take-suc cs i no_command h) ∙ alone_behind (take i cs) (get_or cs i no_command)

-- no room for a line, or no command left
none_fits : (room : ℕ) (cs : List Command) → room < line_bytes → lines_in room cs ≡ 0
unfolding lines_in
none_fits room [] h = refl
none_fits room (c ∷ cs) h = rw (lt-ltb room line_bytes h)

-- a page takes no more lines than there are commands
few : (room : ℕ) (cs : List Command) → lines_in room cs ≤ length cs
unfolding lines_in
few room [] = omega arith
few room (c ∷ cs) = by (ltb room line_bytes) (few (room - length (command_line c)) cs)
  where
    by : (b : Bool) → lines_in (room - length (command_line c)) cs ≤ length cs
        → cond b 0 (suc (lines_in (room - length (command_line c)) cs)) ≤ suc (length cs)
    by true h = omega arith
    by false h = omega (arith, h)

-- where the loop stands
pub record Gathering (records : List ℕ) (old new : OpenLine) (i : ℕ) : Type 0 where
  pub within : i ≤ length (commands_in records)
  pub lines : Puts (length (command_lines (take i (commands_in records)))) (command_lines (take i (commands_in records))) old new
  pub rest : lines_in (length old.bytes.now) (commands_in records)
      ≡ i + lines_in (length old.bytes.now - new.end) (drop i (commands_in records))
  pub in_page : new.end ≤ length old.bytes.now

module _ (records : List ℕ) (old : OpenLine) (empty : old.end ≡ 0) where
  pub begins : Gathering records old old 0
  unfolding command_lines
  begins = record { within = omega arith; lines = nothing; rest = rw (empty, sub-zero, zero-add); in_page = omega arith }

  more : {new newer : OpenLine} {i : ℕ} → Gathering records old new i → i < length (commands_in records) → new.end + line_bytes ≤ length old.bytes.now
      → Puts line_bytes (command_line (get_or (commands_in records) i no_command)) new newer → Gathering records old newer (i + 1)
  unfolding lines_in
  more {new = new} {newer = newer} {i = i} g h room p =
      let cs = commands_in records in
      let all = length old.bytes.now in
      let fits = le-ltb (all - new.end) line_bytes (omega arith) in
      let left : all - new.end - length (command_line (get_or cs i no_command)) ≡ all - newer.end = omega (arith, p.put.ends) in
      let next : drop (suc i) cs ≡ drop (i + 1) cs = ap (λ (n : ℕ). drop n cs) (sym (add-one i)) in
      record {
        within = omega arith;
        lines = rw (lines_more cs i h) (counted (then g.lines p));
        rest = g.rest ∙ rw (drop-cons cs i no_command h, fits, left, next) (omega arith);
        in_page = omega (arith, p.put.ends, p.put.short);
      }

  -- one line more, by the two words of its record
  pub one_more : {new newer : OpenLine} {i : ℕ} → Gathering records old new i → i < length records / 2 → new.end + line_bytes ≤ length old.bytes.now
      → Puts line_bytes (record_line (get_or records (2 * i) 0) (get_or records (2 * i + 1) 0)) new newer → Gathering records old newer (i + 1)
  one_more {i = i} g h room p =
      let there : i < room_of (length records) = omega (arith, room_is (length records)) in
      more g (omega (arith, commands_counted records)) room (rw (← command_at_lem records i no_command there) at p)

  whole_page : {new : OpenLine} {i : ℕ} → Gathering records old new i
      → Line (command_lines (take i (commands_in records))) old.bytes.now new.end new.bytes.now
  whole_page g = from_start empty (omega (arith, g.lines.put.ends, g.in_page)) g.lines

  pub page_full : {new : OpenLine} {i : ℕ} → Gathering records old new i → length old.bytes.now < new.end + line_bytes
      → Gathered records old.bytes.now (record { lines = i; bytes = new.end }) new.bytes.now
  page_full {i = i} g full = record {
    lines = sym (g.rest ∙ ap (λ (n : ℕ). i + n) (none_fits _ _ (omega arith)) ∙ (omega arith));
    bytes = whole_page g;
  }

  pub all_told : {new : OpenLine} {i : ℕ} → Gathering records old new i → length records / 2 ≤ i
      → Gathered records old.bytes.now (record { lines = i; bytes = new.end }) new.bytes.now
  unfolding lines_in
  all_told {i = i} g last =
      let all : length (commands_in records) ≤ i = omega (arith, commands_counted records, room_is (length records)) in
      record {
        lines = sym (g.rest ∙ rw (drop_of_length-le (commands_in records) all) (omega arith));
        bytes = whole_page g;
      }

-- no page tells more lines than there are whole records
pub few_told : {records old new : List ℕ} {page : Page} → Gathered records old page new → page.lines ≤ length records / 2
few_told {records} {old} g = rw g.lines (omega (arith, few (length old) (commands_in records), commands_counted records, room_is (length records)))

-- and a page that has room for a line tells one, if there is a record
some_fit : (room : ℕ) (cs : List Command) → 0 < length cs → line_bytes ≤ room → 0 < lines_in room cs
unfolding lines_in
some_fit room [] some fits = some
some_fit room (c ∷ cs) some fits = rw (le-ltb room line_bytes fits) (omega arith)

pub some_told : {records old new : List ℕ} {page : Page} → Gathered records old page new → 1 < length records → line_bytes ≤ length old → 0 < page.lines
some_told {records} {old} g some fits =
    rw g.lines (some_fit (length old) (commands_in records) (omega (arith, commands_counted records, room_is (length records))) fits)
