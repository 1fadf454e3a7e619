-- `plain_vertex::codes::format_word` meets its contract: each of the eight words, computed.
-- Assumes nothing.
use Prim.Native.Nat.{ℕ, ◌≤◌, ◌<◌}
use native.Mathlib.Omega.{arith}
use Rattle.rules.specs.Formats.{surface_formats, format_bits}
use Rattle.plain_vertex.specs.Codes.{known_from}
use Rattle.plain_vertex.proofs.FormatWords.{above}
use Rattle.plain_vertex.proofs.codes.format_word.Statement.{statement}
use Rattle.plain_vertex.proofs.codes.format_word.Tie as tie

word_0 : tie.Need-returns-in-0
unfolding surface_formats format_bits known_from
word_0 c = rw c.in-0.is

word_1 : tie.Need-returns-in-1
unfolding surface_formats format_bits known_from
word_1 c = rw c.in-1.is

word_2 : tie.Need-returns-in-2
unfolding surface_formats format_bits known_from
word_2 c = rw c.in-2.is

word_3 : tie.Need-returns-in-3
unfolding surface_formats format_bits known_from
word_3 c = rw c.in-3.is

word_4 : tie.Need-returns-in-4
unfolding surface_formats format_bits known_from
word_4 c = rw c.in-4.is

word_5 : tie.Need-returns-in-5
unfolding surface_formats format_bits known_from
word_5 c = rw c.in-5.is

word_6 : tie.Need-returns-in-6
unfolding surface_formats format_bits known_from
word_6 c = rw c.in-6.is

word_7 : tie.Need-returns-in-7
unfolding surface_formats format_bits known_from
word_7 c = rw c.in-7.is

none : tie.Need-returns-in_default
none c =
    let left = c.in_default.in_default-own.rest in
    let from_1 = above (omega arith) left.0.0.0.0.0.0.0.1 in
    let from_2 = above from_1 left.0.0.0.0.0.0.1 in
    let from_3 = above from_2 left.0.0.0.0.0.1 in
    let from_4 = above from_3 left.0.0.0.0.1 in
    let from-5 = above from_4 left.0.0.0.1 in
    let from-6 = above from-5 left.0.0.1 in
    let from-7 = above from-6 left.0.1 in
    absurd (below c.requires (above from-7 left.1))
  where
    below : {n : ℕ} → n < 8 → 8 ≤ n → ⊥
    below h l = omega arith

pub format_word_spec : {M : Type 1} → statement M
format_word_spec = tie.close (tie.spec word_0 word_1 word_2 word_3 word_4 word_5 word_6 word_7 none)
