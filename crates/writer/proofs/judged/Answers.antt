-- A law of `Judging` for each way out.
use Rattle.std.proofs.Common.{rules}
use mathlib.Core.Path.{sym, ◌∙◌}
use Rattle.rules.proofs.Writing.{counts_small}
use Rattle.writer.proofs.Judging.{unknown, miscounted, free_stray, dword_stray, no_room, passes}
use Rattle.writer.proofs.WriterLaws.{no_group}
use Rattle.writer.proofs.judged.Goals as goal

pub returns-then-row-ge-ROWS : goal.returns-then-row-ge-ROWS
returns-then-row-ge-ROWS c = rw c.in_batch.ensures (unknown _ (search rules))

pub returns-then-not-count_right : goal.returns-then-not-count_right
returns-then-not-count_right c =
    rw c.in_batch-then-not-count_right.ensures (miscounted _ (search rules) (sym c.count_right.ensures ∙ c.if-not-count_right.true))

pub returns-then-not-allowed : goal.returns-then-not-allowed
returns-then-not-allowed c =
    rw c.in_batch-then-not-allowed.ensures
    (free_stray _ (search rules) (sym c.count_right.ensures ∙ c.if-not-count_right.false)
    (rw c.free_bits.ensures at (sym c.allowed.ensures ∙ c.if-not-allowed.true)))

pub dwords_kept-requires : goal.dwords_kept-requires
dwords_kept-requires c =
    let a = c.args in
    let counted = sym c.count_right.ensures ∙ c.if-not-count_right.false in
    (search rules, counts_small a.row a.free _ (search rules) counted, no_group a.row a.free _ (search rules) counted)

pub returns-then-not-dwords_kept : goal.returns-then-not-dwords_kept
returns-then-not-dwords_kept c =
    rw c.in_batch-then-not-dwords_kept.ensures
    (dword_stray _ (search rules) (sym c.count_right.ensures ∙ c.if-not-count_right.false)
    (rw c.free_bits.ensures at (sym c.allowed.ensures ∙ c.if-not-allowed.false)) c.header_for.ensures c.dwords_kept.ensures c.if-not-dwords_kept.true)

pub returns-then-room_short : goal.returns-then-room_short
returns-then-room_short c =
    rw c.in_batch-then-room_short.ensures
    (no_room _ (search rules) (sym c.count_right.ensures ∙ c.if-not-count_right.false)
    (rw c.free_bits.ensures at (sym c.allowed.ensures ∙ c.if-not-allowed.false)) c.header_for.ensures c.dwords_kept.ensures c.if-not-dwords_kept.false
    (sym c.room_short.ensures ∙ c.if-room_short.true))

pub returns : goal.returns
returns c =
    passes _ (search rules) (sym c.count_right.ensures ∙ c.if-not-count_right.false)
    (rw c.free_bits.ensures at (sym c.allowed.ensures ∙ c.if-not-allowed.false)) c.header_for.ensures c.dwords_kept.ensures c.if-not-dwords_kept.false
    (sym c.room_short.ensures ∙ c.if-room_short.false)
