-- `table_look::content_fault` meets its contract: one law for each way out, in the order of the checks.
use Rattle.std.proofs.Common.{Err}
use mathlib.Core.Path.{sym, ap, ◌∙◌}
use Rattle.rules.specs.declared.Fault.{Fault}
use Rattle.rules.specs.Refusals.{Verdict}
use Rattle.search.proofs.Places.{found_at, found_none}
use Rattle.table_look.proofs.Contents.{bits_fail, nested_fails, values_fail, ranges_fail, all_clear}
use Rattle.table_look.proofs.content_fault.Goals as goal

abbrev said : Fault → Verdict
said f = Err f

pub returns-then-bit-len : goal.returns-then-bit-len
returns-then-bit-len c = ap said c.in_batch.ensures ∙ bits_fail _ _ _ _ _ (found_at _ _ c.first_wrong-bit.ensures c.if-bit-len.true)

pub returns-then-is_nested : goal.returns-then-is_nested
returns-then-is_nested c =
    let no_bits = found_none _ _ c.first_wrong-bit.ensures c.if-bit-len.false in
    ap said c.in_batch-then-is_nested.ensures ∙ nested_fails _ _ _ _ _ no_bits (sym c.is_nested.ensures ∙ c.if-is_nested.true)

pub returns-then-value-len : goal.returns-then-value-len
returns-then-value-len c =
    let no_bits = found_none _ _ c.first_wrong-bit.ensures c.if-bit-len.false in
    let unnested = sym c.is_nested.ensures ∙ c.if-is_nested.false in
    ap said c.in_batch-then-value-len.ensures ∙ values_fail _ _ _ _ _ no_bits unnested (found_at _ _ c.first_wrong-value.ensures c.if-value-len.true)

pub returns-then-range-len : goal.returns-then-range-len
returns-then-range-len c =
    let no_bits = found_none _ _ c.first_wrong-bit.ensures c.if-bit-len.false in
    let unnested = sym c.is_nested.ensures ∙ c.if-is_nested.false in
    let no_values = found_none _ _ c.first_wrong-value.ensures c.if-value-len.false in
    ap said c.in_batch-then-range-len.ensures
    ∙ ranges_fail _ _ _ _ _ no_bits unnested no_values (found_at _ _ c.first_wrong-range.ensures c.if-range-len.true)

pub returns : goal.returns
returns c =
    let no_bits = found_none _ _ c.first_wrong-bit.ensures c.if-bit-len.false in
    let unnested = sym c.is_nested.ensures ∙ c.if-is_nested.false in
    let no_values = found_none _ _ c.first_wrong-value.ensures c.if-value-len.false in
    all_clear _ _ _ _ _ no_bits unnested no_values (found_none _ _ c.first_wrong-range.ensures c.if-range-len.false)
