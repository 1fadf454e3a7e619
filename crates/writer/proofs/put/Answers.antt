-- No dword, one dword more, and all of them behind the header.
use Rattle.std.proofs.Common.{rules, ◌≡◌, ◌+◌, length, set, ap, ◌∙◌, arith}
use native.Mathlib.Numerals.{add-one}
use lib.ListN.{length-set}
use lib.Seq.{paste, paste-zero, paste-suc}
use Rattle.writer.proofs.WriterLaws.{copied}
use Rattle.writer.proofs.put.Goals as goal

pub loop-i-init : goal.loop-i-init
loop-i-init c = (paste-zero _ (c.args.first + 1) c.args.dwords.now, omega arith)

pub loop-i-preserved : goal.loop-i-preserved
loop-i-preserved c =
    (rw (c.loop-i.invariant.0, add-one c.loop-i.i) (paste-suc _ (c.args.first + 1) c.args.dwords.now c.loop-i.i 0 (rw length-set (search rules)) (search rules)), search rules)

pub returns : goal.returns
returns c =
    let a = c.args in
    let all : c.loop-i.i ≡ length a.dwords.now = search rules in
    c.loop-i.invariant.0
    ∙ ap (paste (set a.into.now a.first a.header) (a.first + 1) a.dwords.now) all
    ∙ copied a.into.now a.dwords.now a.first a.header c.requires
