-- `file_line` meets its contract: the head, the reason, the words and the place, each behind the last.
use Rattle.std.proofs.Common.{rules, arith, ◌≤◌, length}
use Rattle.members.specs.Strings.{quoted}
use Rattle.json_lines.specs.Objects.{file_line}
use Rattle.lines.proofs.Putting.{then, whole}
use Rattle.members.proofs.Bounds.{text_quoted}
use Rattle.json_lines.proofs.file_line.Goals as goal

pub put_string-requires : goal.put_string-requires
put_string-requires c = let words = text_quoted c.args.words.now in search rules

pub put_place-requires : goal.put_place-requires
put_place-requires c = let words = text_quoted c.args.words.now in search rules

pub put_text-requires : goal.put_text-requires
put_text-requires c = let words = text_quoted c.args.words.now in search rules

pub returns : goal.returns
unfolding file_line
returns c =
    let named : length (quoted c.args.name.now) ≤ 20480 = c.requires.0 in
    -- the words take six bytes for each at most
    let spoken : length (quoted c.args.words.now) ≤ 3072 = omega (arith, text_quoted c.args.words.now, c.requires.1) in
    let text = then (then c.put_head.ensures c.put_member.ensures) c.put_string.ensures in
    whole c.new-out.ensures c.len.ensures (search rules) (then (then text c.put_place.ensures) c.put_text.ensures)
