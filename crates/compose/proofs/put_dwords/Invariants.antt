-- Each dword takes at most nine bytes of the page.
use Rattle.std.proofs.Common.{◌≡◌, ◌+◌, ◌*◌, ◌≤◌, length}
use Rattle.compose.proofs.put_dwords.Given as goal

abbrev pub invariant-loop-dword : goal.invariant-loop-dword
invariant-loop-dword l = record {
  few : l.page.end ≤ l.initial.page.end + 9 * l.dword-index;
  as_long : length l.page.bytes.now ≡ length l.initial.page.bytes.now;
  same_reference : l.page.bytes.ghost_name ≡ l.initial.page.bytes.ghost_name;
}
