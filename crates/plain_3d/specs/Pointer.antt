-- A command of a header and one dword that has to keep a mask: rows 14, 15 and 17.
use Rattle.std.specs.Prelude.{ℕ, ◌*◌, ◌+◌, cond, not, List, get_or}
use Rattle.rules.specs.Words.{allowed}
use Rattle.plain_shared.specs.Plain.{whole_header, or_then}

-- 8 to 10 of it
unfoldable pub pointer_of : List ℕ → ℕ → ℕ → ℕ
pointer_of rest header mask = or_then (whole_header rest header) (cond (not (allowed (get_or rest 1 0) mask)) (256 * 10 + 1) 0)
