-- Words, their bits, and searches: the few words that every later page is written in.
use Rattle.std.specs.Prelude.{ℕ, zero, suc, ◌+◌, ◌-◌, ◌*◌, ◌/◌, ◌%◌, ◌^◌, Bool, false, cond, ◌||◌, List, [], ◌∷◌, eqb, Option, Some, None}
use Rattle.std.specs.Int.Bits.{bit_and}

-- "bit 8 set", "header bit 10": bit n of the word w, bit 0 being the lowest
abbrev pub bit : ℕ → ℕ → Bool
bit w n = eqb (w / 2 ^ n % 2) 1

-- "index in bits 11:0", "format (24:16)": the field of w in the bits high:low
abbrev pub field : ℕ → ℕ → ℕ → ℕ
field w high low = w / 2 ^ low % 2 ^ (high + 1 - low)

-- "low bits masked off", "low twelve bits zero": w with its lowest n bits clear
abbrev pub cleared : ℕ → ℕ → ℕ
cleared w n = w / 2 ^ n * 2 ^ n

-- "Allowed bits": no bit of w is set outside the mask
unfoldable pub allowed : ℕ → ℕ → Bool
allowed w mask = eqb (bit_and w mask) w

-- "a window address is not ..", "a window ends above ..": some element passes the test
unfoldable pub some : {A : Type 0} → (A → Bool) → List A → Bool
some p [] = false
some p (x ∷ xs) = p x || some p xs

-- "two windows share a byte": some two elements pass the test
unfoldable pub some_two : {A : Type 0} → (A → A → Bool) → List A → Bool
some_two p [] = false
some_two p (x ∷ xs) = some (p x) xs || some_two p xs

-- "first such dword": the first of the n numbers from k on that the test finds
unfoldable pub first_from : (ℕ → Bool) → ℕ → ℕ → Option ℕ
first_from bad k zero = None
first_from bad k (suc n) = let later : Option ℕ = first_from bad (k + 1) n in cond (bad k) (Some k) later

-- "inside one number, the lower dword goes first": the first of the dwords 0 to n - 1 that the test finds
abbrev pub first_of : (ℕ → Bool) → ℕ → Option ℕ
first_of bad n = first_from bad 0 n

-- "repeating groups give one group": which dword of its group the dword k is, where one dword leads and groups of `size` follow: 0 for the
-- leading one, then 1 to size
unfoldable pub in_group : ℕ → ℕ → ℕ
in_group size k = cond (eqb k 0) 0 (1 + (k - 1) % size)
