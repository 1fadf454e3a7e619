-- The parts of a trailer that was read, and the refusals that ask for them.
use Rattle.std.specs.Prelude.{ℕ, ◌+◌, ◌*◌, Bool, not, ◌&&◌, ◌||◌, eqb, ltb}
use Rattle.rules.specs.File as file
use Rattle.opening.specs.declared.Trailer.{Trailer}

-- the trailer of the rules, of the same parts
abbrev pub parts : Trailer → file.Trailer
parts t = record {
  batch_at = t.batch_at;
  state_at = t.state_at;
  scratch_at = t.scratch_at;
  scratch_bytes = t.scratch_bytes;
  batch_count = t.batch_count;
  state_count = t.state_count;
  distance = t.distance;
}

-- 20, of a trailer and the length of its file
abbrev pub distance_off : file.Trailer → ℕ → Bool
distance_off t bytes = not (eqb t.distance bytes && eqb t.distance (file.trailer_bytes + 4 * (t.batch_count + t.state_count)))

-- 21, of a trailer and the words of the two buffers
abbrev pub room_short : file.Trailer → ℕ → ℕ → Bool
room_short t batch_room state_room = ltb batch_room t.batch_count || ltb state_room t.state_count
