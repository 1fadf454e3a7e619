-- A run is its first commands and then the run from where they lead.
-- Assumes nothing.
use Prim.Native.Nat.{ℕ, ◌+◌}
use native.Mathlib.Nat.{zero-add, suc-add}
use mathlib.Core.Path.{◌≡◌, refl, ap}
use mathlib.Core.List.{List, [], ◌∷◌, ◌++◌}
use lib.ListN.{length}
use Rattle.rules.specs.declared.Cursor.{Cursor}
use Rattle.rules.specs.declared.Command.{Command}
use Rattle.rules.specs.Windows.{Capture}
use Rattle.rules.specs.Walk.{Run, then, trace, trace_from, cut, Leads, stays, onward, commands_of, end_of}

-- a run with commands in front of it
unfoldable pub follow : List Command → Run → Run
follow [] run = run
follow (k ∷ ks) run = then k (follow ks run)

pub leads_on : (c : Capture) {s t u : Cursor} {ks ls : List Command} → Leads c s ks t → Leads c t ls u → Leads c s (ks ++ ls) u
leads_on c stays m = m
leads_on c (onward e l) m = onward e (leads_on c l m)

pub trace_follows : (c : Capture) {s t : Cursor} {ks : List Command} (m : ℕ) → Leads c s ks t
    → trace_from (length ks + m) c s ≡ follow ks (trace_from m c t)
unfolding follow trace
trace_follows c {s = s} m stays = ap (λ (n : ℕ). trace_from n c s) (zero-add m)
trace_follows c {s = s} m (onward {t = u} {command = k} {commands = ks} e l) = rw (suc-add (length ks) m, e) (ap (then k) (trace_follows c m l))

pub cut_follows : (ks : List Command) (m : ℕ) (run : Run) → cut (length ks + m) (follow ks run) ≡ follow ks (cut m run)
unfolding follow cut
cut_follows [] m run = ap (λ (n : ℕ). cut n run) (zero-add m)
cut_follows (k ∷ ks) m run = rw (suc-add (length ks) m) (ap (then k) (cut_follows ks m run))

pub commands_follow : (ks : List Command) (run : Run) → commands_of (follow ks run) ≡ ks ++ commands_of run
unfolding follow commands_of
commands_follow [] run = refl
commands_follow (k ∷ ks) run = ap (λ l. k ∷ l) (commands_follow ks run)

pub end_follows : (ks : List Command) (run : Run) → end_of (follow ks run) ≡ end_of run
unfolding follow end_of
end_follows [] run = refl
end_follows (k ∷ ks) run = end_follows ks run
