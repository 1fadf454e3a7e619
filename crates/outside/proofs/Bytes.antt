-- What is read or written in two parts, one behind the other.
use Rattle.std.proofs.Common.{◌≡◌, ℕ, ◌+◌, ◌-◌, ◌≤◌, List, [], ◌++◌, IfOk, OnOk, Result, Ok, Err, length, take, drop, sym, arith, length-append, append-nil, ap, subst, ◌∙◌, append_assoc, drop_at, None, Some}
use Rattle.std.proofs.lemmas.List.{take-append-le, take-append-drop, take_rest}
use Rattle.std.proofs.Math.Seq.{take-add, take-append_seam}
use Rattle.std.specs.declared.option.Option.{Option}
use Rattle.std.specs.Result.{result_and}
use Rattle.std.specs.Io.{ReadsAtMost}
use Rattle.std.specs.Io.KnownBytes.{Appends, Consumes, Keeps, ReadConsumes}

pub appends_both : (a b c : Option (List ℕ)) (bs cs : List ℕ) → Appends a b bs → Appends b c cs → Appends a c (bs ++ cs)
appends_both None b c bs cs p q = tt
appends_both (Some x) None c bs cs p q = absurd p
appends_both (Some x) (Some y) None bs cs p q = absurd q
appends_both (Some x) (Some y) (Some z) bs cs p q = q ∙ ap (λ l. l ++ cs) p ∙ append_assoc x bs cs

pub consumes_both : (a b c : Option (List ℕ)) (bs cs : List ℕ) → Consumes a b bs → Consumes b c cs → Consumes a c (bs ++ cs)
consumes_both None b c bs cs p q = tt
consumes_both (Some x) None c bs cs p q = absurd p
consumes_both (Some x) (Some y) None bs cs p q = absurd q
consumes_both (Some x) (Some y) (Some z) bs cs p q = p ∙ ap (λ l. bs ++ l) q ∙ sym (append_assoc bs cs z)

-- what was read into the part stands behind the front
pub read_in_place : {E : Type 0} (a b : Option (List ℕ)) (r : Result ℕ E) (front part rest : List ℕ) (at : ℕ) → length front ≡ at → ReadsAtMost r part
    → ReadConsumes a b r part → IfOk r (λ n. Consumes a b (take n (drop at (front ++ (part ++ rest)))))
read_in_place a b (Ok n) front part rest at long fits read =
    subst (Consumes a b) (sym (ap (take n) (drop_at front (part ++ rest) at long) ∙ take-append-le n part rest fits.0)) read.0
read_in_place a b (Err e) front part rest at long fits read = tt

-- the front that was read, and what was read behind it
pub read_behind : (a b c : Option (List ℕ)) (old new : List ℕ) (d n : ℕ) → take d new ≡ take d old → Consumes a b (take d old)
    → Consumes b c (take n (drop d new)) → Consumes a c (take (d + n) new)
read_behind a b c old new d n front before read =
    subst (Consumes a c) (ap (λ l. l ++ take n (drop d new)) (sym front) ∙ sym (take-add d n new)) (consumes_both a b c _ _ before read)

-- a text of which all before the rest is written
pub record Begun (a b : Option (List ℕ)) (text rest : List ℕ) : Type 0 where
  pub front : List ℕ
  pub is : text ≡ front ++ rest
  pub written : Appends a b front

-- with some of the rest written too; the rest behind it is `&rest[n..]`
pub written_on : {a b : Option (List ℕ)} {text rest : List ℕ} (c : Option (List ℕ)) (n : ℕ) → Begun a b text rest → Appends b c (take n rest)
    → Begun a c text (take (length rest - n) (drop n rest))
written_on {a} {b} {text} {rest} c n begun more = record {
  front = begun.front ++ take n rest;
  is = begun.is ∙ ap (λ l. begun.front ++ l) (sym (take-append-drop n rest) ∙ ap (λ l. take n rest ++ l) (sym (take_rest rest n)))
      ∙ sym (append_assoc begun.front (take n rest) _);
  written = appends_both a b c _ _ begun.written more;
}

-- what is written is as many first bytes of the text
pub front_written : {a b : Option (List ℕ)} {text rest : List ℕ} (c : Option (List ℕ)) → Begun a b text rest → Appends b c []
    → (n : ℕ) × (n ≤ length text) × Appends a c (take n text)
front_written {a} {b} {text} {rest} c begun none =
    let whole : take (length begun.front) text ≡ begun.front ++ [] =
    ap (take (length begun.front)) begun.is ∙ take-append_seam begun.front rest ∙ sym (append-nil begun.front) in
    let within : length begun.front ≤ length text = rw (begun.is, length-append begun.front rest) (omega arith) in
    (length begun.front, within, subst (Appends a c) (sym whole) (appends_both a b c _ _ begun.written none))

-- what failed has written nothing more
pub nothing_more : (b c : Option (List ℕ)) → Keeps b c → Appends b c []
nothing_more None c keeps = tt
nothing_more (Some x) None keeps = absurd keeps
nothing_more (Some x) (Some y) keeps = keeps ∙ sym (append-nil x)

-- four texts that were written one behind the other, the third of which is not named
pub line_written : {T E : Type 0} (r : Result T E) (a b c d e : Option (List ℕ)) (w x y z : List ℕ) → Appends a b w → Appends b c x → Appends c d y → OnOk r (Appends d e z)
    → OnOk r ((words : List ℕ) × Appends a e (w ++ x ++ words ++ z))
line_written (Ok t) a b c d e w x y z p q s last = (y, appends_both a d e _ _ (appends_both a c d _ _ (appends_both a b c _ _ p q) s) last)
line_written (Err f) a b c d e w x y z p q s last = tt

-- a front that was written, and a line that was told behind it; the answer is that of both
pub line_behind : {T U E : Type 0} (r : Result T E) (s : Result U E) (a b c : Option (List ℕ)) (front : List ℕ) (line : List ℕ → List ℕ) → OnOk r (Appends a b front)
    → OnOk s ((words : List ℕ) × Appends b c (line words)) → OnOk (result_and r s) ((words : List ℕ) × Appends a c (front ++ line words))
line_behind (Ok t) (Ok u) a b c front line p q = (q.0, appends_both a b c front (line q.0) p q.1)
line_behind (Ok t) (Err e) a b c front line p q = tt
line_behind (Err e) s a b c front line p q = tt
