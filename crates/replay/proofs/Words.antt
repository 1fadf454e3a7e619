-- The words of the windows, for every machine and every map: which word an address names, and what a store changes.
-- Assumes nothing.
use Prim.Native.Nat.{ℕ, zero, suc, ◌+◌, ◌-◌, ◌*◌, ◌/◌, ◌%◌, ◌≤◌, ◌<◌, suc-le-suc}
use native.Mathlib.Nat.{le_of_suc-le-suc, not-suc-le-zero}
use native.Mathlib.Omega.{arith}
use mathlib.Core.Path.{◌≡◌, refl, sym, ap, ◌∙◌, subst}
use mathlib.Core.Bool.{Bool, true, false, cond, ◌&&◌}
use mathlib.Core.List.{List, [], ◌∷◌}
use mathlib.Core.Option.{Option, some, none}
use mathlib.Core.Logic.{◌⊎◌, inl, inr, ⊎_elim}
use lib.ListN.{length, get_or, get_elem?, set, length-set}
use lib.Dec.{eqb, leb, ltb}
use borrow.Author.Tests.{leb-true, ltb-true, eqb-true}
use Rattle.rules.proofs.Searching.{and_left, and_right}
use Rattle.replay.specs.Streamer.{Map, Machine, Effect, word_at, Place, batch_word, state_word, scratch_word, outside, placed, place_of}
use Rattle.replay.specs.Streamer.{load_from, store_to, noting, with_machine, store_words}
use Rattle.replay.specs.Uses.{addresses_from, Has, address_of}
use Rattle.replay.proofs.Stores.{found, some_word, some_not_none, same_some}

-- a word is stored in a list, and no other
word_set : (l : List ℕ) (i w : ℕ) → i < length l → get_elem? (set l i w) i ≡ some w
word_set [] i w h = absurd (not-suc-le-zero h)
word_set (x ∷ l) zero w h = refl
word_set (x ∷ l) (suc i) w h = word_set l i w (le_of_suc-le-suc h)

word_kept : (l : List ℕ) (i j w : ℕ) → (j ≡ i → ⊥) → get_elem? (set l i w) j ≡ get_elem? l j
word_kept [] i j w h = refl
word_kept (x ∷ l) zero zero w h = absurd (h refl)
word_kept (x ∷ l) zero (suc j) w h = refl
word_kept (x ∷ l) (suc i) zero w h = refl
word_kept (x ∷ l) (suc i) (suc j) w h = word_kept l i j w (λ e. h (ap suc e))

-- the word that an address names in one window
module _ (at address : ℕ) (words : List ℕ) where
  word_is : {i : ℕ} → word_at at words address ≡ some i → (i < length words) × (address ≡ at + 4 * i)
  unfolding word_at
  word_is {i} e = by (leb at address && (eqb ((address - at) % 4) 0 && ltb ((address - at) / 4) (length words))) refl e
    where
      by : (t : Bool) → (leb at address && (eqb ((address - at) % 4) 0 && ltb ((address - at) / 4) (length words))) ≡ t
          → cond t (some ((address - at) / 4)) none ≡ some i → (i < length words) × (address ≡ at + 4 * i)
      by true p q =
          let r = and_right (leb at address) _ p in
          let a : at ≤ address = leb-true _ _ (and_left (leb at address) _ p) in
          let b : (address - at) % 4 ≡ 0 = eqb-true _ 0 (and_left (eqb ((address - at) % 4) 0) _ r) in
          let d : (address - at) / 4 < length words = ltb-true _ _ (and_right (eqb ((address - at) % 4) 0) _ r) in
          let s : (address - at) / 4 ≡ i = same_some q in
          (omega arith, omega arith)
      by false p q = absurd (some_not_none (sym q))

  word_found : (i : ℕ) → i < length words → address ≡ at + 4 * i → word_at at words address ≡ none → ⊥
  word_found i h e n = some_not_none (sym (found at address words (omega arith) (omega arith) (omega arith)) ∙ n)

-- windows that name no word leave it outside, and only they do
placed_outside : (x y z : Option ℕ) → placed x y z ≡ outside → (x ≡ none) × (y ≡ none) × (z ≡ none)
placed_outside (some i) y z e = absurd (let n : ◌≡◌ {A = ℕ} 0 1 = cc in omega arith)
placed_outside none (some i) z e = absurd (let n : ◌≡◌ {A = ℕ} 0 1 = cc in omega arith)
placed_outside none none (some i) e = absurd (let n : ◌≡◌ {A = ℕ} 0 1 = cc in omega arith)
placed_outside none none none e = (refl, refl, refl)

module _ (map : Map) (m : Machine) (a : ℕ) where
  -- the word that it names in each window
  abbrev of_batch : Option ℕ
  of_batch = word_at map.batch_at m.batch a

  abbrev of_state : Option ℕ
  of_state = word_at map.state_at m.state a

  abbrev of_scratch : Option ℕ
  of_scratch = word_at map.scratch_at m.scratch a

  -- AN ADDRESS LIES OUTSIDE ALL WINDOWS, or at a word of the machine that has this address
  pub outside_or_has : (place_of map m a ≡ outside) ⊎ (Has m (place_of map m a) × (a ≡ address_of map (place_of map m a)))
  unfolding place_of
  outside_or_has = by of_batch of_state of_scratch refl refl refl
    where
      by : (x y z : Option ℕ) → of_batch ≡ x → of_state ≡ y → of_scratch ≡ z
          → (placed x y z ≡ outside) ⊎ (Has m (placed x y z) × (a ≡ address_of map (placed x y z)))
      by (some i) y z p q r = inr (word_is _ a m.batch p)
      by none (some i) z p q r = inr (word_is _ a m.state q)
      by none none (some i) p q r = inr (word_is _ a m.scratch r)
      by none none none p q r = inl refl

  -- and where it lies outside, no word of the machine has it
  pub outside_has_none : place_of map m a ≡ outside → (p : Place) → Has m p → a ≡ address_of map p → ⊥
  unfolding place_of
  outside_has_none o = by (placed_outside of_batch of_state of_scratch o)
    where
      by : (of_batch ≡ none) × (of_state ≡ none) × (of_scratch ≡ none) → (p : Place) → Has m p → a ≡ address_of map p → ⊥
      by n (batch_word i) h l = word_found _ a m.batch i h l n.0
      by n (state_word i) h l = word_found _ a m.state i h l n.1
      by n (scratch_word i) h l = word_found _ a m.scratch i h l n.2
      by n outside h l = h

  -- so an address that no word has lies outside, and one that is no multiple of 4 does where the windows' are
  pub none_has_outside : ((p : Place) → Has m p → a ≡ address_of map p → ⊥) → place_of map m a ≡ outside
  none_has_outside n = ⊎_elim (λ o. o) (λ h. absurd (n (place_of map m a) h.0 h.1)) outside_or_has

  pub broken_outside : map.batch_at % 4 ≡ 0 → map.state_at % 4 ≡ 0 → map.scratch_at % 4 ≡ 0 → (a % 4 ≡ 0 → ⊥)
      → place_of map m a ≡ outside
  broken_outside b s t n = none_has_outside by
    where
      by : (p : Place) → Has m p → a ≡ address_of map p → ⊥
      by (batch_word i) h e = n (omega arith)
      by (state_word i) h e = n (omega arith)
      by (scratch_word i) h e = n (omega arith)
      by outside h e = h

-- a word that the machine has can be loaded
pub has_load : (m : Machine) (p : Place) → Has m p → (v : ℕ) × (load_from m p ≡ some v)
has_load m (batch_word i) h = (_, some_word m.batch i h)
has_load m (state_word i) h = (_, some_word m.state i h)
has_load m (scratch_word i) h = (_, some_word m.scratch i h)
has_load m outside h = absurd h

-- A STORE OF A WORD, in any of the three windows: it changes that word and no other, and neither position, level, kept position nor registers
pub record WordChanged (m : Machine) (w : ℕ) (p : Place) (n : Machine) : Type 0 where
  pub here : load_from n p ≡ some w
  pub elsewhere : (q : Place) → (q ≡ p → ⊥) → load_from n q ≡ load_from m q
  pub at : n.at ≡ m.at
  pub second : n.second ≡ m.second
  pub kept : n.kept ≡ m.kept
  pub registers : n.registers ≡ m.registers

-- the machine after a store
abbrev after : Machine → Option Machine → Machine
after m none = m
after m (some n) = n

elsewhere : (m : Machine) (w : ℕ) (p q : Place) → (q ≡ p → ⊥) → load_from (after m (store_to m w p)) q ≡ load_from m q
elsewhere m w outside q k = refl
elsewhere m w (batch_word i) (batch_word j) k = word_kept m.batch i j w (λ e. k (ap batch_word e))
elsewhere m w (batch_word i) (state_word j) k = refl
elsewhere m w (batch_word i) (scratch_word j) k = refl
elsewhere m w (batch_word i) outside k = refl
elsewhere m w (state_word i) (batch_word j) k = refl
elsewhere m w (state_word i) (state_word j) k = word_kept m.state i j w (λ e. k (ap state_word e))
elsewhere m w (state_word i) (scratch_word j) k = refl
elsewhere m w (state_word i) outside k = refl
elsewhere m w (scratch_word i) (batch_word j) k = refl
elsewhere m w (scratch_word i) (state_word j) k = refl
elsewhere m w (scratch_word i) (scratch_word j) k = word_kept m.scratch i j w (λ e. k (ap scratch_word e))
elsewhere m w (scratch_word i) outside k = refl

pub word_changed : (m : Machine) (w : ℕ) (p : Place) → Has m p → (n : Machine) × (store_to m w p ≡ some n) × WordChanged m w p n
word_changed m w (batch_word i) h =
    let c = elsewhere m w (batch_word i) in
    (_, refl, record { here = word_set m.batch i w h; elsewhere = c; at = refl; second = refl; kept = refl; registers = refl })
word_changed m w (state_word i) h =
    let c = elsewhere m w (state_word i) in
    (_, refl, record { here = word_set m.state i w h; elsewhere = c; at = refl; second = refl; kept = refl; registers = refl })
word_changed m w (scratch_word i) h =
    let c = elsewhere m w (scratch_word i) in
    (_, refl, record { here = word_set m.scratch i w h; elsewhere = c; at = refl; second = refl; kept = refl; registers = refl })
word_changed m w outside h = absurd h

-- a store leaves each window as long as it was, so that an address keeps its place
same_place : (map : Map) (m : Machine) (w : ℕ) (p : Place) {n : Machine} → store_to m w p ≡ some n → (a : ℕ)
    → place_of map n a ≡ place_of map m a
unfolding place_of word_at
same_place map m w p {n} e a = subst (λ (x : Machine). place_of map x a ≡ place_of map m a) (ap (after m) e) (by p)
  where
    by : (p : Place) → place_of map (after m (store_to m w p)) a ≡ place_of map m a
    by (batch_word i) = rw (length-set m.batch i w)
    by (state_word i) = rw (length-set m.state i w)
    by (scratch_word i) = rw (length-set m.scratch i w)
    by outside = refl

-- WORDS STORED ONE AFTER THE OTHER from an address on: each at its own address, in order, and no other word changes
pub record WordsChanged (map : Map) (m : Machine) (a : ℕ) (ws : List ℕ) (e : Effect) : Type 0 where
  pub stored : e.stored ≡ addresses_from a (length ws)
  pub each : (i : ℕ) → i < length ws → load_from e.machine (place_of map m (a + 4 * i)) ≡ some (get_or ws i 0)
  pub elsewhere : (q : Place) → ((i : ℕ) → i < length ws → q ≡ place_of map m (a + 4 * i) → ⊥)
      → load_from e.machine q ≡ load_from m q
  pub second : e.machine.second ≡ m.second
  pub kept : e.machine.kept ≡ m.kept
  pub registers : e.machine.registers ≡ m.registers

module _ (map : Map) (m : Machine) where
  -- an address that does not lie outside has a word, and no other address has it
  has_word : (a : ℕ) → (place_of map m a ≡ outside → ⊥) → Has m (place_of map m a)
  has_word a k = ⊎_elim (λ o. absurd (k o)) (λ h. h.0) (outside_or_has map m a)

  one_address : (a b : ℕ) → (place_of map m a ≡ outside → ⊥) → place_of map m a ≡ place_of map m b → a ≡ b
  one_address a b k e =
      ⊎_elim (λ o. absurd (k o))
      (λ x. ⊎_elim (λ o. absurd (k (e ∙ o))) (λ y. x.1 ∙ ap (address_of map) e ∙ sym y.1) (outside_or_has map m b)) (outside_or_has map m a)

  -- the places of the words from an address on: the first, and those behind it, after the first was stored
  first_place : (a : ℕ) → place_of map m (a + 4 * 0) ≡ place_of map m a
  first_place a = ap (place_of map m) (omega arith)

  later_place : (w a i : ℕ) {n : Machine} → store_to m w (place_of map m a) ≡ some n
      → place_of map m (a + 4 * suc i) ≡ place_of map n (a + 4 + 4 * i)
  later_place w a i e = ap (place_of map m) (omega arith) ∙ sym (same_place map m w (place_of map m a) e (a + 4 + 4 * i))

  -- a word stored, and the others behind it
  one_more : (w : ℕ) (ws : List ℕ) (a : ℕ) {n : Machine} {e : Effect}
      → ((i : ℕ) → i < suc (length ws) → place_of map m (a + 4 * i) ≡ outside → ⊥)
      → store_to m w (place_of map m a) ≡ some n → WordChanged m w (place_of map m a) n → WordsChanged map n (a + 4) ws e
      → WordsChanged map m a (w ∷ ws) (record { machine = e.machine; stored = a ∷ e.stored })
  unfolding addresses_from
  one_more w ws a {n} {e} k q s r = record {
    stored = ap (λ l. a ∷ l) r.stored;
    each = each;
    elsewhere = λ p x.
        r.elsewhere p (λ i h z. x (suc i) (suc-le-suc h) (z ∙ sym (later_place w a i q))) ∙ s.elsewhere p (λ z. x 0 (omega arith) (z ∙ sym (first_place a)));
    second = r.second ∙ s.second;
    kept = r.kept ∙ s.kept;
    registers = r.registers ∙ s.registers;
  }
    where
      apart : (i : ℕ) → i < length ws → place_of map m a ≡ place_of map n (a + 4 + 4 * i) → ⊥
      apart i h z =
          let x : a ≡ a + 4 * suc i = one_address a _ (λ o. k 0 (omega arith) (first_place a ∙ o)) (z ∙ sym (later_place w a i q)) in
          omega arith

      each : (i : ℕ) → i < length (w ∷ ws) → load_from e.machine (place_of map m (a + 4 * i)) ≡ some (get_or (w ∷ ws) i 0)
      each zero h = rw (first_place a) (r.elsewhere (place_of map m a) apart ∙ s.here)
      each (suc i) h = rw (later_place w a i q) (r.each i (le_of_suc-le-suc h))

abbrev Changed : Map → List ℕ → Machine → ℕ → Type 0
Changed map ws m a = (e : Effect) × (store_words map m a ws ≡ some e) × (e.machine.at ≡ m.at) × WordsChanged map m a ws e

first_and_rest : (map : Map) (w : ℕ) (ws : List ℕ) (m n : Machine) (a : ℕ)
    → ((i : ℕ) → i < suc (length ws) → place_of map m (a + 4 * i) ≡ outside → ⊥)
    → store_to m w (place_of map m a) ≡ some n → WordChanged m w (place_of map m a) n → Changed map ws n (a + 4) → Changed map (w ∷ ws) m a
unfolding store_words
first_and_rest map w ws m n a k q s r = (
  record { machine = r.0.machine; stored = a ∷ r.0.stored },
  rw (q, r.1),
  r.2 ∙ s.at,
  one_more map m w ws a k q s r.3,
)

pub words_changed : (map : Map) (ws : List ℕ) (m : Machine) (a : ℕ)
    → ((i : ℕ) → i < length ws → place_of map m (a + 4 * i) ≡ outside → ⊥) → Changed map ws m a
unfolding store_words addresses_from
words_changed map [] m a k = (
  record { machine = m; stored = [] },
  refl,
  refl,
  record { stored = refl; each = λ i h. absurd (not-suc-le-zero h); elsewhere = λ q n. refl; second = refl; kept = refl; registers = refl },
)
words_changed map (w ∷ ws) m a k =
    let s = word_changed m w (place_of map m a) (has_word map m a (λ o. k 0 (omega arith) (first_place map m a ∙ o))) in
    let rest = words_changed map ws s.0 (a + 4) (λ i h o. k (suc i) (suc-le-suc h) (later_place map m w a i s.1 ∙ o)) in
    first_and_rest map w ws m s.0 a k s.1 s.2 rest

-- A WORD OF THEM THAT LIES OUTSIDE stops them all
pub outside_stops : (map : Map) (ws : List ℕ) (m : Machine) (a i : ℕ) → i < length ws → place_of map m (a + 4 * i) ≡ outside
    → store_words map m a ws ≡ none
unfolding store_words
outside_stops map [] m a i h o = absurd (not-suc-le-zero h)
outside_stops map (w ∷ ws) m a zero h o = rw (sym (first_place map m a) ∙ o)
outside_stops map (w ∷ ws) m a (suc i) h o =
    by (λ n. outside_stops map ws n (a + 4) i (le_of_suc-le-suc h)) (store_to m w (place_of map m a)) refl
  where
    by : ((n : Machine) → place_of map n (a + 4 + 4 * i) ≡ outside → store_words map n (a + 4) ws ≡ none)
        → (x : Option Machine) → store_to m w (place_of map m a) ≡ x
        → with_machine x (λ n. noting a (store_words map n (a + 4) ws)) ≡ none
    by rest none e = refl
    by rest (some n) e = rw (rest n (sym (later_place map m w a i e) ∙ o))

-- and nothing else does
pub stopped_outside : (map : Map) (ws : List ℕ) (m : Machine) (a : ℕ) → store_words map m a ws ≡ none
    → (i : ℕ) × (i < length ws) × (place_of map m (a + 4 * i) ≡ outside)
unfolding store_words
stopped_outside map [] m a e = absurd (some_not_none e)
stopped_outside map (w ∷ ws) m a e =
    ⊎_elim (λ o. (0, omega arith, first_place map m a ∙ o))
    (λ h.
    let s = word_changed m w (place_of map m a) h.0 in
    let r = stopped_outside map ws s.0 (a + 4) (rest (store_words map s.0 (a + 4) ws) (sym (rw s.1) ∙ e)) in
    (suc r.0, suc-le-suc r.1, later_place map m w a r.0 s.1 ∙ r.2)) (outside_or_has map m a)
  where
    rest : (x : Option Effect) → noting a x ≡ none → x ≡ none
    rest none q = refl
    rest (some x) q = absurd (some_not_none q)
