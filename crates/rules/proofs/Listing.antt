-- "the new record has two words": the laws by which proofs know how many words records take, how many have room, and what writing one more makes
-- of the record buffer. Whoever cites them need not know how wide a record is.
-- Assumes nothing.
use Prim.Native.Nat.{ℕ, zero, suc, ◌+◌, ◌*◌, ◌/◌, ◌≤◌, ◌<◌}
use native.Mathlib.Omega.{arith}
use mathlib.Core.Path.{◌≡◌, refl, sym, ap, ◌∙◌}
use mathlib.Core.List.{List, [], ◌∷◌, ◌++◌, append_assoc}
use lib.ListN.{length, get_or, take, drop, set, length-append, length-drop}
use lib.Seq.{length-take-le, split_at, drop-drop, set_at, take_at, drop_at, drop-cons}
use Rattle.rules.specs.declared.Command.{Command}
use Rattle.rules.specs.Records.{first_word, second_word, command_of, words_of, commands_in, words_for, room_of}

-- the words of records are as many as so many records take
pub words_counted : (ks : List Command) → length (words_of ks) ≡ words_for (length ks)
unfolding words_of words_for
words_counted [] = refl
words_counted (k ∷ ks) = let h = words_counted ks in omega arith

pub words_join : (ks ls : List Command) → words_of (ks ++ ls) ≡ words_of ks ++ words_of ls
unfolding words_of
words_join [] ls = refl
words_join (k ∷ ks) ls = ap (λ l. first_word k ∷ second_word k ∷ l) (words_join ks ls)

-- no record takes no word, and one more takes its own words behind the others'
pub no_words : words_for 0 ≡ 0
unfolding words_for
no_words = refl

pub words_for_more : (n m : ℕ) → words_for (n + m) ≡ words_for n + words_for m
unfolding words_for
words_for_more n m = omega arith

-- the records that there is room for are those whose words are there
pub room_has_words : (n words : ℕ) → n ≤ room_of words → words_for n ≤ words
unfolding room_of words_for
room_has_words n words h = omega arith

-- "each from the first free word of the lent record buffer onward": the buffer with the record of one command more, behind so many
unfoldable pub with_record : List ℕ → ℕ → Command → List ℕ
with_record words n k = take (words_for n) words ++ (words_of (k ∷ []) ++ drop (words_for (n + 1)) words)

-- the words of a list of commands, and then the buffer as it was, with one record more
pub record_added : (ks : List Command) (k : Command) (old : List ℕ) {n : ℕ} → length ks ≡ n
    → with_record (words_of ks ++ drop (words_for n) old) n k ≡ words_of (ks ++ (k ∷ [])) ++ drop (words_for (n + 1)) old
unfolding with_record
record_added ks k old {n} e =
    let counted : length (words_of ks) ≡ words_for n = words_counted ks ∙ ap words_for e in
    rw (take_at (words_of ks) (drop (words_for n) old) (words_for n) counted, stays (words_of ks) counted, words_join ks (k ∷ []), append_assoc)
  where
    stays : (ws : List ℕ) → length ws ≡ words_for n → drop (words_for (n + 1)) (ws ++ drop (words_for n) old) ≡ drop (words_for (n + 1)) old
    stays ws counted =
        ap (λ (i : ℕ). drop i (ws ++ drop (words_for n) old)) (words_for_more n 1)
        ∙ sym (drop-drop (words_for 1) (words_for n) (ws ++ drop (words_for n) old))
        ∙ ap (drop (words_for 1)) (drop_at ws (drop (words_for n) old) (words_for n) counted)
        ∙ drop-drop (words_for 1) (words_for n) old
        ∙ ap (λ (i : ℕ). drop i old) (sym (words_for_more n 1))

-- the buffer is as long as it was, where there is room for one record more
pub with_record_long : (words : List ℕ) {n : ℕ} (k : Command) → n < room_of (length words) → length (with_record words n k) ≡ length words
unfolding with_record
with_record_long words {n} k h =
    let there = room_has_words (n + 1) (length words) (omega arith) in
    let record-words = words_counted (k ∷ []) in
    let behind = length-drop (words_for (n + 1)) words in
    rw (length-append, length-append, length-take-le (words_for n) words (omega (arith, words_for_more n 1)))
    (omega (arith, words_for_more n 1))

-- THE SEAM WITH THE CODE, which counts words: the room, the first free word, and the record as its two words are written there
pub room_is : (words : ℕ) → room_of words ≡ words / 2
unfolding room_of words_for
room_is words = refl

pub words_for_is : (n : ℕ) → words_for n ≡ 2 * n
unfolding words_for
words_for_is n = refl

-- two words that are set, one behind the other, where there is room for both
pub two_set : (words : List ℕ) (m first second : ℕ) → m + 1 < length words
    → set (set words m first) (m + 1) second ≡ take m words ++ (first ∷ second ∷ drop (m + 2) words)
two_set words m first second h =
    let front : length (take m words) ≡ m = length-take-le m words (omega arith) in
    let rest : List ℕ = drop (suc (suc m)) words in
    let one : set words m first ≡ take m words ++ (first ∷ drop (suc m) words) =
    ap (λ (l : List ℕ). set l m first) (split_at words m 0 (omega arith)) ∙ set_at (take m words) (get_or words m 0) (drop (suc m) words) first m front in
    let behind : drop (suc m) words ≡ get_or words (suc m) 0 ∷ rest = drop-cons words (suc m) 0 (omega arith) in
    let long : length (take m words ++ (first ∷ [])) ≡ m + 1 = length-append (take m words) (first ∷ []) ∙ omega (arith, front) in
    ap (λ (l : List ℕ). set l (m + 1) second)
    (one ∙ ap (λ (l : List ℕ). take m words ++ (first ∷ l)) behind ∙ sym (append_assoc (take m words) (first ∷ []) (get_or words (suc m) 0 ∷ rest)))
    ∙ set_at (take m words ++ (first ∷ [])) (get_or words (suc m) 0) rest second (m + 1) long
    ∙ append_assoc (take m words) (first ∷ []) (second ∷ rest)
    ∙ (let e : suc (suc m) ≡ m + 2 = omega arith in ap (λ (i : ℕ). take m words ++ (first ∷ second ∷ drop i words)) e)

pub record_put : (words : List ℕ) (n : ℕ) (k : Command) → n < room_of (length words)
    → set (set words (2 * n) (first_word k)) (2 * n + 1) (second_word k) ≡ with_record words n k
unfolding with_record words_of words_for
record_put words n k h =
    two_set words (2 * n) (first_word k) (second_word k) (omega (arith, room_is (length words)))
    ∙ (let e : 2 * n + 2 ≡ 2 * (n + 1) = omega arith in ap (λ (i : ℕ). take (2 * n) words ++ (first_word k ∷ second_word k ∷ drop i words)) e)

-- THE COMMANDS THAT WORDS NAME: there are as many as there are whole records, and the one at a place is that of its two words
pub commands_counted : (words : List ℕ) → length (commands_in words) ≡ room_of (length words)
unfolding commands_in room_of words_for
commands_counted [] = refl
commands_counted (first ∷ []) = refl
commands_counted (first ∷ second ∷ words) = let h = commands_counted words in omega arith

pub command_at_lem : (words : List ℕ) (i : ℕ) (none : Command) → i < room_of (length words)
    → get_or (commands_in words) i none ≡ command_of (get_or words (2 * i) 0) (get_or words (2 * i + 1) 0)
unfolding commands_in room_of words_for
command_at_lem [] i none h = absurd (omega arith)
command_at_lem (first ∷ []) i none h = absurd (omega arith)
command_at_lem (first ∷ second ∷ words) zero none h = refl
command_at_lem (first ∷ second ∷ words) (suc i) none h =
    let e : suc (suc (2 * i)) ≡ 2 * suc i = omega arith in
    let f : suc (suc (2 * i + 1)) ≡ 2 * suc i + 1 = omega arith in
    command_at_lem words i none (omega arith)
    ∙ ap (λ (n : ℕ). command_of (get_or (first ∷ second ∷ words) n 0) (get_or words (2 * i + 1) 0)) e
    ∙ ap (λ (n : ℕ). command_of (get_or (first ∷ second ∷ words) (2 * suc i) 0) (get_or (first ∷ second ∷ words) n 0)) f

-- the first so many records name the first so many commands
pub commands_taken : (n : ℕ) (words : List ℕ) → commands_in (take (words_for n) words) ≡ take n (commands_in words)
unfolding commands_in words_for
commands_taken zero words = refl
commands_taken (suc n) [] = let e : 2 * suc n ≡ suc (suc (2 * n)) = omega arith in ap (λ (m : ℕ). commands_in (take m [])) e
commands_taken (suc n) (first ∷ []) = let e : 2 * suc n ≡ suc (suc (2 * n)) = omega arith in ap (λ (m : ℕ). commands_in (take m (first ∷ []))) e
commands_taken (suc n) (first ∷ second ∷ words) =
    let e : 2 * suc n ≡ suc (suc (2 * n)) = omega arith in
    ap (λ (m : ℕ). commands_in (take m (first ∷ second ∷ words))) e ∙ ap (λ (ks : List Command). command_of first second ∷ ks) (commands_taken n words)
