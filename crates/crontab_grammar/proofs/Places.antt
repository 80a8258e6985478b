-- The places of the words of a line.
use Rattle.std.proofs.Common.{◌≡◌, ℕ, zero, suc, ◌+◌, ◌-◌, ◌<◌, ◌≤◌, false, ◌⊎◌, List, length, get_or, sym, refl, subst, inl, inr, arith}
use Rattle.std.proofs.lemmas.List.{length-drop, length-take-le}
use Rattle.std.proofs.lemmas.Bool.{both_ways, cases_lt}
use Rattle.scan.specs.Scan.{is, blank?}
use Rattle.scan.specs.declared.Kind.TheVariants.{Other}
use Rattle.scan.proofs.First.{first_le}
use Rattle.crontab.specs.Words.{past}
use Rattle.crontab.proofs.Nth.{past_next}
use Rattle.crontab_grammar.specs.Grammar.{WordAt, first, next}
use Rattle.crontab_grammar.proofs.Words.{gap, gap_stops, blanks_from}
use Rattle.crontab_grammar.proofs.Fields.{nth_begin, nth_word, after, after_none}
use Rattle.crontab_grammar.proofs.Fields.{next_had, next_found, next_inside, next_after}

-- a word begins before it ends
begin_step : (l : List ℕ) (k : ℕ) → nth_begin l k ≤ past l (k + 1)
begin_step l k = omega (arith, past_next l k)

-- no word begins before an earlier one
pub begin_rises : (l : List ℕ) (i k n : ℕ) → n ≡ k + i → nth_begin l k ≤ nth_begin l n
begin_rises l zero k n e =
    let q : k ≡ n = omega arith in subst (λ (m : ℕ). nth_begin l k ≤ nth_begin l m) q (omega arith)
begin_rises l (suc i) k n e =
    let r = begin_rises l i (k + 1) n (omega arith) in
    let s = begin_step l k in
    omega arith

-- a line's word after k others, by its place and its bytes
pub record Stands (l : List ℕ) (k p : ℕ) (w : List ℕ) : Type 0 where
  pub begins : nth_begin l k ≡ p
  pub inside : p < length l
  pub is_word : nth_word l k ≡ w

-- a word of what is left of a line after m words stands in the line
word_in : {s : List ℕ} {k p : ℕ} {w : List ℕ} → WordAt s k p w → (l : List ℕ) (m n : ℕ) → n ≡ m + k →
    after l m ≡ s → Stands l n (past l m + p) w
word_in (first {s} {b} {w} {r} h) l m n e q =
    let f = next_found l m s b w r q h in
    let x : m ≡ n = omega arith in
    let i = next_inside l m s b w r q h in
    let g = f.begins in
    subst (λ (z : ℕ). Stands l z (past l m + length b) w) x
    (record { begins = g; inside = omega arith; is_word = f.is_word })
word_in (next {s} {b} {w} {r} {v} {k} {p} h a) l m n e q =
    let f = next_found l m s b w r q h in
    let x : past l (m + 1) + p ≡ past l m + (length b + length w + p) = omega (arith, f.ends, past_next l m) in
    subst (λ (z : ℕ). Stands l n z v) x (word_in a l (m + 1) n (omega arith) (next_after l m s b w r q h))

-- no words end at the line's begin
past_none : (l : List ℕ) → past l 0 ≡ 0
unfolding past
past_none l = refl

-- a word of the grammar stands in its line
pub word_stands : {l : List ℕ} {k p : ℕ} {w : List ℕ} → WordAt l k p w → Stands l k p w
word_stands {l} {k} {p} {w} a =
    let z = past_none l in
    let e : past l 0 + p ≡ p = omega arith in
    subst (λ (q : ℕ). Stands l k q w) e (word_in a l 0 k (omega arith) (after_none l))

-- how many blanks stand before a word
gap_length : (l : List ℕ) (k : ℕ) → length (blanks_from l (past l k)) ≡ gap (after l k)
gap_length l k = length-take-le (gap (after l k)) (after l k) (first_le (is Other) (after l k))

-- a word ends where it begins, and its bytes further
word_end : (l : List ℕ) (k : ℕ) → nth_begin l k < length l → past l (k + 1) ≡ nth_begin l k + length (nth_word l k)
word_end l k h =
    let b = blanks_from l (past l k) in
    let f = next_found l k (after l k) b (nth_word l k) (after l (k + 1)) refl (next_had l k h) in
    omega (arith, f.ends, f.begins, past_next l k)

-- a word that begins in what is left of a line after m words is one of the grammar
word_from : (k : ℕ) (l : List ℕ) (m n p : ℕ) → n ≡ m + k → nth_begin l n < length l → past l m + p ≡ nth_begin l n →
    WordAt (after l m) k p (nth_word l n)
word_from zero l m n p e h q =
    let x : m ≡ n = omega arith in
    let i : nth_begin l m < length l = subst (λ (z : ℕ). nth_begin l z < length l) (sym x) h in
    let y : past l m + p ≡ nth_begin l m = subst (λ (z : ℕ). past l m + p ≡ nth_begin l z) (sym x) q in
    let g : length (blanks_from l (past l m)) ≡ p = omega (arith, gap_length l m) in
    subst (λ (z : ℕ). WordAt (after l m) 0 p (nth_word l z)) x
    (subst (λ (z : ℕ). WordAt (after l m) 0 z (nth_word l m)) g (first (next_had l m i)))
word_from (suc k) l m n p e h q =
    let r = begin_rises l (suc k) m n e in
    let i : nth_begin l m < length l = omega arith in
    let t = begin_rises l k (m + 1) n (omega arith) in
    let b = blanks_from l (past l m) in
    let o = nth_begin l n - past l (m + 1) in
    let g = gap_length l m in
    let y = word_end l m i in
    let x : length b + length (nth_word l m) + o ≡ p = omega arith in
    subst (λ (z : ℕ). WordAt (after l m) (suc k) z (nth_word l n)) x
    (next (next_had l m i) (word_from k l (m + 1) n o (omega arith) h (omega arith)))

-- a word that begins is one of the grammar
pub word_listed : (l : List ℕ) (k : ℕ) → nth_begin l k < length l → WordAt l k (nth_begin l k) (nth_word l k)
word_listed l k h =
    let z = past_none l in
    subst (λ (s : List ℕ). WordAt s k (nth_begin l k) (nth_word l k)) (after_none l)
    (word_from k l 0 k (nth_begin l k) (omega arith) h (omega arith))

-- a blank parts a word from the next
word_parted : (l : List ℕ) (k : ℕ) → nth_begin l k < length l → nth_begin l (k + 1) < length l →
    past l (k + 1) < nth_begin l (k + 1)
word_parted l k h i = go (cases_lt 0 (gap r))
  where
    r : List ℕ
    r = after l (k + 1)

    m : gap r < length r
    m = omega (arith, length-drop (past l (k + 1)) l)

    go : (0 < gap r) ⊎ (gap r ≤ 0) → past l (k + 1) < nth_begin l (k + 1)
    go (inl z) = omega arith
    go (inr z) =
        let e : gap r ≡ 0 = omega arith in
        absurd (both_ways (blank? (get_or r 0 0))
        (subst (λ (j : ℕ). blank? (get_or r j 0) ≡ false) e (gap_stops r m))
        ((next_had l k h).parted (omega (arith, m))))

-- so a later word begins past a word's end
pub words_apart : (l : List ℕ) (k n : ℕ) → k < n → nth_begin l n < length l →
    nth_begin l k + length (nth_word l k) < nth_begin l n
words_apart l k n h i =
    let a = begin_rises l (n - k) k n (omega arith) in
    let b = begin_rises l (n - (k + 1)) (k + 1) n (omega arith) in
    let c : nth_begin l k < length l = omega arith in
    let d : nth_begin l (k + 1) < length l = omega arith in
    omega (arith, word_end l k c, word_parted l k c d)
