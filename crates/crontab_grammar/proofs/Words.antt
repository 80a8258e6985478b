-- The words of a text, and where `crontab` finds them in a line.
use Rattle.std.proofs.Common.{◌≡◌, ℕ, ◌+◌, ◌-◌, ◌<◌, ◌≤◌, true, false, ◌⊎◌, List, [], ◌∷◌, ◌++◌, length, get_or, take, drop, sym, refl, ap, ◌∙◌, subst, inl, inr, add-zero, arith, length-append}
use Rattle.std.proofs.lemmas.List.{length-drop, length-take-le, take_at, drop_at, drop-drop, take-append-drop, get_or-take, get_or-drop}
use Rattle.std.proofs.lemmas.Bool.{both_ways, cases_lt, not-true, not-false, not_from_true, not_from_false}
use Rattle.scan.specs.Scan.{before_first, is, blank?}
use Rattle.scan.specs.declared.Kind.TheVariants.{Blank, Other}
use Rattle.scan.proofs.First.{first_le}
use Rattle.crontab.specs.Words.{begin, end, word}
use Rattle.crontab_grammar.specs.Grammar.{Blanks, Solid, Word}
use Rattle.crontab_grammar.proofs.Firsts.{first_joined, first_fails, first_passes}

-- how many blanks stand at the front of a text
abbrev pub gap : List ℕ → ℕ
gap s = before_first (is Other) s

-- how many bytes stand before its first blank
abbrev pub run : List ℕ → ℕ
run s = before_first (is Blank) s

-- blanks stand before the first byte that is none
pub gap_joined : (b c : List ℕ) → Blanks b → (0 < length c → blank? (get_or c 0 0) ≡ false) → gap (b ++ c) ≡ length b
gap_joined b c h s =
    first_joined (is Other) b c
    (λ i l. not_from_true (blank? (get_or b i 0)) (h i l))
    (λ l. not_from_false (blank? (get_or c 0 0)) (s l))

-- the bytes before the first that is no blank are blanks
pub gap_blanks : (s : List ℕ) → Blanks (take (gap s) s)
gap_blanks s i h =
    let n = length-take-le (gap s) s (first_le (is Other) s) in
    let l : i < gap s = omega arith in
    rw (get_or-take (gap s) s i 0 l) (not-false (blank? (get_or s i 0)) (first_fails (is Other) s i l))

-- the first byte that is no blank is none
pub gap_stops : (s : List ℕ) → gap s < length s → blank? (get_or s (gap s) 0) ≡ false
gap_stops s h = not-true (blank? (get_or s (gap s) 0)) (first_passes (is Other) s h)

-- the first byte of a text that begins with a word is no blank
solid_first : (w r : List ℕ) → Solid w → blank? (get_or (w ++ r) 0 0) ≡ false
solid_first [] r h = absurd (omega (arith, h.some))
solid_first (x ∷ w) r h = h.unbroken 0 (omega arith)

-- a word's bytes stand before the first blank
run_joined : (w r : List ℕ) → Solid w → (0 < length r → blank? (get_or r 0 0) ≡ true) → run (w ++ r) ≡ length w
run_joined w r h s = first_joined (is Blank) w r h.unbroken s

-- from place p on the line l has the blanks b, the word w, and the rest r
pub record Found (l : List ℕ) (p : ℕ) (b w r : List ℕ) : Type 0 where
  pub begins : begin l p ≡ p + length b
  pub ends : end l p ≡ p + length b + length w
  pub inside : end l p ≤ length l
  pub is_word : word l p ≡ w
  pub rest : drop (end l p) l ≡ r

-- what is left of the line l from place p on begins with a word
module _ (l : List ℕ) (p : ℕ) (s b w r : List ℕ) (q : drop p l ≡ s) (h : Word s b w r) where
  -- it begins after its blanks
  found_begins : begin l p ≡ p + length b
  found_begins =
      ap (λ (t : List ℕ). p + gap t) (q ∙ h.bytes)
      ∙ ap (λ (n : ℕ). p + n) (gap_joined b (w ++ r) h.blanks (λ k. solid_first w r h.solid))

  -- what is left after them
  found_left : drop (begin l p) l ≡ w ++ r
  found_left =
      ap (λ (n : ℕ). drop n l) found_begins ∙ sym (drop-drop (length b) p l)
      ∙ ap (drop (length b)) (q ∙ h.bytes) ∙ drop_at b (w ++ r) (length b) refl

  -- the word is as long as the run of bytes there
  found_run : run (drop (begin l p) l) ≡ length w
  found_run = ap run found_left ∙ run_joined w r h.solid h.parted

  -- and is that run
  found_word : word l p ≡ w
  found_word =
      let n : end l p - begin l p ≡ length w = omega (arith, found_run) in
      ap (λ (k : ℕ). take k (drop (begin l p) l)) n ∙ ap (take (length w)) found_left ∙ take_at w r (length w) refl

  -- the rest is left after it
  found_rest : drop (end l p) l ≡ r
  found_rest =
      ap (λ (k : ℕ). drop (begin l p + k) l) found_run ∙ sym (drop-drop (length w) (begin l p) l)
      ∙ ap (drop (length w)) found_left ∙ drop_at w r (length w) refl

  -- so the word is found
  pub word_found : Found l p b w r
  word_found =
      let m = ap length found_left in
      let n = h.solid.some in
      record {
        begins = found_begins;
        ends = omega (arith, found_begins, found_run);
        inside = omega (arith, found_run, m, length-drop (begin l p) l, length-append w r);
        is_word = found_word;
        rest = found_rest;
      }

-- a text has a byte that is no blank
module _ (s : List ℕ) (h : gap s < length s) where
  -- what is left after its blanks
  abbrev left : List ℕ
  left = drop (gap s) s

  -- the first byte there is no blank
  after_gap : blank? (get_or left 0 0) ≡ false
  after_gap = rw (get_or-drop (gap s) s 0 0, add-zero (gap s)) (gap_stops s h)

  -- there is one
  left_some : 0 < length left
  left_some = simp length-drop (omega arith)

  -- so a run of bytes that are no blanks is there
  run_some : 0 < run left
  run_some = go (cases_lt 0 (run left))
    where
      go : (0 < run left) ⊎ (run left ≤ 0) → 0 < run left
      go (inl l) = l
      go (inr l) =
          let z : run left ≡ 0 = omega arith in
          let k : run left < length left = omega (arith, left_some) in
          absurd (both_ways (blank? (get_or left 0 0)) after_gap
          (subst (λ (i : ℕ). blank? (get_or left i 0) ≡ true) z (first_passes (is Blank) left k)))

  -- that run is solid
  run_solid : Solid (take (run left) left)
  run_solid =
      let n = length-take-le (run left) left (first_le (is Blank) left) in
      record { some = omega (arith, run_some); unbroken = unbroken }
    where
      unbroken : (i : ℕ) → i < length (take (run left) left) → blank? (get_or (take (run left) left) i 0) ≡ false
      unbroken i k =
          let n = length-take-le (run left) left (first_le (is Blank) left) in
          let m : i < run left = omega arith in
          rw (get_or-take (run left) left i 0 m) (first_fails (is Blank) left i m)

  -- and is parted from the rest
  run_parted : 0 < length (drop (run left) left) → blank? (get_or (drop (run left) left) 0 0) ≡ true
  run_parted k =
      let m : run left < length left = omega (arith, length-drop (run left) left) in
      rw (get_or-drop (run left) left 0 0, add-zero (run left)) (first_passes (is Blank) left m)

  -- so the text begins with a word
  word_of : Word s (take (gap s) s) (take (run left) left) (drop (run left) left)
  word_of = record {
    bytes =
        sym (ap (λ (t : List ℕ). take (gap s) s ++ t) (take-append-drop (run left) left) ∙ take-append-drop (gap s) s);
    blanks = gap_blanks s;
    solid = run_solid;
    parted = run_parted;
  }

-- the blanks at the front of what is left of a line
abbrev pub blanks_from : List ℕ → ℕ → List ℕ
blanks_from l p = take (gap (drop p l)) (drop p l)

-- a byte that is no blank begins a word of what is left of a line
pub word_had : (l : List ℕ) (p : ℕ) → begin l p < length l →
    Word (drop p l) (blanks_from l p) (word l p) (drop (end l p) l)
word_had l p h =
    let s = drop p l in
    let t = drop (gap s) s in
    let g : gap s < length s = omega (arith, length-drop p l) in
    let e : t ≡ drop (begin l p) l = drop-drop (gap s) p l in
    let c = drop (begin l p) l in
    let n : run c ≡ end l p - begin l p = omega arith in
    let w = ap (λ (u : List ℕ). take (run u) u) e ∙ ap (λ (k : ℕ). take k c) n in
    let r = ap (λ (u : List ℕ). drop (run u) u) e ∙ drop-drop (run c) (begin l p) l in
    subst (λ (v : List ℕ). Word s (blanks_from l p) v (drop (end l p) l)) w
    (subst (λ (v : List ℕ). Word s (blanks_from l p) (take (run t) t) v) r (word_of s g))
