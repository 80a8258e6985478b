-- A name in a list of names, by its place there.
use Rattle.std.proofs.Common.{◌≡◌, ℕ, suc, ◌+◌, ◌<◌, Bool, true, false, cond, ◌&&◌, eqb, List, [], ◌∷◌, map, drop, length, get_or, Some, None, Option, refl, ap, ◌∙◌, arith}
use Rattle.std.proofs.Math.Bool.{and-true, and-false}
use Rattle.std.specs.Char.{to_ascii_lowercase}
use Rattle.std.specs.Str.{bytes_eq, str_eq_ignore_ascii_case}
use Rattle.std.specs.List.{position, position_from}
use Rattle.std.specs.Option.{option_map}
use Rattle.std.proofs.lemmas.Bool.Decides.{nat_tests}
use Rattle.std.proofs.lemmas.Iterator.Adapters.{position_from-zero}
use Rattle.fields.specs.Names.{named, lower, name_in, spells}

same_letter : (x y : ℕ) → eqb (to_ascii_lowercase x) y ≡ eqb y (lower x)
same_letter x y = grind (arith, nat_tests)

cond_same : (t : Bool) (o : Option ℕ) → o ≡ cond t o o
cond_same true o = refl
cond_same false o = refl

-- each name of a list has three letters
abbrev pub Threes : List (List ℕ) → Type 0
Threes ns = (i : ℕ) → i < length ns → length (get_or ns i []) ≡ 3

module _ (e : List ℕ) where
  -- the letters that a word of three has in lower case
  abbrev a : ℕ
  a = lower (get_or e 0 0)

  abbrev b : ℕ
  b = lower (get_or e 1 0)

  abbrev c : ℕ
  c = lower (get_or e 2 0)

  -- is a name the word, in either case?
  abbrev is_word : List ℕ → Bool
  is_word = str_eq_ignore_ascii_case e

  spelled : (s : List ℕ) (x y z : ℕ) → bytes_eq (map to_ascii_lowercase s) (x ∷ y ∷ z ∷ [])
      ≡ eqb (length s) 3 && spells (x ∷ y ∷ z ∷ []) (lower (get_or s 0 0)) (lower (get_or s 1 0)) (lower (get_or s 2 0))
  spelled [] x y z = refl
  spelled (p ∷ []) x y z = and-false _
  spelled (p ∷ q ∷ []) x y z = rw (and-false (eqb (to_ascii_lowercase q) y)) (and-false _)
  spelled (p ∷ q ∷ r ∷ []) x y z =
      rw (and-true (eqb (to_ascii_lowercase r) z)) (λ i. same_letter p x i && (same_letter q y i && same_letter r z i))
  spelled (p ∷ q ∷ r ∷ s ∷ ss) x y z =
      let far : eqb (suc (suc (suc (suc (length ss))))) 3 ≡ false = grind (arith, nat_tests) in
      rw (far, and-false (eqb (to_ascii_lowercase r) z), and-false (eqb (to_ascii_lowercase q) y)) (and-false _)

  spells_word : (n : List ℕ) → length n ≡ 3 → map to_ascii_lowercase n ≡ n → is_word n ≡ eqb (length e) 3 && spells n a b c
  spells_word [] h l = absurd (omega arith)
  spells_word (x ∷ []) h l = absurd (omega arith)
  spells_word (x ∷ y ∷ []) h l = absurd (omega arith)
  spells_word (x ∷ y ∷ z ∷ []) h l = ap (bytes_eq (map to_ascii_lowercase e)) l ∙ spelled e x y z
  spells_word (x ∷ y ∷ z ∷ w ∷ ws) h l = absurd (omega arith)

  named_from : (k j : ℕ) (ns : List (List ℕ)) → Threes ns → map (map to_ascii_lowercase) ns ≡ ns →
      option_map (λ i. k + i) (position_from is_word j ns) ≡ cond (eqb (length e) 3) (named (k + j) ns a b c) None
  named_from k j [] h l = cond_same (eqb (length e) 3) None
  named_from k j (n ∷ ns) h l =
      rw (spells_word n (h 0 (omega arith)) (ap (λ (ms : List (List ℕ)). get_or ms 0 []) l))
      (go (eqb (length e) 3) (spells n a b c) (named_from k (j + 1) ns (λ i m. h (suc i) (omega arith)) (ap (drop 1) l)))
    where
      go : (t u : Bool) → option_map (λ i. k + i) (position_from is_word (j + 1) ns) ≡ cond t (named (k + (j + 1)) ns a b c) None
          → option_map (λ i. k + i) (cond (t && u) (Some j) (position_from is_word (j + 1) ns))
          ≡ cond t (cond u (Some (k + j)) (named (k + j + 1) ns a b c)) None
      go true true ih = refl
      go true false ih = let q : k + j + 1 ≡ k + (j + 1) = omega arith in rw q ih
      go false u ih = ih

  -- the number of a word, by where it is found
  pub name_found : (k : ℕ) (ns : List (List ℕ)) → Threes ns → map (map to_ascii_lowercase) ns ≡ ns →
      option_map (λ i. k + i) (position is_word ns) ≡ name_in k ns e
  name_found k ns h l =
      let q : k + 0 ≡ k = omega arith in
      ap (option_map (λ i. k + i)) (position_from-zero is_word ns)
      ∙ named_from k 0 ns h l
      ∙ ap (λ (m : ℕ). cond (eqb (length e) 3) (named m ns a b c) None) q
