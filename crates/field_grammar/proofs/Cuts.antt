-- A text cut at the first byte of a kind.
use Rattle.std.proofs.Common.{◌≡◌, ℕ, zero, suc, ◌<◌, ◌≤◌, Bool, true, false, eqb, List, [], ◌∷◌, ◌++◌, length, get_or, drop, sym, refl, ap, arith, length-append}
use Rattle.std.proofs.Math.Dec.{leb-suc-suc}
use Rattle.std.proofs.lemmas.List.{take_at}
use Rattle.std.proofs.lemmas.Bool.{lt-ltb, le-ltb, ltb-true, eq-eqb, ne_eqb, eqb-true}
use Rattle.fields.specs.Bytes.{find_in, has, front, back}
use Rattle.field_grammar.specs.Grammar.{Without}

-- the empty text is without any byte
pub without_none : (b : ℕ) → Without b []
without_none b i h e = omega arith

-- one more byte, not b, in front of a text without b
pub without_more : (b x : ℕ) (s : List ℕ) → (x ≡ b → ⊥) → Without b s → Without b (x ∷ s)
without_more b x s n w zero h e = n e
without_more b x s n w (suc i) h e = w i (omega arith) e

-- the first byte of a text without b is not b
pub without_first : (b x : ℕ) (s : List ℕ) → Without b (x ∷ s) → x ≡ b → ⊥
without_first b x s w e = w 0 (omega arith) e

-- and the rest of it is without b
pub without_rest : (b x : ℕ) (s : List ℕ) → Without b (x ∷ s) → Without b s
without_rest b x s w i h e = w (suc i) (omega arith) e

-- two texts without c, joined by another byte, are without c
pub without_join : (c b : ℕ) (a r : List ℕ) → (b ≡ c → ⊥) → Without c a → Without c r → Without c (a ++ b ∷ r)
without_join c b [] r n v w = without_more c b r n w
without_join c b (x ∷ a) r n v w =
    without_more c x (a ++ b ∷ r) (without_first c x a v) (without_join c b a r n (without_rest c x a v) w)

-- every byte of a text stands above 47, which is `/`; 42 is `*` and 45 is `-`
abbrev pub Above : List ℕ → Type 0
Above s = (i : ℕ) → i < length s → 47 < get_or s i 0

-- then it is without those
pub above_without : (b : ℕ) (s : List ℕ) → b ≤ 47 → Above s → Without b s
above_without b s l a i h e = let k = a i h in omega arith

-- b is found right after a text without b
find_joined : (b : ℕ) (a r : List ℕ) → Without b a → find_in b (a ++ b ∷ r) ≡ length a
find_joined b [] r w = rw (eq-eqb b b refl) refl
find_joined b (x ∷ a) r w =
    rw (ne_eqb x b (without_first b x a w)) (ap suc (find_joined b a r (without_rest b x a w)))

-- and nowhere in it alone
find_none : (b : ℕ) (a : List ℕ) → Without b a → find_in b a ≡ length a
find_none b [] w = refl
find_none b (x ∷ a) w =
    rw (ne_eqb x b (without_first b x a w)) (ap suc (find_none b a (without_rest b x a w)))

-- the cut of a text without b, joined by b to any other
module _ (b : ℕ) (a r : List ℕ) (w : Without b a) where
  pub has_joined : has b (a ++ b ∷ r) ≡ true
  has_joined =
      lt-ltb (find_in b (a ++ b ∷ r)) (length (a ++ b ∷ r))
      (omega (arith, find_joined b a r w, length-append a (b ∷ r)))

  pub front_joined : front b (a ++ b ∷ r) ≡ a
  front_joined = take_at a (b ∷ r) (find_in b (a ++ b ∷ r)) (sym (find_joined b a r w))

  pub back_joined : back b (a ++ b ∷ r) ≡ r
  back_joined = rw (find_joined b a r w) (drop_cut a)
    where
      drop_cut : (xs : List ℕ) → drop (suc (length xs)) (xs ++ b ∷ r) ≡ r
      drop_cut [] = refl
      drop_cut (x ∷ xs) = drop_cut xs

-- a text without b does not have b
pub has_none : (b : ℕ) (a : List ℕ) → Without b a → has b a ≡ false
has_none b a w = le-ltb (find_in b a) (length a) (omega (arith, find_none b a w))

-- a text that has b is what stands before it, b, and what stands after it
pub cut_whole : (b : ℕ) (s : List ℕ) → has b s ≡ true → s ≡ front b s ++ b ∷ back b s
cut_whole b [] h = let z : 1 ≤ 0 = ltb-true 0 0 h in absurd (omega arith)
cut_whole b (x ∷ s) h = go (eqb x b) refl (cut_whole b s) h
  where
    go : (t : Bool) → eqb x b ≡ t → (has b s ≡ true → s ≡ front b s ++ b ∷ back b s) →
        has b (x ∷ s) ≡ true → x ∷ s ≡ front b (x ∷ s) ++ b ∷ back b (x ∷ s)
    go true e ih k = rw e (ap (λ (y : ℕ). y ∷ s) (eqb-true x b e))
    go false e ih k =
        rw e (ap (λ (t : List ℕ). x ∷ t) (ih (rw leb-suc-suc at (rw e at k))))
