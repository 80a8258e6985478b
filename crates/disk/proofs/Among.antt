-- Membership in a list with one more at its end.
use Rattle.std.proofs.Common.{◌≡◌, ◌⊎◌, List, [], ◌∷◌, ◌++◌, refl, inl, inr}
use Rattle.disk.specs.Contents.{Among}

module _ {A : Type 0} where
  pub among_snoc : (xs : List A) (u t : A) → Among u (xs ++ (t ∷ [])) → Among u xs ⊎ (u ≡ t)
  among_snoc [] u t (inl e) = inr e
  among_snoc [] u t (inr n) = absurd n
  among_snoc (x ∷ xs) u t (inl e) = inl (inl e)
  among_snoc (x ∷ xs) u t (inr m) = elim (among_snoc xs u t m) [ inl a ↦ inl (inr a) | inr e ↦ inr e ]

  pub snoc_old : (xs : List A) (u t : A) → Among u xs → Among u (xs ++ (t ∷ []))
  snoc_old [] u t m = absurd m
  snoc_old (x ∷ xs) u t (inl e) = inl e
  snoc_old (x ∷ xs) u t (inr m) = inr (snoc_old xs u t m)

  pub snoc_new : (xs : List A) (t : A) → Among t (xs ++ (t ∷ []))
  snoc_new [] t = inl refl
  snoc_new (x ∷ xs) t = inr (snoc_new xs t)
