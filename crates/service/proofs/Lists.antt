use Rattle.std.proofs.Common.{◌≡◌, refl, sym, ap, ◌∙◌, subst, ◌⊎◌, inl, inr, List, [], ◌∷◌, ◌++◌, Bool, true, false, cond, not, true≢false, ℕ, suc, ◌≤◌, arith, length, eqb, T, eqb→eq}
use Rattle.std.proofs.Math.Dec.{eqb_refl}
use Rattle.disk.proofs.Among.{among_snoc}
use Rattle.journal_model.proofs.Lists.{among_keep}
use Rattle.disk.specs.Contents.{Among}
use Rattle.journal_model.specs.Lists.{Below, Ascending, keep, without}

-- two constructors are never equal
pub clash : {A : Type 0} → ◌≡◌ {A = ℕ} 0 1 → A
clash e = let z : ⊥ = omega arith in absurd z

pub eqb_same : (n : ℕ) → eqb n n ≡ true
eqb_same n = go (eqb n n) (eqb_refl n)
  where
    go : (b : Bool) → T b → b ≡ true
    go true t = refl
    go false t = absurd t

pub eqb_differ : (m n : ℕ) → ¬ (m ≡ n) → eqb m n ≡ false
eqb_differ m n d = go (eqb m n) refl
  where
    go : (b : Bool) → eqb m n ≡ b → eqb m n ≡ false
    go true e = absurd (d (eqb→eq m n (subst T (sym e) tt)))
    go false e = e

pub eqb-true : (m n : ℕ) → eqb m n ≡ true → m ≡ n
eqb-true m n e = eqb→eq m n (subst T (sym e) tt)

pub either_way : (b : Bool) → (b ≡ true) ⊎ (b ≡ false)
either_way true = inl refl
either_way false = inr refl

pub not_both : {b : Bool} {A : Type 0} → b ≡ true → b ≡ false → A
not_both p q = absurd (true≢false (sym p ∙ q))

module _ {A : Type 0} where
  pub length_snoc : (xs : List A) (t : A) → length (xs ++ (t ∷ [])) ≡ suc (length xs)
  length_snoc [] t = refl
  length_snoc (x ∷ xs) t = ap suc (length_snoc xs t)

pub keep_among : (p : ℕ → Bool) (xs : List ℕ) (u : ℕ) → Among u xs → p u ≡ true → Among u (keep p xs)
keep_among p [] u m e = absurd m
keep_among p (x ∷ xs) u m e = go (λ j. keep_among p xs u j e) (p x) refl m
  where
    go :
        (Among u xs → Among u (keep p xs)) → (b : Bool) → p x ≡ b → Among u (x ∷ xs)
        → Among u (cond b (x ∷ keep p xs) (keep p xs))
    go ih true k (inl q) = inl q
    go ih true k (inr j) = inr (ih j)
    go ih false k (inl q) = not_both e (ap p q ∙ k)
    go ih false k (inr j) = ih j

pub length_keep : (p : ℕ → Bool) (xs : List ℕ) → length (keep p xs) ≤ length xs
length_keep p [] = omega arith
length_keep p (x ∷ xs) = go (length_keep p xs) (p x)
  where
    go : length (keep p xs) ≤ length xs → (b : Bool) → length (cond b (x ∷ keep p xs) (keep p xs)) ≤ suc (length xs)
    go ih true = omega arith
    go ih false = omega arith

pub asc_keep : (p : ℕ → Bool) (xs : List ℕ) → Ascending xs → Ascending (keep p xs)
asc_keep p [] a = tt
asc_keep p (x ∷ xs) a = go (asc_keep p xs a.1) (p x)
  where
    go : Ascending (keep p xs) → (b : Bool) → Ascending (cond b (x ∷ keep p xs) (keep p xs))
    go ih true = (λ u m. a.0 u (among_keep p xs u m).0, ih)
    go ih false = ih

pub asc_snoc : (xs : List ℕ) (t : ℕ) → Ascending xs → Below t xs → Ascending (xs ++ (t ∷ []))
asc_snoc [] t a b = (λ u m. absurd m, tt)
asc_snoc (x ∷ xs) t a b = (
  λ u m.
      elim (among_snoc xs u t m) [ inl k ↦ a.0 u k | inr e ↦ rw e (b x (inl refl)) ],
  asc_snoc xs t a.1
      (λ u m. b u (inr m)),
)

pub keep_same : (p q : ℕ → Bool) (xs : List ℕ) → ((u : ℕ) → Among u xs → p u ≡ q u) → keep p xs ≡ keep q xs
keep_same p q [] e = refl
keep_same p q (x ∷ xs) e = go (keep_same p q xs (λ u m. e u (inr m))) (p x) (q x) (e x (inl refl))
  where
    go :
        keep p xs ≡ keep q xs → (b c : Bool) → b ≡ c
        → cond b (x ∷ keep p xs) (keep p xs) ≡ cond c (x ∷ keep q xs) (keep q xs)
    go ih true true k = ap (λ r. x ∷ r) ih
    go ih true false k = not_both refl k
    go ih false true k = not_both k refl
    go ih false false k = ih

pub keep_all : (p : ℕ → Bool) (xs : List ℕ) → ((u : ℕ) → Among u xs → p u ≡ true) → keep p xs ≡ xs
keep_all p [] e = refl
keep_all p (x ∷ xs) e = go (keep_all p xs (λ u m. e u (inr m))) (p x) (e x (inl refl))
  where
    go : keep p xs ≡ xs → (b : Bool) → b ≡ true → cond b (x ∷ keep p xs) (keep p xs) ≡ x ∷ xs
    go ih true k = ap (λ r. x ∷ r) ih
    go ih false k = not_both k refl

pub not_same : (u t : ℕ) → not (eqb u t) ≡ true → ¬ (u ≡ t)
not_same u t k e = go (eqb u t) (ap (λ v. eqb v t) e ∙ eqb_same t) k
  where
    go : (b : Bool) → b ≡ true → not b ≡ true → ⊥
    go true e' k' = not_both k' refl
    go false e' k' = not_both e' refl

pub without_not : (t : ℕ) (xs : List ℕ) → ¬ (Among t (without t xs))
without_not t xs m = not_same t t (among_keep (λ x. not (eqb x t)) xs t m).1 refl

pub without_old : (t : ℕ) (xs : List ℕ) (u : ℕ) → Among u (without t xs) → Among u xs
without_old t xs u m = (among_keep (λ x. not (eqb x t)) xs u m).0

pub without_other : (t : ℕ) (xs : List ℕ) (u : ℕ) → Among u xs → ¬ (u ≡ t) → Among u (without t xs)
without_other t xs u m d = keep_among (λ x. not (eqb x t)) xs u m (ap not (eqb_differ u t d))
