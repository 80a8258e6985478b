-- Counting in lists and over positions.
use Rattle.std.proofs.Common.{◌≡◌, refl, sym, ap, ap₂, ◌∙◌, subst, inl, inr, List, [], ◌∷◌, ◌++◌, Bool, true, false, cond, ℕ, zero, suc, ◌+◌, ◌≤◌, ◌<◌, arith, length}
use Rattle.std.proofs.Math.Decide.{ℕ_discrete}
use Rattle.disk.specs.Contents.{Among}
use Rattle.journal_model.specs.Lists.{Ascending, keep}
use Rattle.service.proofs.Lists.{not_both}
use Rattle.service.specs.Lists.{how_many, Taken, here, there}

-- how many of the list pass the test
abbrev pub count : (ℕ → Bool) → List ℕ → ℕ
count p [] = zero
count p (x ∷ xs) = cond (p x) (suc (count p xs)) (count p xs)

pub count_le :
    (p q : ℕ → Bool) (xs : List ℕ) → ((u : ℕ) → Among u xs → q u ≡ true → p u ≡ true) → count q xs ≤ count p xs
count_le p q [] f = omega arith
count_le p q (x ∷ xs) f = go (count_le p q xs (λ u m. f u (inr m))) (p x) (q x) refl refl
  where
    go :
        count q xs ≤ count p xs → (a b : Bool) → p x ≡ a → q x ≡ b
        → cond b (suc (count q xs)) (count q xs) ≤ cond a (suc (count p xs)) (count p xs)
    go ih true true ea eb = omega arith
    go ih true false ea eb = omega arith
    go ih false true ea eb = not_both (f x (inl refl) eb) ea
    go ih false false ea eb = ih

pub count_lt :
    (p q : ℕ → Bool) (xs : List ℕ) → ((u : ℕ) → Among u xs → q u ≡ true → p u ≡ true) → (t : ℕ) → Among t xs
    → p t ≡ true → q t ≡ false → suc (count q xs) ≤ count p xs
count_lt p q [] f t m et ef = absurd m
count_lt p q (x ∷ xs) f t m et ef =
    go (count_le p q xs (λ u a. f u (inr a))) (λ a. count_lt p q xs (λ u b. f u (inr b)) t a et ef) (p x) (q x) refl
    refl m
  where
    go :
        count q xs ≤ count p xs → (Among t xs → suc (count q xs) ≤ count p xs) → (a b : Bool) → p x ≡ a → q x ≡ b
        → Among t (x ∷ xs) → suc (cond b (suc (count q xs)) (count q xs)) ≤ cond a (suc (count p xs)) (count p xs)
    go le lt true true ea eb (inl e) = not_both (ap q e ∙ eb) ef
    go le lt true true ea eb (inr a) = let x = lt a in omega arith
    go le lt true false ea eb k = omega arith
    go le lt false true ea eb k = not_both (f x (inl refl) eb) ea
    go le lt false false ea eb (inl e) = not_both et (ap p e ∙ ea)
    go le lt false false ea eb (inr a) = lt a

pub count_snoc : (p : ℕ → Bool) (xs : List ℕ) (t : ℕ) → count p (xs ++ (t ∷ [])) ≤ suc (count p xs)
count_snoc p [] t = go (p t)
  where
    go : (b : Bool) → cond b (suc zero) zero ≤ suc zero
    go true = omega arith
    go false = omega arith
count_snoc p (x ∷ xs) t = go (count_snoc p xs t) (p x)
  where
    go :
        count p (xs ++ (t ∷ [])) ≤ suc (count p xs) → (b : Bool)
        → cond b (suc (count p (xs ++ (t ∷ [])))) (count p (xs ++ (t ∷ []))) ≤ suc
        (cond b (suc (count p xs)) (count p xs))
    go ih true = omega arith
    go ih false = ih

pub count_keep : (p q : ℕ → Bool) (xs : List ℕ) → count p (keep q xs) ≤ count p xs
count_keep p q [] = omega arith
count_keep p q (x ∷ xs) = go (count_keep p q xs) (q x) (p x) refl
  where
    go :
        count p (keep q xs) ≤ count p xs → (b a : Bool) → p x ≡ a
        → count p (cond b (x ∷ keep q xs) (keep q xs)) ≤ cond a (suc (count p xs)) (count p xs)
    go ih true true e =
        subst (λ z. cond z (suc (count p (keep q xs))) (count p (keep q xs)) ≤ suc (count p xs)) (sym e)
        (omega arith)
    go ih true false e = subst (λ z. cond z (suc (count p (keep q xs))) (count p (keep q xs)) ≤ count p xs) (sym e) ih
    go ih false true e = omega arith
    go ih false false e = ih

pub count_length : (p : ℕ → Bool) (xs : List ℕ) → count p xs ≤ length xs
count_length p [] = omega arith
count_length p (x ∷ xs) = go (count_length p xs) (p x)
  where
    go : count p xs ≤ length xs → (b : Bool) → cond b (suc (count p xs)) (count p xs) ≤ suc (length xs)
    go ih true = omega arith
    go ih false = omega arith

pub count_zero : (p : ℕ → Bool) (xs : List ℕ) → ((u : ℕ) → Among u xs → p u ≡ false) → count p xs ≡ 0
count_zero p [] f = refl
count_zero p (x ∷ xs) f =
    ap (λ b. cond b (suc (count p xs)) (count p xs)) (f x (inl refl)) ∙ count_zero p xs (λ u m. f u (inr m))

pub count_some : (p : ℕ → Bool) (xs : List ℕ) (u : ℕ) → Among u xs → p u ≡ true → 1 ≤ count p xs
count_some p xs u m e =
    let x : suc (count (λ z. false) xs) ≤ count p xs =
    count_lt p (λ z. false) xs (λ v a k. not_both k refl) u m e refl in
    omega arith

-- Taking one out.
pub taken_length : (t : ℕ) (xs ys : List ℕ) → Taken t xs ys → length xs ≡ suc (length ys)
taken_length t xs ys here = refl
taken_length t xs ys (there {xs = xs'} {ys = ys'} k) = ap suc (taken_length t xs' ys' k)

pub taken_other : (t : ℕ) (xs ys : List ℕ) → Taken t xs ys → (u : ℕ) → Among u xs → ¬ (u ≡ t) → Among u ys
taken_other t xs ys here u (inl e) d = absurd (d e)
taken_other t xs ys here u (inr m) d = m
taken_other t xs ys (there {xs = xs'} {ys = ys'} k) u (inl e) d = inl e
taken_other t xs ys (there {xs = xs'} {ys = ys'} k) u (inr m) d = inr (taken_other t xs' ys' k u m d)

take_out : (t : ℕ) (xs : List ℕ) → Among t xs → (ys : List ℕ) × Taken t xs ys
take_out t [] m = absurd m
take_out t (x ∷ xs) (inl e) = (xs, subst (λ z. Taken t (z ∷ xs) xs) e here)
take_out t (x ∷ xs) (inr m) = let r = take_out t xs m in (x ∷ r.0, there r.1)

-- An ascending list within another is no longer.
pub within : (xs ys : List ℕ) → Ascending xs → ((u : ℕ) → Among u xs → Among u ys) → length xs ≤ length ys
within [] ys a f = omega arith
within (x ∷ xs) ys a f =
    let r = take_out x ys (f x (inl refl)) in
    let n : length ys ≡ suc (length r.0) = taken_length x ys r.0 r.1 in
    let k : length xs ≤ length r.0 =
    within xs r.0 a.1
    (λ u m. taken_other x ys r.0 r.1 u (f u (inr m)) (λ e. let z : x < u = a.0 u m in omega arith)) in
    omega arith

-- Due positions.
pub due_skip :
    (due : ℕ → Bool) (k a m n b : ℕ) → n ≡ k + m → b ≡ a + k → ((u : ℕ) → a ≤ u → u < b → due u ≡ false)
    → how_many due a n ≡ how_many due b m
due_skip due zero a m n b en eb none = ap₂ (how_many due) (omega arith) (omega arith)
due_skip due (suc k) a m zero b en eb none = let z : ⊥ = omega arith in absurd z
due_skip due (suc k) a m (suc n) b en eb none =
    ap (λ c. cond c (suc (how_many due (suc a) n)) (how_many due (suc a) n)) (none a (omega arith) (omega arith))
    ∙ due_skip due k (suc a) m n b (omega arith) (omega arith) (λ u lo hi. none u (omega arith) hi)

pub due_one : (due : ℕ → Bool) (a m n : ℕ) → n ≡ suc m → due a ≡ true → how_many due a n ≡ suc (how_many due (suc a) m)
due_one due a m n e d =
    ap (how_many due a) e ∙ ap (λ c. cond c (suc (how_many due (suc a) m)) (how_many due (suc a) m)) d

pub due_none : (due : ℕ → Bool) (n a : ℕ) → how_many due a n ≡ 0 → (u : ℕ) → a ≤ u → u < a + n → due u ≡ false
due_none due zero a e u lo hi = let z : ⊥ = omega arith in absurd z
due_none due (suc n) a e u lo hi = go (due a) refl e (ℕ_discrete u a) (λ k. due_none due n (suc a) k u)
  where
    go :
        (b : Bool) → due a ≡ b → cond b (suc (how_many due (suc a) n)) (how_many due (suc a) n) ≡ 0 → Dec (u ≡ a)
        → (how_many due (suc a) n ≡ 0 → suc a ≤ u → u < suc a + n → due u ≡ false) → due u ≡ false
    go true eb k d ih = let z : ⊥ = omega arith in absurd z
    go false eb k (yes q) ih = ap due q ∙ eb
    go false eb k (no q) ih = ih k (omega arith) (omega arith)

pub how_many_split :
    (p : ℕ → Bool) (k a m n b : ℕ) → n ≡ k + m → b ≡ a + k → how_many p a n ≡ how_many p a k + how_many p b m
how_many_split p zero a m n b en eb =
    let x : how_many p a n ≡ how_many p b m = ap₂ (how_many p) (omega arith) (omega arith) in omega arith
how_many_split p (suc k) a m zero b en eb = let z : ⊥ = omega arith in absurd z
how_many_split p (suc k) a m (suc n) b en eb = go (p a) (how_many_split p k (suc a) m n b (omega arith) (omega arith))
  where
    go :
        (c : Bool) → how_many p (suc a) n ≡ how_many p (suc a) k + how_many p b m
        → cond c (suc (how_many p (suc a) n)) (how_many p (suc a) n) ≡ cond c (suc (how_many p (suc a) k))
        (how_many p (suc a) k) + how_many p b m
    go true ih = omega arith
    go false ih = ih
