-- An array that a closure fills.
use Rattle.std.proofs.Common.{◌≡◌, ℕ, zero, suc, ◌+◌, ◌<◌, ◌≤◌, List, get_or, refl, subst, ◌∙◌, arith, ⊎_elim}
use Rattle.std.specs.Array.{IsFromFnResultFrom, IsFromFnResult}
use Rattle.std.proofs.lemmas.Bool.{cases_lt}
use denote.Param.Members.{Mut, Called}

-- a closure's two captured values, each as before
pub both : {A B : Type 0} {a : A} {b : B} (q : A × B) → q.0 ≡ a → q.1 ≡ b → q ≡ (a, b)
both q x y = λ i. (x i, y i)

module _ {F B : Type 0} (g : Mut F (ℕ × Unit {0}) B) (f : F) (ys : List B) (d : B) (p : ℕ → B) where
  fills_from : ((x : ℕ) (b : B) (q : F) → Called g f (x, tt) b q → (q ≡ f) × (b ≡ p x)) →
      (i n : ℕ) (q : F) → q ≡ f → IsFromFnResultFrom g q ys i n → (k : ℕ) → i ≤ k → k < i + n → get_or ys k d ≡ p k
  fills_from calls i zero q e r k l h = absurd (omega arith)
  fills_from calls i (suc n) q e (q', y, at, call, rest) k l h =
      let kept = calls i y q' (subst (λ (s : F). Called g s (i, tt) y q') e call) in
      ⊎_elim
      (λ m. fills_from calls (i + 1) n q' kept.0 rest k (omega arith) (omega arith))
      (λ m. let same : k ≡ i = omega arith in rw same (at.1 d ∙ kept.1))
      (cases_lt i k)

  -- each call keeps what the closure captured, and answers p
  pub fills : (n : ℕ) → IsFromFnResult g f ys n → ((x : ℕ) (b : B) (q : F) → Called g f (x, tt) b q → (q ≡ f) × (b ≡ p x)) →
      (k : ℕ) → k < n → get_or ys k d ≡ p k
  fills n r calls k h = fills_from calls 0 n f refl r.each k (omega arith) (omega arith)
