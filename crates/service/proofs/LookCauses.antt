-- The readings and looks that have a cause.
use Rattle.std.proofs.Common.{◌≡◌, refl, sym, ap, ap₂, ◌∙◌, subst, inl, inr, Bool, true, false, cond, ℕ, zero, suc, ◌+◌, ◌-◌, ◌≤◌, ◌<◌, min, arith, length, ltb}
use Rattle.service.proofs.Calls.{HasOutcome, looks}
use Rattle.service.proofs.Tests.{lt_of, ge_of, lt_true, lt_false, le_true, le_false, on_true, on_false, either}
use Rattle.service.specs.Causes.{ReadingCause, reading_13, reading, LookingCause, looking_18, looking_19, looking_due, looking_level, looking_spent}
use Rattle.service.specs.Events.{Event}
use Rattle.service.specs.Outcomes.{Outcome, reading_outcome, before_due, look_due, look_result, look_over, look_with, look_outcome}
use Rattle.service.specs.Setting.{Setting, due_at}
use Rattle.service.specs.Table.{tickets_of}
use Rattle.service.specs.World.{DueSlip, no_due_slip, due_slip_out, World, past_horizon}
use Rattle.time.specs.Limits.{first_minute, last_minute}

pub reading_at :
    (σ : Setting) (w : World) (m : ℕ) → ReadingCause σ w m (reading_outcome w m).0 (reading_outcome w m).1
reading_at σ w m =
    either P (ltb m first_minute) _ _ (λ e. reading_13 (inl (lt_of m first_minute e)))
    (λ e.
    either P (ltb last_minute m) _ _ (λ f. reading_13 (inr (lt_of last_minute m f)))
    (λ f. reading (ge_of m first_minute e) (ge_of last_minute m f)))
  where
    P : Outcome → Type 0
    P o = ReadingCause σ w m o.0 o.1

pub reading_of :
    (σ : Setting) (w : World) (m : ℕ) (e : Event) (v : World) → ReadingCause σ w m e v
    → (e, v) ≡ reading_outcome w m
reading_of σ w m e v (reading_13 (inl lo)) = on_true _ _ (lt_true m first_minute lo)
reading_of σ w m e v (reading_13 (inr hi)) =
    on_true _ _ (lt_true last_minute m hi) ∙ on_false _ _ (lt_false m first_minute (omega arith))
reading_of σ w m e v (reading lo hi) =
    on_false _ _ (lt_false last_minute m hi) ∙ on_false _ _ (lt_false m first_minute lo)

before_first :
    (p : ℕ → Bool) (n a k : ℕ) → k < n → ((u : ℕ) → a ≤ u → u < a + k → p u ≡ false) → p (a + k) ≡ true
    → before_due p a n ≡ k
before_first p zero a k lt none d = let z : ⊥ = omega arith in absurd z
before_first p (suc n) a zero lt none d =
    ap (λ b. cond b zero (suc (before_due p (suc a) n))) (ap p (let z : a ≡ a + 0 = omega arith in z) ∙ d)
before_first p (suc n) a (suc k) lt none d =
    ap (λ b. cond b zero (suc (before_due p (suc a) n))) (none a (omega arith) (omega arith))
    ∙ ap suc
    (before_first p n (suc a) k (omega arith) (λ u lo hi. none u (omega arith) (omega arith))
    (ap p (let z : suc a + k ≡ a + suc k = omega arith in z) ∙ d))

before_none : (p : ℕ → Bool) (n a : ℕ) → ((u : ℕ) → a ≤ u → u < a + n → p u ≡ false) → before_due p a n ≡ n
before_none p zero a none = refl
before_none p (suc n) a none =
    ap (λ b. cond b zero (suc (before_due p (suc a) n))) (none a (omega arith) (omega arith))
    ∙ ap suc (before_none p n (suc a) (λ u lo hi. none u (omega arith) (omega arith)))

-- The look of an engine with no due slip out and a place in the table.
look_starts :
    (σ : Setting) (w : World) (n : ℕ) → w.slip ≡ no_due_slip → length (tickets_of w.table) < 16
    → min 4096 (past_horizon w - w.next) ≡ n → look_over σ w n ≡ look_outcome σ w
look_starts σ w n s f e =
    ap (look_over σ w) (sym e)
    ∙ on_false _ _ (le_false 16 (length (tickets_of w.table)) f) ∙ sym (ap (look_with σ w) s)

pub look_of : (σ : Setting) (w : World) (e : Event) (v : World) → LookingCause σ w e v → (e, v) ≡ look_outcome σ w
look_of σ w e v (looking_18 t s) = sym (ap (look_with σ w) s)
look_of σ w e v (looking_19 s f) =
    on_true _ _ (le_true 16 (length (tickets_of w.table)) f) ∙ sym (ap (look_with σ w) s)
look_of σ w e v (looking_due t s f lo hi near d none) =
    let k : ℕ = t - w.next in
    let n : ℕ = min 4096 (past_horizon w - w.next) in
    let kn : k < n = omega arith in
    let back : w.next + k ≡ t = omega arith in
    let ek : before_due (due_at σ) w.next n ≡ k =
    before_first (due_at σ) n w.next k kn (λ u x y. none u x (omega arith)) (ap (due_at σ) back ∙ d) in
    let ec : suc t - w.next ≡ suc k = omega arith in
    ap₂ (look_due w) ec (sym back)
    ∙ on_true _ _ (lt_true k n kn) ∙ ap (look_result w n) (sym ek) ∙ look_starts σ w n s f refl
look_of σ w e v (looking_level s f near none) =
    let n : ℕ = past_horizon w - w.next in
    let en : min 4096 n ≡ n = omega arith in
    let ek : before_due (due_at σ) w.next n ≡ n =
    before_none (due_at σ) n w.next (λ u x y. none u x (omega arith)) in
    on_true _ _ (le_true (past_horizon w) (w.next + n) (omega arith))
    ∙ on_false _ _ (lt_false n n (omega arith)) ∙ ap (look_result w n) (sym ek) ∙ look_starts σ w n s f en
look_of σ w e v (looking_spent s f hi none) =
    let en : min 4096 (past_horizon w - w.next) ≡ 4096 = omega arith in
    let ek : before_due (due_at σ) w.next 4096 ≡ 4096 = before_none (due_at σ) 4096 w.next none in
    on_false _ _ (le_false (past_horizon w) (w.next + 4096) (omega arith))
    ∙ ap (look_result w 4096) (sym ek) ∙ look_starts σ w 4096 s f en

pub look_at : (σ : Setting) (w : World) → LookingCause σ w (look_outcome σ w).0 (look_outcome σ w).1
look_at σ w = made (by w.slip refl)
  where
    by : (s : DueSlip) → w.slip ≡ s → HasOutcome (LookingCause σ) w
    by no_due_slip e = looks σ w e
    by (due_slip_out t) e = (_, (_, looking_18 t e))

    made : HasOutcome (LookingCause σ) w → LookingCause σ w (look_outcome σ w).0 (look_outcome σ w).1
    made r = subst (λ (o : Outcome). LookingCause σ w o.0 o.1) (look_of σ w r.0 r.1.0 r.1.1) r.1.1
