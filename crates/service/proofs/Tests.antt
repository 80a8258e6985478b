-- Tests, and slips and flights that differ.
use Rattle.std.proofs.Common.{◌≡◌, refl, sym, ap, subst, inl, inr, Bool, true, false, cond, not, ℕ, ◌≤◌, ◌<◌, arith, leb, ltb, T, ltb→lt, nltb→le, lt→ltb, leb→le, le→leb}
use Rattle.std.proofs.Math.Dec.{nleb→lt}
use Rattle.journal_model.specs.Pages.{Page}
use Rattle.journal_model.specs.Runs.{Flight, none_in_flight, in_flight}
use Rattle.page.specs.declared.head.Ending.{Ending}
use Rattle.service.proofs.Lists.{either_way}
use Rattle.service.specs.World.{DueSlip, no_due_slip, due_slip_out, FinishSlip, no_finish_slip, finish_slip_out, finish_slip_handed_back}

truth : (b : Bool) → T b → b ≡ true
truth true t = refl
truth false t = absurd t

pub lt_of : (m n : ℕ) → ltb m n ≡ true → m < n
lt_of m n e = ltb→lt m n (subst T (sym e) tt)

pub ge_of : (m n : ℕ) → ltb m n ≡ false → n ≤ m
ge_of m n e = nltb→le m n (subst (λ b. T (not b)) (sym e) tt)

pub lt_true : (m n : ℕ) → m < n → ltb m n ≡ true
lt_true m n h = truth (ltb m n) (lt→ltb m n h)

pub lt_false : (m n : ℕ) → n ≤ m → ltb m n ≡ false
lt_false m n h =
    elim (either_way (ltb m n)) [
      | inl e ↦ (let z : m < n = lt_of m n e in let k : ⊥ = omega arith in absurd k)
      | inr e ↦ e
    ]

pub le_of : (m n : ℕ) → leb m n ≡ true → m ≤ n
le_of m n e = leb→le m n (subst T (sym e) tt)

pub gt_of : (m n : ℕ) → leb m n ≡ false → n < m
gt_of m n e = nleb→lt m n (subst (λ b. T (not b)) (sym e) tt)

pub le_true : (m n : ℕ) → m ≤ n → leb m n ≡ true
le_true m n h = truth (leb m n) (le→leb m n h)

pub le_false : (m n : ℕ) → n < m → leb m n ≡ false
le_false m n h =
    elim (either_way (leb m n)) [
      | inl e ↦ (let z : m ≤ n = le_of m n e in let k : ⊥ = omega arith in absurd k)
      | inr e ↦ e
    ]

pub on_true : {A : Type 0} {b : Bool} (x y : A) → b ≡ true → x ≡ cond b x y
on_true x y e = sym (ap (λ z. cond z x y) e)

pub on_false : {A : Type 0} {b : Bool} (x y : A) → b ≡ false → y ≡ cond b x y
on_false x y e = sym (ap (λ z. cond z x y) e)

-- What holds of both outcomes of a test holds of the outcome.
pub either : {A : Type 0} (P : A → Type 0) (b : Bool) (x y : A) → (b ≡ true → P x) → (b ≡ false → P y) → P (cond b x y)
either P true x y f g = f refl
either P false x y f g = g refl

-- Telling slips and flights apart.
pub no_clash : (x : DueSlip) (t : ℕ) → x ≡ no_due_slip → ¬ (x ≡ due_slip_out t)
no_clash x t p q = let z : ◌≡◌ {A = ℕ} 0 1 = cc in omega arith

pub same_due : (x : DueSlip) (t u : ℕ) → x ≡ due_slip_out u → x ≡ due_slip_out t → u ≡ t
same_due x t u p q = cc

pub flight_clash : (f : Flight) (p : Page) → f ≡ in_flight p → ¬ (f ≡ none_in_flight)
flight_clash f p a b = let z : ◌≡◌ {A = ℕ} 0 1 = cc in omega arith

pub none_clash : (x : FinishSlip) (t : ℕ) (c : Ending) → x ≡ no_finish_slip → ¬ (x ≡ finish_slip_out t c)
none_clash x t c p q = let z : ◌≡◌ {A = ℕ} 0 1 = cc in omega arith

pub back_clash :
    (x : FinishSlip) (t u : ℕ) (b c : Ending) → x ≡ finish_slip_handed_back u b → ¬ (x ≡ finish_slip_out t c)
back_clash x t u b c p q = let z : ◌≡◌ {A = ℕ} 0 1 = cc in omega arith

pub same_finish : (x : FinishSlip) (t u : ℕ) (b c : Ending) → x ≡ finish_slip_out u b → x ≡ finish_slip_out t c → u ≡ t
same_finish x t u b c p q = cc
