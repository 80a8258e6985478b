-- Positions that are passed because none of them is due.
use Rattle.std.proofs.Common.{◌≡◌, ℕ, zero, suc, ◌+◌, ◌-◌, ◌/◌, ◌%◌, ◌<◌, Bool, true, false, cond, List, ℤ, sym, ap, ◌∙◌, subst, add-zero, suc-add, zero-add, arith}
use Rattle.crontab.specs.declared.job.Job.{Job}
use Rattle.look.specs.Examined.{due_of}
use Rattle.schedule.specs.Due.{line_due}
use Rattle.service.specs.Outcomes.{before_due}
use Rattle.std.specs.List.{slice_get}
use Rattle.time.specs.Limits.{lines}
use Rattle.time.specs.Position.{rank_of}
use Rattle.zone.specs.Answers.{window}
use Rattle.zone.specs.declared.window.Window.{Window}

module _ (p : ℕ → Bool) where
  step_past : (a n : ℕ) → p a ≡ false → before_due p a (suc n) ≡ suc (before_due p (suc a) n)
  step_past a n e = ap (λ t. cond t zero (suc (before_due p (suc a) n))) e

  -- m positions are passed
  pub passed : (m a n : ℕ) → ((k : ℕ) → k < m → p (a + k) ≡ false) → before_due p a (m + n) ≡ m + before_due p (a + m) n
  passed zero a n none =
      ap (before_due p a) (zero-add n) ∙ ap (λ x. before_due p x n) (sym (add-zero a)) ∙ sym (zero-add (before_due p (a + zero) n))
  passed (suc m) a n none =
      ap (before_due p a) (suc-add m n)
      ∙ step_past a (m + n) (subst (λ x. p x ≡ false) (add-zero a) (none zero (omega arith)))
      ∙ ap suc (passed m (suc a) n (λ k l. subst (λ x. p x ≡ false) (shift k) (none (suc k) (omega arith))))
      ∙ ap (λ x. suc (m + before_due p x n)) (sym (shift m))
      ∙ sym (suc-add m (before_due p (a + suc m) n))
    where
      shift : (k : ℕ) → a + suc k ≡ suc a + k
      shift k = omega arith

  -- and the one after them is due
  pub stopped :
      (m a n : ℕ) → m < n → ((k : ℕ) → k < m → p (a + k) ≡ false) → p (a + m) ≡ true → before_due p a n ≡ m
  stopped m a n l none here =
      let rest : ℕ = n - suc m in
      let e : n ≡ m + suc rest = omega arith in
      ap (before_due p a) e ∙ passed m a (suc rest) none
      ∙ ap (λ t. m + cond t zero (suc (before_due p (suc (a + m)) rest))) here ∙ add-zero m

-- a line of a minute, by the rank of its position
pub due_here :
    (off : ℕ → ℤ) (js : List Job) (w : Window) (u line k a : ℕ) (b : Bool) → w ≡ window off u → line + k < lines
    → rank_of u line ≡ a → line_due w (slice_get js (line + k)) ≡ b → due_of off js (a + k) ≡ b
due_here off js w u line k a b is few at e =
    let minute : (a + k) / lines ≡ u = omega arith in
    let there : (a + k) % lines ≡ line + k = omega arith in
    ap (λ x. line_due (window off x) (slice_get js ((a + k) % lines))) minute
    ∙ ap (λ x. line_due (window off u) (slice_get js x)) there ∙ ap (λ x. line_due x (slice_get js (line + k))) (sym is) ∙ e
