-- Each call has an outcome.
use Rattle.std.proofs.Common.{◌≡◌, refl, sym, ap, ◌∙◌, ◌⊎◌, inl, inr, List, [], ◌∷◌, Bool, true, false, ℕ, zero, suc, ◌+◌, ◌-◌, ◌≤◌, ◌<◌, arith, length}
use Rattle.std.proofs.Math.Decide.{ℕ_discrete, dec_lt, dec_le}
use Rattle.disk.specs.Contents.{Among}
use Rattle.journal_model.specs.Pages.{Page}
use Rattle.journal_model.specs.Runs.{Flight, none_in_flight, in_flight}
use Rattle.service.proofs.Invariant.{stages_differ}
use Rattle.service.specs.Causes.{LookingCause, looking_19, looking_due, looking_level, looking_spent, LaunchingCause, launching_none, launching_23, launching}
use Rattle.service.specs.Events.{Event}
use Rattle.service.specs.Setting.{Setting, due_at, NoneDue}
use Rattle.service.specs.Table.{Stage, written, logged, running, finished, closing, tickets_of, stage_of}
use Rattle.service.specs.World.{DueSlip, no_due_slip, due_slip_out, World, past_horizon}

abbrev pub HasOutcome : (World → Event → World → Type 0) → World → Type 0
HasOutcome R w = (e : Event) × ((v : World) × R w e v)

-- The look goes on from a with n positions to the horizon.
scan :
    (σ : Setting) (w : World) → w.slip ≡ no_due_slip → length (tickets_of w.table) < 16 → (n a : ℕ)
    → w.next ≤ a → a + n ≡ past_horizon w → NoneDue σ w.next a → a ≤ w.next + 4096
    → HasOutcome (LookingCause σ) w
scan σ w s f zero a lo e none t = (_, (_, looking_level s f (omega arith) (λ u p q. none u p (omega arith))))
scan σ w s f (suc n) a lo e none t =
    go (due_at σ a) refl (ℕ_discrete a (w.next + 4096))
    (λ dn tn. scan σ w s f n (suc a) (omega arith) (omega arith) (further dn) tn)
  where
    further : due_at σ a ≡ false → NoneDue σ w.next (suc a)
    further d u p q = elim (ℕ_discrete u a) [ yes k ↦ ap (due_at σ) k ∙ d | no k ↦ none u p (omega arith) ]

    go :
        (d : Bool) → due_at σ a ≡ d → Dec (a ≡ w.next + 4096)
        → (due_at σ a ≡ false → suc a ≤ w.next + 4096 → HasOutcome (LookingCause σ) w)
        → HasOutcome (LookingCause σ) w
    go d k (yes q) more = (_, (_, looking_spent s f (omega arith) (λ u x y. none u x (omega arith))))
    go true k (no q) more = (_, (_, looking_due a s f lo (omega arith) (omega arith) k none))
    go false k (no q) more = more k (omega arith)

pub looks : (σ : Setting) (w : World) → w.slip ≡ no_due_slip → HasOutcome (LookingCause σ) w
looks σ w s = go (dec_lt (length (tickets_of w.table)) 16) (dec_le w.next (past_horizon w))
  where
    go : Dec (length (tickets_of w.table) < 16) → Dec (w.next ≤ past_horizon w) → HasOutcome (LookingCause σ) w
    go (no k) q = (_, (_, looking_19 s (omega arith)))
    go (yes k) (yes q) =
        scan σ w s k (past_horizon w - w.next) w.next (omega arith) (omega arith)
        (λ u a b. let z : ⊥ = omega arith in absurd z) (omega arith)
    go (yes k) (no q) = (_, (_, looking_level s k (omega arith) (λ u a b. let z : ⊥ = omega arith in absurd z)))

pub slips : (s : DueSlip) → (s ≡ no_due_slip) ⊎ ((t : ℕ) × (s ≡ due_slip_out t))
slips no_due_slip = inl refl
slips (due_slip_out t) = inr (t, refl)

pub flights : (f : Flight) → (f ≡ none_in_flight) ⊎ ((p : Page) × (f ≡ in_flight p))
flights none_in_flight = inl refl
flights (in_flight p) = inr (p, refl)

pub logged? : (s : Stage) → Dec (s ≡ logged)
logged? written = no (λ e. stages_differ written refl e (omega arith))
logged? logged = yes refl
logged? running = no (λ e. stages_differ running refl e (omega arith))
logged? finished = no (λ e. stages_differ finished refl e (omega arith))
logged? closing = no (λ e. stages_differ closing refl e (omega arith))

abbrev Least : (ℕ → Stage) → List ℕ → ℕ → Type 0
Least g xs t = Among t xs × (g t ≡ logged) × ((u : ℕ) → Among u xs → g u ≡ logged → t ≤ u)

least : (g : ℕ → Stage) (xs : List ℕ) → ((t : ℕ) × Least g xs t) ⊎ ((u : ℕ) → Among u xs → ¬ (g u ≡ logged))
least g [] = inr (λ u m. absurd m)
least g (x ∷ xs) = go (least g xs) (logged? (g x))
  where
    join : (u : ℕ) (A : Type 0) → (u ≡ x → A) → (Among u xs → A) → Among u (x ∷ xs) → A
    join u A a b (inl e) = a e
    join u A a b (inr m) = b m

    go :
        ((t : ℕ) × Least g xs t) ⊎ ((u : ℕ) → Among u xs → ¬ (g u ≡ logged)) → Dec (g x ≡ logged)
        → ((t : ℕ) × Least g (x ∷ xs) t) ⊎ ((u : ℕ) → Among u (x ∷ xs) → ¬ (g u ≡ logged))
    go (inr n) (no d) = inr (λ u m k. join u ⊥ (λ e. d (ap g (sym e) ∙ k)) (λ a. n u a k) m)
    go (inr n) (yes d) = inl (x, (inl refl, d, λ u m k. join u (x ≤ u) (λ e. omega arith) (λ a. absurd (n u a k)) m))
    go (inl r) (no d) =
        inl (
          r.0,
          (
            inr r.1.0,
            r.1.1,
            λ u m k. join u (r.0 ≤ u) (λ e. absurd (d (ap g (sym e) ∙ k))) (λ a. r.1.2 u a k) m,
          ),
        )
    go (inl r) (yes d) =
        elim (dec_le x r.0) [
          | yes q ↦
              inl (
                x,
                (
                  inl refl,
                  d,
                  λ u m k.
                      join u (x ≤ u) (λ e. omega arith) (λ a. let z : r.0 ≤ u = r.1.2 u a k in omega arith) m,
                ),
              )
          | no q ↦
              inl
              (r.0, (inr r.1.0, r.1.1, λ u m k. join u (r.0 ≤ u) (λ e. omega arith) (λ a. r.1.2 u a k) m))
        ]

pub launches : (σ : Setting) (w : World) → HasOutcome (LaunchingCause σ) w
launches σ w =
    go (least (stage_of w.table) (tickets_of w.table))
    (dec_lt (length w.launcher.held) w.launcher.capacity)
  where
    go :
        ((t : ℕ) × Least (stage_of w.table) (tickets_of w.table) t)
        ⊎ ((u : ℕ) → Among u (tickets_of w.table) → ¬ (stage_of w.table u ≡ logged))
        → Dec (length w.launcher.held < w.launcher.capacity) → HasOutcome (LaunchingCause σ) w
    go (inr n) c = (_, (_, launching_none (λ u m. n u m.0 m.1)))
    go (inl r) (yes c) = (
      _,
      (
        _,
        launching r.0 (record { is_logged = (r.1.0, r.1.1); first = λ u m. r.1.2 u m.0 m.1 }) c,
      ),
    )
    go (inl r) (no c) = (
      _,
      (
        _,
        launching_23 r.0 (record { is_logged = (r.1.0, r.1.1); first = λ u m. r.1.2 u m.0 m.1 })
            (omega arith),
      ),
    )
