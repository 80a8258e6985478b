-- What more is kept: the horizon, the launcher, the finish slip, and the tickets open at the last restart.
use Rattle.std.proofs.Common.{◌≡◌, refl, sym, ap, ◌∙◌, subst, ◌⊎◌, inl, inr, List, [], ◌∷◌, ◌++◌, ℕ, suc, ◌≤◌, length}
use Rattle.std.proofs.Math.Decide.{ℕ_discrete}
use Rattle.disk.specs.Contents.{Among}
use Rattle.journal_model.specs.Positions.{minute_of}
use Rattle.page.specs.Sound.{SoundEnding}
use Rattle.service.proofs.Invariant.{stage_number}
use Rattle.service.proofs.Table.{put, put_same, put_other}
use Rattle.service.specs.Events.{History}
use Rattle.service.specs.Histories.{LaunchedSince, open_at_restart, greatest_reading}
use Rattle.service.specs.Lists.{Taken, here, there}
use Rattle.service.specs.Setting.{Setting}
use Rattle.service.specs.Table.{Stage, logged, running, finished, tickets_of, stage_of}
use Rattle.service.specs.World.{DueSlip, no_due_slip, due_slip_out, FinishSlip, no_finish_slip, finish_slip_out, finish_slip_handed_back, Run, Capacity, World}

-- a due slip that is out is of a minute within z
abbrev pub SlipNear : ℕ → DueSlip → Type 0
SlipNear z no_due_slip = Unit {0}
SlipNear z (due_slip_out t) = minute_of t ≤ z

-- the finish slip, out or handed back, names u
abbrev pub Names : FinishSlip → ℕ → Type 0
Names no_finish_slip u = ⊥
Names (finish_slip_out t c) u = u ≡ t
Names (finish_slip_handed_back t c) u = u ≡ t

-- the finish slip can be written into a page
abbrev pub FinishSound : FinishSlip → Type 0
FinishSound no_finish_slip = Unit {0}
FinishSound (finish_slip_out t c) = SoundEnding c
FinishSound (finish_slip_handed_back t c) = SoundEnding c

-- The tickets of the runs that the launcher holds.
abbrev pub run_tickets : List Run → List ℕ
run_tickets [] = []
run_tickets (r ∷ rs) = r.ticket ∷ run_tickets rs

pub runs_snoc : (rs : List Run) (r : Run) → run_tickets (rs ++ (r ∷ [])) ≡ run_tickets rs ++ (r.ticket ∷ [])
runs_snoc [] r = refl
runs_snoc (x ∷ xs) r = ap (λ z. x.ticket ∷ z) (runs_snoc xs r)

pub runs_length : (rs : List Run) → length (run_tickets rs) ≡ length rs
runs_length [] = refl
runs_length (x ∷ xs) = ap suc (runs_length xs)

pub runs_taken : (r : Run) (xs ys : List Run) → Taken r xs ys → Taken r.ticket (run_tickets xs) (run_tickets ys)
runs_taken r xs ys here = here
runs_taken r xs ys (there {xs = xs'} {ys = ys'} k) = there (runs_taken r xs' ys' k)

-- C: launched since the last restart; O: the tickets open at it; z: the greatest reading. The horizon is that reading;
-- what runs is held; the launcher is not overfull; what is finished is named by the finish slip; and what was open at
-- the last restart was launched since, or is logged.
pub record More
    (σ : Setting) (C : ℕ → Type 0) (O : List ℕ) (z : ℕ) (ts : List ℕ) (g : ℕ → Stage) (held : List ℕ) (cap : ℕ)
    (horizon : ℕ) (slip : DueSlip) (fin : FinishSlip) : Type 0 where
  pub same_horizon : z ≡ horizon
  pub slip_near : SlipNear horizon slip
  pub running_held : (u : ℕ) → Among u ts → g u ≡ running → Among u held
  pub fits : length held ≤ cap
  pub capable : Capacity cap
  pub sound : FinishSound fin
  pub finished_named : (u : ℕ) → Among u ts → g u ≡ finished → Names fin u
  pub reopened : (u : ℕ) → Among u O → C u ⊎ (Among u ts × (g u ≡ logged))

abbrev pub MoreAt : Setting → History → World → Type 0
MoreAt σ h w =
    More σ (λ u. LaunchedSince u h) (open_at_restart h) (greatest_reading h) (tickets_of w.table)
    (stage_of w.table) (run_tickets w.launcher.held) w.launcher.capacity w.horizon w.slip
    w.finish

-- A stage other than the one put was there before, of another ticket.
pub put_back :
    (t : ℕ) (s : Stage) (g : ℕ → Stage) (u : ℕ) (r : Stage) → ¬ (stage_number s ≡ stage_number r) → put t s g u ≡ r
    → (g u ≡ r) × (¬ (u ≡ t))
put_back t s g u r d e = go (ℕ_discrete u t)
  where
    go : Dec (u ≡ t) → (g u ≡ r) × (¬ (u ≡ t))
    go (yes q) = absurd (d (ap stage_number (sym (put_same t s g u q) ∙ e)))
    go (no q) = (sym (put_other t s g u q) ∙ e, q)

-- Only the stages of the table's tickets count.
pub more_cong :
    {σ : Setting} {C : ℕ → Type 0} {O : List ℕ} {z : ℕ} {ts ts' : List ℕ} {g g' : ℕ → Stage} {held : List ℕ}
    {cap horizon : ℕ} {slip : DueSlip} {fin : FinishSlip}
    → ts' ≡ ts → ((u : ℕ) → Among u ts → g' u ≡ g u) → More σ C O z ts g held cap horizon slip fin
    → More σ C O z ts' g' held cap horizon slip fin
more_cong {σ} {C} {O} {z} {ts} {ts'} {g} {g'} {held} {cap} {horizon} {slip} {fin} e eq i =
    let P : List ℕ → Type 0 = λ xs. More σ C O z xs g' held cap horizon slip fin in
    subst P (sym e) (record {
      same_horizon = i.same_horizon;
      slip_near = i.slip_near;
      running_held = λ u m r. i.running_held u m (sym (eq u m) ∙ r);
      fits = i.fits;
      capable = i.capable;
      sound = i.sound;
      finished_named = λ u m r. i.finished_named u m (sym (eq u m) ∙ r);
      reopened = λ u m. elim (i.reopened u m) [ inl c ↦ inl c | inr q ↦ inr (q.0, eq u q.0 ∙ q.1) ];
    })

pub more_put :
    (ts : List ℕ) (g : ℕ → Stage) (C : ℕ → Type 0) (t : ℕ) (s : Stage) → ¬ (g t ≡ logged) → (u : ℕ)
    → C u ⊎ (Among u ts × (g u ≡ logged)) → C u ⊎ (Among u ts × (put t s g u ≡ logged))
more_put ts g C t s d u (inl c) = inl c
more_put ts g C t s d u (inr m) = inr (m.0, put_other t s g u (λ e. d (ap g (sym e) ∙ m.1)) ∙ m.1)
