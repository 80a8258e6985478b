-- What the answers of the calls say: a wrong engine is no service. One that refuses what is valid, whose looks end
-- early or make up their count, or whose launches go past the launcher, has answers that these facts exclude.
use Rattle.std.specs.Prelude.{◌≡◌, [], ◌∷◌, ◌++◌, true, ℕ, suc, ◌+◌, ◌-◌, ◌≤◌, ◌<◌, length}
use Rattle.journal_model.specs.Positions.{minute_of}
use Rattle.page.specs.declared.head.Ending.{Ending}
use Rattle.service.specs.After.{start_page, done_page, run_of}
use Rattle.service.specs.Calls.{Reading, Looking, Logging, Launching, Settling, HandingBack}
use Rattle.service.specs.Events.{gives_slip, level, spent, Asked, Beside, looked, handed_back, rejected, Event, was_read, was_logged, launched, settled, replied}
use Rattle.service.specs.Limits.{most_examined}
use Rattle.service.specs.Outcomes.{LogWrites, SettleWrites}
use Rattle.service.specs.Service.{Call}
use Rattle.service.specs.Setting.{Setting, due_at, NoneDue}
use Rattle.service.specs.Table.{logged, HasStage}
use Rattle.service.specs.World.{due_slip_out, due_slip, finish_slip, Run, World, past_horizon, FinishOut}
use Rattle.time.specs.Limits.{first_minute, last_minute}

-- What is valid is taken: a reading within the range, and a log, a settle or a hand-back of a slip that is out.
pub record ValidTaken (σ : Setting) (w : World) : Type 0 where
  pub reading_taken :
      (m : ℕ) (e : Event) (v : World) → Reading σ w m e v → first_minute ≤ m → m ≤ last_minute → e ≡ was_read m
  pub log_taken :
      (t : ℕ) (e : Event) (v : World) → Logging σ w t e v → LogWrites w t
      → e ≡ was_logged (suc w.newest) t (start_page w t)
  pub settle_taken :
      (t : ℕ) (c : Ending) (e : Event) (v : World) → Settling σ w t c e v → SettleWrites w t
      → e ≡ settled (suc w.newest) t c (done_page w t c)
  pub due_slip_taken :
      (t : ℕ) (e : Event) (v : World) → HandingBack σ w (due_slip t) e v → w.slip ≡ due_slip_out t
      → e ≡ replied (handed_back (due_slip t))
  pub finish_slip_taken :
      (t : ℕ) (c : Ending) (e : Event) (v : World) → HandingBack σ w (finish_slip t c) e v → FinishOut w t
      → e ≡ replied (handed_back (finish_slip t c))

-- A look that says spent has examined 4,096 positions, none of them due, and the next is within the horizon.
pub record Spent (σ : Setting) (w v : World) (examined : ℕ) : Type 0 where
  pub all_examined : examined ≡ most_examined
  pub moved_past : v.next ≡ w.next + examined
  pub none_due : NoneDue σ w.next v.next
  pub within : minute_of v.next ≤ w.horizon

-- A look that says level has examined all that is left within the horizon, and none of it is due.
pub record Level (σ : Setting) (w v : World) (examined : ℕ) : Type 0 where
  pub not_too_many : examined ≤ most_examined
  pub all_left : examined ≡ past_horizon w - w.next
  pub none_due : NoneDue σ w.next v.next
  pub past : w.horizon < minute_of v.next

-- A look that gives a slip stands at the first due position, which is within the horizon; it is counted too.
pub record SlipGiven (σ : Setting) (w v : World) (examined t : ℕ) : Type 0 where
  pub not_too_many : examined ≤ most_examined
  pub counted : w.next + examined ≡ suc t
  pub is_due : due_at σ t ≡ true
  pub none_due : NoneDue σ w.next t
  pub within : minute_of t ≤ w.horizon
  pub stands : v.next ≡ t
  pub is_out : v.slip ≡ due_slip_out t

pub record LooksRight (σ : Setting) (w v : World) (e : Event) : Type 0 where
  pub spent_right : (n : ℕ) → e ≡ replied (looked n spent) → Spent σ w v n
  pub level_right : (n : ℕ) → e ≡ replied (looked n level) → Level σ w v n
  pub slip_right : (n t : ℕ) → e ≡ replied (looked n (gives_slip t)) → SlipGiven σ w v n t

-- A launch is of a logged ticket with its line's command, and the launcher had a place and now holds it.
pub record LaunchesRight (σ : Setting) (w v : World) (r : Run) : Type 0 where
  pub had_place : length w.launcher.held < w.launcher.capacity
  pub was_ready : HasStage w.table r.ticket logged
  pub own_command : r ≡ run_of σ r.ticket
  pub now_held : v.launcher.held ≡ w.launcher.held ++ (r ∷ [])

pub record AnswersRight (σ : Setting) (w : World) : Type 0 where
  pub valid : ValidTaken σ w
  pub looks : (e : Event) (v : World) → Looking σ w e v → LooksRight σ w v e
  pub launches : (v : World) (e : Event) → Launching σ w e v → (r : Run) → e ≡ launched r → LaunchesRight σ w v r
  -- a launch is rejected only with a full list
  pub full_only :
      (v : World) (e : Event) → Launching σ w e v → (a : Asked) (n : ℕ) (b : Beside) → e ≡ replied (rejected a n b)
      → w.launcher.capacity ≤ length w.launcher.held
  -- a rejection alters nothing, whichever call it is of
  pub unaltered :
      (e : Event) (v : World) → Call σ w e v → (a : Asked) (n : ℕ) (b : Beside) → e ≡ replied (rejected a n b) → v ≡ w

abbrev pub RightAnswers : Type 0
RightAnswers = (σ : Setting) (w : World) → AnswersRight σ w
