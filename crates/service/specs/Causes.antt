-- The determined calls once more, cause by cause: of each answer, when it is given, in the words of the subject. That
-- these are the functions' answers, all of them and no others, is a theorem.
use Rattle.std.specs.Prelude.{◌≡◌, ◌⊎◌, true, ℕ, suc, ◌+◌, ◌-◌, ◌%◌, ◌≤◌, ◌<◌, max, length}
use Rattle.journal_model.specs.Disks.{page, Disk, Written, Synced}
use Rattle.journal_model.specs.Pages.{Page}
use Rattle.journal_model.specs.Positions.{minute_of}
use Rattle.journal_model.specs.Runs.{none_in_flight, in_flight}
use Rattle.page.specs.Limits.{last_page, most_open}
use Rattle.page.specs.declared.head.Ending.{Ending}
use Rattle.service.specs.After.{start_page, done_page, run_of, after_reading, after_look, after_log, after_sync, after_launch, after_settle, after_hand_back}
use Rattle.service.specs.Calls.{Reading, Looking, Logging, Syncing, Launching, Settling, HandingBack}
use Rattle.service.specs.Events.{gives_slip, level, spent, to_read, to_look, to_log, to_launch, to_settle, to_hand_back, nothing_beside, minute_beside, slip_beside, ticket_beside, looked, nothing_to_sync, nothing_to_launch, handed_back, rejected, Event, was_read, was_logged, was_synced, launched, settled, replied}
use Rattle.service.specs.Limits.{most_examined}
use Rattle.service.specs.Setting.{Setting, due_at, NoneDue}
use Rattle.service.specs.Table.{logged, tickets_of, HasStage}
use Rattle.service.specs.World.{no_due_slip, due_slip_out, finish_slip_handed_back, Slip, due_slip, finish_slip, World, past_horizon, FinishOut}
use Rattle.time.specs.Limits.{first_minute, last_minute}

-- the table is full
abbrev pub TableFull : World → Type 0
TableFull w = most_open ≤ length (tickets_of w.table)

abbrev pub TableHasPlace : World → Type 0
TableHasPlace w = length (tickets_of w.table) < most_open

-- t is the earliest logged ticket
pub record Earliest (w : World) (t : ℕ) : Type 0 where
  pub is_logged : HasStage w.table t logged
  pub first : (u : ℕ) → HasStage w.table u logged → t ≤ u

abbrev pub NoneLogged : World → Type 0
NoneLogged w = (u : ℕ) → ¬ (HasStage w.table u logged)

module _ (σ : Setting) where
  -- the reading of minute m
  pub data ReadingCause (w : World) (m : ℕ) : Event → World → Type 0 where
    reading_13 :
        (m < first_minute) ⊎ (last_minute < m)
        → ReadingCause w m (replied (rejected (to_read m) 13 (minute_beside m))) w
    reading : first_minute ≤ m → m ≤ last_minute → ReadingCause w m (was_read m) (after_reading w m)

  pub data LookingCause (w : World) : Event → World → Type 0 where
    looking_18 : (t : ℕ) → w.slip ≡ due_slip_out t → LookingCause w (replied (rejected to_look 18 nothing_beside)) w
    looking_19 : w.slip ≡ no_due_slip → TableFull w → LookingCause w (replied (rejected to_look 19 nothing_beside)) w
    -- t is the first due position, its minute is within the horizon, and it is at most the 4,096th position examined
    looking_due :
        (t : ℕ) → w.slip ≡ no_due_slip → TableHasPlace w
        → w.next ≤ t → minute_of t ≤ w.horizon → suc t - w.next ≤ most_examined
        → due_at σ t ≡ true → NoneDue σ w.next t
        → LookingCause w (replied (looked (suc t - w.next) (gives_slip t))) (after_look w t (due_slip_out t))
    -- at most 4,096 positions are left within the horizon, and none is due
    looking_level :
        w.slip ≡ no_due_slip → TableHasPlace w
        → past_horizon w - w.next ≤ most_examined → NoneDue σ w.next (past_horizon w)
        → LookingCause w (replied (looked (past_horizon w - w.next) level))
        (after_look w (max w.next (past_horizon w)) w.slip)
    -- of 4,096 positions none is due, and the one after them is within the horizon
    looking_spent :
        w.slip ≡ no_due_slip → TableHasPlace w
        → minute_of (w.next + most_examined) ≤ w.horizon → NoneDue σ w.next (w.next + most_examined)
        → LookingCause w (replied (looked most_examined spent)) (after_look w (w.next + most_examined) w.slip)

  -- t is the ticket of the slip that the program presents
  pub data LoggingCause (w : World) (t : ℕ) : Event → World → Type 0 where
    logging_20 :
        ¬ (w.slip ≡ due_slip_out t)
        → LoggingCause w t (replied (rejected (to_log t) 20 (slip_beside (due_slip t)))) w
    logging_21 :
        (p : Page) → w.slip ≡ due_slip_out t → w.flight ≡ in_flight p
        → LoggingCause w t (replied (rejected (to_log t) 21 (slip_beside (due_slip t)))) w
    logging_22 :
        w.slip ≡ due_slip_out t → w.flight ≡ none_in_flight → last_page ≤ w.newest
        → LoggingCause w t (replied (rejected (to_log t) 22 (slip_beside (due_slip t)))) w
    -- what the write leaves possible is open
    logging :
        (d : Disk) → w.slip ≡ due_slip_out t → w.flight ≡ none_in_flight → w.newest < last_page
        → Written w.disk (suc w.newest % σ.blocks) (page (suc w.newest) (start_page w t)) d
        → LoggingCause w t (was_logged (suc w.newest) t (start_page w t)) (after_log w t d)

  pub data SyncingCause (w : World) : Event → World → Type 0 where
    syncing_nothing : w.flight ≡ none_in_flight → SyncingCause w (replied nothing_to_sync) w
    syncing :
        (p : Page) (d : Disk) → w.flight ≡ in_flight p → Synced w.disk d
        → SyncingCause w was_synced (after_sync w d)

  pub data LaunchingCause (w : World) : Event → World → Type 0 where
    launching_none : NoneLogged w → LaunchingCause w (replied nothing_to_launch) w
    launching_23 :
        (t : ℕ) → Earliest w t → w.launcher.capacity ≤ length w.launcher.held
        → LaunchingCause w (replied (rejected to_launch 23 (ticket_beside t))) w
    launching :
        (t : ℕ) → Earliest w t → length w.launcher.held < w.launcher.capacity
        → LaunchingCause w (launched (run_of σ t)) (after_launch w (run_of σ t))

  -- t and c are the ticket and the ending of the slip that the program presents
  pub data SettlingCause (w : World) (t : ℕ) (c : Ending) : Event → World → Type 0 where
    settling_20 :
        ¬ (FinishOut w t)
        → SettlingCause w t c (replied (rejected (to_settle t c) 20 (slip_beside (finish_slip t c)))) w
    settling_21 :
        (p : Page) → FinishOut w t → w.flight ≡ in_flight p
        → SettlingCause w t c (replied (rejected (to_settle t c) 21 (slip_beside (finish_slip t c)))) w
    settling_22 :
        FinishOut w t → w.flight ≡ none_in_flight → last_page ≤ w.newest
        → SettlingCause w t c (replied (rejected (to_settle t c) 22 (slip_beside (finish_slip t c)))) w
    settling :
        (d : Disk) → FinishOut w t → w.flight ≡ none_in_flight → w.newest < last_page
        → Written w.disk (suc w.newest % σ.blocks) (page (suc w.newest) (done_page w t c)) d
        → SettlingCause w t c (settled (suc w.newest) t c (done_page w t c)) (after_settle w t c d)

  pub data HandingBackCause (w : World) : Slip → Event → World → Type 0 where
    handing_due_20 :
        (t : ℕ) → ¬ (w.slip ≡ due_slip_out t)
        → HandingBackCause w (due_slip t)
        (replied (rejected (to_hand_back (due_slip t)) 20 (slip_beside (due_slip t)))) w
    handing_finish_20 :
        (t : ℕ) (c : Ending) → ¬ (FinishOut w t)
        → HandingBackCause w (finish_slip t c)
        (replied (rejected (to_hand_back (finish_slip t c)) 20 (slip_beside (finish_slip t c)))) w
    handing_due :
        (t : ℕ) → w.slip ≡ due_slip_out t
        → HandingBackCause w (due_slip t) (replied (handed_back (due_slip t)))
        (after_hand_back w no_due_slip w.finish)
    handing_finish :
        (t : ℕ) (c : Ending) → FinishOut w t
        → HandingBackCause w (finish_slip t c) (replied (handed_back (finish_slip t c)))
        (after_hand_back w w.slip (finish_slip_handed_back t c))

-- Each call comes to exactly what has a cause.
pub record Caused (σ : Setting) (w : World) : Type 0 where
  pub reading_cause : (m : ℕ) (e : Event) (v : World) → Reading σ w m e v → ReadingCause σ w m e v
  pub reading_caused : (m : ℕ) (e : Event) (v : World) → ReadingCause σ w m e v → Reading σ w m e v
  pub look_cause : (e : Event) (v : World) → Looking σ w e v → LookingCause σ w e v
  pub look_caused : (e : Event) (v : World) → LookingCause σ w e v → Looking σ w e v
  pub log_cause : (t : ℕ) (e : Event) (v : World) → Logging σ w t e v → LoggingCause σ w t e v
  pub log_caused : (t : ℕ) (e : Event) (v : World) → LoggingCause σ w t e v → Logging σ w t e v
  pub sync_cause : (e : Event) (v : World) → Syncing σ w e v → SyncingCause σ w e v
  pub sync_caused : (e : Event) (v : World) → SyncingCause σ w e v → Syncing σ w e v
  pub launch_cause : (e : Event) (v : World) → Launching σ w e v → LaunchingCause σ w e v
  pub launch_caused : (e : Event) (v : World) → LaunchingCause σ w e v → Launching σ w e v
  pub settle_cause :
      (t : ℕ) (c : Ending) (e : Event) (v : World) → Settling σ w t c e v → SettlingCause σ w t c e v
  pub settle_caused :
      (t : ℕ) (c : Ending) (e : Event) (v : World) → SettlingCause σ w t c e v → Settling σ w t c e v
  pub hand_back_cause : (s : Slip) (e : Event) (v : World) → HandingBack σ w s e v → HandingBackCause σ w s e v
  pub hand_back_caused : (s : Slip) (e : Event) (v : World) → HandingBackCause σ w s e v → HandingBack σ w s e v

abbrev pub Determined : Type 0
Determined = (σ : Setting) (w : World) → Caused σ w
