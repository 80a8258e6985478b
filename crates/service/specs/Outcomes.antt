-- The calls whose outcome is determined, each as a function to its event and the world after it. Only the disk after a
-- write or a sync is handed in, since what it leaves possible is open. Of several causes for a rejection the smallest
-- number wins.
use Rattle.std.specs.Prelude.{◌≡◌, List, [], ◌∷◌, Bool, true, false, cond, ℕ, zero, suc, ◌+◌, ◌-◌, ◌<◌, max, min, length, eqb, leb, ltb}
use Rattle.journal_model.specs.Disks.{Disk}
use Rattle.journal_model.specs.Runs.{Flight, none_in_flight, in_flight}
use Rattle.page.specs.Limits.{last_page, most_open}
use Rattle.page.specs.declared.head.Ending.{Ending}
use Rattle.service.specs.After.{start_page, done_page, run_of, after_reading, after_look, after_log, after_sync, after_launch, after_settle, after_hand_back}
use Rattle.service.specs.Events.{gives_slip, level, spent, Asked, to_read, to_look, to_log, to_launch, to_settle, to_hand_back, Beside, nothing_beside, minute_beside, slip_beside, ticket_beside, looked, nothing_to_sync, nothing_to_launch, handed_back, rejected, Event, was_read, was_logged, was_synced, launched, settled, replied}
use Rattle.service.specs.Limits.{most_examined}
use Rattle.service.specs.Setting.{Setting, due_at}
use Rattle.service.specs.Table.{Stage, written, logged, running, finished, closing, tickets_of, stage_of}
use Rattle.service.specs.World.{DueSlip, no_due_slip, due_slip_out, FinishSlip, no_finish_slip, finish_slip_out, finish_slip_handed_back, Slip, due_slip, finish_slip, World, past_horizon, FinishOut}
use Rattle.time.specs.Limits.{first_minute, last_minute}

abbrev pub Outcome : Type 0
Outcome = Event × World

-- a rejection alters nothing
abbrev pub refuse : World → Asked → ℕ → Beside → Outcome
refuse w call number beside = (replied (rejected call number beside), w)

-- The reading.
abbrev pub reading_outcome : World → ℕ → Outcome
reading_outcome w m =
    cond (ltb m first_minute) (refuse w (to_read m) 13 (minute_beside m))
    (cond (ltb last_minute m) (refuse w (to_read m) 13 (minute_beside m)) (was_read m, after_reading w m))

-- how many of the n positions from a on come before the first due one; n if none is due
abbrev pub before_due : (ℕ → Bool) → ℕ → ℕ → ℕ
before_due p a zero = zero
before_due p a (suc n) = cond (p a) zero (suc (before_due p (suc a) n))

-- The look has examined so many positions and stands at t, which is due.
abbrev pub look_due : World → ℕ → ℕ → Outcome
look_due w examined t = (replied (looked examined (gives_slip t)), after_look w t (due_slip_out t))

-- It has examined all that is left within the horizon, and none of it is due.
abbrev pub look_level : World → ℕ → Outcome
look_level w examined = (replied (looked examined level), after_look w (max w.next (past_horizon w)) w.slip)

-- It has examined as many as it may, none of them due, and the next is within the horizon.
abbrev pub look_spent : World → ℕ → Outcome
look_spent w examined = (replied (looked examined spent), after_look w (w.next + examined) w.slip)

-- of the n positions from the next one, k come before the first due one
abbrev pub look_result : World → ℕ → ℕ → Outcome
look_result w n k =
    cond (ltb k n) (look_due w (suc k) (w.next + k))
    (cond (leb (past_horizon w) (w.next + n)) (look_level w n) (look_spent w n))

-- The look at n positions.
abbrev pub look_over : Setting → World → ℕ → Outcome
look_over σ w n = look_result w n (before_due (due_at σ) w.next n)

-- The look: at most 4,096 positions, and those within the horizon only.
abbrev pub look_with : Setting → World → DueSlip → Outcome
look_with σ w (due_slip_out t) = refuse w to_look 18 nothing_beside
look_with σ w no_due_slip =
    cond (leb most_open (length (tickets_of w.table))) (refuse w to_look 19 nothing_beside)
    (look_over σ w (min most_examined (past_horizon w - w.next)))

abbrev pub look_outcome : Setting → World → Outcome
look_outcome σ w = look_with σ w w.slip

-- A log of this ticket's slip writes: the slip is the engine's, no page is in flight, and a page number is left.
abbrev pub LogWrites : World → ℕ → Type 0
LogWrites w t = (w.slip ≡ due_slip_out t) × ((w.flight ≡ none_in_flight) × (w.newest < last_page))

abbrev pub refuse_log : World → ℕ → ℕ → Outcome
refuse_log w t number = refuse w (to_log t) number (slip_beside (due_slip t))

-- the slip is the engine's
abbrev pub log_page : World → ℕ → Disk → Flight → Outcome
log_page w t d (in_flight p) = refuse_log w t 21
log_page w t d none_in_flight =
    cond (ltb w.newest last_page) (was_logged (suc w.newest) t (start_page w t), after_log w t d)
    (refuse_log w t 22)

-- the log of ticket t's slip, with this page in flight and this due slip out
abbrev pub log_with : World → ℕ → Disk → Flight → DueSlip → Outcome
log_with w t d f no_due_slip = refuse_log w t 20
log_with w t d f (due_slip_out u) = cond (eqb u t) (log_page w t d f) (refuse_log w t 20)

abbrev pub log_outcome : World → ℕ → Disk → Outcome
log_outcome w t d = log_with w t d w.flight w.slip

-- The sync.
abbrev pub sync_with : World → Disk → Flight → Outcome
sync_with w d none_in_flight = (replied nothing_to_sync, w)
sync_with w d (in_flight p) = (was_synced, after_sync w d)

abbrev pub sync_outcome : World → Disk → Outcome
sync_outcome w d = sync_with w d w.flight

-- a ticket, if any
pub data Least : Type 0 where
  no_ticket : Least
  ticket_is : ℕ → Least

-- only a logged ticket may be launched
abbrev pub launchable : Stage → Bool
launchable written = false
launchable logged = true
launchable running = false
launchable finished = false
launchable closing = false

-- the earlier of x and the other, if there is one
abbrev pub earlier : ℕ → Least → Least
earlier x no_ticket = ticket_is x
earlier x (ticket_is y) = cond (leb x y) (ticket_is x) (ticket_is y)

-- the earliest logged one of the tickets, if any
abbrev pub least_logged : (ℕ → Stage) → List ℕ → Least
least_logged stage [] = no_ticket
least_logged stage (x ∷ xs) = cond (launchable (stage x)) (earlier x (least_logged stage xs)) (least_logged stage xs)

-- The launch: the launcher takes the earliest logged ticket unless its list is full.
abbrev pub launch_with : Setting → World → Least → Outcome
launch_with σ w no_ticket = (replied nothing_to_launch, w)
launch_with σ w (ticket_is t) =
    cond (ltb (length w.launcher.held) w.launcher.capacity)
    (launched (run_of σ t), after_launch w (run_of σ t)) (refuse w to_launch 23 (ticket_beside t))

abbrev pub launch_outcome : Setting → World → Outcome
launch_outcome σ w = launch_with σ w (least_logged (stage_of w.table) (tickets_of w.table))

-- A settle of this ticket's slip writes.
abbrev pub SettleWrites : World → ℕ → Type 0
SettleWrites w t = FinishOut w t × ((w.flight ≡ none_in_flight) × (w.newest < last_page))

abbrev pub refuse_settle : World → ℕ → Ending → ℕ → Outcome
refuse_settle w t c number = refuse w (to_settle t c) number (slip_beside (finish_slip t c))

-- the slip is the engine's
abbrev pub settle_page : World → ℕ → Ending → Disk → Flight → Outcome
settle_page w t c d (in_flight p) = refuse_settle w t c 21
settle_page w t c d none_in_flight =
    cond (ltb w.newest last_page) (settled (suc w.newest) t c (done_page w t c), after_settle w t c d)
    (refuse_settle w t c 22)

-- the settle of ticket t's slip, with this page in flight and this finish slip out or handed back
abbrev pub settle_with : World → ℕ → Ending → Disk → Flight → FinishSlip → Outcome
settle_with w t c d f no_finish_slip = refuse_settle w t c 20
settle_with w t c d f (finish_slip_handed_back u b) = refuse_settle w t c 20
settle_with w t c d f (finish_slip_out u b) = cond (eqb u t) (settle_page w t c d f) (refuse_settle w t c 20)

abbrev pub settle_outcome : World → ℕ → Ending → Disk → Outcome
settle_outcome w t c d = settle_with w t c d w.flight w.finish

-- The hand-back: a due slip, or a finish slip, that is out.
abbrev pub refuse_back : World → Slip → Outcome
refuse_back w s = refuse w (to_hand_back s) 20 (slip_beside s)

abbrev pub hand_back_due : World → ℕ → DueSlip → Outcome
hand_back_due w t no_due_slip = refuse_back w (due_slip t)
hand_back_due w t (due_slip_out u) =
    cond (eqb u t) (replied (handed_back (due_slip t)), after_hand_back w no_due_slip w.finish)
    (refuse_back w (due_slip t))

abbrev pub hand_back_finish : World → ℕ → Ending → FinishSlip → Outcome
hand_back_finish w t c no_finish_slip = refuse_back w (finish_slip t c)
hand_back_finish w t c (finish_slip_handed_back u b) = refuse_back w (finish_slip t c)
hand_back_finish w t c (finish_slip_out u b) =
    cond (eqb u t)
    (replied (handed_back (finish_slip t c)), after_hand_back w w.slip (finish_slip_handed_back t c))
    (refuse_back w (finish_slip t c))

abbrev pub hand_back_outcome : World → Slip → Outcome
hand_back_outcome w (due_slip t) = hand_back_due w t w.slip
hand_back_outcome w (finish_slip t c) = hand_back_finish w t c w.finish
