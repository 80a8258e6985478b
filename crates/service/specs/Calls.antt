-- The calls of the engine, and the cut: which event and which world can follow a world.
use Rattle.std.specs.Prelude.{◌≡◌, List, ℕ, suc, ◌%◌}
use Rattle.journal_model.specs.Disks.{page, Disk, Written, Synced, Cut}
use Rattle.journal_model.specs.Pages.{State, Page}
use Rattle.journal_model.specs.Restart.{Restarts}
use Rattle.journal_model.specs.Runs.{in_flight}
use Rattle.page.specs.Sound.{SoundEnding}
use Rattle.page.specs.declared.head.Ending.{Ending}
use Rattle.service.specs.After.{start_page, done_page, after_collect, after_restart}
use Rattle.service.specs.Events.{to_collect, nothing_beside, collected, nothing_collected, rejected, Event, restarted, replied}
use Rattle.service.specs.Lists.{Taken}
use Rattle.service.specs.Outcomes.{reading_outcome, look_outcome, LogWrites, log_outcome, sync_outcome, launch_outcome, SettleWrites, settle_outcome, hand_back_outcome}
use Rattle.service.specs.Setting.{Setting}
use Rattle.service.specs.Table.{running, finished, HasStage, mark}
use Rattle.service.specs.World.{no_finish_slip, finish_slip_out, finish_slip_handed_back, Slip, Run, Capacity, World}

-- The disk after the write of a page, where the call writes: what else it leaves possible is open.
abbrev pub PageWritten : Setting → World → Page → Type 0 → Disk → Type 0
PageWritten σ w p Writes d = Writes → Written w.disk (suc w.newest % σ.blocks) (page (suc w.newest) p) d

-- The disk after a sync, where a page is in flight.
abbrev pub PageSynced : World → Disk → Type 0
PageSynced w d = (p : Page) → w.flight ≡ in_flight p → Synced w.disk d

module _ (σ : Setting) where
  -- The reading of minute m.
  abbrev pub Reading : World → ℕ → Event → World → Type 0
  Reading w m e v = (e, v) ≡ reading_outcome w m

  -- The look.
  abbrev pub Looking : World → Event → World → Type 0
  Looking w e v = (e, v) ≡ look_outcome σ w

  -- The log of a due slip: t is the ticket of the slip that the program presents.
  abbrev pub Logging : World → ℕ → Event → World → Type 0
  Logging w t e v =
      (d : Disk) × (PageWritten σ w (start_page w t) (LogWrites w t) d × ((e, v) ≡ log_outcome w t d))

  -- The sync.
  abbrev pub Syncing : World → Event → World → Type 0
  Syncing w e v = (d : Disk) × (PageSynced w d × ((e, v) ≡ sync_outcome w d))

  -- The launch.
  abbrev pub Launching : World → Event → World → Type 0
  Launching w e v = (e, v) ≡ launch_outcome σ w

  -- The settle of a finish slip: t and c are the ticket and the ending of the slip that the program presents.
  abbrev pub Settling : World → ℕ → Ending → Event → World → Type 0
  Settling w t c e v =
      (d : Disk) × (PageWritten σ w (done_page w t c) (SettleWrites w t) d × ((e, v) ≡ settle_outcome w t c d))

  -- The hand-back of a slip that the program presents.
  abbrev pub HandingBack : World → Slip → Event → World → Type 0
  HandingBack w s e v = (e, v) ≡ hand_back_outcome w s

  -- The collect. Which held run the launcher answers, and with what code, or that it answers none, is open.
  pub data Collecting (w : World) : Event → World → Type 0 where
    collecting_18 :
        (t : ℕ) (c : Ending) → w.finish ≡ finish_slip_out t c
        → Collecting w (replied (rejected to_collect 18 nothing_beside)) w
    -- a finish was handed back: the launcher is not called
    collecting_handed_back :
        (t : ℕ) (c : Ending) → w.finish ≡ finish_slip_handed_back t c
        → Collecting w (replied (collected t c))
        (after_collect w w.table w.launcher.held (finish_slip_out t c))
    -- the launcher answers none
    collecting_none : w.finish ≡ no_finish_slip → Collecting w (replied nothing_collected) w
    -- it answers a ticket that is not running: that counts as none
    collecting_other :
        (r : Run) (rest : List Run) → w.finish ≡ no_finish_slip → Taken r w.launcher.held rest
        → ¬ (HasStage w.table r.ticket running)
        → Collecting w (replied nothing_collected) (after_collect w w.table rest w.finish)
    -- it answers a running ticket
    collecting :
        (r : Run) (c : Ending) (rest : List Run) → w.finish ≡ no_finish_slip → Taken r w.launcher.held rest
        → SoundEnding c → HasStage w.table r.ticket running
        → Collecting w (replied (collected r.ticket c))
        (after_collect w (mark r.ticket finished w.table) rest (finish_slip_out r.ticket c))

  -- A cut, and the restart that follows it with an empty launcher of any capacity. What the cut leaves is open.
  pub data Cutting (w : World) : Event → World → Type 0 where
    cutting :
        (d : Disk) (top : ℕ) (s : State) (capacity : ℕ) → Capacity capacity → Cut w.disk d
        → Restarts σ.blocks σ.job_lines d.latest top s
        → Cutting w (restarted top s) (after_restart d top s capacity)
