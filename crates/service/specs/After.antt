-- What each call leaves when it is not rejected.
use Rattle.std.specs.Prelude.{List, [], ◌∷◌, ◌++◌, ℕ, suc, max}
use Rattle.journal_model.specs.Disks.{Disk}
use Rattle.journal_model.specs.Lists.{without}
use Rattle.journal_model.specs.Pages.{start, done, State, Page, page_for}
use Rattle.journal_model.specs.Positions.{line_of, successor}
use Rattle.journal_model.specs.Runs.{none_in_flight, in_flight}
use Rattle.page.specs.declared.head.Ending.{Ending}
use Rattle.service.specs.Setting.{Setting}
use Rattle.service.specs.Table.{written, running, closing, Entry, tickets_of, mark, all_logged, synced_table}
use Rattle.service.specs.World.{DueSlip, no_due_slip, FinishSlip, no_finish_slip, Run, World, with_journal, with_next, with_table, with_held, with_horizon, with_slip, with_finish}

-- The pages that log and settle write, numbered one above the newest synced page. If that number makes a checkpoint, it
-- shows what the engine holds once the event is done.
abbrev pub start_page : World → ℕ → Page
start_page w t =
    page_for (suc w.newest) (start t) (record { next = successor t; tickets = tickets_of w.table ++ (t ∷ []) })

abbrev pub done_page : World → ℕ → Ending → Page
done_page w t c =
    page_for (suc w.newest) (done t c) (record { next = w.next; tickets = without t (tickets_of w.table) })

-- the run of a ticket, with its line's command
abbrev pub run_of : Setting → ℕ → Run
run_of σ t = record { ticket = t; place = σ.place (line_of t); size = σ.size (line_of t) }

-- After a reading the horizon is the greater of the two minutes.
abbrev pub after_reading : World → ℕ → World
after_reading w m = with_horizon (max w.horizon m) w

-- A look moves the next position, and may give a slip.
abbrev pub after_look : World → ℕ → DueSlip → World
after_look w next slip = with_slip slip (with_next next w)

-- A log takes the slip and puts the start page into flight; the ticket is written, and its successor is next. Here and
-- below d is the disk after the write or the sync.
abbrev pub after_log : World → ℕ → Disk → World
after_log w t d =
    with_journal d w.newest (in_flight (start_page w t))
    (with_next (successor t)
    (with_table (w.table ++ (record { ticket = t; stage = written } ∷ [])) (with_slip no_due_slip w)))

-- A sync makes the page in flight the newest.
abbrev pub after_sync : World → Disk → World
after_sync w d = with_journal d (suc w.newest) none_in_flight (with_table (synced_table w.table) w)

-- A launch adds the run to the launcher's list; its ticket is running.
abbrev pub after_launch : World → Run → World
after_launch w r = with_held (w.launcher.held ++ (r ∷ [])) (with_table (mark r.ticket running w.table) w)

-- A collect leaves this table, these runs in the launcher, and this finish slip.
abbrev pub after_collect : World → List Entry → List Run → FinishSlip → World
after_collect w table rest slip = with_finish slip (with_held rest (with_table table w))

-- A settle takes the slip and puts the done page into flight; the ticket is closing.
abbrev pub after_settle : World → ℕ → Ending → Disk → World
after_settle w t c d =
    with_journal d w.newest (in_flight (done_page w t c))
    (with_table (mark t closing w.table) (with_finish no_finish_slip w))

-- A hand-back leaves these slips.
abbrev pub after_hand_back : World → DueSlip → FinishSlip → World
after_hand_back w slip finish = with_finish finish (with_slip slip w)

-- After a restart that finds this top and state all open tickets are logged, the horizon is 0, no page is in flight,
-- no slip is out, and the launcher holds nothing. A format leaves the same, with page 0 as its top.
abbrev pub after_restart : Disk → ℕ → State → ℕ → World
after_restart d top s capacity =
    record {
      disk = d;
      newest = top;
      flight = none_in_flight;
      next = s.next;
      table = all_logged s.tickets;
      launcher = record { held = []; capacity = capacity };
      horizon = 0;
      slip = no_due_slip;
      finish = no_finish_slip;
    }
