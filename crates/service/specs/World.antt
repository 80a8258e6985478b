-- What there is at a moment of a service: the disk, the engine and the launcher.
use Rattle.std.specs.Prelude.{◌≡◌, List, ℕ, suc, ◌≤◌}
use Rattle.journal_model.specs.Disks.{Disk}
use Rattle.journal_model.specs.Runs.{Flight}
use Rattle.page.specs.declared.head.Ending.{Ending}
use Rattle.service.specs.Limits.{most_runs}
use Rattle.service.specs.Table.{Entry}
use Rattle.time.specs.Position.{rank_of}

-- A slip is what a look or a collect gives out, and a log or a settle takes back. The due slip names a due ticket.
pub data DueSlip : Type 0 where
  no_due_slip : DueSlip
  due_slip_out : ℕ → DueSlip

-- The finish slip names a ticket whose run has ended, and how it ended. Once handed back, the next collect gives it
-- again. (A due slip that is handed back needs no such mark: the next look comes to its position again.)
pub data FinishSlip : Type 0 where
  no_finish_slip : FinishSlip
  finish_slip_out : ℕ → Ending → FinishSlip
  finish_slip_handed_back : ℕ → Ending → FinishSlip

-- a slip that a program presents
pub data Slip : Type 0 where
  due_slip : ℕ → Slip
  finish_slip : ℕ → Ending → Slip

-- a ticket with the place and the length of its line's command
pub record Run : Type 0 where
  pub ticket : ℕ
  pub place : ℕ
  pub size : ℕ

-- the runs that the launcher holds, oldest first, and how many it can hold
pub record Launcher : Type 0 where
  pub held : List Run
  pub capacity : ℕ

abbrev pub Capacity : ℕ → Type 0
Capacity n = (1 ≤ n) × (n ≤ most_runs)

pub record World : Type 0 where
  pub disk : Disk
  -- the number of the newest synced page, and the page in flight
  pub newest : ℕ
  pub flight : Flight
  -- the rank of the next position
  pub next : ℕ
  pub table : List Entry
  pub launcher : Launcher
  -- the greatest minute that was read
  pub horizon : ℕ
  -- the due slip and the finish slip
  pub slip : DueSlip
  pub finish : FinishSlip

-- the first position past the horizon: those before it have a minute within the horizon
abbrev pub past_horizon : World → ℕ
past_horizon w = rank_of (suc w.horizon) 0

-- A finish slip for this ticket is out. How it says that the run ended is not compared.
abbrev pub FinishOut : World → ℕ → Type 0
FinishOut w t = (c : Ending) × (w.finish ≡ finish_slip_out t c)

-- The world with another disk, newest synced page and page in flight; and with one other thing changed.
abbrev pub with_journal : Disk → ℕ → Flight → World → World
with_journal d n f w =
    record {
      disk = d;
      newest = n;
      flight = f;
      next = w.next;
      table = w.table;
      launcher = w.launcher;
      horizon = w.horizon;
      slip = w.slip;
      finish = w.finish;
    }

abbrev pub with_next : ℕ → World → World
with_next r w =
    record {
      disk = w.disk;
      newest = w.newest;
      flight = w.flight;
      next = r;
      table = w.table;
      launcher = w.launcher;
      horizon = w.horizon;
      slip = w.slip;
      finish = w.finish;
    }

abbrev pub with_table : List Entry → World → World
with_table xs w =
    record {
      disk = w.disk;
      newest = w.newest;
      flight = w.flight;
      next = w.next;
      table = xs;
      launcher = w.launcher;
      horizon = w.horizon;
      slip = w.slip;
      finish = w.finish;
    }

abbrev pub with_held : List Run → World → World
with_held rs w =
    record {
      disk = w.disk;
      newest = w.newest;
      flight = w.flight;
      next = w.next;
      table = w.table;
      launcher = record { held = rs; capacity = w.launcher.capacity };
      horizon = w.horizon;
      slip = w.slip;
      finish = w.finish;
    }

abbrev pub with_horizon : ℕ → World → World
with_horizon m w =
    record {
      disk = w.disk;
      newest = w.newest;
      flight = w.flight;
      next = w.next;
      table = w.table;
      launcher = w.launcher;
      horizon = m;
      slip = w.slip;
      finish = w.finish;
    }

abbrev pub with_slip : DueSlip → World → World
with_slip s w =
    record {
      disk = w.disk;
      newest = w.newest;
      flight = w.flight;
      next = w.next;
      table = w.table;
      launcher = w.launcher;
      horizon = w.horizon;
      slip = s;
      finish = w.finish;
    }

abbrev pub with_finish : FinishSlip → World → World
with_finish s w =
    record {
      disk = w.disk;
      newest = w.newest;
      flight = w.flight;
      next = w.next;
      table = w.table;
      launcher = w.launcher;
      horizon = w.horizon;
      slip = w.slip;
      finish = s;
    }
