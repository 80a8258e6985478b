-- What happens in a service. An event is a call with its arguments and its answer, or a cut with its restart.
use Rattle.std.specs.Prelude.{List, ℕ}
use Rattle.journal_model.specs.Pages.{State, Page}
use Rattle.page.specs.declared.head.Ending.{Ending}
use Rattle.service.specs.World.{Slip, Run}

-- What a look says: it stands at a due position and gives its slip; or the next position is beyond the horizon; or it
-- is not, and the look has examined as many positions as it may.
pub data Said : Type 0 where
  gives_slip : ℕ → Said
  level spent : Said

-- a call with its argument, as a rejection names it
pub data Asked : Type 0 where
  to_read : ℕ → Asked
  to_look : Asked
  to_log : ℕ → Asked
  to_launch : Asked
  to_collect : Asked
  to_settle : ℕ → Ending → Asked
  to_hand_back : Slip → Asked

-- what stands beside the number of a rejection
pub data Beside : Type 0 where
  nothing_beside : Beside
  minute_beside : ℕ → Beside
  slip_beside : Slip → Beside
  ticket_beside : ℕ → Beside

-- Answers of calls that read nothing in, write, sync and launch nothing.
pub data Reply : Type 0 where
  -- how many positions the look examined, and what it says
  looked : ℕ → Said → Reply
  nothing_to_sync : Reply
  nothing_to_launch : Reply
  -- the ticket and the ending of the finish slip that collect gives
  collected : ℕ → Ending → Reply
  nothing_collected : Reply
  handed_back : Slip → Reply
  -- the call, the number, and what stands beside it
  rejected : Asked → ℕ → Beside → Reply

pub data Event : Type 0 where
  formatted : Event
  -- the minute
  was_read : ℕ → Event
  -- the page's number, the ticket of the slip, the page
  was_logged : ℕ → ℕ → Page → Event
  was_synced : Event
  -- the run that the launcher takes
  launched : Run → Event
  -- the page's number, the ticket and the ending of the slip, the page
  settled : ℕ → ℕ → Ending → Page → Event
  -- a cut, and its restart: the top and the state that it finds
  restarted : ℕ → State → Event
  replied : Reply → Event

-- the newest event first
abbrev pub History : Type 0
History = List Event
