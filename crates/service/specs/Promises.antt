-- What a service promises of its launches and its restarts: each promise holds of every history of every service.
use Rattle.std.specs.Prelude.{◌≡◌, List, [], ◌∷◌, ◌++◌, true, ℕ, suc, ◌≤◌, ◌<◌, length}
use Rattle.disk.specs.Contents.{Among}
use Rattle.journal_model.specs.Disks.{Disk, Cut}
use Rattle.journal_model.specs.Pages.{State, Page, replay, state_after}
use Rattle.journal_model.specs.Positions.{minute_of, line_of}
use Rattle.journal_model.specs.Runs.{in_flight, Found, Accepted, TicketsShown}
use Rattle.page.specs.Limits.{last_page, most_open, last_code}
use Rattle.page.specs.declared.head.Ending.{Ending}
use Rattle.service.specs.Events.{Event, launched, restarted, History}
use Rattle.service.specs.Histories.{flight_after, add_flight, synced_pages, Launched, StartSynced, DoneSynced, IsCut, Each}
use Rattle.service.specs.Service.{Service}
use Rattle.service.specs.Setting.{Setting, due_at, first_position, NoneDue}
use Rattle.service.specs.Table.{tickets_of}
use Rattle.service.specs.World.{finish_slip_out, Run, Capacity, World}
use Rattle.time.specs.Limits.{last_minute, lines}
use Rattle.time.specs.Position.{rank_of}

-- Ranks are positions: a minute and a line give a rank, the rank gives them back, and ranks are ordered by minute,
-- then line.
pub record PositionsOrdered : Type 0 where
  pub minute_back : (minute line : ℕ) → line < lines → minute_of (rank_of minute line) ≡ minute
  pub line_back : (minute line : ℕ) → line < lines → line_of (rank_of minute line) ≡ line
  pub rank_back : (r : ℕ) → (rank_of (minute_of r) (line_of r) ≡ r) × (line_of r < lines)
  pub by_minute : (r s : ℕ) → minute_of r < minute_of s → r < s
  pub then_line : (r s : ℕ) → minute_of r ≡ minute_of s → line_of r < line_of s → r < s

-- Launch order. A ticket that is launched is due, runs its line's command, and had its start page synced before; each
-- due ticket before it, from the first minute on, was launched earlier.
pub record InOrderOf (σ : Setting) (h : History) (r : Run) : Type 0 where
  pub is_due : due_at σ r.ticket ≡ true
  pub has_place : r.place ≡ σ.place (line_of r.ticket)
  pub has_size : r.size ≡ σ.size (line_of r.ticket)
  pub start_synced : StartSynced σ r.ticket h
  pub earlier_launched : (u : ℕ) → first_position σ ≤ u → u < r.ticket → due_at σ u ≡ true → Launched u h

abbrev pub InOrder : Setting → Event → History → Type 0
InOrder σ e h = (r : Run) → e ≡ launched r → InOrderOf σ h r

abbrev pub LaunchOrder : Type 0
LaunchOrder = (σ : Setting) (h : History) (w : World) → Service σ h w → Each (InOrder σ) h

-- Restarts. At every moment, whatever a cut leaves, the restart is accepted; and what it finds is determined: the top
-- and state after the page synced last, or after the page in flight.
abbrev pub RestartAccepted : Type 0
RestartAccepted =
    (σ : Setting) (h : History) (w : World) → Service σ h w → (d : Disk) → Cut w.disk d
    → Accepted σ.blocks σ.job_lines (first_position σ) (synced_pages σ h) (flight_after h) d.latest

-- Each restart of a history found what the page synced last before its cut had left, or what the page then in flight
-- was to leave: its top and its state.
abbrev pub Finds : Setting → Event → History → Type 0
Finds σ e h =
    (top : ℕ) (s : State) → e ≡ restarted top s → Found (first_position σ) (synced_pages σ h) (flight_after h) top s

abbrev pub RestartFinds : Type 0
RestartFinds = (σ : Setting) (h : History) (w : World) → Service σ h w → Each (Finds σ) h

-- the position b is not before a, and no due position lies between
abbrev pub PassesNothing : Setting → ℕ → ℕ → Type 0
PassesNothing σ a b = (a ≤ b) × NoneDue σ a b

-- Of each page, the newest first: going from the next position that its event leaves to the one that the page leaves
-- passes nothing.
abbrev pub NextKept : Setting → List Page → Type 0
NextKept σ [] = Unit {0}
NextKept σ (p ∷ ps) =
    PassesNothing σ (replay p.body (state_after (first_position σ) ps)).next
    (state_after (first_position σ) (p ∷ ps)).next
    × NextKept σ ps

-- What a checkpoint may add to the events, of the synced pages and the page in flight: its next position passes over
-- nothing that is due, and it shows exactly the open tickets that the events leave. So a checkpoint loses no ticket.
abbrev pub CheckpointsKept : Type 0
CheckpointsKept =
    (σ : Setting) (h : History) (w : World) → Service σ h w
    → NextKept σ (add_flight (flight_after h) (synced_pages σ h))
    × TicketsShown (first_position σ) (add_flight (flight_after h) (synced_pages σ h))

-- No second launch. A ticket is launched again only if there was a cut since its launch before, and only while no done
-- page of it is synced.
pub record AgainOf (σ : Setting) (h : History) (r : Run) : Type 0 where
  pub after_cut :
      (between before : History) (earlier : Run) → earlier.ticket ≡ r.ticket
      → h ≡ between ++ (launched earlier ∷ before) → (c : Event) × (Among c between × IsCut c)
  pub not_done : ¬ (DoneSynced σ r.ticket h)

abbrev pub Again : Setting → Event → History → Type 0
Again σ e h = (r : Run) → e ≡ launched r → AgainOf σ h r

abbrev pub LaunchedAgain : Type 0
LaunchedAgain = (σ : Setting) (h : History) (w : World) → Service σ h w → Each (Again σ) h

-- What the engine holds, and so what its pages say, is within the ranges of a page: minutes from the first to the
-- last, the next position at most line 0 of one minute more, result codes and page numbers to the last. And the
-- launcher never holds more than it can.
pub record Within (σ : Setting) (w : World) : Type 0 where
  pub horizon_within : w.horizon ≤ last_minute
  pub next_from : first_position σ ≤ w.next
  pub next_to : w.next ≤ rank_of (suc last_minute) 0
  pub tickets_from : (u : ℕ) → Among u (tickets_of w.table) → σ.first ≤ minute_of u
  pub tickets_to : (u : ℕ) → Among u (tickets_of w.table) → minute_of u ≤ last_minute
  pub few_tickets : length (tickets_of w.table) ≤ most_open
  pub newest_within : w.newest ≤ last_page
  pub code_within : (t : ℕ) (c : Ending) → w.finish ≡ finish_slip_out t c → c.code ≤ last_code
  pub in_flight_within : (p : Page) → w.flight ≡ in_flight p → suc w.newest ≤ last_page
  pub capacity_within : Capacity w.launcher.capacity
  pub held_within : length w.launcher.held ≤ w.launcher.capacity

abbrev pub RangesKept : Type 0
RangesKept = (σ : Setting) (h : History) (w : World) → Service σ h w → Within σ w
