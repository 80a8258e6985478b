-- Catching up: after so many rounds all is launched.
use Rattle.std.specs.Prelude.{◌≡◌, true, ℕ, suc, ◌+◌, ◌-◌, ◌*◌, ◌/◌, ◌≤◌, length}
use Rattle.disk.specs.Contents.{Among}
use Rattle.journal_model.specs.Positions.{minute_of}
use Rattle.page.specs.Limits.{last_page}
use Rattle.service.specs.Events.{History}
use Rattle.service.specs.Histories.{flight_after, add_flight, synced_pages, Launched, LaunchedSince, open_at_restart, greatest_reading}
use Rattle.service.specs.Limits.{most_examined}
use Rattle.service.specs.Lists.{how_many}
use Rattle.service.specs.Rounds.{Rounds, CollectYields}
use Rattle.service.specs.Service.{Service}
use Rattle.service.specs.Setting.{Setting, due_at, first_position}
use Rattle.service.specs.World.{World, past_horizon}
use Rattle.time.specs.Limits.{last_minute}
use Rattle.time.specs.Position.{rank_of}

-- P: the positions from the next one to the last line of the horizon
abbrev pub positions_ahead : World → ℕ
positions_ahead w = past_horizon w - w.next

-- how many positions from a up to, and without, b are due
abbrev pub due_between : Setting → ℕ → ℕ → ℕ
due_between σ a b = how_many (due_at σ) a (b - a)

-- F: the due tickets among them
abbrev pub due_ahead : Setting → World → ℕ
due_ahead σ w = due_between σ w.next (past_horizon w)

-- the number of the newest page, counting one that is in flight
abbrev pub newest_page : Setting → History → ℕ
newest_page σ h = length (add_flight (flight_after h) (synced_pages σ h)) - 1

-- Pages remain: above it there are 2F + 40 page numbers or more.
abbrev pub PagesRemain : Setting → History → World → Type 0
PagesRemain σ h w = newest_page σ h + (2 * due_ahead σ w + 40) ≤ last_page

-- All is launched: the launcher took every ticket that is due from the first minute up to the horizon; and those that
-- the last restart found open it took after that restart.
pub record AllLaunched (σ : Setting) (h : History) : Type 0 where
  pub due_launched :
      (u : ℕ) → first_position σ ≤ u → minute_of u ≤ greatest_reading h → due_at σ u ≡ true → Launched u h
  pub open_launched : (u : ℕ) → Among u (open_at_restart h) → LaunchedSince u h

-- From any moment of a service, if pages remain and collect yields, after 24 + F + P / 4,096 rounds all is launched.
abbrev pub CatchingUp : Type 0
CatchingUp =
    (σ : Setting) (h h' : History) (w w' : World) → Service σ h w → PagesRemain σ h w
    → (rounds : Rounds σ (24 + (due_ahead σ w + positions_ahead w / most_examined)) h w h' w')
    → CollectYields σ rounds → AllLaunched σ h'

-- Whatever has happened, rounds can go on, as many as one likes, with collect yielding: no call is ever stuck.
abbrev pub RoundsFollow : Type 0
RoundsFollow =
    (σ : Setting) (h : History) (w : World) → Service σ h w → (n : ℕ)
    → (h' : History) × ((w' : World) × ((rounds : Rounds σ n h w h' w') × CollectYields σ rounds))

-- Some service launches any given due ticket, if page numbers suffice for those before it: none of this is said of
-- nothing.
abbrev pub Reached : Type 0
Reached =
    (σ : Setting) (t : ℕ) → first_position σ ≤ t → minute_of t ≤ last_minute → due_at σ t ≡ true
    → 2 * due_between σ (first_position σ) (rank_of (suc (minute_of t)) 0) + 40 ≤ last_page
    → (h : History) × ((w : World) × (Service σ h w × Launched t h))
