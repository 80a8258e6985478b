-- What a history says: the page in flight, the synced pages, the launches, the readings. It has the newest event first.
use Rattle.std.specs.Prelude.{◌≡◌, ◌⊎◌, List, [], ◌∷◌, cond, ℕ, max, length, eqb}
use Rattle.disk.specs.Contents.{Among}
use Rattle.journal_model.specs.Pages.{start, done, State, Page, format_page}
use Rattle.journal_model.specs.Runs.{Flight, none_in_flight, in_flight}
use Rattle.page.specs.declared.head.Ending.{Ending}
use Rattle.service.specs.Events.{Event, formatted, was_read, was_logged, was_synced, launched, settled, restarted, replied, History}
use Rattle.service.specs.Setting.{Setting, first_position}

-- The page in flight: log and settle put it there; a sync or a cut ends it.
abbrev pub flight_after : History → Flight
flight_after [] = none_in_flight
flight_after (formatted ∷ h) = none_in_flight
flight_after (was_read m ∷ h) = flight_after h
flight_after (was_logged n t p ∷ h) = in_flight p
flight_after (was_synced ∷ h) = none_in_flight
flight_after (launched r ∷ h) = flight_after h
flight_after (settled n t c p ∷ h) = in_flight p
flight_after (restarted top s ∷ h) = none_in_flight
flight_after (replied q ∷ h) = flight_after h

-- the pages with the page in flight, if any, as their newest
abbrev pub add_flight : Flight → List Page → List Page
add_flight none_in_flight ps = ps
add_flight (in_flight p) ps = p ∷ ps

-- The synced pages, the newest first. Page 0 is the last, so the newest has the number of those before it. A page in
-- flight is synced by a sync, or by a restart that has it as its top.
abbrev pub synced_pages : Setting → History → List Page
synced_pages σ [] = []
synced_pages σ (formatted ∷ h) = format_page (first_position σ) ∷ []
synced_pages σ (was_read m ∷ h) = synced_pages σ h
synced_pages σ (was_logged n t p ∷ h) = synced_pages σ h
synced_pages σ (was_synced ∷ h) = add_flight (flight_after h) (synced_pages σ h)
synced_pages σ (launched r ∷ h) = synced_pages σ h
synced_pages σ (settled n t c p ∷ h) = synced_pages σ h
synced_pages σ (restarted top s ∷ h) =
    cond (eqb top (length (synced_pages σ h))) (add_flight (flight_after h) (synced_pages σ h)) (synced_pages σ h)
synced_pages σ (replied q ∷ h) = synced_pages σ h

-- The launcher took the ticket at some time.
abbrev pub Launched : ℕ → History → Type 0
Launched u [] = ⊥
Launched u (formatted ∷ h) = Launched u h
Launched u (was_read m ∷ h) = Launched u h
Launched u (was_logged n t p ∷ h) = Launched u h
Launched u (was_synced ∷ h) = Launched u h
Launched u (launched r ∷ h) = (u ≡ r.ticket) ⊎ Launched u h
Launched u (settled n t c p ∷ h) = Launched u h
Launched u (restarted top s ∷ h) = Launched u h
Launched u (replied q ∷ h) = Launched u h

-- The launcher took it since the format or the last restart.
abbrev pub LaunchedSince : ℕ → History → Type 0
LaunchedSince u [] = ⊥
LaunchedSince u (formatted ∷ h) = LaunchedSince u h
LaunchedSince u (was_read m ∷ h) = LaunchedSince u h
LaunchedSince u (was_logged n t p ∷ h) = LaunchedSince u h
LaunchedSince u (was_synced ∷ h) = LaunchedSince u h
LaunchedSince u (launched r ∷ h) = (u ≡ r.ticket) ⊎ LaunchedSince u h
LaunchedSince u (settled n t c p ∷ h) = LaunchedSince u h
LaunchedSince u (restarted top s ∷ h) = ⊥
LaunchedSince u (replied q ∷ h) = LaunchedSince u h

-- the tickets that the last restart found open; none if there was no restart
abbrev pub open_at_restart : History → List ℕ
open_at_restart [] = []
open_at_restart (formatted ∷ h) = []
open_at_restart (was_read m ∷ h) = open_at_restart h
open_at_restart (was_logged n t p ∷ h) = open_at_restart h
open_at_restart (was_synced ∷ h) = open_at_restart h
open_at_restart (launched r ∷ h) = open_at_restart h
open_at_restart (settled n t c p ∷ h) = open_at_restart h
open_at_restart (restarted top s ∷ h) = s.tickets
open_at_restart (replied q ∷ h) = open_at_restart h

-- The horizon, as a minute: the greatest accepted reading since the format or the last restart; 0 if there was none.
abbrev pub greatest_reading : History → ℕ
greatest_reading [] = 0
greatest_reading (formatted ∷ h) = 0
greatest_reading (was_read m ∷ h) = max (greatest_reading h) m
greatest_reading (was_logged n t p ∷ h) = greatest_reading h
greatest_reading (was_synced ∷ h) = greatest_reading h
greatest_reading (launched r ∷ h) = greatest_reading h
greatest_reading (settled n t c p ∷ h) = greatest_reading h
greatest_reading (restarted top s ∷ h) = 0
greatest_reading (replied q ∷ h) = greatest_reading h

-- A start page of the ticket is synced.
abbrev pub StartSynced : Setting → ℕ → History → Type 0
StartSynced σ t h = (p : Page) × (Among p (synced_pages σ h) × (p.body ≡ start t))

-- A done page of the ticket is synced.
abbrev pub DoneSynced : Setting → ℕ → History → Type 0
DoneSynced σ t h = (p : Page) × ((c : Ending) × (Among p (synced_pages σ h) × (p.body ≡ done t c)))

-- The event is a cut, with its restart.
abbrev pub IsCut : Event → Type 0
IsCut e = (top : ℕ) × ((s : State) × (e ≡ restarted top s))

-- P holds of each event of a history and what came before it.
abbrev pub Each : (Event → History → Type 0) → History → Type 0
Each P [] = Unit {0}
Each P (e ∷ h) = P e h × Each P h
