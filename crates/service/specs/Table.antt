-- The engine's table of open tickets.
use Rattle.std.specs.Prelude.{◌≡◌, List, [], ◌∷◌, Bool, true, false, cond, ℕ, eqb}
use Rattle.disk.specs.Contents.{Among}

-- How far an open ticket has come. Written: its start page is in flight. Logged: its start page is synced, so it may be
-- launched. Running: the launcher took it. Finished: its finish slip was given. Closing: its done page is in flight.
pub data Stage : Type 0 where
  written logged running finished closing : Stage

-- an open ticket and its stage
pub record Entry : Type 0 where
  pub ticket : ℕ
  pub stage : Stage

-- the tickets of the table, in its order
abbrev pub tickets_of : List Entry → List ℕ
tickets_of [] = []
tickets_of (x ∷ xs) = x.ticket ∷ tickets_of xs

-- the stage of a ticket of the table; of any other it says nothing, and stands only with `HasStage`
abbrev pub stage_of : List Entry → ℕ → Stage
stage_of [] u = closing
stage_of (x ∷ xs) u = cond (eqb u x.ticket) x.stage (stage_of xs u)

-- the ticket is in the table, and this is its stage
abbrev pub HasStage : List Entry → ℕ → Stage → Type 0
HasStage table t s = Among t (tickets_of table) × (stage_of table t ≡ s)

-- the table with this stage for the ticket
abbrev pub mark : ℕ → Stage → List Entry → List Entry
mark t s [] = []
mark t s (x ∷ xs) = record { ticket = x.ticket; stage = cond (eqb x.ticket t) s x.stage } ∷ mark t s xs

-- the table after a restart that finds these open tickets
abbrev pub all_logged : List ℕ → List Entry
all_logged [] = []
all_logged (t ∷ ts) = record { ticket = t; stage = logged } ∷ all_logged ts

-- What a sync makes of a stage. A start page that was in flight is safe now, so its ticket may be launched; a done page
-- that was in flight is safe, so its ticket goes. No other stage moves.
abbrev pub landed : Stage → Stage
landed written = logged
landed logged = logged
landed running = running
landed finished = finished
landed closing = closing

abbrev pub stays : Stage → Bool
stays written = true
stays logged = true
stays running = true
stays finished = true
stays closing = false

abbrev pub synced_table : List Entry → List Entry
synced_table [] = []
synced_table (x ∷ xs) =
    cond (stays x.stage) (record { ticket = x.ticket; stage = landed x.stage } ∷ synced_table xs)
    (synced_table xs)
