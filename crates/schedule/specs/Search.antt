-- The next due position.
use Rattle.std.specs.Prelude.{◌≡◌, ℕ, ◌+◌, ◌<◌, ◌≤◌, Bool, true, false, ◌&&◌, ◌⊎◌, List, ℤ, Some, None, Ok, Err, Option, Result, nat_le}
use Rattle.time.specs.Limits.{first_minute, last_minute, lines}
use Rattle.time.specs.Position.{rank, rank_of}
use Rattle.time.specs.declared.minute.Minute.{Minute}
use Rattle.time.specs.declared.position.Position.{Position}
use Rattle.zone.specs.declared.refusal.Refusal.{Refusal}
use Rattle.zone.specs.declared.refusal.Refusal.TheVariants.{OutOfRange}
use Rattle.crontab.specs.declared.job.Job.{Job}
use Rattle.schedule.specs.Due.{due_line}

-- no position from rank a on, and before rank b, is due
abbrev pub NoneDue : (ℕ → ℕ → Bool) → ℕ → ℕ → Type 0
NoneDue due a b = (u k : ℕ) → k < lines → a ≤ rank_of u k → rank_of u k < b → due u k ≡ false

-- the first due position from rank a on and before minute v, or none
abbrev pub NextDue : (ℕ → ℕ → Bool) → ℕ → ℕ → Option Position → Type 0
NextDue due a v None = NoneDue due a (rank_of v 0)
NextDue due a v (Some p) =
    (a ≤ rank p)
    × (p.minute.0 < v)
    × (due p.minute.0 p.line ≡ true)
    × NoneDue due a (rank p)

-- a search goes from and up to minutes from the first to one past the last
abbrev pub bounds : ℕ → Bool
bounds u = nat_le first_minute u && nat_le u (last_minute + 1)

abbrev pub SearchAnswer : (ℕ → ℤ) → List Job → Position → Minute → Result (Option Position) Refusal → Type 0
SearchAnswer off js from before (Ok o) =
    (bounds from.minute.0 ≡ true)
    × (bounds before.0 ≡ true)
    × NextDue (due_line off js) (rank from) before.0 o
SearchAnswer off js from before (Err e) =
    ((bounds from.minute.0 ≡ false) × (e ≡ OutOfRange from.minute))
    ⊎ ((bounds from.minute.0 ≡ true) × (bounds before.0 ≡ false) × (e ≡ OutOfRange before))
