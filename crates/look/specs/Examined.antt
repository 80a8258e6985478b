-- What a look examines.
use Rattle.std.specs.Prelude.{◌≡◌, ℕ, ◌+◌, ◌-◌, Bool, true, false, ◌&&◌, List, ℤ, Some, None, Option, nat_le}
use Rattle.crontab.specs.declared.job.Job.{Job}
use Rattle.journal_model.specs.Positions.{minute_of, line_of}
use Rattle.schedule.specs.Due.{due_line}
use Rattle.service.specs.Outcomes.{before_due}
use Rattle.time.specs.Limits.{first_minute, last_minute}
use Rattle.time.specs.Position.{rank}
use Rattle.time.specs.declared.position.Position.{Position}

-- the position of this rank is due, by a zone's offsets and the job lines of a file
abbrev pub due_of : (ℕ → ℤ) → List Job → ℕ → Bool
due_of off js r = due_line off js (minute_of r) (line_of r)

-- the minute of the last of so many positions from rank r on; of the first, if there are none
abbrev pub last_examined : ℕ → ℕ → ℕ
last_examined r count = minute_of (r + (count - 1))

-- all of them are at minutes at which a line can be due
abbrev pub within : Position → ℕ → Bool
within from count = nat_le first_minute from.minute.0 && nat_le (last_examined (rank from) count) last_minute

-- how many of them come before the first due one, or none where they are not within
abbrev pub Examined : (ℕ → ℤ) → List Job → Position → ℕ → Option ℕ → Type 0
Examined off js from count (Some k) = (within from count ≡ true) × (k ≡ before_due (due_of off js) (rank from) count)
Examined off js from count None = within from count ≡ false
