-- When lines are due across the clock changes of one year, reckoned by hand from the bytes of a crontab.
use Rattle.std.specs.Prelude.{◌≡◌, ℕ, zero, suc, ◌+◌, ◌/◌, ◌%◌, Bool, true, false, List, [], ◌∷◌, ℤ, pos, Some, None, Ok, Err, codes, Option, Result}
use Rattle.std.specs.List.{slice_get}
use Rattle.calendar.specs.Calendar.{weekday}
use Rattle.zone.specs.Table.{table_fault, table_offset}
use Rattle.zone.specs.declared.entry.Entry.{Entry}
use Rattle.crontab.specs.declared.job.Job.{Job}
use Rattle.crontab.specs.declared.refusal.Refusal.{Refusal}
use Rattle.crontab.specs.File.{file_reading}
use Rattle.schedule.specs.Due.{Fresh, due_line}
use Rattle.schedule.specs.Match.{matches}

abbrev pub entry : ℕ → ℕ → Entry
entry m o = record { minute = record { 0 = m }; offset = pos o }

-- an hour east of Greenwich, and two in the summer
abbrev pub table : List Entry
table = entry 0 60 ∷ entry 29054940 120 ∷ entry 29357340 60 ∷ []

abbrev pub offsets : ℕ → ℤ
offsets = table_offset table

abbrev pub taken : Result (List Job) Refusal → List Job
taken (Ok js) = js
taken (Err e) = []

abbrev pub jobs : List ℕ → List Job
jobs s = taken (file_reading s)

-- is the first line of a crontab due?
abbrev pub due : List ℕ → ℕ → Bool
due s u = due_line offsets (jobs s) u 0

-- does it match a label?
abbrev pub matched : Option Job → ℕ → Bool
matched None m = false
matched (Some j) m = matches j m

-- at how many of the n minutes from u on it is due
abbrev pub times_due : List Job → ℕ → ℕ → ℕ
times_due js zero u = 0
times_due js (suc n) u = elim (due_line offsets js (u + n) 0) [ true ↦ suc (times_due js n u) | false ↦ times_due js n u ]

-- a line at half past two: in spring that time is skipped, and the line is due as the clock jumps;
-- in autumn it comes twice, and the line is due the first time only
abbrev pub OnceADay : Type 0
OnceADay =
    (table_fault table ≡ None)
    × (due (codes "30 2 * * * backup") 29054940 ≡ true)
    × (due (codes "30 2 * * * backup") 29357310 ≡ true)
    × (due (codes "30 2 * * * backup") 29357370 ≡ false)

-- a line at two and at half past two in spring: both times are skipped, and both make it due at the same minute;
-- of the 720 minutes from local midnight on that is the only one
abbrev pub OneTicket : Type 0
OneTicket =
    (due (codes "0,30 2 * * * backup") 29054940 ≡ true)
    × (matched (slice_get (jobs (codes "0,30 2 * * * backup")) 0) 29055000 ≡ true)
    × Fresh offsets 29054940 29055000
    × (matched (slice_get (jobs (codes "0,30 2 * * * backup")) 0) 29055030 ≡ true)
    × Fresh offsets 29054940 29055030
    × (times_due (jobs (codes "0,30 2 * * * backup")) 720 29054820 ≡ 1)

-- neither the day nor the weekday is starred, so the weekday alone suffices: every Friday at nine
abbrev pub AnyFriday : Type 0
AnyFriday =
    (m : ℕ) → m % 1440 ≡ 540 → weekday (m / 1440) ≡ 5 →
    matched (slice_get (jobs (codes "0 9 13 * 5 run")) 0) m ≡ true

pub record DueCases : Type 0 where
  pub once_a_day : OnceADay
  pub one_ticket : OneTicket
  pub any_friday : AnyFriday
