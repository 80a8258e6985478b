-- A line of the file: what job it holds, or its first refusal.
use Rattle.std.specs.Prelude.{ℕ, ◌+◌, ◌-◌, cond, List, length, Some, None, Ok, Err, Option, Result, nat_le, nat_lt}
use Rattle.fields.specs.declared.element.Field.{Field}
use Rattle.fields.specs.declared.element.Field.TheVariants.{Minute, Hour, Day, Month, Weekday}
use Rattle.fields.specs.declared.reader.BadElement.{BadElement}
use Rattle.fields.specs.declared.reader.FieldSet.{FieldSet}
use Rattle.fields.specs.Values.{field_reading}
use Rattle.crontab.specs.declared.refusal.Place.{Place}
use Rattle.crontab.specs.declared.refusal.Refusal.{Refusal}
use Rattle.crontab.specs.declared.refusal.Refusal.TheVariants.{LineTooLong, ForbiddenByte, TooManyJobs, Element, Missing}
use Rattle.crontab.specs.declared.job.Command.{Command}
use Rattle.crontab.specs.declared.job.Job.{Job}
use Rattle.crontab.specs.Limits.{longest_line, most_jobs}
use Rattle.crontab.specs.Words.{begin, word, past, forbidden_in, idle}

-- what follows if the first thing was not refused
abbrev pub and_then : {X Y E : Type 0} → Result X E → (X → Result Y E) → Result Y E
and_then (Ok x) g = g x
and_then (Err e) g = Err e

-- a place, by its line and column
abbrev pub place : ℕ → ℕ → Place
place n c = record { line = n; column = c }

-- a field or the command is missing at the end of the line
abbrev pub missing : ℕ → List ℕ → Refusal
missing n l = Missing (place n (length l + 1))

-- a field that begins after p bytes of line n: its refused element by line and column
abbrev pub in_line : Field → ℕ → ℕ → Result FieldSet BadElement → Result FieldSet Refusal
in_line f n p (Ok v) = Ok v
in_line f n p (Err b) = Err (Element b.fault (place n (p + b.at + 1)) f)

-- the fields stand in this order
abbrev pub words_before : Field → ℕ
words_before Minute = 0
words_before Hour = 1
words_before Day = 2
words_before Month = 3
words_before Weekday = 4

-- the word that begins at or after place i, as a field
abbrev pub field_after : Field → ℕ → List ℕ → ℕ → Result FieldSet Refusal
field_after f n l i =
    cond (nat_lt (begin l i) (length l))
    (in_line f n (begin l i) (field_reading f (word l i)))
    (Err (missing n l))

-- a field of line n
unfoldable pub field_at : Field → ℕ → List ℕ → Result FieldSet Refusal
field_at f n l = field_after f n l (past l (words_before f))

-- the command that begins at or after place i of the line that begins at place start of the file
abbrev pub command_after : ℕ → ℕ → List ℕ → ℕ → Result Command Refusal
command_after n start l i =
    cond (nat_lt (begin l i) (length l))
    (Ok (record { at = start + begin l i; length = length l - begin l i }))
    (Err (missing n l))

-- the command of line n: what follows its five fields
abbrev pub command_at : ℕ → ℕ → List ℕ → Result Command Refusal
command_at n start l = command_after n start l (past l 5)

-- the job of line n, or its first refusal from the left
abbrev pub job_reading : ℕ → ℕ → List ℕ → Result Job Refusal
job_reading n start l =
    and_then (field_at Minute n l) λ minute.
    and_then (field_at Hour n l) λ hour.
    and_then (field_at Day n l) λ day.
    and_then (field_at Month n l) λ month.
    and_then (field_at Weekday n l) λ weekday.
    and_then (command_at n start l) λ command.
    Ok (record {
      line = n;
      minute = minute;
      hour = hour;
      day = day;
      month = month;
      weekday = weekday;
      command = command;
    })

abbrev pub with_job : Result Job Refusal → Result (Option Job) Refusal
with_job (Ok j) = Ok (Some j)
with_job (Err e) = Err e

-- line n, which begins at place start of the file and has k job lines before it
abbrev pub line_reading : ℕ → ℕ → ℕ → List ℕ → Result (Option Job) Refusal
line_reading n start k l =
    cond (nat_lt longest_line (length l)) (Err (LineTooLong (place n (longest_line + 1))))
    (cond (nat_lt (forbidden_in l) (length l)) (Err (ForbiddenByte (place n (forbidden_in l + 1))))
    (cond (idle l) (Ok None)
    (cond (nat_le most_jobs k) (Err (TooManyJobs (place n 1)))
    (with_job (job_reading n start l)))))
