-- The labels that a job line matches.
use Rattle.std.specs.Prelude.{ℕ, ◌/◌, ◌%◌, Bool, false, cond, ◌&&◌, ◌||◌, slice_index_or}
use Rattle.calendar.specs.Calendar.{date, weekday}
use Rattle.fields.specs.declared.reader.FieldSet.{FieldSet}
use Rattle.crontab.specs.declared.job.Job.{Job}
use Rattle.schedule.specs.declared.parts.Parts.{Parts}

-- the number of the day that a label lies in
abbrev pub day_number : ℕ → ℕ
day_number m = m / 1440

abbrev pub parts : ℕ → Parts
parts m = record {
  minute = m % 60;
  hour = m % 1440 / 60;
  day = (date (day_number m)).day;
  month = (date (day_number m)).month;
  weekday = weekday (day_number m);
}

-- v is one of a field's values
abbrev pub held : FieldSet → ℕ → Bool
held s v = slice_index_or s.values.has v false

-- day and weekday have to fit both; if neither is starred, either suffices
abbrev pub on_day : Job → Parts → Bool
on_day j p =
    cond (j.day.starred || j.weekday.starred)
    (held j.day p.day && held j.weekday p.weekday)
    (held j.day p.day || held j.weekday p.weekday)

abbrev pub matches_parts : Job → Parts → Bool
matches_parts j p =
    held j.minute p.minute
    && (held j.hour p.hour
    && (held j.month p.month
    && on_day j p))

abbrev pub matches : Job → ℕ → Bool
matches j m = matches_parts j (parts m)
