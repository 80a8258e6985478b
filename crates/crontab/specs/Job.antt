-- A job line.
use Rattle.std.specs.Prelude.{Bool, ◌||◌}
use Rattle.fields.specs.declared.element.Field.{Field}
use Rattle.fields.specs.declared.element.Field.TheVariants.{Minute, Hour, Day, Month, Weekday}
use Rattle.fields.specs.declared.reader.FieldSet.{FieldSet}
use Rattle.crontab.specs.declared.job.Job.{Job}

-- it is wild if its minute or hour is starred, and fixed otherwise
abbrev pub wild : Job → Bool
wild j = j.minute.starred || j.hour.starred

-- a field of a job
abbrev pub field_of : Field → Job → FieldSet
field_of Minute j = j.minute
field_of Hour j = j.hour
field_of Day j = j.day
field_of Month j = j.month
field_of Weekday j = j.weekday
