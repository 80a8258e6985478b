use Rattle.std.proofs.Common.{refl, lit<, lit≤}
use Rattle.schedule.proofs.Reached.{highest_above}
use Rattle.page.proofs.First.{first_start_bytes}
use Rattle.worked_cases.specs.Due.{offsets}
use Rattle.worked_cases.proofs.Fridays.{any_friday}
use Rattle.zone.specs.Offsets.{reached}
use Rattle.fields.specs.Values.{field_reading}
use Rattle.crontab.specs.Words.{past}
use Rattle.crontab.specs.Line.{field_at}
use Rattle.worked_cases.proofs.worked_cases_hold.Goals as goal

pub returns : goal.returns
unfolding field_reading past field_at reached
returns c = record {
  ranges = (refl, refl, refl, refl, refl, refl, refl, refl);
  steps = (refl, refl, refl, refl, refl, refl, refl, refl);
  names = (refl, refl, refl, refl, refl, refl, refl);
  lines = (refl, refl, refl, refl, refl, refl, refl, refl, refl, refl, refl, refl, refl, refl, refl, refl);
  due = record {
    once_a_day = (refl, refl, refl, refl);
    one_ticket = (
      refl,
      refl,
      record { now_reached = lit≤ tt; not_before = λ k h. highest_above offsets 180 29054940 k 29055000 (lit< tt) h },
      refl,
      record { now_reached = lit≤ tt; not_before = λ k h. highest_above offsets 180 29054940 k 29055030 (lit< tt) h },
      refl,
    );
    any_friday = any_friday;
  };
  page = first_start_bytes;
}
