use Rattle.calendar.proofs.Text.{zeros_before}
use Rattle.calendar.proofs.DateDisplay.fmt.Goals as goal

pub returns-clause-writes : goal.returns-clause-writes
returns-clause-writes g c =
    rw (
      c.laid_out.ensures,
      c.laid_out-2.ensures,
      c.laid_out-3.ensures,
      zeros_before 4 c.args.self.now.year,
      zeros_before 2 c.args.self.now.month,
      zeros_before 2 c.args.self.now.day,
    ) at c.write.ensures.writes
