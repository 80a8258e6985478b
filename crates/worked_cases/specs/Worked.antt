-- All cases worked out by hand, in one statement.
use Rattle.worked_cases.specs.Reader.{Ranges, Steps, Names, Lines}
use Rattle.page.specs.Laws.{FirstStart}
use Rattle.worked_cases.specs.Due.{DueCases}

pub record Worked : Type 0 where
  pub ranges : Ranges
  pub steps : Steps
  pub names : Names
  pub lines : Lines
  pub due : DueCases
  pub page : FirstStart
