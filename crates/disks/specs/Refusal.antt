-- The number by which each case is refused, and what stands beside it.
use Rattle.refusal_code.specs.declared.Code.{Code}
use Rattle.disks.specs.declared.refusal.Refusal.{Refusal}
use Rattle.disks.specs.declared.refusal.Refusal.TheVariants.{BlockCount}

abbrev pub code_of : Refusal → Code
code_of (BlockCount count) = record { number = 14; beside = count }
