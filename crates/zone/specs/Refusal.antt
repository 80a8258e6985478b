-- The number by which each case is refused, and what stands beside it.
use Rattle.refusal_code.specs.declared.Code.{Code}
use Rattle.zone.specs.declared.refusal.Refusal.{Refusal}
use Rattle.zone.specs.declared.refusal.Refusal.TheVariants.{BadTable, BadJoin, OutOfRange}

abbrev pub code_of : Refusal → Code
code_of (BadTable index) = record { number = 11; beside = index }
code_of (BadJoin t) = record { number = 12; beside = t.0 }
code_of (OutOfRange u) = record { number = 13; beside = u.0 }
