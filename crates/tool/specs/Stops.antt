-- How a program ends.
use Rattle.std.specs.Prelude.{ℕ, ◌≡◌, ◌≢◌, ◌⊎◌, Result, Ok, Err}
use Rattle.std.specs.IoError.{error_kind}
use Rattle.std.specs.declared.io.ErrorKind.TheVariants.{OutOfMemory}
use Rattle.std.specs.declared.io.Error.{Error}
use Rattle.tool.specs.declared.stop.Stop.{Stop}
use Rattle.tool.specs.declared.stop.Stop.TheVariants.{Memory, Failed}

-- want of memory is told as such, and any other error as it is
pub record TellsError (e : Error) (s : Stop) : Type 0 where
  pub memory : error_kind e ≡ OutOfMemory → s ≡ Memory
  pub other : error_kind e ≢ OutOfMemory → s ≡ Failed e

-- 0 where all went well
abbrev pub status_of : Result (Unit {0}) Stop → ℕ
status_of (Ok u) = 0
status_of (Err stop) = 1

-- the two statuses that a program ends with
abbrev pub IsEnding : ℕ → Type 0
IsEnding status = (status ≡ 0) ⊎ (status ≡ 1)
