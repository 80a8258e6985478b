-- A refusal as text.
use Rattle.std.specs.Prelude.{ℕ, List, ◌++◌, codes}
use Rattle.std.specs.Fmt.{decimal}
use Rattle.refusal_code.specs.declared.Code.{Code}

-- `refused`, the number and the value beside it, parted by spaces
abbrev pub code_text : Code → List ℕ
code_text c = codes "refused " ++ decimal c.number ++ codes " " ++ decimal c.beside
