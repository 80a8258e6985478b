-- What is told of the cases.
use Rattle.std.specs.Prelude.{ℕ, List, ◌++◌, codes}
use Rattle.std.specs.Fmt.{decimal}
use Rattle.cases.specs.declared.tally.Tally.{Tally}

-- how many cases there are, and in how many the answer differs
abbrev pub tally_text : Tally → List ℕ
tally_text t = codes "cases " ++ decimal t.cases ++ codes " differ " ++ decimal t.differ
