-- A block that is written from its start on.
use Rattle.std.specs.Prelude.{◌≡◌, ℕ, ◌-◌, List, ◌++◌, length, take, replicate}
use Rattle.leb.specs.Limits.{block}

-- after what was written before, xs was written, as far as it fits
abbrev pub Wrote : List ℕ → List ℕ → List ℕ → Type 0
Wrote before after xs = after ≡ take block (before ++ xs)

-- zero bytes fill the block
abbrev pub filled : List ℕ → List ℕ
filled xs = xs ++ replicate (block - length xs) 0
