-- What a writer has written.
use Rattle.std.specs.Prelude.{ℕ, List}
use Rattle.leb.specs.Block.{Wrote}
use Rattle.leb.specs.declared.writer.Writer.{Writer}

abbrev pub written : Writer → List ℕ
written w = w.bytes.items

-- between the two, xs was written
abbrev pub Writes : Writer → Writer → List ℕ → Type 0
Writes w v xs = Wrote (written w) (written v) xs
