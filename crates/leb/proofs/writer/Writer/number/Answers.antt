use Rattle.std.proofs.Common.{arith}
use Rattle.leb.proofs.Writing.{write_more, write_last}
use Rattle.leb.proofs.writer.Writer.number.Goals as goal

pub loop-n-preserved : goal.loop-n-preserved
loop-n-preserved c = write_more _ _ _ c.loop-n.n _ (omega arith) c.group_of.ensures c.byte.ensures c.loop-n.invariant

pub returns : goal.returns
returns c = write_last _ _ _ c.loop-n.n (omega arith) c.byte-2.ensures c.loop-n.invariant
