use Rattle.std.proofs.Common.{◌∙◌, arith, rules}
use Rattle.leb.proofs.Writing.{wrote_byte, wrote_past}
use Rattle.leb.proofs.writer.Writer.byte.Goals as goal

pub returns-then-not-is_full : goal.returns-then-not-is_full
returns-then-not-is_full c = c.push.ensures.items ∙ wrote_byte c.args.self.now.bytes.items c.args.b (omega arith)

pub returns-else-not-is_full : goal.returns-else-not-is_full
returns-else-not-is_full c = wrote_past c.args.self.now.bytes.items c.args.b (search rules)
