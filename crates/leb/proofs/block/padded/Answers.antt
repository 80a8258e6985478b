use Rattle.leb.proofs.Writing.{padded_by}
use Rattle.leb.proofs.block.padded.Goals as goal

pub returns : goal.returns
returns c = padded_by c.args.bytes.now c.copy_from_slice.new.self c.copy_from_slice.ensures.after
