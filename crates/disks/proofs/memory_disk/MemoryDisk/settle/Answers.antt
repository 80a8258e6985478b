use Rattle.std.proofs.Common.{length, set, refl, sym, ap, ◌∙◌, arith}
use Rattle.std.proofs.lemmas.List.Edits.{map_over_more}
use Rattle.disks.proofs.Settled.{all_changed}
use Rattle.disks.proofs.memory_disk.MemoryDisk.settle.Goals as goal

pub loop-b-preserved : goal.loop-b-preserved
loop-b-preserved g c =
    let settled = g.B.Slot.settled c.args.fate in
    let was = c.args.self.now.blocks.items in
    let long = ap length c.deref_mut-b-items.ensures.value in
    ap (set c.loop-b.b-items c.loop-b.b-index) (c.settle.ensures ∙ ap settled (sym c.b-item.is))
    ∙ map_over_more settled was c.loop-b.b-items c.loop-b.b-index c.b-item.result (omega arith) c.loop-b.invariant c.b-item.is

pub returns : goal.returns
returns g c =
    let was = c.args.self.now.blocks in
    let long = ap length c.deref_mut-b-items.ensures.value in
    let full = was.ok.0 in
    record {
      count = refl;
      blocks =
          all_changed (g.B.Slot.settled c.args.fate) was.items c.loop-b.b-items c.loop-b.b-index was.len (omega arith)
          (omega arith) (omega arith) c.loop-b.invariant;
    }
