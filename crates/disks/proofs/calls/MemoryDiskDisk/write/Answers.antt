use Rattle.std.proofs.Common.{[], ◌∷◌, set, refl, ap, subst, ◌∙◌, arith}
use Rattle.disk.specs.Contents.{Among, torn}
use Rattle.disks.specs.Lookup.{at}
use Rattle.disks.specs.Lists.{lands, at_most}
use Rattle.disks.proofs.calls.MemoryDiskDisk.write.Goals as goal

pub returns-then-block-len : goal.returns-then-block-len
returns-then-block-len g c =
    let slot = g.B.Slot in
    let laws = g.met.B.Slot.laws in
    let was = c.args.self.now.blocks in
    let full = was.ok.0 in
    let b = c.index_mut.result.now in
    let put = ap (set was.items c.args.block) c.put.ensures in
    record {
      count = refl;
      latest =
          ap (at slot.latest torn) put
          ∙ lands laws was.items was.len c.args.block b c.args.bytes.now (omega arith) (omega arith);
      possible = λ i x m.
          at_most laws was.items was.len c.args.block b c.args.bytes.now (omega arith) (omega arith) c.index_mut.ensures.value i x
          (subst (λ bs. Among x (at slot.possible (torn ∷ []) bs i)) put m);
    }
