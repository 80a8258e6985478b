use Rattle.std.proofs.Common.{[], ◌∷◌, map, ap, subst, sym, ◌∙◌}
use Rattle.disk.specs.Contents.{Only, torn}
use Rattle.disks.specs.declared.fate.Fate.TheVariants.{New}
use Rattle.disks.specs.Lookup.{at}
use Rattle.disks.specs.Memory.{blocks_of}
use Rattle.disks.specs.Lists.{only_cut, synced}
use Rattle.disks.proofs.calls.MemoryDiskDisk.sync.Goals as goal

pub returns : goal.returns
returns g c =
    let slot = g.B.Slot in
    let laws = g.met.B.Slot.laws in
    let was = blocks_of c.args.self.now in
    let e = c.settle.ensures.blocks in
    record {
      count = c.settle.ensures.count;
      latest = ap (at slot.latest torn) e ∙ synced laws was;
      possible =
          subst (λ bs. Only (at slot.latest torn was) (at slot.possible (torn ∷ []) bs)) (sym e)
          (subst (λ l. Only l (at slot.possible (torn ∷ []) (map (slot.settled New) was))) (synced laws was) (only_cut laws New was));
    }
