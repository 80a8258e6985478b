use Rattle.std.proofs.Common.{ℕ, [], ◌∷◌, sym, subst}
use Rattle.disk.specs.Contents.{Among, Only, torn}
use Rattle.disks.specs.Lookup.{at}
use Rattle.disks.specs.Memory.{blocks_of}
use Rattle.disks.specs.Lists.{only_cut, picked_cut}
use Rattle.disks.proofs.memory_disk.MemoryDisk.cut_to.Goals as goal

pub returns : goal.returns
returns g c =
    let slot = g.B.Slot in
    let laws = g.met.B.Slot.laws in
    let was = blocks_of c.args.self.now in
    let e = c.settle.ensures.blocks in
    record {
      count = c.settle.ensures.count;
      blocks = e;
      only = subst (λ bs. Only (at slot.latest torn bs) (at slot.possible (torn ∷ []) bs)) (sym e) (only_cut laws c.args.fate was);
      picked = subst (λ bs. (i : ℕ) → Among (at slot.latest torn bs i) (at slot.possible (torn ∷ []) was i)) (sym e) (picked_cut laws c.args.fate was);
    }
