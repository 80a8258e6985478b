use Rattle.std.proofs.Common.{◌≡◌, ◌<◌, ◌≤◌, get_or, length, sym, ap, ◌∙◌, arith}
use Rattle.disk.specs.Contents.{torn, read_of}
use Rattle.disks.specs.LookupLemmas.{at_past, at_within}
use Rattle.disks.proofs.calls.MemoryDiskDisk.read.Goals as goal

pub returns-in_err-get : goal.returns-in_err-get
returns-in_err-get g c =
    let past : length c.deref.result.now ≤ c.args.block = c.in_err-get.ensures.lookup.3 in
    let all = ap length c.deref.ensures.value in
    c.from_residual.ensures
    ∙ sym (ap read_of (at_past g.B.Slot.latest torn c.args.self.now.blocks.items c.args.block (omega arith)))

pub returns : goal.returns
returns g c =
    let within : c.args.block < length c.deref.result.now = c.in_ok-get.ensures.lookup.3.0 in
    let all = ap length c.deref.ensures.value in
    let b = c.in_ok-get.field-0.now in
    let there : b ≡ get_or c.args.self.now.blocks.items c.args.block b =
    c.in_ok-get.ensures.lookup.1 ∙ ap (λ bs. get_or bs c.args.block b) c.deref.ensures.value in
    c.shown.ensures
    ∙ ap read_of (ap g.B.Slot.latest there ∙ sym (at_within g.B.Slot.latest torn c.args.self.now.blocks.items c.args.block b (omega arith)))
