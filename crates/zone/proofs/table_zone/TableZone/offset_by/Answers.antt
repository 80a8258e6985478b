use Rattle.std.proofs.Common.{◌∙◌, ap, arith, rules}
use Rattle.std.proofs.lemmas.Int.{ints}
use Rattle.zone.specs.declared.entry.Entry.{Entry}
use Rattle.zone.specs.Table.{blank}
use Rattle.zone.proofs.Chain.{good}
use Rattle.zone.proofs.Search.{offset_at_last, offset_or}
use Rattle.zone.proofs.table_zone.TableZone.offset_by.Goals as goal

pub returns : goal.returns
returns c =
    let es = c.args.self.now.entries.now in
    let well = good es c.args.self.now.sound in
    let some = offset_or c.last.result c.map_or.result c.map_or.ensures (λ e k. search rules) in
    let last = ap (λ (e : Entry). e.offset) (c.last.ensures.item.4 (omega arith) blank) in
    let e = some ∙ last ∙ offset_at_last es c.args.u c.place_of.result well c.place_of.ensures in
    omega (arith, ints)
