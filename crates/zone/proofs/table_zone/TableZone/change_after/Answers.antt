use Rattle.std.proofs.Common.{rules, subst}
use Rattle.zone.specs.Offsets.{NextChange}
use Rattle.zone.specs.Table.{table_offset}
use Rattle.zone.proofs.Chain.{good}
use Rattle.zone.proofs.Search.{next_of, at_place_mapped}
use Rattle.zone.proofs.table_zone.TableZone.change_after.Goals as goal

pub returns : goal.returns
returns c =
    let es = c.args.self.now.entries.now in
    let r = c.place_of.result in
    let found = c.get.ensures.lookup.3 in
    subst (NextChange (table_offset es) c.args.u)
    (at_place_mapped c.get.result c.map.result es r c.map.ensures.cases (λ e x k. search rules) found)
    (next_of es c.args.u r (good es c.args.self.now.sound) c.place_of.ensures)
