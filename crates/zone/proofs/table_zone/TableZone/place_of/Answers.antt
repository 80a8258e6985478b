use Rattle.std.proofs.Common.{rules, leb}
use Rattle.std.proofs.lemmas.List.Sorted.{IsPartitionPoint-from_clause}
use Rattle.zone.proofs.Chain.{good}
use Rattle.zone.proofs.Search.{parted}
use Rattle.zone.proofs.table_zone.TableZone.place_of.Goals as goal

pub returns : goal.returns
returns c =
    let es = c.args.self.now.entries.now in
    let at = c.partition_point.ensures in
    parted es c.args.u c.partition_point.result at.bound
    (λ h. IsPartitionPoint-from_clause (λ e. leb e.minute.0 c.args.u) es c.partition_point.result at.partitioned h
    (λ a r f k. search rules))
    (good es c.args.self.now.sound)
