use Rattle.std.proofs.Common.{length, vec_items, sym, arith}
use Rattle.open_table.proofs.Syncs.{tickets_long}
use Rattle.open_table.proofs.table.Table.add.Goals as goal
use Rattle.open_table.specs.Tables.{table_in}
use Rattle.page.specs.Limits.{most_open}
use Rattle.service.specs.Table.{tickets_of}
use Rattle.std.proofs.lemmas.Bool.{ltb-true}

pub push_reserved-requires : goal.push_reserved-requires
push_reserved-requires c =
    omega (
      arith,
      ltb-true (length (tickets_of (table_in c.args.self.now))) most_open (sym c.if-not-has_place.ensures),
      tickets_long (vec_items c.args.self.now.entries),
    )
