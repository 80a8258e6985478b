use Rattle.std.proofs.Common.{◌≡◌, ltb, length, vec_items, ap, arith}
use Rattle.open_table.proofs.Syncs.{tickets_long}
use Rattle.open_table.proofs.table.Table.has_place.Goals as goal
use Rattle.open_table.specs.Tables.{table_in}
use Rattle.page.specs.Limits.{most_open}
use Rattle.service.specs.Table.{tickets_of}

pub returns : goal.returns
returns c =
    let e : c.len.result ≡ length (tickets_of (table_in c.args.self.now)) =
    omega (arith, c.len.ensures, tickets_long (vec_items c.args.self.now.entries)) in
    ap (λ n. ltb n most_open) e
