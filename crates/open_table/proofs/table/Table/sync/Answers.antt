use Rattle.std.proofs.Common.{map, rules, ap, ◌∙◌}
use Rattle.open_table.proofs.Syncs.{retained, synced_in}
use Rattle.open_table.proofs.table.Table.sync.Goals as goal
use Rattle.open_table.specs.Tables.{entry_in}

pub returns : goal.returns
returns c =
    ap (map entry_in) (retained _ (λ s e b t f h. search rules) _ _ _ c.retain_mut.ensures.filtered)
    ∙ synced_in c.args.self.now.entries.items
