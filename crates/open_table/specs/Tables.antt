-- The table as the model of the service has it.
use Rattle.std.specs.Prelude.{ℕ, List, [], ◌∷◌, ◌++◌, map, vec_items, Ok, Err, Result}
use Rattle.open_table.specs.declared.stage.Entry.{Entry}
use Rattle.open_table.specs.declared.stage.Stage.{Stage}
use Rattle.open_table.specs.declared.stage.Stage.TheVariants.{Written, Logged, Running, Finished, Closing}
use Rattle.open_table.specs.declared.table.Full.{Full}
use Rattle.open_table.specs.declared.table.Table.{Table}
use Rattle.service.specs.Table as model
use Rattle.time.specs.Position.{rank}

abbrev pub stage_in : Stage → model.Stage
stage_in Written = model.written
stage_in Logged = model.logged
stage_in Running = model.running
stage_in Finished = model.finished
stage_in Closing = model.closing

-- an entry, with its ticket by rank
abbrev pub entry_in : Entry → model.Entry
entry_in e = record { ticket = rank e.ticket; stage = stage_in e.stage }

abbrev pub table_in : Table → List model.Entry
table_in t = map entry_in (vec_items t.entries)

-- the table with one ticket more, if it was added
abbrev pub after_add : Result (Unit {0}) Full → List model.Entry → ℕ → model.Stage → List model.Entry
after_add (Ok u) table t s = table ++ (record { ticket = t; stage = s } ∷ [])
after_add (Err e) table t s = table
