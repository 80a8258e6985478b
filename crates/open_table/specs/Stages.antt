-- How stages change.
use Rattle.open_table.specs.declared.stage.Change.{Change}
use Rattle.open_table.specs.declared.stage.Change.TheVariants.{Synced, Launched, Ended, Settled}
use Rattle.open_table.specs.declared.stage.Stage.{Stage}
use Rattle.open_table.specs.declared.stage.Stage.TheVariants.{Written, Logged, Running, Finished, Closing}
use Rattle.open_table.specs.declared.stage.Entry.{Entry}
use Rattle.std.specs.Prelude.{◌≡◌, Bool, true, false, Some, None, Option}

-- a sync makes what was written logged, and lets go of what was closing
abbrev pub after_sync : Stage → Option Stage
after_sync Written = Some Logged
after_sync Logged = Some Logged
after_sync Running = Some Running
after_sync Finished = Some Finished
after_sync Closing = None

-- only a logged ticket is launched, only a running one ends, and only a finished one is settled
abbrev pub after_launch : Stage → Stage
after_launch Written = Written
after_launch Logged = Running
after_launch Running = Running
after_launch Finished = Finished
after_launch Closing = Closing

abbrev pub after_end : Stage → Stage
after_end Written = Written
after_end Logged = Logged
after_end Running = Finished
after_end Finished = Finished
after_end Closing = Closing

abbrev pub after_settle : Stage → Stage
after_settle Written = Written
after_settle Logged = Logged
after_settle Running = Running
after_settle Finished = Closing
after_settle Closing = Closing

abbrev pub after_change : Stage → Change → Option Stage
after_change s Synced = after_sync s
after_change s Launched = Some (after_launch s)
after_change s Ended = Some (after_end s)
after_change s Settled = Some (after_settle s)

-- the entry moves to this stage and stays, or it leaves the table
abbrev pub MovesTo : Option Stage → Entry → Entry → Bool → Type 0
MovesTo None old new stays = stays ≡ false
MovesTo (Some s) old new stays = (stays ≡ true) × (new ≡ record { ticket = old.ticket; stage = s })

abbrev pub Syncs : Entry → Entry → Bool → Type 0
Syncs old new stays = MovesTo (after_sync old.stage) old new stays
