use Rattle.service.proofs.Promises.{restart_finds}
use Rattle.service.proofs.restarts_find_what_was_synced_or_in_flight.Goals as goal

pub returns : goal.returns
returns c = restart_finds
