use Rattle.service.proofs.Ranges.{ranges_kept}
use Rattle.service.proofs.values_stay_in_range.Goals as goal

pub returns : goal.returns
returns c = ranges_kept
