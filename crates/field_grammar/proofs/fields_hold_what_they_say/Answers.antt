use Rattle.field_grammar.proofs.Values.{holds_said, holds_in_range, holds_some}
use Rattle.field_grammar.proofs.fields_hold_what_they_say.Goals as goal

pub returns : goal.returns
returns c = record { said = holds_said; in_range = holds_in_range; some = holds_some }
