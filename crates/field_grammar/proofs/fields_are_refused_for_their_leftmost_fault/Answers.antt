use Rattle.field_grammar.proofs.Faults.{refuses_leftmost, takes_faultless}
use Rattle.field_grammar.proofs.fields_are_refused_for_their_leftmost_fault.Goals as goal

pub returns : goal.returns
returns c = record { leftmost = refuses_leftmost; faultless = takes_faultless }
