use Rattle.field_grammar.proofs.Verdicts.{takes_sound, refuses_wrong}
use Rattle.field_grammar.proofs.elements_are_taken_or_refused.Goals as goal

pub returns : goal.returns
returns c = record { sound = takes_sound; wrong = refuses_wrong }
