use Rattle.field_grammar.proofs.Elements.{one_reading, reads_elements}
use Rattle.field_grammar.proofs.Parts.{reads_parts}
use Rattle.field_grammar.proofs.elements_are_read_by_the_grammar.Goals as goal

pub returns : goal.returns
returns c = record { one_reading = one_reading; elements = reads_elements; parts = reads_parts }
