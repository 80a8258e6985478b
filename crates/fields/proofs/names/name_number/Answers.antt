use Rattle.std.proofs.Common.{◌+◌, option_map, sym, ap, ◌∙◌}
use Rattle.fields.proofs.Name.{name_found}
use Rattle.fields.proofs.names.name_number.Goals as goal

pub returns-in_err-i : goal.returns-in_err-i
returns-in_err-i c =
    c.from_residual.ensures
    ∙ ap (option_map (λ i. c.args.first + i)) (sym c.in_err-i.was ∙ c.find_name.ensures)
    ∙ name_found c.args.word.now c.args.first c.args.names.now c.told-names c.requires.lower

pub returns : goal.returns
returns c =
    ap (option_map (λ i. c.args.first + i)) (sym c.in_ok-i.was ∙ c.find_name.ensures)
    ∙ name_found c.args.word.now c.args.first c.args.names.now c.told-names c.requires.lower
