use Rattle.std.proofs.Common.{◌+◌, sym, ◌∙◌, ap, arith}
use Rattle.std.specs.Option.{option_map}
use Rattle.zone.specs.Table.{blank, starts}
use Rattle.zone.proofs.Walk.{fault_there, misfit_within}
use Rattle.zone.proofs.rules.bad_entry.Goals as goal

pub returns-in_err-first_misfit-in-Some : goal.returns-in_err-first_misfit-in-Some
returns-in_err-first_misfit-in-Some c =
    let good = ap starts (sym (c.in-Some.ensures.item.3.1 blank)) ∙ sym c.if-may_start.ensures in
    c.from_residual.ensures
    ∙ sym (ap (option_map (λ i. 1 + i)) c.in_err-first_misfit-in-Some.was)
    ∙ fault_there c.args.entries.now c.first_misfit.result (omega (arith, c.in-Some.ensures.item.3.0)) good c.first_misfit.ensures

pub overflow_add-result : goal.overflow_add-result
overflow_add-result c =
    let seen = sym c.first_misfit.ensures ∙ c.in_ok-first_misfit-in-Some.was in
    omega (arith, misfit_within c.args.entries.now c.in_ok-first_misfit-in-Some.field-0 seen, c.well_formed.0.0, c.well_formed.0.1)

pub returns-in_ok-first_misfit-in-Some : goal.returns-in_ok-first_misfit-in-Some
returns-in_ok-first_misfit-in-Some c =
    let good = ap starts (sym (c.in-Some.ensures.item.3.1 blank)) ∙ sym c.if-may_start.ensures in
    sym (ap (option_map (λ i. 1 + i)) c.in_ok-first_misfit-in-Some.was)
    ∙ fault_there c.args.entries.now c.first_misfit.result (omega (arith, c.in-Some.ensures.item.3.0)) good c.first_misfit.ensures
