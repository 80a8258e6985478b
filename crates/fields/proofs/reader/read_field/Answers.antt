use Rattle.std.proofs.Common.{◌≡◌, ℕ, ◌<◌, false, ◌||◌, List, [], length, get_or, None, Ok, Err, sym, ap, ◌∙◌, rules}
use Rattle.std.proofs.Math.Bool.{or-false}
use Rattle.std.proofs.lemmas.List.FromFn.{fill_by_all}
use Rattle.std.proofs.lemmas.Result.{err_from_is_err_and}
use Rattle.fields.specs.Bytes.{split}
use Rattle.fields.specs.Elements.{begins, left}
use Rattle.fields.specs.Values.{any_takes, field_bad, first_bad, holds}
use Rattle.fields.proofs.Parts.{bad_here, refused, accepted, standing_same}
use Rattle.fields.proofs.reader.read_field.Goals as goal

-- the element that is refused is the first bad one
pub returns-in_err-read_element-clause-answer : goal.returns-in_err-read_element-clause-answer
returns-in_err-read_element-clause-answer c =
    let f = c.args.f in
    let bad = c.in_err-read_element.field-0.0 in
    let verdict = c.in_err-read_element.ensures in
    let step = c.in-Some.ensures.steps in
    let here = bad_here f _ _ _ step.first _ bad (verdict.0, verdict.1 ∙ step.at) in
    let p = err_from_is_err_and c.from_residual.result c.from_residual.ensures.1 in
    p.1 ∙ ap Err p.2 ∙ refused f c.args.s.now bad (sym c.loop-element.invariant.1 ∙ here)

pub returns-clause-answer : goal.returns-clause-answer
returns-clause-answer c =
    let f = c.args.f in
    let rest = c.loop-element.element-iterator.rest in
    let has = c.loop-element.numbers.has in
    let none : left rest ≡ [] = c.in-None.ensures.steps.0 in
    let good : field_bad f c.args.s.now ≡ None = sym c.loop-element.invariant.1 ∙ ap (first_bad f (begins rest)) none in
    let numbers : (k : ℕ) → k < 64 → get_or has k false ≡ any_takes f (split 44 c.args.s.now) k =
    λ k h. sym (or-false _) ∙ ap (λ (l : List (List ℕ)). get_or has k false || any_takes f l k) (sym none) ∙ c.loop-element.invariant.2 k h in
    let long : length c.stood_for.result.has ≡ 64 = search rules in
    let values = fill_by_all (holds f c.args.s.now) c.stood_for.result.has 64 false long
    (λ k h. c.stood_for.ensures k h ∙ standing_same f _ _ numbers k h) in
    (λ i. Ok (record { values = record { has = values i }; starred = c.is_starred.ensures i })) ∙ accepted f c.args.s.now good
