use Rattle.std.proofs.Common.{◌<◌, length, sym, ◌∙◌, arith, rules}
use Rattle.upcoming.proofs.Digits.{all_read, digit_read, no_digit, some_bytes}
use Rattle.upcoming.proofs.script.number.Goals as goal

pub loop-digit-preserved : goal.loop-digit-preserved
loop-digit-preserved c =
    let e =
    digit_read c.args.digits.now c.loop-digit.digit-index c.loop-digit.value (omega arith)
    c.saturating_add-value.result
    (search rules)
    (omega (arith, c.saturating_add-value.ensures, c.saturating_mul.ensures, c.from.ensures)) in
    (omega (arith, c.saturating_add-value.type_inv), e ∙ c.loop-digit.invariant.1)

pub returns-then-not-is_ascii_digit : goal.returns-then-not-is_ascii_digit
returns-then-not-is_ascii_digit c =
    let e = no_digit c.args.digits.now c.loop-digit.digit-index c.loop-digit.value (omega arith) (search rules) in
    let full : 0 < length c.args.digits.now = search rules in
    sym e ∙ c.loop-digit.invariant.1 ∙ some_bytes c.args.digits.now full

pub returns : goal.returns
returns c =
    let e = all_read c.args.digits.now c.loop-digit.digit-index c.loop-digit.value (omega arith) c.loop-digit.invariant.0 in
    let full : 0 < length c.args.digits.now = search rules in
    sym e ∙ c.loop-digit.invariant.1 ∙ some_bytes c.args.digits.now full
