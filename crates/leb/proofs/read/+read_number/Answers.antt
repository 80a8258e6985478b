use Rattle.std.proofs.Common.{get_or, refl, ap, arith}
use Rattle.std.proofs.lemmas.Bool.{false≢true}
use Rattle.leb.proofs.Numbers.{none_empty, one_low, none_more, none_rest, none_after, some_after}
use Rattle.leb.proofs.read.+read_number.Goals as goal

pub returns-in_err-first : goal.returns-in_err-first
returns-in_err-first t c = rw c.from_residual.ensures (none_empty _ _ c.in_err-first.ensures.cases)

pub returns-then-b-lt-GROUP : goal.returns-then-b-lt-GROUP
returns-then-b-lt-GROUP t c =
    rw c.then_some.ensures (one_low _ _ _ _ c.in_ok-first.ensures.cases.0 c.in_ok-first.rest (λ r. r.now) refl (omega arith))

pub returns-then-max-lt-GROUP : goal.returns-then-max-lt-GROUP
returns-then-max-lt-GROUP t c = none_more _ _ _ _ c.in_ok-first.ensures.cases.0 (omega arith) (omega arith)

pub returns-in_err-high : goal.returns-in_err-high
returns-in_err-high t c =
    rw c.from_residual-in_err-high.ensures (none_rest _ _ _ _ c.in_ok-first.ensures.cases.0 (omega arith) c.in_err-high.ensures)

pub returns-then-not-is_taken : goal.returns-then-not-is_taken
returns-then-not-is_taken t c =
    none_after _ _ _ _ c.in_ok-first.ensures.cases.0 c.in_ok-high.high _ c.in_ok-high.ensures.1 (omega arith)
    (λ h. false≢true (c.if-not-is_taken.ensures.1 h))

pub returns : goal.returns
returns t c =
    let ok = c.if-not-is_taken.ensures.0 refl in
    some_after _ _ _ _ c.in_ok-first.ensures.cases.0 c.in_ok-high.high _ c.in_ok-high.ensures.1
    (omega arith) (omega (arith, c.type_inv.s 0, ap (λ s. get_or s 0 0) c.in_ok-first.ensures.cases.0)) ok.0 ok.1
