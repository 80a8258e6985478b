use Rattle.std.proofs.Common.{◌≡◌, ℕ, ◌+◌, ◌-◌, Bool, true, false, sym, ap, ◌∙◌, subst, add_assoc, arith}
use Rattle.look.proofs.Passing.{passed, stopped, due_here}
use Rattle.look.proofs.search.before_due.Goals as goal
use Rattle.look.specs.Examined.{due_of}
use Rattle.service.specs.Outcomes.{before_due}
use Rattle.time.specs.Position.{rank}
use Rattle.time.specs.declared.minute.Minute.{Minute}
use Rattle.zone.specs.Answers.{window}

pub returns-in-Some : goal.returns-in-Some
returns-in-Some g c =
    let off = g.Z.Zone.offsets c.args.zone.now in
    let js = c.args.jobs.now in
    let P : ℕ → Bool = due_of off js in
    let first : ℕ = rank c.args.from in
    let l = c.loop-u in
    let a : ℕ = first + l.examined in
    let asked = rw c.unwrap-minute.ensures at c.new-in-loop-u.ensures in
    let w = c.within.ensures ∙ ap (λ (m : Minute). window off m.0) asked ∙ ap (window off) c.new.ensures in
    let h = c.in-Some.ensures in
    let n = c.lines_left-n.ensures in
    let at = l.invariant.2 (omega (arith, h.0, n)) in
    let here =
    stopped P c.in-Some.before a (c.args.count - l.examined) (omega (arith, h.0, n))
    (λ k x. due_here off js _ l.u l.line k a false w (omega (arith, h.0, n)) at (h.2 k x))
    (due_here off js _ l.u l.line c.in-Some.before a true w (omega (arith, h.0, n)) at h.1) in
    ap (λ x. l.examined + x) (c.from.ensures ∙ sym here) ∙ sym l.invariant.3

pub loop-u-preserved : goal.loop-u-preserved
loop-u-preserved g c =
    let off = g.Z.Zone.offsets c.args.zone.now in
    let js = c.args.jobs.now in
    let P : ℕ → Bool = due_of off js in
    let first : ℕ = rank c.args.from in
    let l = c.loop-u in
    let x : ℕ = l.examined in
    let m : ℕ = c.lines_left-n.result in
    let n = c.lines_left-n.ensures in
    let more = c.from-examined.ensures in
    let asked = rw c.unwrap-minute.ensures at c.new-in-loop-u.ensures in
    let w = c.within.ensures ∙ ap (λ (m : Minute). window off m.0) asked ∙ ap (window off) c.new.ensures in
    let rest : ℕ = c.args.count - (x + m) in
    let split : c.args.count - x ≡ m + rest = omega (arith, n) in
    let past =
    passed P m (first + x) rest
    (λ k y. due_here off js _ l.u l.line k (first + x) false w (omega (arith, n, y)) (l.invariant.2 (omega (arith, n, y)))
    (c.in_default.ensures k y)) in
    let Left : ℕ → Type 0 =
    λ d. before_due P first c.args.count ≡ x + d + before_due P (first + (x + d)) (c.args.count - (x + d)) in
    let left : Left m =
    l.invariant.3 ∙ ap (λ y. x + y) (ap (before_due P (first + x)) split ∙ past)
    ∙ sym (add_assoc x m (before_due P ((first + x) + m) rest))
    ∙ ap (λ y. x + m + before_due P y rest) (add_assoc first x m) in (
      omega (arith, n, more),
      omega arith,
      λ y. omega (arith, n, more, l.invariant.2 (omega (arith, n, more, y))),
      subst Left (sym more) left,
    )
