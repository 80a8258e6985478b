use Rattle.std.proofs.Common.{◌≡◌, ◌+◌, length, ap, sym, ◌∙◌, arith}
use Rattle.std.proofs.lemmas.List.{length-take-le}
use Rattle.scan.proofs.First.{first_le}
use Rattle.fields.specs.Bytes.{Piece, find_in}
use Rattle.fields.specs.Elements.{begins, ends, left}
use Rattle.fields.proofs.Parts.{split_more, split_last, back_length}
use Rattle.fields.proofs.elements.ElementsIterator.next.Goals as goal

pub returns-in-Some-clause-steps : goal.returns-in-Some-clause-steps
returns-in-Some-clause-steps c =
    let p = c.in_ok-rest.rest in
    let s = p.text.now in
    let e = c.in-Some.element in
    let m = c.in-Some.more in
    let cut = c.in-Some.ensures in
    let at : e.at ≡ p.at = ap (λ (q : Piece). q.at) cut.1 in
    let front = ap (λ (q : Piece). q.text) cut.1 in
    let more_at : m.at ≡ p.at + (find_in 44 s + 1) = ap (λ (q : Piece). q.at) cut.2 in
    let back = ap (λ (q : Piece). q.text) cut.2 in
    let long : length e.text.now ≡ find_in 44 s = ap length front ∙ length-take-le (find_in 44 s) s (first_le _ s) in
    let rest = back_length s m.text.now cut.0 back in
    let all : ends c.args.self.now.rest ≡ p.at + length s = ap ends c.in_ok-rest.was in
    record {
      at = at ∙ sym (ap begins c.in_ok-rest.was);
      first = ap left c.in_ok-rest.was ∙ split_more s e.text.now m.text.now cut.0 front back;
      next = omega (arith, at, more_at, long);
      within = omega (arith, at, all);
      ends_within = omega (arith, more_at, rest, all);
    }

pub returns-clause-steps : goal.returns-clause-steps
returns-clause-steps c =
    let p = c.in_ok-rest.rest in
    let all : ends c.args.self.now.rest ≡ p.at + length p.text.now = ap ends c.in_ok-rest.was in
    record {
      at = sym (ap begins c.in_ok-rest.was);
      first = ap left c.in_ok-rest.was ∙ split_last p.text.now c.in_default.ensures;
      next = tt;
      within = omega (arith, all);
      ends_within = omega arith;
    }
