use Rattle.std.proofs.Common.{◌≡◌, ◌≢◌, suc, ◌+◌, ◌∷◌, length, take, drop, refl, sym, ap, ◌∙◌, length-take, arith}
use Rattle.std.proofs.lemmas.Bool.{eqb-false}
use Rattle.crontab.specs.File.{lines}
use Rattle.crontab.proofs.Whole.{lines_step, line_length}
use Rattle.crontab.proofs.lines.LinesIterator.next.Goals as goal

pub returns-clause-steps : goal.returns-clause-steps
returns-clause-steps c =
    let s = c.args.self.now.text.now in
    let end = c.scan-end.result in
    let some : length s ≢ 0 = eqb-false _ _ (sym c.if-is_empty.ensures) in
    let here : end ≡ line_length s = omega (arith, c.scan-end.ensures.value) in
    let after : suc (line_length s) ≡ end + 1 = omega arith in
    record {
      number = refl;
      start = refl;
      first = lines_step s (omega arith)
          ∙ (λ i. take (sym here i) s ∷ lines (drop (after i) s))
          ∙ ap (λ t. take end s ∷ lines t) (sym c.rest_of.ensures);
      next_number = refl;
      next_start = simp length-take (omega (arith, c.scan-end.ensures.bound));
    }
