use Rattle.std.proofs.Common.{◌≡◌, suc, ◌+◌, ◌-◌, ◌<◌, false, length, take, drop, Some, None, ap, sym, ◌∙◌, arith, lt-ltb}
use Rattle.std.proofs.lemmas.List.{take_rest}
use Rattle.std.proofs.lemmas.Bool.Decides.{nat_tests}
use Rattle.scan.specs.Scan.{is}
use Rattle.scan.specs.declared.Kind.TheVariants.{Byte}
use Rattle.scan.proofs.First.{found_at}
use Rattle.fields.specs.Bytes.{find_in, has}
use Rattle.fields.proofs.bytes.Part.cut.Goals as goal

pub returns-in_err-i : goal.returns-in_err-i
returns-in_err-i c =
    let s = c.args.self.text.now in
    let none : find_in c.args.b s ≡ length s = found_at (is (Byte c.args.b)) s None (sym c.in_err-i.was ∙ c.find.ensures) in
    let no : has c.args.b s ≡ false = grind (arith, nat_tests, none) in
    rw (c.from_residual.ensures) no

pub returns : goal.returns
returns c =
    let s = c.args.self.text.now in
    let i = c.in_ok-i.i in
    let at = c.args.self.at in
    let found = found_at (is (Byte c.args.b)) s (Some i) (sym c.in_ok-i.was ∙ c.find.ensures) in
    let e : i ≡ find_in c.args.b s = found.0 in
    let lt : find_in c.args.b s < length s = omega (arith, found) in
    let next : i + 1 ≡ suc (find_in c.args.b s) = omega (arith, e) in
    let back : take (length s - (i + 1)) (drop (i + 1) s) ≡ drop (suc (find_in c.args.b s)) s = take_rest s (i + 1) ∙ ap (λ k. drop k s) next in (
      lt-ltb _ _ lt,
      λ k. record { at = at; text = take (e k) s },
      λ k. record { at = at + (e k + 1); text = back k },
    )
