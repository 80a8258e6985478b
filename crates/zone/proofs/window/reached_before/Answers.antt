use Rattle.std.proofs.Common.{◌≡◌, ◌-◌, sym, ap, ◌∙◌, arith}
use Rattle.time.specs.declared.minute.Minute.{Minute}
use Rattle.std.proofs.lemmas.Int.{ints}
use Rattle.std.proofs.lemmas.Bool.Decides.{nat_tests}
use Rattle.zone.specs.Limits.{look_back}
use Rattle.zone.specs.Offsets.{label}
use Rattle.zone.proofs.Highest.{reached_level}
use Rattle.zone.proofs.window.reached_before.Goals as goal

pub returns-then-old-new : goal.returns-then-old-new
returns-then-old-new g c =
    let off = g.Z.Zone.offsets c.args.z.now in
    let u = c.args.u.minute.0 in
    let served = c.args.u.within in
    let old = c.offset_in-old.ensures ∙ ap off c.earlier.ensures in
    let new = c.offset_in-new.ensures ∙ ap (λ (m : Minute). off m.0) c.from.ensures in
    let same : off (u - look_back) ≡ off u = omega (arith, ints) in
    c.label_in.ensures
    ∙ ap (label off) c.earlier-then-old-new.ensures
    ∙ sym (reached_level off c.lawful.ensures u (grind (arith, nat_tests)) (grind (arith, nat_tests)) same)
