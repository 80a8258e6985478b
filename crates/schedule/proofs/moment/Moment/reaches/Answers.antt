use Rattle.std.proofs.Common.{◌≡◌, ◌-◌, ◌<◌, ℕ, false, is_le, nat_cmp, sym, ap, ◌∙◌, arith}
use Rattle.schedule.specs.declared.parts.Parts.{Parts}
use Rattle.schedule.specs.Due.{some_of}
use Rattle.schedule.specs.Match.{matches, matches_parts}
use Rattle.schedule.proofs.Labels.{any_some}
use Rattle.schedule.proofs.Reached.{some_go}
use Rattle.schedule.proofs.moment.Moment.reaches.Goals as goal

above : (m a : ℕ) → false ≡ is_le (nat_cmp m a) → a < m
above m a e = grind arith

pub returns-else-matches : goal.returns-else-matches
returns-else-matches c =
    let m = c.args.self.now.window.to.0 in
    let a = c.args.self.now.window.above.0 in
    let j = c.args.job.now in
    let t = c.previous.result.0 in
    let e : t ≡ m - 1 = c.previous.ensures in
    let some : a < m = above m a c.if-le.ensures in
    let miss = sym (c.if-matches.ensures ∙ ap (λ (p : Parts). matches_parts j p) c.args.self.now.read) in
    c.any_matches.ensures
    ∙ any_some (matches j) (t - a) a
    ∙ ap (λ x. some_of (t - a) (matches j) x) (omega arith)
    ∙ sym (some_go (m - a) (t - a) (matches j) m (omega arith) miss)
