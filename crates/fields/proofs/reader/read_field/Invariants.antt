use Rattle.std.proofs.Common.{◌≡◌, ℕ, ◌<◌, ◌≤◌, false, ◌||◌, length, get_or}
use Rattle.fields.specs.Values.{first_bad, any_takes, field_bad}
use Rattle.fields.specs.Bytes.{split}
use Rattle.fields.specs.Elements.{begins, ends, left}
use Rattle.fields.proofs.reader.read_field.Given as goal

abbrev pub invariant-loop-element : goal.invariant-loop-element
invariant-loop-element l =
    let rest = l.element-iterator.rest in
    (ends rest ≤ length l.s)
    × (first_bad l.f (begins rest) (left rest) ≡ field_bad l.f l.s)
    × ((k : ℕ) → k < 64 → (get_or l.numbers.has k false || any_takes l.f (left rest) k) ≡ any_takes l.f (split 44 l.s) k)
