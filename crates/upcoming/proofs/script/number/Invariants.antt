use Rattle.std.proofs.Common.{◌≡◌, ◌^◌, ◌<◌, drop}
use Rattle.std.specs.Option.{option_map}
use Rattle.upcoming.specs.Number.{capped, value_from}
use Rattle.upcoming.proofs.script.number.Given as goal

-- The value fits, and the bytes that are left say, after it, what all of them say.
abbrev pub invariant-loop-digit : goal.invariant-loop-digit
invariant-loop-digit l =
    (l.value < 2 ^ 64)
    × (option_map capped (value_from l.value (drop l.digit-index l.digits)) ≡ option_map capped (value_from 0 l.digits))
