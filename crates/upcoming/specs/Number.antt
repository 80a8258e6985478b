-- Numbers in decimal digits.
use Rattle.std.specs.Prelude.{ℕ, ◌+◌, ◌-◌, ◌*◌, ◌^◌, min, cond, List, [], ◌∷◌, Some, None, Option}
use Rattle.std.specs.Option.{option_map}
use Rattle.std.specs.Char.{is_ascii_digit}

-- the value of digits that follow others of the value n; none if a byte is no digit
abbrev pub value_from : ℕ → List ℕ → Option ℕ
value_from n [] = Some n
value_from n (d ∷ ds) = cond (is_ascii_digit d) (value_from (n * 10 + (d - 48)) ds) None

-- what does not fit 64 bits counts as the largest that does
abbrev pub capped : ℕ → ℕ
capped n = min n (2 ^ 64 - 1)

-- what bytes say as a number: they are digits, and at least one
abbrev pub number_of : List ℕ → Option ℕ
number_of [] = None
number_of (d ∷ ds) = option_map capped (value_from 0 (d ∷ ds))
