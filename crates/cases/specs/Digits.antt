-- Digits of the cases.
use Rattle.std.specs.Prelude.{ℕ, List, Bool, ◌&&◌, nat_le}
use Rattle.std.specs.List.{list_any}

-- does a letter from A to Z stand in it?
abbrev pub has_capital : List ℕ → Bool
has_capital = list_any (λ b. nat_le 65 b && nat_le b 90)
