-- Tests joined by or, and tests that tell the same.
use Rattle.std.proofs.Common.{◌≡◌, Bool, true, false, ◌||◌, sym, refl}

pub or_r : (a b : Bool) → (a || b) ≡ true → (a ≡ true → ⊥) → b ≡ true
or_r true b e n = absurd (n refl)
or_r false b e n = e

pub or_by : (a b : Bool) → (a ≡ false → b ≡ true) → (a || b) ≡ true
or_by true b h = refl
or_by false b h = h refl

-- two tests that tell the same
pub both : (a b : Bool) → (a ≡ true → b ≡ true) → (b ≡ true → a ≡ true) → a ≡ b
both true b h k = sym (h refl)
both false true h k = k refl
both false false h k = refl
