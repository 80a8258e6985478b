-- The words of a line, one after the other.
use Rattle.std.proofs.Common.{◌≡◌, ℕ, ◌+◌, List, refl, add-one}
use Rattle.crontab.specs.Words.{end, past}

pub past_next : (s : List ℕ) (k : ℕ) → end s (past s k) ≡ past s (k + 1)
unfolding past
past_next s k = rw add-one refl
