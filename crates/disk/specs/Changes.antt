-- How a write changes a disk.
use Rattle.std.specs.Prelude.{◌≡◌, ℕ, ◌<◌, cond, ◌⊎◌, List, ◌==◌, nat_lt}
use Rattle.disk.specs.Contents.{Content, torn, held, Among}

-- the contents when b has been written to block k of n: past the count nothing changes
abbrev pub after_write : ℕ → (ℕ → Content) → ℕ → List ℕ → (ℕ → Content)
after_write n latest k b = λ i. cond (nat_lt k n) (cond (i == k) (held b) (latest i)) (latest i)

-- what may stand in block i after b has been written to block k of n: what could before, and in block k also b or torn
abbrev pub AtMost : ℕ → (ℕ → List Content) → ℕ → List ℕ → ℕ → Content → Type 0
AtMost n possible k b i c = Among c (possible i) ⊎ ((k < n) × ((i ≡ k) × ((c ≡ held b) ⊎ (c ≡ torn))))
