-- What a call that makes a disk answers.
use Rattle.std.specs.Prelude.{◌≡◌, ℕ, Bool, true, false, cond, List, [], ◌∷◌, replicate, Ok, Err, Result, nat_le, nat_lt}
use Rattle.disk.specs.Contents.{Content, torn, held}
use Rattle.disk.specs.Limits.{fewest_blocks, most_blocks, block_bytes}
use Rattle.disks.specs.declared.refusal.Refusal.TheVariants.{BlockCount}
use Rattle.disks.specs.declared.refusal.Unmade.{Unmade}
use Rattle.disks.specs.declared.refusal.Unmade.TheVariants.{Refused, NoMemory}

-- may a disk have this many blocks?
abbrev pub fits : ℕ → Bool
fits n = cond (nat_le fewest_blocks n) (nat_le n most_blocks) false

-- zero bytes in each of n blocks
abbrev pub blank : ℕ → ℕ → Content
blank n = λ i. cond (nat_lt i n) (held (replicate block_bytes 0)) torn

-- a disk of n blocks of zero bytes, of which no other content is possible
pub record Fresh (n count : ℕ) (latest : ℕ → Content) (possible : ℕ → List Content) : Type 0 where
  pub counted : count ≡ n
  pub zeros : latest ≡ blank n
  pub alone : possible ≡ (λ i. blank n i ∷ [])

-- made where n fits and there is memory; refused, whatever the memory, where n does not fit
abbrev pub NewAnswer : {D : Type 0} → (D → Type 0) → ℕ → Result D Unmade → Type 0
NewAnswer Made n (Ok d) = (fits n ≡ true) × Made d
NewAnswer Made n (Err (Refused why)) = (fits n ≡ false) × (why ≡ BlockCount n)
NewAnswer Made n (Err NoMemory) = fits n ≡ true
