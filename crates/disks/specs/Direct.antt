-- A block to which each write lands at once is its bytes.
use Rattle.std.specs.Prelude.{◌≡◌, ℕ, List, [], ◌∷◌, replicate, refl}
use Rattle.std.proofs.Common.{inl, inr, arith}
use Rattle.std.proofs.lemmas.List.{same_lists}
use Rattle.std.specs.Array.{AllZipBelow}
use Rattle.disk.specs.Contents.{held}
use Rattle.disk.specs.Limits.{block_bytes}
use Rattle.disks.specs.Slots.{SlotLaws}

abbrev pub zeros : List ℕ
zeros = replicate block_bytes 0

pub direct_laws : SlotLaws held (λ b. held b ∷ []) zeros (λ b bytes. bytes) (λ fate b. b)
direct_laws =
    record {
      includes = λ b. inl refl;
      zeros = refl;
      alone = refl;
      lands = λ b bytes. refl;
      at_most = λ b bytes c m. elim m [ inl e ↦ inr (inl e) | inr z ↦ absurd z ];
      one = λ fate b. refl;
      picked = λ fate b. inl refl;
      synced = λ b. refl;
    }

-- a copy of a new block is a new block
pub same_zeros : (ys : List ℕ) → AllZipBelow (λ x y. y ≡ x) zeros ys block_bytes → ys ≡ zeros
same_zeros ys a = same_lists ys zeros a.long (λ k d h. a.at k d d (omega (arith, a.long)))
