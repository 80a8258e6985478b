-- Blocks that keep writes back.
use Rattle.std.specs.Prelude.{◌≡◌, ◌⊎◌, ℕ, ◌<◌, ◌≤◌, List, [], ◌∷◌, ◌++◌, map, length, take, drop, Some, None, Option, slice_index_or, refl}
use Rattle.std.proofs.Common.{sym, ap, ◌∙◌, inl, inr}
use Rattle.std.proofs.lemmas.List.{append-nil, drop_all, take_all}
use Rattle.disk.specs.Contents.{Content, torn, held, Among, read_of}
use Rattle.disks.specs.declared.block.Block.{Block}
use Rattle.disks.specs.declared.fate.Fate.{Fate}
use Rattle.disks.specs.declared.fate.Fate.TheVariants.{Old, New, Torn}
use Rattle.disks.specs.Blocks.{blank_block, content_of, cut_block, held_back, latest_in, may_stand, or_else, possible_in, settled, shown_of}
use Rattle.disks.specs.Lookup.{at}
use Rattle.disks.specs.LookupLemmas.{at_within}
use Rattle.disks.specs.Slots.{SlotLaws}

one : (c d : Content) → Among c (d ∷ []) → c ≡ d
one c d (inl e) = e
one c d (inr z) = absurd z

latest_may : (write landed : Option (List ℕ)) → Among (content_of (or_else write landed)) (may_stand write landed)
latest_may None landed = inl refl
latest_may (Some b) landed = inr (inl refl)

landed_may : (write landed : Option (List ℕ)) (c : Content) → c ≡ content_of landed → Among c (may_stand write landed)
landed_may None landed c e = inl e
landed_may (Some b) landed c e = inl e

cut_may :
    (fate : Fate) (write landed : Option (List ℕ)) → Among (content_of (settled fate write landed)) (may_stand write landed)
cut_may fate None landed = inl refl
cut_may Old (Some b) landed = inl refl
cut_may New (Some b) landed = inr (inl refl)
cut_may Torn (Some b) landed = inr (inr (inl refl))

new_shown : (write landed : Option (List ℕ)) → settled New write landed ≡ or_else write landed
new_shown None landed = refl
new_shown (Some b) landed = refl

read_content : (o : Option (List ℕ)) → read_of (content_of o) ≡ o
read_content None = refl
read_content (Some b) = refl

kept_back :
    (write landed : Option (List ℕ)) (bytes : List ℕ) (c : Content) → Among c (may_stand (Some bytes) landed)
    → Among c (may_stand write landed) ⊎ ((c ≡ held bytes) ⊎ (c ≡ torn))
kept_back None landed bytes c (inl e) = inl (inl e)
kept_back (Some b) landed bytes c (inl e) = inl (inl e)
kept_back write landed bytes c (inr (inl e)) = inr (inl e)
kept_back write landed bytes c (inr (inr (inl e))) = inr (inr e)
kept_back write landed bytes c (inr (inr (inr z))) = absurd z

pub block_laws : SlotLaws latest_in possible_in blank_block held_back cut_block
block_laws =
    record {
      includes = λ b. latest_may b.held b.kept;
      zeros = refl;
      alone = refl;
      lands = λ b bytes. refl;
      at_most = λ b bytes c m. kept_back b.held b.kept bytes c m;
      one = λ fate b. refl;
      picked = λ fate b. cut_may fate b.held b.kept;
      synced = λ b. ap content_of (new_shown b.held b.kept);
    }

pub reads_shown :
    (bs : List Block) (i : ℕ) (b : Block) (r : Option (List ℕ)) → i < length bs → b ≡ slice_index_or bs i b → r ≡ shown_of b
    → r ≡ read_of (at latest_in torn bs i)
reads_shown bs i b r l e f =
    f ∙ sym (read_content (shown_of b)) ∙ ap (λ x. read_of (content_of (shown_of x))) e
    ∙ sym (ap read_of (at_within (λ x. content_of (shown_of x)) torn bs i b l))

pub all_settled :
    (fate : Fate) (was now : List Block) (i : ℕ) → length was ≤ i → now ≡ map (cut_block fate) (take i was) ++ drop i was
    → now ≡ map (cut_block fate) was
all_settled fate was now i l e =
    e ∙ ap (λ x. map (cut_block fate) (take i was) ++ x) (drop_all i was l) ∙ append-nil (map (cut_block fate) (take i was))
    ∙ ap (map (cut_block fate)) (take_all i was l)
