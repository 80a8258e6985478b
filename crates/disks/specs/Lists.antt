-- The blocks of a disk in memory, by the laws of one.
use Rattle.std.specs.Prelude.{◌≡◌, ℕ, zero, suc, ◌<◌, Bool, true, false, cond, List, [], ◌∷◌, map, length, replicate, nat_lt, slice_index_or, slice_set, refl}
use Rattle.std.proofs.Common.{sym, ap, subst, ◌∙◌, inl, inr, ltb, lt-ltb, eq-eqb, ne_eqb}
use Rattle.std.proofs.Math.Path.{fun_ext}
use Rattle.std.proofs.Math.Decide.{ℕ_discrete}
use Rattle.disk.specs.Changes.{AtMost, after_write}
use Rattle.disk.specs.Contents.{Content, torn, held, Among, Only}
use Rattle.disks.specs.declared.fate.Fate.{Fate}
use Rattle.disks.specs.declared.fate.Fate.TheVariants.{New}
use Rattle.disks.specs.Fresh.{blank as blank_disk}
use Rattle.disks.specs.Lookup.{at}
use Rattle.disks.specs.LookupLemmas.{at_within, at_set_same, at_set_other, at_replicate}
use Rattle.disks.specs.Slots.{SlotLaws}

-- one possible content is the one that there is
only_one : (c d : Content) (cs : List Content) → cs ≡ d ∷ [] → Among c cs → c ≡ d
only_one c d cs e m = elim (subst (λ ds. Among c ds) e m) [ inl is ↦ is | inr z ↦ absurd z ]

push_cond : (t : Bool) (c d : Content) → cond t (c ∷ []) (d ∷ []) ≡ cond t c d ∷ []
push_cond true c d = refl
push_cond false c d = refl

module _ {B : Type 0} {latest : B → Content} {possible : B → List Content} {blank : B} {written : B → List ℕ → B}
    {settled : Fate → B → B} (laws : SlotLaws latest possible blank written settled) where
  pub all_include : (bs : List B) (i : ℕ) → Among (at latest torn bs i) (at possible (torn ∷ []) bs i)
  all_include [] i = inl refl
  all_include (b ∷ bs) zero = laws.includes b
  all_include (b ∷ bs) (suc i) = all_include bs i

  -- after a cut each block has one possible content
  pub only_cut :
      (fate : Fate) (bs : List B) → Only (at latest torn (map (settled fate) bs)) (at possible (torn ∷ []) (map (settled fate) bs))
  only_cut fate [] i c m = only_one c torn _ refl m
  only_cut fate (b ∷ bs) zero c m = only_one c (latest (settled fate b)) _ (laws.one fate b) m
  only_cut fate (b ∷ bs) (suc i) c m = only_cut fate bs i c m

  -- and it was possible before
  pub picked_cut :
      (fate : Fate) (bs : List B) (i : ℕ) → Among (at latest torn (map (settled fate) bs) i) (at possible (torn ∷ []) bs i)
  picked_cut fate [] i = inl refl
  picked_cut fate (b ∷ bs) zero = laws.picked fate b
  picked_cut fate (b ∷ bs) (suc i) = picked_cut fate bs i

  synced_at : (bs : List B) (i : ℕ) → at latest torn (map (settled New) bs) i ≡ at latest torn bs i
  synced_at [] i = refl
  synced_at (b ∷ bs) zero = laws.synced b
  synced_at (b ∷ bs) (suc i) = synced_at bs i

  -- where every write lands, a read sees what it saw
  pub synced : (bs : List B) → at latest torn (map (settled New) bs) ≡ at latest torn bs
  synced bs = fun_ext (synced_at bs)

  -- the bytes are written to block k
  pub lands :
      (bs : List B) (n k : ℕ) (b : B) (x : List ℕ) → k < length bs → k < n
      → at latest torn (slice_set bs k (written b x)) ≡ after_write n (at latest torn bs) k x
  lands bs n k b x l h =
      fun_ext (λ i. elim (ℕ_discrete i k) [
        | yes p ↦ simp (lt-ltb k n h, eq-eqb i k p) (subst (λ j. at latest torn (slice_set bs k (written b x)) j ≡ held x) (sym p) (at_set_same latest torn bs k (written b x) l ∙ laws.lands b x))
        | no q ↦ simp (lt-ltb k n h, ne_eqb i k q) (at_set_other latest torn bs k i (written b x) q)
      ])

  -- and nothing else is possible that was not
  pub at_most :
      (bs : List B) (n k : ℕ) (b : B) (x : List ℕ) → k < length bs → k < n → b ≡ slice_index_or bs k b → (i : ℕ) (c : Content)
      → Among c (at possible (torn ∷ []) (slice_set bs k (written b x)) i) → AtMost n (at possible (torn ∷ []) bs) k x i c
  at_most bs n k b x l h e i c m =
      elim (ℕ_discrete i k) [
        | yes p ↦
            let here : at possible (torn ∷ []) (slice_set bs k (written b x)) i ≡ possible (written b x) =
            subst (λ j. at possible (torn ∷ []) (slice_set bs k (written b x)) j ≡ possible (written b x)) (sym p)
            (at_set_same possible (torn ∷ []) bs k (written b x) l) in
            let before : possible b ≡ at possible (torn ∷ []) bs i =
            subst (λ j. possible b ≡ at possible (torn ∷ []) bs j) (sym p)
            (ap possible e ∙ sym (at_within possible (torn ∷ []) bs k b l)) in
            elim (laws.at_most b x c (subst (λ ds. Among c ds) here m)) [
              | inl was ↦ inl (subst (λ ds. Among c ds) before was)
              | inr new ↦ inr (h, (p, new))
            ]
        | no q ↦ inl (subst (λ ds. Among c ds) (at_set_other possible (torn ∷ []) bs k i (written b x) q) m)
      ]

  -- new blocks hold zero bytes, and those alone are possible
  pub blanks : (n : ℕ) → at latest torn (replicate n blank) ≡ blank_disk n
  blanks n = fun_ext (λ i. at_replicate latest torn n i blank ∙ ap (λ v. cond (ltb i n) v torn) laws.zeros)

  pub blanks_alone : (n : ℕ) → at possible (torn ∷ []) (replicate n blank) ≡ (λ i. blank_disk n i ∷ [])
  blanks_alone n =
      fun_ext (λ i. at_replicate possible (torn ∷ []) n i blank ∙ ap (λ v. cond (ltb i n) v (torn ∷ [])) (laws.alone ∙ ap (λ c. c ∷ []) laws.zeros) ∙ push_cond (nat_lt i n) _ torn)
