-- Disks that a format, a write and a sync can leave.
use Rattle.std.proofs.Common.{◌≡◌, refl, sym, ap, ◌∙◌, subst, ◌⊎◌, inl, inr, [], ◌∷◌, cond, ℕ, eqb}
use Rattle.std.proofs.Math.Decide.{ℕ_discrete}
use Rattle.disk.specs.Contents.{Among}
use Rattle.journal_model.specs.Disks.{Seen, torn, no_page, page, Disk, Includes, Written, Synced, Formatted}
use Rattle.journal_model.specs.Pages.{format_page}
use Rattle.service.proofs.Lists.{eqb_same, eqb_differ}
use Rattle.service.specs.Setting.{Setting, first_position}

pub writes : (d : Disk) (b : ℕ) (c : Seen) → Includes d → (d' : Disk) × Written d b c d'
writes d b c i = (
  new,
  record {
    at_latest = ap (λ z. cond z c (d.latest b)) (eqb_same b);
    off_latest = λ a k. ap (λ z. cond z c (d.latest a)) (eqb_differ a b k);
    at_possible = λ x m. at x (subst (λ z. Among x (cond z (c ∷ []) (d.possible b))) (eqb_same b) m);
    off_possible = λ a k x m. subst (λ z. Among x (cond z (c ∷ []) (d.possible a))) (eqb_differ a b k) m;
    includes = λ a. inc a (ℕ_discrete a b);
  },
)
  where
    new : Disk
    new =
        record {
          latest = λ a. cond (eqb a b) c (d.latest a);
          possible = λ a. cond (eqb a b) (c ∷ []) (d.possible a);
        }

    at : (x : Seen) → Among x (c ∷ []) → (x ≡ c) ⊎ ((x ≡ torn) ⊎ Among x (d.possible b))
    at x (inl e) = inl e
    at x (inr e) = absurd e

    inc : (a : ℕ) → Dec (a ≡ b) → Among (new.latest a) (new.possible a)
    inc a (yes e) =
        subst (λ z. Among (cond z c (d.latest a)) (cond z (c ∷ []) (d.possible a)))
        (sym (ap (λ y. eqb y b) e ∙ eqb_same b)) (inl refl)
    inc a (no e) =
        subst (λ z. Among (cond z c (d.latest a)) (cond z (c ∷ []) (d.possible a))) (sym (eqb_differ a b e)) (i a)

pub syncs : (d : Disk) → (d' : Disk) × Synced d d'
syncs d = (
  record { latest = d.latest; possible = λ b. d.latest b ∷ [] },
  record {
    latest_stays = λ b. refl;
    only_latest = λ b x m. elim m [ inl e ↦ e | inr e ↦ absurd e ];
    includes = λ b. inl refl;
  },
)

-- A formatted disk.
pub formats : (σ : Setting) → (d : Disk) × Formatted (first_position σ) d
formats σ = (
  record { latest = at; possible = λ b. at b ∷ [] },
  record {
    page_0 = λ x m. elim m [ inl e ↦ e | inr k ↦ absurd k ];
    no_other = λ b d x m.
        elim m [ inl e ↦ inl (e ∙ ap (λ z. cond z zeroth no_page) (eqb_differ b 0 d)) | inr k ↦ absurd k ];
    includes = λ b. inl refl;
  },
)
  where
    zeroth : Seen
    zeroth = page 0 (format_page (first_position σ))

    at : ℕ → Seen
    at b = cond (eqb b 0) zeroth no_page
