-- A table without fault: each entry may follow the one before.
use Rattle.std.proofs.Common.{◌≡◌, ℕ, suc, ◌+◌, ◌≤◌, Bool, true, false, cond, not, ltb, List, [], ◌∷◌, length, ◌-ℤ◌, nat_abs, is_some, Some, refl, arith}
use Rattle.std.proofs.lemmas.Bool.Decides.{nat_tests}
use Rattle.time.specs.Limits.{first_minute, last_minute}
use Rattle.zone.specs.declared.entry.Entry.{Entry}
use Rattle.zone.specs.Limits.{most_offset, most_change, least_apart, most_entries}
use Rattle.zone.specs.Table.{first_bad, follows, starts, entry_fault, sound}

-- what `follows` says
pub record Follows (p e : Entry) : Type 0 where
  pub late : first_minute ≤ e.minute.0
  pub early : e.minute.0 ≤ last_minute
  pub range : nat_abs e.offset ≤ most_offset
  pub apart : p.minute.0 + least_apart ≤ e.minute.0
  pub some : 1 ≤ nat_abs (e.offset -ℤ p.offset)
  pub few : nat_abs (e.offset -ℤ p.offset) ≤ most_change

pub follows_means : (p e : Entry) → follows p e ≡ true → Follows p e
follows_means p e h =
    record {
      late = grind (arith, nat_tests);
      early = grind (arith, nat_tests);
      range = grind (arith, nat_tests);
      apart = grind (arith, nat_tests);
      some = grind (arith, nat_tests);
      few = grind (arith, nat_tests);
    }

abbrev pub Chain : Entry → List Entry → Type 0
Chain p [] = Unit {0}
Chain p (e ∷ es) = Follows p e × Chain e es

pub chained : (k : ℕ) (p : Entry) (es : List Entry) → is_some (first_bad k p es) ≡ false → Chain p es
chained k p [] h = tt
chained k p (e ∷ es) h = go (follows p e) refl h (chained (suc k) e es)
  where
    go :
        (b : Bool) →
        follows p e ≡ b →
        is_some (elim b [ true ↦ first_bad (suc k) e es | false ↦ Some k ]) ≡ false →
        (is_some (first_bad (suc k) e es) ≡ false → Chain e es) →
        Follows p e × Chain e es
    go true q g ih = (follows_means p e q, ih g)
    go false q g ih = absurd (grind arith)

-- the first entry holds from minute 0 on
abbrev pub Good : List Entry → Type 0
Good [] = Unit {0}
Good (e ∷ es) = (e.minute.0 ≡ 0) × (nat_abs e.offset ≤ most_offset) × Chain e es

faultless : (e : Entry) (es : List Entry) → is_some (entry_fault (e ∷ es)) ≡ false → Good (e ∷ es)
faultless e es h = go (starts e) refl h
  where
    go :
        (b : Bool) →
        starts e ≡ b →
        is_some {T = ℕ} (elim b [ true ↦ first_bad 1 e es | false ↦ Some 0 ]) ≡ false →
        Good (e ∷ es)
    go true q g = (grind (arith, nat_tests), grind (arith, nat_tests), chained 1 e es g)
    go false q g = absurd (grind arith)

pub good : (es : List Entry) → sound es ≡ true → Good es
good [] h = tt
good (e ∷ es) h = go (ltb most_entries (length (e ∷ es))) h
  where
    go :
        (b : Bool) →
        not (is_some {T = ℕ} (cond b (Some most_entries) (entry_fault (e ∷ es)))) ≡ true →
        Good (e ∷ es)
    go true g = absurd (grind arith)
    go false g = faultless e es (grind arith)
