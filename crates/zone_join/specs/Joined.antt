-- The join of two zones at t: the first before t, the second from t on. A refused join means the first zone alone.
use Rattle.std.specs.Prelude.{ℕ, zero, suc, ◌-◌, Bool, true, false, cond, ◌&&◌, ◌||◌, ℤ, Some, None, Option, ◌==◌, nat_le, nat_lt, unsigned_abs}
use Rattle.time.specs.Limits.{first_told, last_minute}
use Rattle.time.specs.declared.minute.Minute.{Minute}
use Rattle.zone.specs.Limits.{most_offset, most_change, least_apart}
use Rattle.zone.specs.Offsets.{change}
use Rattle.zone.specs.Table.{day_later}
use Rattle.zone.specs.declared.refusal.Refusal.{Refusal}
use Rattle.zone.specs.declared.refusal.Refusal.TheVariants.{BadJoin}
use Rattle.zone_join.specs.Limits.{first_join, last_join}

abbrev pub joined : (ℕ → ℤ) → (ℕ → ℤ) → ℕ → ℕ → ℤ
joined f g t u = cond (nat_lt u t) (f u) (g u)

-- p of each of the n numbers from a on
abbrev pub each : ℕ → (ℕ → Bool) → ℕ → Bool
each zero p a = true
each (suc n) p a = elim (p a) [ true ↦ each n p (suc a) | false ↦ false ]

-- the offset at v is within the limit
abbrev pub near_at : (ℕ → ℤ) → ℕ → Bool
near_at h v = nat_le (unsigned_abs (h v)) most_offset

-- no change at w; after the last minute nothing counts
abbrev pub still_at : (ℕ → ℤ) → ℕ → Bool
still_at h w = nat_lt last_minute w || nat_le (change h w) 0

-- the change at v is not too large, and none follows in the n minutes after it
abbrev pub calm_at : ℕ → (ℕ → ℤ) → ℕ → Bool
calm_at n h v = nat_le (change h v) most_change && (nat_le (change h v) 0 || each n (still_at h) (suc v))

-- each minute: not abbrevs, for nobody computes them
unfoldable pub all_near : (ℕ → ℤ) → Bool
all_near h = each (suc last_minute - first_told) (near_at h) first_told

unfoldable pub all_calm : (ℕ → ℤ) → Bool
all_calm h = each (last_minute - first_told) (calm_at (least_apart - 1) h) (suc first_told)

-- the law, as a test
abbrev pub lawful? : (ℕ → ℤ) → Bool
lawful? h = all_near h && all_calm h

-- t leaves room on both sides
abbrev pub roomy : ℕ → Bool
roomy t = nat_le first_join t && nat_le t last_join

-- the join is taken
unfoldable pub accepts : (ℕ → ℤ) → (ℕ → ℤ) → ℕ → Bool
accepts f g t = roomy t && lawful? (joined f g t)

abbrev pub join_offset : (ℕ → ℤ) → (ℕ → ℤ) → ℕ → ℕ → ℤ
join_offset f g t u = cond (accepts f g t) (joined f g t u) (f u)

abbrev pub join_refusal : (ℕ → ℤ) → (ℕ → ℤ) → Minute → Option Refusal
join_refusal f g t = cond (accepts f g t.0) None (Some (BadJoin t))

-- w, the first change after some minute, is a day or more after s
abbrev pub late : ℕ → Option ℕ → Bool
late s None = true
late s (Some w) = day_later s w

-- changes lie a day apart around t, where the offset changes by d:
-- v is the first change of the first zone after the day before t, and w that of the second after t
abbrev pub clear : ℕ → ℕ → Option ℕ → Option ℕ → Bool
clear t d None w = d == 0 || late t w
clear t d (Some v) w = cond (nat_lt v t) (d == 0 && late v w) (d == 0 || late t w)

-- and the change at t is not too large
abbrev pub smooth : ℕ → ℕ → Option ℕ → Option ℕ → Bool
smooth t d v w = nat_le d most_change && clear t d v w
