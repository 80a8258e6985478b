-- Digits may be read from a capped value as well.
use Rattle.std.proofs.Common.{◌≡◌, ℕ, suc, ◌+◌, ◌-◌, ◌*◌, ◌^◌, ◌<◌, ◌≤◌, Bool, true, false, cond, List, [], ◌∷◌, length, get_or, drop, Some, None, refl, ap, not-suc-le-zero, add-one, arith, drop_of_length-le, drop-cons}
use Rattle.std.specs.Option.{option_map}
use Rattle.std.specs.Char.{is_ascii_digit}
use Rattle.upcoming.specs.Number.{capped, number_of, value_from}

next_capped : (a b k : ℕ) → capped a ≡ capped b → capped (a * 10 + k) ≡ capped (b * 10 + k)
next_capped a b k e = omega (arith, e)

same_capped : (a b : ℕ) (ds : List ℕ) → capped a ≡ capped b
    → option_map capped (value_from a ds) ≡ option_map capped (value_from b ds)
same_capped a b [] e = ap Some e
same_capped a b (d ∷ ds) e = go (is_ascii_digit d) (same_capped (a * 10 + (d - 48)) (b * 10 + (d - 48)) ds (next_capped a b (d - 48) e))
  where
    go : (t : Bool)
        → option_map capped (value_from (a * 10 + (d - 48)) ds) ≡ option_map capped (value_from (b * 10 + (d - 48)) ds)
        → option_map capped (cond t (value_from (a * 10 + (d - 48)) ds) None)
        ≡ option_map capped (cond t (value_from (b * 10 + (d - 48)) ds) None)
    go true ih = ih
    go false ih = refl

module _ (s : List ℕ) (i v : ℕ) (h : i < length s) where
  -- one more digit
  pub digit_read : (w : ℕ) → is_ascii_digit (get_or s i 0) ≡ true
      → w ≡ capped (capped (v * 10) + (get_or s i 0 - 48))
      → option_map capped (value_from w (drop (i + 1) s)) ≡ option_map capped (value_from v (drop i s))
  digit_read w t e =
      rw (add-one, drop-cons s i 0 h, t)
      (same_capped w (v * 10 + (get_or s i 0 - 48)) (drop (suc i) s) (omega (arith, e)))

  -- a byte that is no digit
  pub no_digit : is_ascii_digit (get_or s i 0) ≡ false → option_map capped (value_from v (drop i s)) ≡ None
  no_digit t = rw (drop-cons s i 0 h, t) refl

-- what is said of bytes that are not empty
pub some_bytes : (s : List ℕ) → 0 < length s → option_map capped (value_from 0 s) ≡ number_of s
some_bytes [] h = absurd (not-suc-le-zero h)
some_bytes (d ∷ ds) h = refl

-- all is read
pub all_read : (s : List ℕ) (i v : ℕ) → length s ≤ i → v < 2 ^ 64 → option_map capped (value_from v (drop i s)) ≡ Some v
all_read s i v h fits = rw (drop_of_length-le s h) (ap Some (omega (arith, fits)))
