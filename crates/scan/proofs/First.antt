-- The first byte that passes a test.
use Rattle.std.proofs.Common.{◌≡◌, ℕ, suc, ◌+◌, ◌<◌, ◌≤◌, Bool, true, false, cond, not, ltb, List, [], ◌∷◌, length, MatchOption, Option, Some, None, refl, sym, subst, arith, ltb-true, ltb-false}
use Rattle.std.specs.Option.{unwrap_or}
use Rattle.std.specs.List.{position, position_or_len}
use Rattle.std.proofs.lemmas.Bool.Decides.{nat_tests}
use Rattle.std.proofs.lemmas.List.Sums.{prefix_len-le-length}
use Rattle.scan.specs.Scan.{before_first}

-- its place is the one that std counts to
pub first_position : (p : ℕ → Bool) (s : List ℕ) → before_first p s ≡ position_or_len p s
first_position p [] = refl
first_position p (x ∷ xs) = go (p x) (first_position p xs)
  where
    go : (t : Bool) → before_first p xs ≡ position_or_len p xs →
        cond t 0 (suc (before_first p xs)) ≡ cond (not t) (1 + position_or_len p xs) 0
    go true ih = refl
    go false ih = omega arith

pub first_le : (p : ℕ → Bool) (s : List ℕ) → before_first p s ≤ length s
first_le p s = rw first_position (prefix_len-le-length _ s)

-- it stands where std finds it, or else at the end
pub first_found : (p : ℕ → Bool) (s : List ℕ) → unwrap_or (position p s) (length s) ≡ before_first p s
first_found p s = rw first_position (go (position_or_len p s) (prefix_len-le-length _ s))
  where
    go : (k : ℕ) → k ≤ length s → unwrap_or (cond (ltb k (length s)) (Some k) None) (length s) ≡ k
    go k h = grind (arith, nat_tests)

-- what a place tells that std found, or that it found none
abbrev pub Found : (ℕ → Bool) → List ℕ → Option ℕ → Type 0
Found p s o = MatchOption o (before_first p s ≡ length s) (λ i. (i ≡ before_first p s) × (i < length s))

pub found_at : (p : ℕ → Bool) (s : List ℕ) (o : Option ℕ) → o ≡ position p s → Found p s o
found_at p s o e = subst (Found p s) (sym e) (go (position_or_len p s) (first_position p s) (first_le p s))
  where
    go : (k : ℕ) → before_first p s ≡ k → before_first p s ≤ length s → Found p s (cond (ltb k (length s)) (Some k) None)
    go k same le = test (ltb k (length s)) refl
      where
        test : (t : Bool) → ltb k (length s) ≡ t → Found p s (cond t (Some k) None)
        test true h = (sym same, ltb-true k (length s) h)
        test false h = let no = ltb-false k (length s) h in omega (arith, same, le, no)
