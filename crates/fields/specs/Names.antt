-- Names of months and weekdays: the first three letters, in either case.
use Rattle.std.specs.Prelude.{ℕ, ◌+◌, Bool, cond, ◌&&◌, List, [], ◌∷◌, length, Some, None, codes, Option, ◌==◌, nat_le, slice_index}

abbrev pub months : List (List ℕ)
months =
    codes "jan" ∷ codes "feb" ∷ codes "mar" ∷ codes "apr" ∷ codes "may" ∷ codes "jun"
    ∷ codes "jul" ∷ codes "aug" ∷ codes "sep" ∷ codes "oct" ∷ codes "nov" ∷ codes "dec" ∷ []

abbrev pub weekdays : List (List ℕ)
weekdays =
    codes "sun" ∷ codes "mon" ∷ codes "tue" ∷ codes "wed" ∷ codes "thu" ∷ codes "fri" ∷ codes "sat" ∷ []

-- a letter in lower case
abbrev pub lower : ℕ → ℕ
lower x = cond (nat_le 65 x && nat_le x 90) (x + 32) x

-- the name n is the letters a b c
abbrev pub spells : List ℕ → ℕ → ℕ → ℕ → Bool
spells n a b c = slice_index n 0 == a && (slice_index n 1 == b && slice_index n 2 == c)

-- the number of the letters a b c in a list of names, counted from k
abbrev pub named : ℕ → List (List ℕ) → ℕ → ℕ → ℕ → Option ℕ
named k [] a b c = None
named k (n ∷ ns) a b c = cond (spells n a b c) (Some k) (named (k + 1) ns a b c)

abbrev pub name_in : ℕ → List (List ℕ) → List ℕ → Option ℕ
name_in k ns e =
    cond (length e == 3)
    (named k ns (lower (slice_index e 0)) (lower (slice_index e 1)) (lower (slice_index e 2)))
    None
