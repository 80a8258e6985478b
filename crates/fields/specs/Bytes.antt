-- Parts of a text, and numbers.
use Rattle.std.specs.Prelude.{ℕ, suc, ◌+◌, ◌-◌, ◌*◌, Bool, cond, ◌&&◌, List, [], ◌∷◌, length, take, drop, Some, None, Option, ◌==◌, nat_le, nat_lt, slice_index}
use Rattle.scan.specs.Scan.{before_first, is}
use Rattle.scan.specs.declared.Kind.TheVariants.{Byte}
use Rattle.fields.specs.declared.bytes.Part.{Part}

-- the place of the first byte b, or the length
abbrev pub find_in : ℕ → List ℕ → ℕ
find_in b xs = before_first (is (Byte b)) xs

abbrev pub has : ℕ → List ℕ → Bool
has b xs = nat_lt (find_in b xs) (length xs)

-- what stands before and after the first byte b
abbrev pub front : ℕ → List ℕ → List ℕ
front b xs = take (find_in b xs) xs

abbrev pub back : ℕ → List ℕ → List ℕ
back b xs = drop (suc (find_in b xs)) xs

-- the parts of a text between bytes b
abbrev pub longer : ℕ → List (List ℕ) → List (List ℕ)
longer x [] = (x ∷ []) ∷ []
longer x (p ∷ ps) = (x ∷ p) ∷ ps

abbrev pub split : ℕ → List ℕ → List (List ℕ)
split b [] = [] ∷ []
split b (x ∷ xs) = cond (x == b) ([] ∷ split b xs) (longer x (split b xs))

-- bytes of a field and the place where they begin in it
pub record Piece : Type 0 where
  pub at : ℕ
  pub text : List ℕ

abbrev pub piece : Part → Piece
piece p = record { at = p.at; text = p.text.now }

abbrev pub front_piece : ℕ → Piece → Piece
front_piece b p = record { at = p.at; text = front b p.text }

abbrev pub back_piece : ℕ → Piece → Piece
back_piece b p = record { at = p.at + (find_in b p.text + 1); text = back b p.text }

abbrev pub digit? : ℕ → Bool
digit? x = nat_le 48 x && nat_le x 57

-- a number has one or two digits
abbrev pub number : List ℕ → Option ℕ
number xs =
    cond (length xs == 1 && digit? (slice_index xs 0))
    (Some (slice_index xs 0 - 48))
    (cond (length xs == 2 && (digit? (slice_index xs 0) && digit? (slice_index xs 1)))
    (Some (10 * (slice_index xs 0 - 48) + (slice_index xs 1 - 48)))
    None)
