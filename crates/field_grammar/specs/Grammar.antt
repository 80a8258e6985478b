-- The grammar of a field: what its bytes are, by concatenation, and what they say.
use Rattle.std.specs.Prelude.{◌≡◌, ℕ, ◌+◌, ◌*◌, ◌%◌, ◌<◌, ◌≤◌, ◌⊎◌, List, [], ◌∷◌, ◌++◌, map, length, take, codes, ◌≢◌, slice_index, slice_index_or}
use Rattle.fields.specs.Element.{low, high}
use Rattle.fields.specs.Names.{lower, months, weekdays}
use Rattle.fields.specs.declared.element.Span.{Span}
use Rattle.fields.specs.declared.element.Field.{Field}
use Rattle.fields.specs.declared.element.Field.TheVariants.{Minute, Hour, Day, Month, Weekday}
use Rattle.fields.specs.declared.reader.Fault.{Fault}
use Rattle.fields.specs.declared.reader.Fault.TheVariants.{NoSuchElement, OutOfRange, Turned}

-- 48 is the byte of the digit 0
abbrev pub digit : ℕ → ℕ
digit a = 48 + a

-- a number is one digit or two
pub data Number (bs : List ℕ) (v : ℕ) : Type 0 where
  one : (a : ℕ) → a < 10 → bs ≡ digit a ∷ [] → v ≡ a → Number bs v
  two : (a b : ℕ) → a < 10 → b < 10 → bs ≡ digit a ∷ digit b ∷ [] → v ≡ 10 * a + b → Number bs v

-- the names that a field knows, the first for its least number
abbrev pub names : Field → List (List ℕ)
names Minute = []
names Hour = []
names Day = []
names Month = months
names Weekday = weekdays

-- a name is, in either case of its letters, one that the field knows
pub record Name (f : Field) (bs : List ℕ) (v : ℕ) : Type 0 where
  pub which : ℕ
  pub known : which < length (names f)
  pub spelt : map lower bs ≡ slice_index_or (names f) which []
  pub meant : v ≡ low f + which

abbrev pub spans : ℕ → ℕ → ℕ → Span
spans a b n = record { from = a; to = b; step = n }

-- an element, and the numbers that it says: from, to, step
pub data Element (f : Field) (bs : List ℕ) (s : Span) : Type 0 where
  star : bs ≡ codes "*" → s ≡ spans (low f) (high f) 1 → Element f bs s
  star_step : (n : List ℕ) (k : ℕ) → Number n k →
      bs ≡ codes "*/" ++ n → s ≡ spans (low f) (high f) k → Element f bs s
  number : (v : ℕ) → Number bs v → s ≡ spans v v 1 → Element f bs s
  name : (v : ℕ) → Name f bs v → s ≡ spans v v 1 → Element f bs s
  range : (a b : List ℕ) (v w : ℕ) → Number a v → Number b w →
      bs ≡ a ++ codes "-" ++ b → s ≡ spans v w 1 → Element f bs s
  range_step : (a b n : List ℕ) (v w k : ℕ) → Number a v → Number b w → Number n k →
      bs ≡ a ++ codes "-" ++ b ++ codes "/" ++ n → s ≡ spans v w k → Element f bs s

-- the byte b stands nowhere in a text
abbrev pub Without : ℕ → List ℕ → Type 0
Without b s = (i : ℕ) → i < length s → slice_index s i ≢ b

-- the parts of a text, parted by bytes b: at least one, and b in none of them
pub data Parted (b : ℕ) : List ℕ → List (List ℕ) → Type 0 where
  last : {e : List ℕ} → Without b e → Parted b e (e ∷ [])
  more : {e s : List ℕ} {es : List (List ℕ)} → Without b e → Parted b s es → Parted b (e ++ b ∷ s) (e ∷ es)

-- an element's numbers lie in the field's range, in order, and its step is not 0
pub record Sound (f : Field) (s : Span) : Type 0 where
  pub from_low : low f ≤ s.from
  pub from_high : s.from ≤ high f
  pub to_low : low f ≤ s.to
  pub to_high : s.to ≤ high f
  pub in_order : s.from ≤ s.to
  pub steps_on : 0 < s.step

-- what is wrong with an element
pub data Wrong (f : Field) (e : List ℕ) : Fault → Type 0 where
  no_element : ((s : Span) → Element f e s → ⊥) → Wrong f e NoSuchElement
  from_outside : (s : Span) → Element f e s → (s.from < low f) ⊎ (high f < s.from) → Wrong f e OutOfRange
  to_outside : (s : Span) → Element f e s → (s.to < low f) ⊎ (high f < s.to) → Wrong f e OutOfRange
  turned_round : (s : Span) → Element f e s → s.to < s.from → Wrong f e Turned
  no_step : (s : Span) → Element f e s → s.step ≡ 0 → Wrong f e Turned

-- the place of an element among those of its field: each before it is followed by a comma
abbrev pub place : List (List ℕ) → ℕ
place [] = 0
place (e ∷ es) = length e + 1 + place es

-- an element of the field at a place is wrong; 44 is `,`
pub record WrongAt (f : Field) (bs : List ℕ) (at : ℕ) (d : Fault) : Type 0 where
  pub elements : List (List ℕ)
  pub parted : Parted 44 bs elements
  pub which : ℕ
  pub listed : which < length elements
  pub begins : at ≡ place (take which elements)
  pub wrong : Wrong f (slice_index_or elements which []) d

-- n is a span's first number, or follows it by whole steps, and is not past its last
pub record Takes (s : Span) (n : ℕ) : Type 0 where
  pub steps : ℕ
  pub reached : n ≡ s.from + steps * s.step
  pub within : n ≤ s.to

-- the value for which a number stands: 7 as a weekday is Sunday, 0
abbrev pub stands_for : Field → ℕ → ℕ
stands_for Minute n = n
stands_for Hour n = n
stands_for Day n = n
stands_for Month n = n
stands_for Weekday n = n % 7

-- v is a value of the field: some element says a number that stands for it
pub record Holds (f : Field) (bs : List ℕ) (v : ℕ) : Type 0 where
  pub elements : List (List ℕ)
  pub parted : Parted 44 bs elements
  pub which : ℕ
  pub listed : which < length elements
  pub span : Span
  pub says : Element f (slice_index_or elements which []) span
  pub number : ℕ
  pub takes : Takes span number
  pub value : v ≡ stands_for f number

-- the greatest value of a field
abbrev pub top : Field → ℕ
top Minute = 59
top Hour = 23
top Day = 31
top Month = 12
top Weekday = 6
