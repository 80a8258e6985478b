-- An element of a field: the form in which it is written, and the numbers that it says.
use Rattle.std.specs.Prelude.{ℕ, Bool, cond, ◌&&◌, List, length, Some, None, Option, ◌==◌, slice_index}
use Rattle.fields.specs.Bytes.{Piece, piece, has, front_piece, back_piece, number}
use Rattle.fields.specs.Names.{name_in, months, weekdays}
use Rattle.fields.specs.declared.element.Span.{Span}
use Rattle.fields.specs.declared.element.Field.{Field}
use Rattle.fields.specs.declared.element.Field.TheVariants.{Minute, Hour, Day, Month, Weekday}
use Rattle.fields.specs.declared.element.Element.{Element}
use Rattle.fields.specs.declared.element.Element.TheVariants.{Star, Each, Single, Range, RangeEach}

-- the field's number in its line
abbrev pub field_number : Field → ℕ
field_number Minute = 1
field_number Hour = 2
field_number Day = 3
field_number Month = 4
field_number Weekday = 5

-- the numbers that a field takes, from the least to the greatest
abbrev pub low : Field → ℕ
low Minute = 0
low Hour = 0
low Day = 1
low Month = 1
low Weekday = 0

abbrev pub high : Field → ℕ
high Minute = 59
high Hour = 23
high Day = 31
high Month = 12
high Weekday = 7

-- the form of an element, its parts not yet read
pub data Form : Type 0 where
  star : Form
  each : Piece → Form
  single : Piece → Form
  range : Piece → Piece → Form
  range_each : Piece → Piece → Piece → Form
  unknown : Form

abbrev pub written : Element → Form
written Star = star
written (Each n) = each (piece n)
written (Single w) = single (piece w)
written (Range a b) = range (piece a) (piece b)
written (RangeEach a b n) = range_each (piece a) (piece b) (piece n)

abbrev pub form_of : Option Element → Form
form_of (Some e) = written e
form_of None = unknown

-- 42 is `*`, 45 is `-`, 47 is `/`
abbrev pub star? : List ℕ → Bool
star? e = length e == 1 && slice_index e 0 == 42

-- without a step: `*`, `a-b`, `a` or a name
abbrev pub plain : Piece → Form
plain p =
    cond (star? p.text) star
    (cond (has 45 p.text) (range (front_piece 45 p) (back_piece 45 p)) (single p))

-- with a step: `*/n` or `a-b/n`
abbrev pub stepped : Piece → Piece → Form
stepped p n =
    cond (star? p.text) (each n)
    (cond (has 45 p.text) (range_each (front_piece 45 p) (back_piece 45 p) n) unknown)

abbrev pub form : Piece → Form
form p = cond (has 47 p.text) (stepped (front_piece 47 p) (back_piece 47 p)) (plain p)

abbrev pub span : Option ℕ → Option ℕ → Option ℕ → Option Span
span None b n = None
span (Some a) None n = None
span (Some a) (Some b) None = None
span (Some a) (Some b) (Some n) = Some (record { from = a; to = b; step = n })

abbrev pub or_else : Option ℕ → Option ℕ → Option ℕ
or_else None b = b
or_else (Some a) b = Some a

abbrev pub name_of : Field → List ℕ → Option ℕ
name_of Minute e = None
name_of Hour e = None
name_of Day e = None
name_of Month e = name_in 1 months e
name_of Weekday e = name_in 0 weekdays e

-- a number, or a name where the field has names
abbrev pub value_of : Field → List ℕ → Option ℕ
value_of f e = or_else (number e) (name_of f e)

-- the numbers that a form says in a field, if all its parts can be read
abbrev pub spanned : Field → Form → Option Span
spanned f star = span (Some (low f)) (Some (high f)) (Some 1)
spanned f (each n) = span (Some (low f)) (Some (high f)) (number n.text)
spanned f (single w) = span (value_of f w.text) (value_of f w.text) (Some 1)
spanned f (range a b) = span (number a.text) (number b.text) (Some 1)
spanned f (range_each a b n) = span (number a.text) (number b.text) (number n.text)
spanned f unknown = None

-- the numbers that an element's bytes say in a field
abbrev pub element : Field → List ℕ → Option Span
element f e = spanned f (form (record { at = 0; text = e }))
