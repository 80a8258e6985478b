-- Which elements are refused, and which values a field holds.
use Rattle.std.specs.Prelude.{ℕ, ◌+◌, ◌-◌, ◌%◌, Bool, false, cond, ◌&&◌, ◌||◌, List, [], ◌∷◌, map, length, Some, None, Ok, Err, Option, Result, ◌==◌, nat_le, nat_lt, slice_index}
use Rattle.std.specs.List.{range_with_len}
use Rattle.fields.specs.declared.element.Span.{Span}
use Rattle.fields.specs.declared.element.Field.{Field}
use Rattle.fields.specs.declared.element.Field.TheVariants.{Minute, Hour, Day, Month, Weekday}
use Rattle.fields.specs.declared.reader.Fault.{Fault}
use Rattle.fields.specs.declared.reader.Fault.TheVariants.{NoSuchElement, OutOfRange, Turned}
use Rattle.fields.specs.declared.reader.BadElement.{BadElement}
use Rattle.fields.specs.declared.reader.FieldSet.{FieldSet}
use Rattle.fields.specs.Bytes.{split}
use Rattle.fields.specs.Element.{low, high, element}

-- the numbers by which faults are refused
abbrev pub fault_number : Fault → ℕ
fault_number NoSuchElement = 5
fault_number OutOfRange = 6
fault_number Turned = 7

-- a number lies outside of what the field takes
abbrev pub outside : Field → ℕ → Bool
outside f v = nat_lt v (low f) || nat_lt (high f) v

-- what is wrong with an element, the least number of refusal first
abbrev pub judged : Field → Option Span → Result Span Fault
judged f None = Err NoSuchElement
judged f (Some s) =
    cond (outside f s.from || outside f s.to) (Err OutOfRange)
    (cond (nat_lt s.to s.from || s.step == 0) (Err Turned) (Ok s))

abbrev pub verdict : Field → List ℕ → Result Span Fault
verdict f e = judged f (element f e)

-- v is the span's first number or one that follows it by steps, and not past its last
abbrev pub takes : Span → ℕ → Bool
takes s v = nat_le s.from v && (nat_le v s.to && (v - s.from) % s.step == 0)

abbrev pub taken : Result Span Fault → ℕ → Bool
taken (Ok s) v = takes s v
taken (Err k) v = false

-- the first refused element of those that begin at a place, with its own place
abbrev pub after : Result Span Fault → ℕ → Option BadElement → Option BadElement
after (Ok s) at r = r
after (Err k) at r = Some (record { fault = k; at = at })

abbrev pub first_bad : Field → ℕ → List (List ℕ) → Option BadElement
first_bad f at [] = None
first_bad f at (e ∷ es) = after (verdict f e) at (first_bad f (at + (length e + 1)) es)

-- 44 is `,`
abbrev pub field_bad : Field → List ℕ → Option BadElement
field_bad f s = first_bad f 0 (split 44 s)

-- some element takes v
abbrev pub any_takes : Field → List (List ℕ) → ℕ → Bool
any_takes f [] v = false
any_takes f (e ∷ es) v = taken (verdict f e) v || any_takes f es v

-- the values for which the numbers of a field stand: as a weekday 7 is Sunday, which is 0
abbrev pub standing : Field → (ℕ → Bool) → ℕ → Bool
standing Minute t v = t v
standing Hour t v = t v
standing Day t v = t v
standing Month t v = t v
standing Weekday t v = cond (v == 7) false (t v || (v == 0 && t 7))

abbrev pub holds : Field → List ℕ → ℕ → Bool
holds f s v = standing f (any_takes f (split 44 s)) v

-- 42 is `*`
abbrev pub starred : List ℕ → Bool
starred s = slice_index s 0 == 42

abbrev pub field_set : Field → List ℕ → FieldSet
field_set f s = record { values = record { has = map (holds f s) (range_with_len 0 64) }; starred = starred s }

abbrev pub unless : Option BadElement → FieldSet → Result FieldSet BadElement
unless None v = Ok v
unless (Some b) v = Err b

-- what a field's bytes hold, or the first element that is refused
unfoldable pub field_reading : Field → List ℕ → Result FieldSet BadElement
field_reading f s = unless (field_bad f s) (field_set f s)
