-- That fields are read exactly by the grammar.
use Rattle.std.specs.Prelude.{◌≡◌, ℕ, ◌<◌, ◌≤◌, true, ◌⊎◌, ◌↔◌, List, Some, None, Ok, Err}
use Rattle.fields.specs.declared.element.Span.{Span}
use Rattle.fields.specs.declared.element.Field.{Field}
use Rattle.fields.specs.declared.reader.Fault.{Fault}
use Rattle.fields.specs.declared.reader.BadElement.{BadElement}
use Rattle.fields.specs.Element.{element, low}
use Rattle.fields.specs.Values.{verdict, field_bad, holds}
use Rattle.fields.specs.Bytes.{split}
use Rattle.field_grammar.specs.Grammar.{Element, Parted, Sound, Wrong, WrongAt, Holds, top}
use Rattle.fields.specs.Values.{fault_number}

-- no bytes have two readings
abbrev pub OneReading : Type 0
OneReading =
    (f : Field) (e : List ℕ) (s t : Span) → Element f e s → Element f e t → s ≡ t

-- an element is read exactly as the grammar has it
abbrev pub ReadsElements : Type 0
ReadsElements =
    (f : Field) (e : List ℕ) (s : Span) → (element f e ≡ Some s) ↔ Element f e s

-- a text is parted in exactly one way
abbrev pub ReadsParts : Type 0
ReadsParts =
    (b : ℕ) (s : List ℕ) (es : List (List ℕ)) → (split b s ≡ es) ↔ Parted b s es

-- an element is taken exactly if it is one and is sound
abbrev pub TakesSound : Type 0
TakesSound =
    (f : Field) (e : List ℕ) (s : Span) → (verdict f e ≡ Ok s) ↔ (Element f e s × Sound f s)

-- an element is refused for what is wrong with it, by the least number of those that fit
abbrev pub RefusesWrong : Type 0
RefusesWrong =
    (f : Field) (e : List ℕ) (d : Fault) →
    (verdict f e ≡ Err d) ↔ (Wrong f e d × ((c : Fault) → Wrong f e c → fault_number d ≤ fault_number c))

-- a field is refused for its leftmost wrong element, by the least number of those that fit
abbrev pub RefusesLeftmost : Type 0
RefusesLeftmost =
    (f : Field) (s : List ℕ) (b : BadElement) → field_bad f s ≡ Some b →
    WrongAt f s b.at b.fault
    × ((at : ℕ) (d : Fault) → WrongAt f s at d →
    (b.at < at) ⊎ ((b.at ≡ at) × (fault_number b.fault ≤ fault_number d)))

-- a field that is taken has no wrong element
abbrev pub TakesFaultless : Type 0
TakesFaultless =
    (f : Field) (s : List ℕ) → field_bad f s ≡ None → (at : ℕ) (d : Fault) → WrongAt f s at d → ⊥

-- a field that is taken holds exactly the values that its elements say
abbrev pub HoldsSaid : Type 0
HoldsSaid =
    (f : Field) (s : List ℕ) → field_bad f s ≡ None → (v : ℕ) → (holds f s v ≡ true) ↔ Holds f s v

-- they lie in the field's range
abbrev pub HoldsInRange : Type 0
HoldsInRange =
    (f : Field) (s : List ℕ) → field_bad f s ≡ None → (v : ℕ) → holds f s v ≡ true → (low f ≤ v) × (v ≤ top f)

-- and there is at least one
abbrev pub HoldsSome : Type 0
HoldsSome =
    (f : Field) (s : List ℕ) → field_bad f s ≡ None → (v : ℕ) × (holds f s v ≡ true)
