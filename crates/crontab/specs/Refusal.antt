-- The number by which each case is refused, and what stands beside it.
use Rattle.std.specs.Prelude.{ℕ, Some, None, Option, List, [], ◌++◌, codes}
use Rattle.std.specs.Fmt.{decimal}
use Rattle.fields.specs.Element.{field_number}
use Rattle.fields.specs.Values.{fault_number}
use Rattle.fields.specs.declared.element.Field.{Field}
use Rattle.crontab.specs.declared.refusal.Place.{Place}
use Rattle.crontab.specs.declared.refusal.Code.{Code}
use Rattle.crontab.specs.declared.refusal.Refusal.{Refusal}
use Rattle.crontab.specs.declared.refusal.Refusal.TheVariants.{FileTooLong, LineTooLong, ForbiddenByte, TooManyJobs, Element, Missing, Memory}

-- a number with a place beside it
abbrev pub placed : ℕ → Place → Option Code
placed n p = Some (record { number = n; place = Some p; field = None })

-- and the number of a field too
abbrev pub placed_in : ℕ → Place → Field → Option Code
placed_in n p f = Some (record { number = n; place = Some p; field = Some (field_number f) })

-- want of memory has no number
abbrev pub code_of : Refusal → Option Code
code_of FileTooLong = Some (record { number = 1; place = None; field = None })
code_of (LineTooLong p) = placed 2 p
code_of (ForbiddenByte p) = placed 3 p
code_of (TooManyJobs p) = placed 4 p
code_of (Element d p f) = placed_in (fault_number d) p f
code_of (Missing p) = placed 8 p
code_of Memory = None

-- a refusal as it is written: its number, line, column and field, with a space between
abbrev pub place_text : Option Place → List ℕ
place_text None = []
place_text (Some p) = codes " " ++ decimal p.line ++ codes " " ++ decimal p.column

abbrev pub field_text : Option ℕ → List ℕ
field_text None = []
field_text (Some n) = codes " " ++ decimal n

abbrev pub code_text : Code → List ℕ
code_text c = codes "refused " ++ decimal c.number ++ place_text c.place ++ field_text c.field
