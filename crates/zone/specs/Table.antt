-- A table of offsets: its entries in order of their minutes, the first for the time before any change.
use Rattle.std.specs.Prelude.{ℕ, suc, ◌+◌, ◌-◌, ◌<◌, ◌≤◌, Bool, true, false, cond, not, ◌&&◌, List, [], ◌∷◌, length, ℤ, pos, ◌-ℤ◌, is_some, Some, None, Option, ◌==◌, nat_le, nat_lt, slice_index_or, unsigned_abs}
use Rattle.zone.specs.declared.entry.Entry.{Entry}
use Rattle.zone.specs.Limits.{most_offset, most_change, least_apart, most_entries}
use Rattle.time.specs.Limits.{served}

-- the offset in force at u: o, unless an entry of the list holds by then
abbrev pub in_force : ℤ → List Entry → ℕ → ℤ
in_force o [] u = o
in_force o (e ∷ es) u = elim (nat_le e.minute.0 u) [ true ↦ in_force e.offset es u | false ↦ o ]

abbrev pub table_offset : List Entry → ℕ → ℤ
table_offset es u = in_force (pos 0) es u

-- an offset within 15 hours
abbrev pub near : ℤ → Bool
near o = nat_le (unsigned_abs o) most_offset

-- minute m is not less than a day after minute p
abbrev pub day_later : ℕ → ℕ → Bool
day_later p m = nat_le (p + least_apart) m

-- an offset of new after old is a change, and not too large a one
abbrev pub small_change : ℤ → ℤ → Bool
small_change old new = nat_le 1 (unsigned_abs (new -ℤ old)) && nat_le (unsigned_abs (new -ℤ old)) most_change

-- an entry may stand first
abbrev pub starts : Entry → Bool
starts e = e.minute.0 == 0 && near e.offset

-- an entry may follow p
abbrev pub follows : Entry → Entry → Bool
follows p e =
    served e.minute.0
    && (near e.offset
    && (day_later p.minute.0 e.minute.0
    && small_change p.offset e.offset))

-- the first bad entry of those after p, which count from k
abbrev pub first_bad : ℕ → Entry → List Entry → Option ℕ
first_bad k p [] = None
first_bad k p (e ∷ es) = elim (follows p e) [ true ↦ first_bad (suc k) e es | false ↦ Some k ]

-- the first bad entry of all; an empty list lacks entry 0
abbrev pub entry_fault : List Entry → Option ℕ
entry_fault [] = Some 0
entry_fault (e ∷ es) = elim (starts e) [ true ↦ first_bad 1 e es | false ↦ Some 0 ]

-- the index for which a table is refused: of one that is too long the first that is too many, whatever stands in it
abbrev pub table_fault : List Entry → Option ℕ
table_fault es = cond (nat_lt most_entries (length es)) (Some most_entries) (entry_fault es)

-- without an entry the offset is 0 always: the clock shows the minute itself
abbrev pub utc : List Entry
utc = []

-- the entries that count: a refused table means UTC
abbrev pub taken : List Entry → List Entry
taken es = elim (table_fault es) [ None ↦ es | Some k ↦ utc ]

-- what a zone may hold: UTC, or a table without fault
abbrev pub sound : List Entry → Bool
sound [] = true
sound (e ∷ es) = not (is_some (table_fault (e ∷ es)))

-- reads past the end
abbrev pub blank : Entry
blank = record { minute = record { 0 = 0 }; offset = pos 0 }

-- r is a place where the entries pass from at most u to above u; in a table in order there is one such place
pub record Parts (es : List Entry) (u r : ℕ) : Type 0 where
  pub within : r ≤ length es
  pub before : 0 < r → (slice_index_or es (r - 1) blank).minute.0 ≤ u
  pub after : r < length es → u < (slice_index_or es r blank).minute.0
