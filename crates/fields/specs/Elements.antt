-- How the elements of a field come, one after the other.
use Rattle.std.specs.Prelude.{◌≡◌, ℕ, suc, ◌+◌, ◌≤◌, List, [], ◌∷◌, length, Option, Some, None, MatchOption}
use Rattle.fields.specs.Bytes.{split}
use Rattle.fields.specs.declared.bytes.Part.{Part}
use Rattle.fields.specs.declared.elements.Elements.{Elements}

-- the elements of what is left, where it begins and ends, and a bound on their number
abbrev pub left : Option Part → List (List ℕ)
left None = []
left (Some p) = split 44 p.text.now

abbrev pub begins : Option Part → ℕ
begins None = 0
begins (Some p) = p.at

abbrev pub ends : Option Part → ℕ
ends None = 0
ends (Some p) = p.at + length p.text.now

abbrev pub most : Option Part → ℕ
most None = 0
most (Some p) = suc (length p.text.now)

-- what is left, if anything is, begins at a place
abbrev pub BeginsAt : ℕ → Option Part → Type 0
BeginsAt n None = Unit {0}
BeginsAt n (Some p) = p.at ≡ n

-- an element comes first of those that are left, and the next one follows the comma after it
pub record FirstElement (s : Elements) (e : Part) (t : Elements) : Type 0 where
  pub at : e.at ≡ begins s.rest
  pub first : left s.rest ≡ e.text.now ∷ left t.rest
  pub next : BeginsAt (e.at + (length e.text.now + 1)) t.rest
  pub within : e.at ≤ ends s.rest
  pub ends_within : ends t.rest ≤ ends s.rest

abbrev pub YieldsElement : Elements → Option Part → Elements → Type 0
YieldsElement s r t = MatchOption r ((left s.rest ≡ []) × (left t.rest ≡ [])) (λ e. FirstElement s e t)
