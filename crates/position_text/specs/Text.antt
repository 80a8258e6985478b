-- Positions as text.
use Rattle.std.specs.Prelude.{ℕ, List, [], ◌∷◌, ◌++◌, codes}
use Rattle.std.specs.Fmt.{decimal}
use Rattle.std.specs.List.{flat_map}
use Rattle.time.specs.declared.position.Position.{Position}

-- the minute, a colon, the line
abbrev pub position_text : Position → List ℕ
position_text p = decimal p.minute.0 ++ codes ":" ++ decimal p.line

-- the line, a space, the minute
abbrev pub ticket_text : Position → List ℕ
ticket_text p = decimal p.line ++ codes " " ++ decimal p.minute.0

-- each with a comma before it
abbrev pub rest_text : List Position → List ℕ
rest_text = flat_map (λ p. codes "," ++ position_text p)

-- in brackets, and parted by commas
abbrev pub open_text : List Position → List ℕ
open_text [] = codes "()"
open_text (p ∷ ps) = codes "(" ++ position_text p ++ rest_text ps ++ codes ")"
