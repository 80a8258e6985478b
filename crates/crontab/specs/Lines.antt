-- How the lines of a file come, one after the other.
use Rattle.std.specs.Prelude.{◌≡◌, ◌+◌, [], ◌∷◌, length, Option, MatchOption}
use Rattle.crontab.specs.File.{lines}
use Rattle.crontab.specs.declared.line.Line.{Line}
use Rattle.crontab.specs.declared.lines.Lines.{Lines}

-- a line comes first of those that are left, and its number and its place are passed on
pub record FirstLine (s : Lines) (l : Line) (t : Lines) : Type 0 where
  pub number : l.number ≡ s.number
  pub start : l.start ≡ s.start
  pub first : lines s.text.now ≡ l.text.now ∷ lines t.text.now
  pub next_number : t.number ≡ s.number + 1
  pub next_start : t.start ≡ s.start + (length l.text.now + 1)

abbrev pub YieldsLine : Lines → Option Line → Lines → Type 0
YieldsLine s r t = MatchOption r ((lines s.text.now ≡ []) × (lines t.text.now ≡ [])) (λ l. FirstLine s l t)
