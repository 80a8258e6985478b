-- What is at fault in a crontab, and which fault comes first.
use Rattle.std.specs.Prelude.{◌≡◌, ℕ, suc, ◌+◌, ◌<◌, ◌≤◌, true, cond, ◌⊎◌, List, [], ◌∷◌, length, take, slice_index, slice_index_or}
use Rattle.scan.specs.Scan.{forbidden?}
use Rattle.fields.specs.declared.element.Field.{Field}
use Rattle.fields.specs.declared.reader.Fault.{Fault}
use Rattle.field_grammar.specs.Grammar.{WrongAt}
use Rattle.crontab.specs.declared.refusal.Refusal.{Refusal}
use Rattle.crontab.specs.declared.refusal.Refusal.TheVariants.{FileTooLong, LineTooLong, ForbiddenByte, TooManyJobs, Element, Missing, Memory}
use Rattle.fields.specs.Values.{fault_number}
use Rattle.crontab.specs.Words.{idle}
use Rattle.crontab.specs.Limits.{longest_file, longest_line, most_jobs}
use Rattle.crontab.specs.Line.{place, words_before}
use Rattle.crontab.specs.File.{lines}
use Rattle.crontab_grammar.specs.Grammar.{HoldsJob, WordAt}

-- what is at fault in line n, before which k job lines stand
pub data FaultOf (n k : ℕ) (l : List ℕ) : Refusal → Type 0 where
  too_long : longest_line < length l → FaultOf n k l (LineTooLong (place n (longest_line + 1)))
  forbidden : (i : ℕ) → i < length l → forbidden? (slice_index l i) ≡ true →
      FaultOf n k l (ForbiddenByte (place n (i + 1)))
  too_many : HoldsJob l → most_jobs ≤ k → FaultOf n k l (TooManyJobs (place n 1))
  element : (f : Field) (p at : ℕ) (w : List ℕ) (d : Fault) → HoldsJob l →
      WordAt l (words_before f) p w → WrongAt f w at d →
      FaultOf n k l (Element d (place n (p + at + 1)) f)
  missing : HoldsJob l → ((p : ℕ) (w : List ℕ) → WordAt l 5 p w → ⊥) →
      FaultOf n k l (Missing (place n (length l + 1)))

-- how many of some lines hold a job
abbrev pub jobs_in : List (List ℕ) → ℕ
jobs_in [] = 0
jobs_in (l ∷ ls) = cond (idle l) (jobs_in ls) (suc (jobs_in ls))

-- what is at fault in a file: its lines count from 1
pub data FaultIn (s : List ℕ) (e : Refusal) : Type 0 where
  whole : longest_file < length s → e ≡ FileTooLong → FaultIn s e
  in_line : (i : ℕ) → i < length (lines s) →
      FaultOf (i + 1) (jobs_in (take i (lines s))) (slice_index_or (lines s) i []) e → FaultIn s e

-- the order within a line: too long, a forbidden byte, too many jobs, elements, what is missing
abbrev pub rank : Refusal → ℕ
rank FileTooLong = 1
rank (LineTooLong p) = 2
rank (ForbiddenByte p) = 3
rank (TooManyJobs p) = 4
rank (Element d p f) = 5
rank (Missing p) = 8
rank Memory = 0

abbrev pub line_of : Refusal → ℕ
line_of FileTooLong = 0
line_of (LineTooLong p) = p.line
line_of (ForbiddenByte p) = p.line
line_of (TooManyJobs p) = p.line
line_of (Element d p f) = p.line
line_of (Missing p) = p.line
line_of Memory = 0

abbrev pub column_of : Refusal → ℕ
column_of FileTooLong = 0
column_of (LineTooLong p) = p.column
column_of (ForbiddenByte p) = p.column
column_of (TooManyJobs p) = p.column
column_of (Element d p f) = p.column
column_of (Missing p) = p.column
column_of Memory = 0

-- of one element's faults the least number
abbrev pub number_of : Refusal → ℕ
number_of FileTooLong = 1
number_of (LineTooLong p) = 2
number_of (ForbiddenByte p) = 3
number_of (TooManyJobs p) = 4
number_of (Element d p f) = fault_number d
number_of (Missing p) = 8
number_of Memory = 0

-- e is d, or comes before it: by line, then by that order, then from the left, then by number
abbrev pub First : Refusal → Refusal → Type 0
First e d =
    (line_of e < line_of d) ⊎ ((line_of e ≡ line_of d)
    × ((rank e < rank d) ⊎ ((rank e ≡ rank d)
    × ((column_of e < column_of d) ⊎ ((column_of e ≡ column_of d) × (number_of e ≤ number_of d))))))
