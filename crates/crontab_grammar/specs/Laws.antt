-- That a crontab is read exactly by the grammar.
use Rattle.std.specs.Prelude.{◌≡◌, ℕ, ◌+◌, ◌<◌, ◌≤◌, true, false, ◌↔◌, List, length, take, drop, Some, Ok, Err, slice_index_or}
use Rattle.std.specs.List.{slice_get}
use Rattle.fields.specs.declared.element.Field.{Field}
use Rattle.fields.specs.declared.reader.FieldSet.{FieldSet}
use Rattle.fields.specs.Element.{low}
use Rattle.field_grammar.specs.Grammar.{top}
use Rattle.crontab.specs.declared.refusal.Refusal.{Refusal}
use Rattle.crontab.specs.declared.job.Job.{Job}
use Rattle.crontab.specs.Job.{field_of}
use Rattle.crontab.specs.Words.{idle}
use Rattle.crontab.specs.Limits.{most_jobs}
use Rattle.crontab.specs.Line.{job_reading}
use Rattle.crontab.specs.File.{lines, file_reading, bytes_of}
use Rattle.crontab_grammar.specs.Grammar.{Lines, HoldsJob, JobOf, JobsOf}
use Rattle.crontab_grammar.specs.Faults.{FaultIn, First}

-- a text has its lines in exactly one way
abbrev pub ReadsLines : Type 0
ReadsLines = (s : List ℕ) (ls : List (List ℕ)) → (lines s ≡ ls) ↔ Lines s ls

-- a line is passed over exactly if it holds no job
abbrev pub ReadsIdle : Type 0
ReadsIdle = (l : List ℕ) → (idle l ≡ false) ↔ HoldsJob l

-- a job line is read exactly as the grammar has it
abbrev pub ReadsJobs : Type 0
ReadsJobs =
    (n start : ℕ) (l : List ℕ) (j : Job) → (job_reading n start l ≡ Ok j) ↔ JobOf n start l j

-- the jobs of a file that is taken are those of its lines, in their order
abbrev pub TakesJobs : Type 0
TakesJobs = (s : List ℕ) (js : List Job) → file_reading s ≡ Ok js → JobsOf 1 0 (lines s) js

-- a refused file has the fault that is named, and none comes before it
abbrev pub RefusesFirst : Type 0
RefusesFirst =
    (s : List ℕ) (e : Refusal) → file_reading s ≡ Err e →
    FaultIn s e × ((d : Refusal) → FaultIn s d → First e d)

-- a file that is taken has no fault
abbrev pub TakesFaultless : Type 0
TakesFaultless =
    (s : List ℕ) (js : List Job) → file_reading s ≡ Ok js → (d : Refusal) → FaultIn s d → ⊥

abbrev pub HoldsValue : FieldSet → ℕ → Type 0
HoldsValue s v = slice_index_or s.values.has v false ≡ true

-- the values of a file that is taken lie in their fields' ranges, and each field has some
abbrev pub TakesInRange : Type 0
TakesInRange =
    (s : List ℕ) (js : List Job) → file_reading s ≡ Ok js →
    (k : ℕ) (j : Job) → slice_get js k ≡ Some j → (f : Field) →
    ((v : ℕ) → HoldsValue (field_of f j) v → (low f ≤ v) × (v ≤ top f))
    × ((v : ℕ) × HoldsValue (field_of f j) v)

-- its job lines are at most as many as a file may have, and each has a command, within the file
abbrev pub TakesCommands : Type 0
TakesCommands =
    (s : List ℕ) (js : List Job) → file_reading s ≡ Ok js →
    (length js ≤ most_jobs)
    × ((k : ℕ) (j : Job) → slice_get js k ≡ Some j →
    (0 < j.command.length) × (j.command.at + j.command.length ≤ length s))

-- a job's command is the file's own bytes: its line lies in the file, and the command's place in that line
pub record Found (s : List ℕ) (j : Job) : Type 0 where
  pub number : ℕ
  pub start : ℕ
  pub line : List ℕ
  pub lies : take (length line) (drop start s) ≡ line
  pub is_job : JobOf number start line j
  pub bytes : bytes_of s j.command ≡ Some is_job.command

abbrev pub TakesBytes : Type 0
TakesBytes =
    (s : List ℕ) (js : List Job) → file_reading s ≡ Ok js →
    (k : ℕ) (j : Job) → slice_get js k ≡ Some j → Found s j
