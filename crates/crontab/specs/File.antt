-- The whole file: its lines, and what they hold.
use Rattle.std.specs.Prelude.{◌≡◌, ℕ, ◌+◌, cond, List, [], ◌∷◌, ◌++◌, length, take, drop, Some, None, Ok, Err, vec_items, vec_len, Option, Result, Vec, ◌==◌, nat_le, nat_lt}
use Rattle.std.specs.Option.{option_to_list}
use Rattle.std.specs.declared.alloc.Global.{Global}
use Rattle.fields.specs.Bytes.{longer}
use Rattle.crontab.specs.declared.refusal.Refusal.{Refusal}
use Rattle.crontab.specs.declared.refusal.Refusal.TheVariants.{FileTooLong}
use Rattle.crontab.specs.declared.job.Command.{Command}
use Rattle.crontab.specs.declared.job.Job.{Job}
use Rattle.crontab.specs.Limits.{longest_file}
use Rattle.crontab.specs.Line.{and_then, line_reading}

-- the lines of a text: byte 10 ends a line, and so does the text's end
abbrev pub lines : List ℕ → List (List ℕ)
lines [] = []
lines (x ∷ xs) = cond (x == 10) ([] ∷ lines xs) (longer x (lines xs))

-- the job of a line, if it has one, before those of the lines after it
abbrev pub before : Option Job → Result (List Job) Refusal → Result (List Job) Refusal
before None r = r
before (Some j) (Ok js) = Ok (j ∷ js)
before (Some j) (Err e) = Err e

abbrev pub counted : Option Job → ℕ → ℕ
counted None k = k
counted (Some j) k = k + 1

-- what lines hold from line n on, which begins at place start and has k job lines before it
abbrev pub lines_reading : ℕ → ℕ → ℕ → List (List ℕ) → Result (List Job) Refusal
lines_reading n start k [] = Ok []
lines_reading n start k (l ∷ ls) =
    and_then (line_reading n start k l) λ o.
    before o (lines_reading (n + 1) (start + (length l + 1)) (counted o k) ls)

-- line n was read, and its job, if it has one, was added to those before
pub record Added (n start : ℕ) (l : List ℕ) (old new : Vec Job Global) : Type 0 where
  pub job : Option Job
  pub reads : line_reading n start (vec_len old) l ≡ Ok job
  pub items : vec_items new ≡ vec_items old ++ option_to_list job
  pub len : vec_len new ≡ counted job (vec_len old)

-- the jobs of a file, or its first refusal
abbrev pub file_reading : List ℕ → Result (List Job) Refusal
file_reading s = cond (nat_lt longest_file (length s)) (Err FileTooLong) (lines_reading 1 0 0 (lines s))

-- a command's bytes, if it lies in the file
abbrev pub bytes_of : List ℕ → Command → Option (List ℕ)
bytes_of s c = cond (nat_le (c.at + c.length) (length s)) (Some (take c.length (drop c.at s))) None

-- the command of a job line, if there is such a line
abbrev pub command_of : List ℕ → Option Job → Option (List ℕ)
command_of s None = None
command_of s (Some j) = bytes_of s j.command
