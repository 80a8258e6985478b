-- Crontabs worked out by hand: what each is refused for, or what its first job line says.
use Rattle.std.specs.Prelude.{◌≡◌, ℕ, zero, suc, ◌+◌, Bool, true, false, List, [], ◌∷◌, ◌++◌, Some, None, Ok, Err, codes, Option, Result}
use Rattle.fields.specs.declared.element.Field.{Field}
use Rattle.fields.specs.declared.element.Field.TheVariants.{Minute, Hour, Day, Month, Weekday}
use Rattle.crontab.specs.declared.refusal.Place.{Place}
use Rattle.crontab.specs.declared.refusal.Code.{Code}
use Rattle.crontab.specs.declared.refusal.Refusal.{Refusal}
use Rattle.crontab.specs.declared.job.Job.{Job}
use Rattle.crontab.specs.Refusal.{code_of}
use Rattle.crontab.specs.Job.{field_of, wild}
use Rattle.crontab.specs.File.{file_reading}

-- a refusal as it is shown: its number, then line, column and field as far as they stand beside it
abbrev pub at : Option Place → List ℕ
at None = []
at (Some p) = p.line ∷ p.column ∷ []

abbrev pub in_field : Option ℕ → List ℕ
in_field None = []
in_field (Some f) = f ∷ []

abbrev pub shown : Option Code → List ℕ
shown None = []
shown (Some c) = c.number ∷ at c.place ++ in_field c.field

abbrev pub refusal : Result (List Job) Refusal → List ℕ
refusal (Ok js) = []
refusal (Err e) = shown (code_of e)

abbrev pub refused : List ℕ → List ℕ
refused s = refusal (file_reading s)

-- the places of a list, counted from k, that hold true
abbrev pub places : ℕ → List Bool → List ℕ
places k [] = []
places k (true ∷ bs) = k ∷ places (k + 1) bs
places k (false ∷ bs) = places (k + 1) bs

abbrev pub said : Field → Result (List Job) Refusal → List ℕ
said f (Ok []) = []
said f (Ok (j ∷ js)) = places 0 (field_of f j).values.has
said f (Err e) = []

-- the values of a field of the first job line
abbrev pub values : Field → List ℕ → List ℕ
values f s = said f (file_reading s)

-- the job lines of a taken file: by the number of its line, its command's place and length
abbrev pub places_of : List Job → List (ℕ × ℕ × ℕ)
places_of [] = []
places_of (j ∷ js) = (j.line, j.command.at, j.command.length) ∷ places_of js

abbrev pub taken : Result (List Job) Refusal → Option (List (ℕ × ℕ × ℕ))
taken (Ok js) = Some (places_of js)
taken (Err e) = None

abbrev pub jobs : List ℕ → Option (List (ℕ × ℕ × ℕ))
jobs s = taken (file_reading s)

-- the marks of the first job line: whether each field is starred, and whether the line is wild
abbrev pub marked : Result (List Job) Refusal → List Bool
marked (Ok []) = []
marked (Ok (j ∷ js)) =
    j.minute.starred ∷ j.hour.starred ∷ j.day.starred ∷ j.month.starred ∷ j.weekday.starred ∷ wild j ∷ []
marked (Err e) = []

abbrev pub marks : List ℕ → List Bool
marks s = marked (file_reading s)

-- a text, n times over
abbrev pub times : ℕ → List ℕ → List ℕ
times zero s = []
times (suc n) s = s ++ times n s

-- 10 ends a line
abbrev pub line : List ℕ → List ℕ
line s = s ++ 10 ∷ []

-- ranges
abbrev pub Ranges : Type 0
Ranges =
    (refused (codes "60 * * * * run") ≡ 6 ∷ 1 ∷ 1 ∷ 1 ∷ [])
    × (refused (codes "59 * * * * run") ≡ [])
    × (values Minute (codes "59 * * * * run") ≡ 59 ∷ [])
    × (refused (codes "10-5 * * * * run") ≡ 7 ∷ 1 ∷ 1 ∷ 1 ∷ [])
    × (refused (codes "60-5/0 * * * * run") ≡ 6 ∷ 1 ∷ 1 ∷ 1 ∷ [])
    × (refused (codes "10-5/x * * * * run") ≡ 5 ∷ 1 ∷ 1 ∷ 1 ∷ [])
    × (refused (codes "0 0 32 * * run") ≡ 6 ∷ 1 ∷ 5 ∷ 3 ∷ [])
    × (refused (codes "0 0 0 * * run") ≡ 6 ∷ 1 ∷ 5 ∷ 3 ∷ [])

-- steps and lists
abbrev pub Steps : Type 0
Steps =
    (values Minute (codes "*/20 * * * * run") ≡ 0 ∷ 20 ∷ 40 ∷ [])
    × (values Hour (codes "0 4-9/2,7 * * * run") ≡ 4 ∷ 6 ∷ 7 ∷ 8 ∷ [])
    × (values Day (codes "0 0 */99 * * run") ≡ 1 ∷ [])
    × (refused (codes "*/0 * * * * run") ≡ 7 ∷ 1 ∷ 1 ∷ 1 ∷ [])
    × (refused (codes "*/100 * * * * run") ≡ 5 ∷ 1 ∷ 1 ∷ 1 ∷ [])
    × (refused (codes "007 * * * * run") ≡ 5 ∷ 1 ∷ 1 ∷ 1 ∷ [])
    × (refused (codes "1,,2 * * * * run") ≡ 5 ∷ 1 ∷ 3 ∷ 1 ∷ [])
    × (refused (codes "1, * * * * run") ≡ 5 ∷ 1 ∷ 3 ∷ 1 ∷ [])

-- names, and 7 as Sunday
abbrev pub Names : Type 0
Names =
    (values Month (codes "0 0 * jAn,dec * run") ≡ 1 ∷ 12 ∷ [])
    × (values Weekday (codes "0 0 * * MON,wed run") ≡ 1 ∷ 3 ∷ [])
    × (values Weekday (codes "0 0 * * 7 run") ≡ 0 ∷ [])
    × (values Weekday (codes "0 0 * * 5-7 run") ≡ 0 ∷ 5 ∷ 6 ∷ [])
    × (refused (codes "0 0 * jan/2 * run") ≡ 5 ∷ 1 ∷ 7 ∷ 4 ∷ [])
    × (refused (codes "0 0 * * mon-fri run") ≡ 5 ∷ 1 ∷ 9 ∷ 5 ∷ [])
    × (refused (codes "jan * * * * run") ≡ 5 ∷ 1 ∷ 1 ∷ 1 ∷ [])

-- lines: comments and blank lines, commands, what is missing, forbidden bytes, the first refusal
abbrev pub Lines : Type 0
Lines =
    (jobs [] ≡ Some [])
    × (jobs (line (codes "# note") ++ line (codes "  ") ++ line [] ++ codes "0 2 * * * backup --all ")
    ≡ Some ((4, 21, 13) ∷ []))
    × (marks (codes "*/15 2 1,* * * run") ≡ true ∷ false ∷ false ∷ true ∷ true ∷ true ∷ [])
    × (marks (codes "30 2 * * * run") ≡ false ∷ false ∷ true ∷ true ∷ true ∷ false ∷ [])
    × (refused (codes "* * * * *") ≡ 8 ∷ 1 ∷ 10 ∷ [])
    × (refused (codes "* * * * * ") ≡ 8 ∷ 1 ∷ 11 ∷ [])
    × (refused (codes "1 2 3") ≡ 8 ∷ 1 ∷ 6 ∷ [])
    × (refused (codes "60") ≡ 6 ∷ 1 ∷ 1 ∷ 1 ∷ [])
    × (refused (codes "#" ++ 13 ∷ []) ≡ 3 ∷ 1 ∷ 2 ∷ [])
    × (refused (codes "60 * * * * a" ++ 27 ∷ []) ≡ 3 ∷ 1 ∷ 13 ∷ [])
    × (refused (line (codes "0 24 * * * run") ++ codes "60 * * * * run") ≡ 6 ∷ 1 ∷ 3 ∷ 2 ∷ [])
    × (refused (times 1001 (codes "#")) ≡ 2 ∷ 1 ∷ 1001 ∷ [])
    × (refused (times 1000 (codes "#")) ≡ [])
    × (refused (times 64 (line (codes "0 0 1 1 1 a"))) ≡ [])
    × (refused (times 64 (line (codes "0 0 1 1 1 a")) ++ codes "60") ≡ 4 ∷ 65 ∷ 1 ∷ [])
    × (refused (times 16385 (codes "#")) ≡ 1 ∷ [])
