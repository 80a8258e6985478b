-- What is read of a line and of several, case by case.
use Rattle.std.proofs.Common.{◌≡◌, ℕ, ◌+◌, ◌<◌, ◌≤◌, Bool, true, false, ltb, leb, List, [], ◌∷◌, length, Some, None, Ok, Err, Option, Result, refl}
use Rattle.std.proofs.lemmas.Bool.{ltb-true, ltb-false, leb-true, leb-false}
use Rattle.crontab.specs.declared.refusal.Refusal.{Refusal}
use Rattle.crontab.specs.declared.refusal.Refusal.TheVariants.{FileTooLong, LineTooLong, ForbiddenByte, TooManyJobs}
use Rattle.crontab.specs.declared.job.Job.{Job}
use Rattle.crontab.specs.Words.{forbidden_in, idle}
use Rattle.crontab.specs.Line.{place, job_reading, line_reading}
use Rattle.crontab.specs.File.{lines, before, counted, lines_reading, file_reading}
use Rattle.crontab.specs.Limits.{longest_file, longest_line, most_jobs}

-- a line is not too long, and has no forbidden byte
pub record Clean (l : List ℕ) : Type 0 where
  pub short : length l ≤ longest_line
  pub allowed : length l ≤ forbidden_in l

-- line n, which begins at place start of the file and has k job lines before it, and what is read of it
pub data LineRead (n start k : ℕ) (l : List ℕ) : Result (Option Job) Refusal → Type 0 where
  long : longest_line < length l → LineRead n start k l (Err (LineTooLong (place n (longest_line + 1))))
  forbidden : length l ≤ longest_line → forbidden_in l < length l →
      LineRead n start k l (Err (ForbiddenByte (place n (forbidden_in l + 1))))
  passed : Clean l → idle l ≡ true → LineRead n start k l (Ok None)
  many : Clean l → idle l ≡ false → most_jobs ≤ k → LineRead n start k l (Err (TooManyJobs (place n 1)))
  taken : {j : Job} → Clean l → idle l ≡ false → k < most_jobs → job_reading n start l ≡ Ok j →
      LineRead n start k l (Ok (Some j))
  refused : {e : Refusal} → Clean l → idle l ≡ false → k < most_jobs → job_reading n start l ≡ Err e →
      LineRead n start k l (Err e)

-- the cases of a line
pub line_read : (n start k : ℕ) (l : List ℕ) → LineRead n start k l (line_reading n start k l)
line_read n start k l =
    go (ltb longest_line (length l)) (ltb (forbidden_in l) (length l)) (idle l) (leb most_jobs k)
    (job_reading n start l) refl refl refl refl refl
  where
    clean : ltb longest_line (length l) ≡ false → ltb (forbidden_in l) (length l) ≡ false → Clean l
    clean p q = record {
      short = ltb-false longest_line (length l) p;
      allowed = ltb-false (forbidden_in l) (length l) q;
    }

    go : (a b c d : Bool) (e : Result Job Refusal) → ltb longest_line (length l) ≡ a →
        ltb (forbidden_in l) (length l) ≡ b → idle l ≡ c → leb most_jobs k ≡ d → job_reading n start l ≡ e →
        LineRead n start k l (line_reading n start k l)
    go true b c d e p q r s t = rw p (long (ltb-true longest_line (length l) p))
    go false true c d e p q r s t =
        rw (p, q) (forbidden (ltb-false longest_line (length l) p) (ltb-true (forbidden_in l) (length l) q))
    go false false true d e p q r s t = rw (p, q, r) (passed (clean p q) r)
    go false false false true e p q r s t = rw (p, q, r, s) (many (clean p q) r (leb-true most_jobs k s))
    go false false false false (Ok j) p q r s t =
        rw (p, q, r, s, t) (taken (clean p q) r (leb-false most_jobs k s) t)
    go false false false false (Err e) p q r s t =
        rw (p, q, r, s, t) (refused (clean p q) r (leb-false most_jobs k s) t)

-- lines from line n on, and the jobs that are read of them
pub data LinesTaken : ℕ → ℕ → ℕ → List (List ℕ) → List Job → Type 0 where
  none : {n start k : ℕ} → LinesTaken n start k [] []
  pass : {n start k : ℕ} {l : List ℕ} {ls : List (List ℕ)} {js : List Job} → LineRead n start k l (Ok None) →
      LinesTaken (n + 1) (start + (length l + 1)) k ls js → LinesTaken n start k (l ∷ ls) js
  job : {n start k : ℕ} {l : List ℕ} {ls : List (List ℕ)} {j : Job} {js : List Job} →
      LineRead n start k l (Ok (Some j)) →
      LinesTaken (n + 1) (start + (length l + 1)) (k + 1) ls js → LinesTaken n start k (l ∷ ls) (j ∷ js)

-- lines from line n on, and the refusal of the first that is refused
pub data LinesRefused : ℕ → ℕ → ℕ → List (List ℕ) → Refusal → Type 0 where
  here : {n start k : ℕ} {l : List ℕ} {ls : List (List ℕ)} {e : Refusal} → LineRead n start k l (Err e) →
      LinesRefused n start k (l ∷ ls) e
  later : {n start k : ℕ} {l : List ℕ} {ls : List (List ℕ)} {o : Option Job} {e : Refusal} →
      LineRead n start k l (Ok o) → LinesRefused (n + 1) (start + (length l + 1)) (counted o k) ls e →
      LinesRefused n start k (l ∷ ls) e

-- lines from line n on, and what is read of them
abbrev pub LinesRead : ℕ → ℕ → ℕ → List (List ℕ) → Result (List Job) Refusal → Type 0
LinesRead n start k ls (Ok js) = LinesTaken n start k ls js
LinesRead n start k ls (Err e) = LinesRefused n start k ls e

-- the cases of several lines
pub lines_read : (n start k : ℕ) (ls : List (List ℕ)) → LinesRead n start k ls (lines_reading n start k ls)
lines_read n start k [] = none
lines_read n start k (l ∷ ls) =
    go (line_reading n start k l) refl (line_read n start k l)
    (λ (o : Option Job). lines_read (n + 1) (start + (length l + 1)) (counted o k) ls)
  where
    rest : Option Job → Result (List Job) Refusal
    rest o = lines_reading (n + 1) (start + (length l + 1)) (counted o k) ls

    onward : (o : Option Job) (r : Result (List Job) Refusal) → LineRead n start k l (Ok o) →
        LinesRead (n + 1) (start + (length l + 1)) (counted o k) ls r → LinesRead n start k (l ∷ ls) (before o r)
    onward None (Ok js) p t = pass p t
    onward None (Err e) p t = later p t
    onward (Some j) (Ok js) p t = job p t
    onward (Some j) (Err e) p t = later p t

    go : (r : Result (Option Job) Refusal) → line_reading n start k l ≡ r → LineRead n start k l r →
        ((o : Option Job) → LinesRead (n + 1) (start + (length l + 1)) (counted o k) ls (rest o)) →
        LinesRead n start k (l ∷ ls) (lines_reading n start k (l ∷ ls))
    go (Err e) q p ih = rw q (here p)
    go (Ok o) q p ih = rw q (onward o (rest o) p (ih o))

-- a file, and what is read of it
pub data FileRead (s : List ℕ) : Result (List Job) Refusal → Type 0 where
  file_long : longest_file < length s → FileRead s (Err FileTooLong)
  file_taken : {js : List Job} → length s ≤ longest_file → LinesTaken 1 0 0 (lines s) js → FileRead s (Ok js)
  file_refused : {e : Refusal} → length s ≤ longest_file → LinesRefused 1 0 0 (lines s) e → FileRead s (Err e)

-- the cases of a file
pub file_read : (s : List ℕ) → FileRead s (file_reading s)
file_read s = go (ltb longest_file (length s)) refl (lines_reading 1 0 0 (lines s)) refl (lines_read 1 0 0 (lines s))
  where
    go : (t : Bool) → ltb longest_file (length s) ≡ t → (r : Result (List Job) Refusal) →
        lines_reading 1 0 0 (lines s) ≡ r → LinesRead 1 0 0 (lines s) r → FileRead s (file_reading s)
    go true p r q l = rw p (file_long (ltb-true longest_file (length s) p))
    go false p (Ok js) q l = rw (p, q) (file_taken (ltb-false longest_file (length s) p) l)
    go false p (Err e) q l = rw (p, q) (file_refused (ltb-false longest_file (length s) p) l)
