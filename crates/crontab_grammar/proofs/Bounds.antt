-- What is taken lies within its bounds.
use Rattle.std.proofs.Common.{◌≡◌, ℕ, zero, suc, ◌+◌, ◌<◌, ◌≤◌, Bool, true, false, cond, eqb, ◌⊎◌, List, [], ◌∷◌, map, length, get_or, Some, None, Ok, sym, ◌∙◌, subst, inl, inr, arith}
use Rattle.std.proofs.lemmas.List.FromFn.{get_or-map-range_with_len, length-map-range_with_len}
use Rattle.std.proofs.lemmas.List.{get_or_past}
use Rattle.std.proofs.lemmas.Bool.{false≢true, cases_lt}
use Rattle.std.specs.List.{slice_get, range_with_len}
use Rattle.fields.specs.Bytes.{longer}
use Rattle.fields.specs.Element.{low}
use Rattle.fields.specs.Values.{field_bad, field_set, holds}
use Rattle.fields.specs.declared.element.Field.{Field}
use Rattle.fields.specs.declared.element.Field.TheVariants.{Minute, Hour, Day, Month, Weekday}
use Rattle.fields.specs.declared.reader.FieldSet.{FieldSet}
use Rattle.field_grammar.specs.Grammar.{top}
use Rattle.field_grammar.proofs.Values.{holds_in_range, holds_some}
use Rattle.crontab.specs.declared.job.Job.{Job}
use Rattle.crontab.specs.File.{lines}
use Rattle.crontab_grammar.specs.Grammar.{Says, JobOf, JobsOf, none, idle, job}
use Rattle.crontab_grammar.specs.Laws.{HoldsValue, TakesInRange, TakesCommands}
use Rattle.crontab_grammar.proofs.Orders.{file_lines, takes_jobs}
use Rattle.crontab_grammar.proofs.Readings as reading
use Rattle.crontab_grammar.proofs.Readings.{LineRead, LinesTaken, FileRead, file_read}
use Rattle.crontab.specs.Limits.{most_jobs}
use Rattle.crontab.specs.Job.{field_of}

-- how many bytes lines have, each with the byte that ends it
abbrev spread : List (List ℕ) → ℕ
spread [] = 0
spread (l ∷ ls) = length l + 1 + spread ls

-- if they have m bytes, but for the last line's end, then with one more byte in front they have m + 1
spread_longer : (x m : ℕ) (ls : List (List ℕ)) → spread ls ≤ m + 1 → spread (longer x ls) ≤ suc m + 1
spread_longer x m [] h = omega arith
spread_longer x m (l ∷ ls) h = omega arith

-- the last line may go without the byte that ends it
spread_lines : (s : List ℕ) → spread (lines s) ≤ length s + 1
spread_lines [] = omega arith
spread_lines (x ∷ s) = go (eqb x 10) (spread_lines s)
  where
    go : (t : Bool) → spread (lines s) ≤ length s + 1 →
        spread (cond t ([] ∷ lines s) (longer x (lines s))) ≤ suc (length s) + 1
    go true h = omega arith
    go false h = spread_longer x (length s) (lines s) h

-- a job of lines that begin at place start of the file, and the line that holds it
record JobIn (start : ℕ) (ls : List (List ℕ)) (j : Job) : Type 0 where
  number : ℕ
  begins : ℕ
  text : List ℕ
  holds_it : JobOf number begins text j
  within : begins + (length text + 1) ≤ start + spread ls

-- a job of later lines
onward : (start : ℕ) (l : List ℕ) (ls : List (List ℕ)) (j : Job) → JobIn (start + (length l + 1)) ls j →
    JobIn start (l ∷ ls) j
onward start l ls j p = record {
  number = p.number;
  begins = p.begins;
  text = p.text;
  holds_it = p.holds_it;
  within = omega (arith, p.within);
}

-- each job of lines is held by one of them
job_in : {n start : ℕ} {ls : List (List ℕ)} {js : List Job} → JobsOf n start ls js → (k : ℕ) (j : Job) →
    slice_get js k ≡ Some j → JobIn start ls j
job_in none k j e = absurd cc
job_in (idle {n} {start} {l} {ls} h t) k j e = onward start l ls j (job_in t k j e)
job_in (job {n} {start} {l} {ls} {j = i} h p t) zero j e =
    let q : i ≡ j = cc in
    subst (JobIn start (l ∷ ls)) q
    (record { number = n; begins = start; text = l; holds_it = p; within = omega arith })
job_in (job {n} {start} {l} {ls} h p t) (suc k) j e = onward start l ls j (job_in t k j e)

-- what a job's field says
job_says : {n start : ℕ} {l : List ℕ} {j : Job} → JobOf n start l j → (f : Field) →
    (w : List ℕ) × Says f w (field_of f j)
job_says p Minute = (p.minute, p.minute_says)
job_says p Hour = (p.hour, p.hour_says)
job_says p Day = (p.day, p.day_says)
job_says p Month = (p.month, p.month_says)
job_says p Weekday = (p.weekday, p.weekday_says)

-- a test holds of a number if its list of answers, which ends before n, says so, and the other way round
module _ (g : ℕ → Bool) (n x : ℕ) where
  answer_had : get_or (map g (range_with_len 0 n)) x false ≡ true → g x ≡ true
  answer_had h = go (cases_lt x n)
    where
      go : (x < n) ⊎ (n ≤ x) → g x ≡ true
      go (inl l) = sym (get_or-map-range_with_len g 0 n x x false l (omega arith)) ∙ h
      go (inr l) =
          let m : length (map g (range_with_len 0 n)) ≤ x = omega (arith, length-map-range_with_len g 0 n) in
          absurd (false≢true (sym (get_or_past (map g (range_with_len 0 n)) x false m) ∙ h))

  answer_read : x < n → g x ≡ true → get_or (map g (range_with_len 0 n)) x false ≡ true
  answer_read l h = get_or-map-range_with_len g 0 n x x false l (omega arith) ∙ h

-- the greatest values of fields fit the set
top_fits : (f : Field) → top f < 64
top_fits Minute = omega arith
top_fits Hour = omega arith
top_fits Day = omega arith
top_fits Month = omega arith
top_fits Weekday = omega arith

-- a field's values lie in its range, and there is one
abbrev InRange : Field → FieldSet → Type 0
InRange f v = ((x : ℕ) → HoldsValue v x → (low f ≤ x) × (x ≤ top f)) × ((x : ℕ) × HoldsValue v x)

-- so do those of a field that is taken
set_in_range : (f : Field) (w : List ℕ) → field_bad f w ≡ None → InRange f (field_set f w)
set_in_range f w q = (inside, some)
  where
    inside : (x : ℕ) → HoldsValue (field_set f w) x → (low f ≤ x) × (x ≤ top f)
    inside x h = holds_in_range f w q x (answer_had (holds f w) 64 x h)

    some : (x : ℕ) × HoldsValue (field_set f w) x
    some =
        let p = holds_some f w q in
        let r = holds_in_range f w q p.0 p.1 in
        (p.0, answer_read (holds f w) 64 p.0 (omega (arith, r.1, top_fits f)) p.1)

pub takes_in_range : TakesInRange
takes_in_range s js e k j h f =
    let p = job_says (job_in (takes_jobs s js e) k j h).holds_it f in
    subst (InRange f) (sym p.1.set) (set_in_range f p.0 p.1.faultless)

-- a job that is taken is not one too many
taken_few : {n start k : ℕ} {l : List ℕ} {j : Job} → LineRead n start k l (Ok (Some j)) → k < most_jobs
taken_few (reading.taken c i m q) = m

-- nor are those of several lines
jobs_few : {n start k : ℕ} {ls : List (List ℕ)} {js : List Job} → LinesTaken n start k ls js → k ≤ most_jobs →
    k + length js ≤ most_jobs
jobs_few reading.none h = omega arith
jobs_few (reading.pass p t) h = jobs_few t h
jobs_few (reading.job p t) h =
    let m = taken_few p in
    let r = jobs_few t (omega arith) in
    omega arith

pub takes_commands : TakesCommands
takes_commands s js e = (few, commands)
  where
    few : length js ≤ most_jobs
    few = omega (arith, jobs_few (file_lines (subst (FileRead s) e (file_read s))) (omega arith))

    commands : (k : ℕ) (j : Job) → slice_get js k ≡ Some j →
        (0 < j.command.length) × (j.command.at + j.command.length ≤ length s)
    commands k j h =
        let p = job_in (takes_jobs s js e) k j h in
        let o = p.holds_it in (
          omega (arith, o.commanded.some, o.length_is),
          omega (arith, o.at, o.length_is, p.within, spread_lines s),
        )
