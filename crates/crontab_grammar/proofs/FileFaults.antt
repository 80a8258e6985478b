-- A file is refused for its first fault.
use Rattle.std.proofs.Common.{◌≡◌, ℕ, zero, suc, ◌+◌, ◌<◌, ◌≤◌, Bool, true, false, cond, ◌⊎◌, List, [], ◌∷◌, length, get_or, take, Ok, Err, Option, Result, sym, refl, subst, inl, inr, arith}
use Rattle.crontab.specs.declared.refusal.Refusal.{Refusal}
use Rattle.crontab.specs.declared.refusal.Refusal.TheVariants.{FileTooLong}
use Rattle.crontab.specs.declared.job.Job.{Job}
use Rattle.crontab.specs.Words.{idle}
use Rattle.crontab.specs.File.{lines, counted}
use Rattle.crontab_grammar.specs.Faults.{FaultOf, jobs_in, FaultIn, whole, in_line, First}
use Rattle.crontab_grammar.specs.Laws.{RefusesFirst, TakesFaultless}
use Rattle.crontab_grammar.proofs.LineFaults.{fault_line, line_judged}
use Rattle.crontab_grammar.proofs.Readings.{LineRead, passed, taken, LinesTaken, none, pass, job}
use Rattle.crontab_grammar.proofs.Readings.{LinesRefused, here, later}
use Rattle.crontab_grammar.proofs.Readings.{FileRead, file_long, file_taken, file_refused, file_read}
use Rattle.crontab.specs.Limits.{longest_file}

-- what is at fault in lines from line n on, before which k job lines stand
record FaultFrom (n k : ℕ) (ls : List (List ℕ)) (e : Refusal) : Type 0 where
  which : ℕ
  listed : which < length ls
  number : ℕ
  before : ℕ
  number_is : number ≡ n + which
  before_is : before ≡ k + jobs_in (take which ls)
  fault : FaultOf number before (get_or ls which []) e

-- how many job lines stand before the next line
abbrev next_count : List ℕ → ℕ → ℕ
next_count l k = cond (idle l) k (suc k)

-- as many as of the lines that are taken
counted_is : {n start k : ℕ} {l : List ℕ} {o : Option Job} → LineRead n start k l (Ok o) → next_count l k ≡ counted o k
counted_is (passed c i) = rw i refl
counted_is (taken c i h q) = rw i (omega arith)

-- those of a line and of m more
next_count_more : (t : Bool) (k m : ℕ) → cond t k (suc k) + m ≡ k + cond t m (suc m)
next_count_more true k m = refl
next_count_more false k m = omega arith

-- a fault of the first line
fault_here : {n k : ℕ} {l : List ℕ} {ls : List (List ℕ)} {e : Refusal} → FaultOf n k l e → FaultFrom n k (l ∷ ls) e
fault_here {n} {k} x = record {
  which = 0;
  listed = omega arith;
  number = n;
  before = k;
  number_is = omega arith;
  before_is = omega arith;
  fault = x;
}

module _ (n k : ℕ) (l : List ℕ) (ls : List (List ℕ)) (e : Refusal) where
  -- a fault of a later line
  fault_later : FaultFrom (n + 1) (next_count l k) ls e → FaultFrom n k (l ∷ ls) e
  fault_later x = record {
    which = suc x.which;
    listed = omega (arith, x.listed);
    number = x.number;
    before = x.before;
    number_is = omega (arith, x.number_is);
    before_is = omega (arith, x.before_is, next_count_more (idle l) k (jobs_in (take x.which ls)));
    fault = x.fault;
  }

  -- a fault is of the first line or of a later one
  fault_split : FaultFrom n k (l ∷ ls) e → FaultOf n k l e ⊎ FaultFrom (n + 1) (next_count l k) ls e
  fault_split x = go x.which x.number x.before x.listed x.number_is x.before_is x.fault
    where
      go : (i m b : ℕ) → i < length (l ∷ ls) → m ≡ n + i → b ≡ k + jobs_in (take i (l ∷ ls)) →
          FaultOf m b (get_or (l ∷ ls) i []) e → FaultOf n k l e ⊎ FaultFrom (n + 1) (next_count l k) ls e
      go zero m b h u v y =
          let p : m ≡ n = omega arith in
          let q : b ≡ k = omega arith in
          inl (subst (λ (z : ℕ). FaultOf n z l e) q (subst (λ (z : ℕ). FaultOf z b l e) p y))
      go (suc i) m b h u v y = inr (record {
        which = i;
        listed = omega arith;
        number = m;
        before = b;
        number_is = omega arith;
        before_is = omega (arith, next_count_more (idle l) k (jobs_in (take i ls)));
        fault = y;
      })

-- the first line is taken: what is at fault is at fault in a later one
fault_onward : {n start k : ℕ} {l : List ℕ} {ls : List (List ℕ)} {o : Option Job} {d : Refusal} →
    LineRead n start k l (Ok o) → FaultFrom n k (l ∷ ls) d → FaultFrom (n + 1) (counted o k) ls d
fault_onward {n} {start} {k} {l} {ls} {o} {d} p x = go (fault_split n k l ls d x)
  where
    go : FaultOf n k l d ⊎ FaultFrom (n + 1) (next_count l k) ls d → FaultFrom (n + 1) (counted o k) ls d
    go (inl y) = absurd (line_judged p d y)
    go (inr y) = subst (λ (m : ℕ). FaultFrom (n + 1) m ls d) (counted_is p) y

-- lines that are taken have no fault
lines_faultless : {n start k : ℕ} {ls : List (List ℕ)} {js : List Job} → LinesTaken n start k ls js →
    (d : Refusal) → FaultFrom n k ls d → ⊥
lines_faultless none d x = omega (arith, x.listed)
lines_faultless (pass p t) d x = lines_faultless t d (fault_onward p x)
lines_faultless (job p t) d x = lines_faultless t d (fault_onward p x)

-- lines that are refused have the fault that is named
refused_fault : {n start k : ℕ} {ls : List (List ℕ)} {e : Refusal} → LinesRefused n start k ls e → FaultFrom n k ls e
refused_fault (here p) = fault_here (line_judged p).0
refused_fault {n} {start} {k} {e = e} (later {l = l} {ls = ls} p r) =
    fault_later n k l ls e
    (subst (λ (m : ℕ). FaultFrom (n + 1) m ls e) (sym (counted_is p)) (refused_fault r))

-- and none comes before it
refused_first : {n start k : ℕ} {ls : List (List ℕ)} {e : Refusal} → LinesRefused n start k ls e →
    (d : Refusal) → FaultFrom n k ls d → First e d
refused_first {n} {start} {k} {e = e} (here {l = l} {ls = ls} p) d x = go (fault_split n k l ls d x)
  where
    go : FaultOf n k l d ⊎ FaultFrom (n + 1) (next_count l k) ls d → First e d
    go (inl y) = (line_judged p).1 d y
    go (inr y) = inl (omega (arith, fault_line (line_judged p).0, fault_line y.fault, y.number_is))
refused_first (later p r) d x = refused_first r d (fault_onward p x)

-- a fault of a line of the file
lines_fault : {s : List ℕ} {e : Refusal} → FaultFrom 1 0 (lines s) e → FaultIn s e
lines_fault {s} {e} x =
    let m : x.number ≡ x.which + 1 = omega (arith, x.number_is) in
    let b : x.before ≡ jobs_in (take x.which (lines s)) = omega (arith, x.before_is) in
    in_line x.which x.listed
    (subst (λ (z : ℕ). FaultOf (x.which + 1) z (get_or (lines s) x.which []) e) b
    (subst (λ (z : ℕ). FaultOf z x.before (get_or (lines s) x.which []) e) m x.fault))

-- a fault of a file that is not too long is one of its lines
fault_lines : {s : List ℕ} {e : Refusal} → length s ≤ longest_file → FaultIn s e → FaultFrom 1 0 (lines s) e
fault_lines h (whole l q) = absurd (omega arith)
fault_lines {s} h (in_line i l x) = record {
  which = i;
  listed = l;
  number = i + 1;
  before = jobs_in (take i (lines s));
  number_is = omega arith;
  before_is = omega arith;
  fault = x;
}

-- a file that is too long is refused for that first
long_first : {s : List ℕ} (d : Refusal) → FaultIn s d → First FileTooLong d
long_first d (whole l q) =
    subst (First FileTooLong) (sym q) (inr (refl, inr (refl, inr (refl, omega arith))))
long_first d (in_line i l x) = inl (omega (arith, fault_line x))

-- a file's faults, if such is read of it
abbrev FileJudged : List ℕ → Result (List Job) Refusal → Type 0
FileJudged s (Ok js) = (d : Refusal) → FaultIn s d → ⊥
FileJudged s (Err e) = FaultIn s e × ((d : Refusal) → FaultIn s d → First e d)

-- a file is refused for its first fault, and has none if it is taken
file_judged : {s : List ℕ} {r : Result (List Job) Refusal} → FileRead s r → FileJudged s r
file_judged (file_long h) = (whole h refl, long_first)
file_judged (file_taken h t) = λ d x. lines_faultless t d (fault_lines h x)
file_judged (file_refused h t) = (lines_fault (refused_fault t), λ d x. refused_first t d (fault_lines h x))

pub refuses_first : RefusesFirst
refuses_first s e q = file_judged (subst (FileRead s) q (file_read s))

pub takes_faultless : TakesFaultless
takes_faultless s js q = file_judged (subst (FileRead s) q (file_read s))
