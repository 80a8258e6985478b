-- The lines of a file, one after the other.
use Rattle.std.proofs.Common.{◌≡◌, ℕ, suc, ◌<◌, Bool, true, false, cond, eqb, List, [], ◌∷◌, ◌++◌, length, take, drop, Ok, Err, Result, refl, ap, arith}
use Rattle.scan.specs.Scan.{before_first, is}
use Rattle.scan.specs.declared.Kind.TheVariants.{Byte}
use Rattle.fields.specs.Bytes.{longer}
use Rattle.crontab.specs.declared.refusal.Refusal.{Refusal}
use Rattle.crontab.specs.declared.job.Job.{Job}
use Rattle.crontab.specs.File.{lines}

-- jobs before those of the lines to come
abbrev pub prepended : List Job → Result (List Job) Refusal → Result (List Job) Refusal
prepended js (Ok ks) = Ok (js ++ ks)
prepended js (Err e) = Err e

-- the length of the first line
abbrev pub line_length : List ℕ → ℕ
line_length s = before_first (is (Byte 10)) s

-- the first line, and the lines after it
pub lines_step : (s : List ℕ) → 0 < length s → lines s ≡ take (line_length s) s ∷ lines (drop (suc (line_length s)) s)
lines_step [] h = absurd (omega arith)
lines_step (x ∷ []) h = go (eqb x 10)
  where
    go : (t : Bool) → cond t ([] ∷ []) (longer x []) ≡ take (cond t 0 1) (x ∷ []) ∷ lines (drop (suc (cond t 0 1)) (x ∷ []))
    go true = refl
    go false = refl
lines_step (x ∷ y ∷ ys) h = go (eqb x 10) (lines_step (y ∷ ys) (omega arith))
  where
    n : ℕ
    n = line_length (y ∷ ys)

    go : (t : Bool) → lines (y ∷ ys) ≡ take n (y ∷ ys) ∷ lines (drop (suc n) (y ∷ ys)) →
        cond t ([] ∷ lines (y ∷ ys)) (longer x (lines (y ∷ ys)))
        ≡ take (cond t 0 (suc n)) (x ∷ y ∷ ys) ∷ lines (drop (suc (cond t 0 (suc n))) (x ∷ y ∷ ys))
    go true ih = refl
    go false ih = ap (longer x) ih
