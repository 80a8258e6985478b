-- When a job line is due at a minute.
use Rattle.std.specs.Prelude.{◌≡◌, ℕ, zero, suc, ◌-◌, ◌<◌, ◌≤◌, Bool, true, false, cond, ◌↔◌, List, ℤ, Some, None, Ok, Err, Option, Result}
use Rattle.std.specs.List.{slice_get}
use Rattle.time.specs.Limits.{served}
use Rattle.time.specs.declared.position.Position.{Position}
use Rattle.zone.specs.Answers.{window}
use Rattle.zone.specs.Limits.{look_back}
use Rattle.zone.specs.Offsets.{label, reached}
use Rattle.zone.specs.declared.window.Window.{Window}
use Rattle.zone.specs.declared.refusal.Refusal.{Refusal}
use Rattle.zone.specs.declared.refusal.Refusal.TheVariants.{OutOfRange}
use Rattle.crontab.specs.declared.job.Job.{Job}
use Rattle.crontab.specs.Job.{wild}
use Rattle.schedule.specs.Match.{matches}

-- minute u is the first to reach the label m: its own label is m or later, those of the 180 minutes before are all below m
pub record Fresh (off : ℕ → ℤ) (u m : ℕ) : Type 0 where
  pub now_reached : m ≤ label off u
  pub not_before : (k : ℕ) → k < look_back → label off (u - suc k) < m

-- a wild line is due when it matches the label of the minute;
-- a fixed line when it matches some label that the minute is the first to reach: several make it due once
abbrev pub DueBy : Bool → (ℕ → Bool) → (ℕ → ℤ) → ℕ → Type 0
DueBy true p off u = p (label off u) ≡ true
DueBy false p off u = (m : ℕ) × (p m ≡ true) × Fresh off u m

abbrev pub Due : (ℕ → ℤ) → Job → ℕ → Type 0
Due off j u = DueBy (wild j) (matches j) off u

-- The same by computation.

-- one of the n numbers up to m passes a test
abbrev pub some_of : ℕ → (ℕ → Bool) → ℕ → Bool
some_of zero p m = false
some_of (suc n) p m = elim (p m) [ true ↦ true | false ↦ some_of n p (m - 1) ]

-- by the greatest label that was shown lately, and the label now
abbrev pub due_in : Bool → (ℕ → Bool) → ℕ → ℕ → Bool
due_in true p above to = p to
due_in false p above to = some_of (to - above) p to

abbrev pub due : (ℕ → ℤ) → Job → ℕ → Bool
due off j u = due_in (wild j) (matches j) (reached off u) (label off u)

-- that both say the same
abbrev pub DueMeans : Type 0
DueMeans = (off : ℕ → ℤ) (j : Job) (u : ℕ) → (due off j u ≡ true) ↔ Due off j u

-- the same, of a line that the file may lack: such lines are never due
abbrev pub line_due : Window → Option Job → Bool
line_due w None = false
line_due w (Some j) = due_in (wild j) (matches j) w.above.0 w.to.0

-- r is the first line from a on and below b that is due, or none of them is
abbrev pub FirstDue : Window → List Job → ℕ → ℕ → Option ℕ → Type 0
FirstDue w js a b None = (k : ℕ) → a ≤ k → k < b → line_due w (slice_get js k) ≡ false
FirstDue w js a b (Some r) =
    (a ≤ r)
    × (r < b)
    × (line_due w (slice_get js r) ≡ true)
    × ((k : ℕ) → a ≤ k → k < r → line_due w (slice_get js k) ≡ false)

-- is line k due at minute u?
abbrev pub due_line : (ℕ → ℤ) → List Job → ℕ → ℕ → Bool
due_line off js u k = line_due (window off u) (slice_get js k)

abbrev pub due_answer : (ℕ → ℤ) → List Job → Position → Result Bool Refusal
due_answer off js p =
    cond (served p.minute.0) (Ok (due_line off js p.minute.0 p.line)) (Err (OutOfRange p.minute))
