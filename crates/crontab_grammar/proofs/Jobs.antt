-- A job line is read exactly as the grammar has it.
use Rattle.std.proofs.Common.{◌≡◌, ℕ, ◌+◌, ◌-◌, ◌<◌, ◌≤◌, Bool, true, false, ltb, ◌⊎◌, List, ◌++◌, length, drop, Ok, Err, Result, sym, refl, ap, ◌∙◌, subst, ap₂, inl, inr, add-zero, arith, length-append}
use Rattle.std.proofs.lemmas.List.{length-drop, take-append-drop, get_or-drop}
use Rattle.std.proofs.lemmas.Bool.{ltb-true, ltb-false, lt-ltb}
use Rattle.fields.specs.declared.element.Field.{Field}
use Rattle.fields.specs.declared.element.Field.TheVariants.{Minute, Hour, Day, Month, Weekday}
use Rattle.fields.specs.declared.reader.FieldSet.{FieldSet}
use Rattle.crontab.specs.declared.refusal.Refusal.{Refusal}
use Rattle.crontab.specs.declared.job.Command.{Command as Stretch}
use Rattle.crontab.specs.declared.job.Job.{Job}
use Rattle.crontab.specs.Words.{past}
use Rattle.crontab.specs.Line.{missing, words_before, field_at, command_at, job_reading}
use Rattle.crontab_grammar.specs.Grammar.{Blanks, Word, Command, JobOf}
use Rattle.crontab_grammar.specs.Laws.{ReadsJobs}
use Rattle.crontab_grammar.proofs.Words.{gap, gap_joined, gap_blanks, gap_stops, blanks_from}
use Rattle.crontab_grammar.proofs.Fields.{nth_begin, nth_word, after, after_none, next_had, next_after}
use Rattle.crontab_grammar.proofs.Fields.{FieldJudged, field_judged, field_read}
use Rattle.crontab.specs.Job.{field_of}

-- the command that begins after p bytes of the line l, which begins at place start of the file
abbrev pub stretch : ℕ → List ℕ → ℕ → Stretch
stretch start l p = record { at = start + p; length = length l - p }

-- what the line has, if such is read of its command
abbrev pub CommandJudged : ℕ → ℕ → List ℕ → Result Stretch Refusal → Type 0
CommandJudged n start l (Ok c) = (nth_begin l 5 < length l) × (c ≡ stretch start l (nth_begin l 5))
CommandJudged n start l (Err e) = (length l ≤ nth_begin l 5) × (e ≡ missing n l)

-- the cases of a command
pub command_judged : (n start : ℕ) (l : List ℕ) → CommandJudged n start l (command_at n start l)
command_judged n start l = go (ltb (nth_begin l 5) (length l)) refl
  where
    go : (t : Bool) → ltb (nth_begin l 5) (length l) ≡ t → CommandJudged n start l (command_at n start l)
    go true e = rw e (ltb-true (nth_begin l 5) (length l) e, refl)
    go false e = rw e (ltb-false (nth_begin l 5) (length l) e, refl)

-- a field is taken
abbrev pub Taken : ℕ → List ℕ → Field → Type 0
Taken n l f = (v : FieldSet) × (field_at f n l ≡ Ok v)

-- a job is read: its fields and its command are taken
pub record JobTaken (n start : ℕ) (l : List ℕ) (j : Job) : Type 0 where
  pub fields : (f : Field) → field_at f n l ≡ Ok (field_of f j)
  pub command : command_at n start l ≡ Ok j.command
  pub line : j.line ≡ n

-- the first field that is refused
pub record FieldRefused (n : ℕ) (l : List ℕ) (e : Refusal) : Type 0 where
  pub field : Field
  pub refuses : field_at field n l ≡ Err e
  pub before : (f : Field) → words_before f < words_before field → Taken n l f

-- the command is refused, after the fields are taken
pub record CommandRefused (n start : ℕ) (l : List ℕ) (e : Refusal) : Type 0 where
  pub refuses : command_at n start l ≡ Err e
  pub before : (f : Field) → Taken n l f

-- what the line has, if such is read of its job
abbrev pub JobJudged : ℕ → ℕ → List ℕ → Result Job Refusal → Type 0
JobJudged n start l (Ok j) = JobTaken n start l j
JobJudged n start l (Err e) = FieldRefused n l e ⊎ CommandRefused n start l e

-- the five fields, one by one
each : (P : Field → Type 0) → P Minute → P Hour → P Day → P Month → P Weekday → (f : Field) → P f
each P a b c d e Minute = a
each P a b c d e Hour = b
each P a b c d e Day = c
each P a b c d e Month = d
each P a b c d e Weekday = e

-- a field is taken if it stands before word k
abbrev TakenBefore : ℕ → List ℕ → ℕ → Field → Type 0
TakenBefore n l k f = words_before f < k → Taken n l f

-- the cases of a job: its fields are read one after the other, and then its command
pub job_judged : (n start : ℕ) (l : List ℕ) → JobJudged n start l (job_reading n start l)
job_judged n start l =
    go (field_at Minute n l) (field_at Hour n l) (field_at Day n l) (field_at Month n l) (field_at Weekday n l)
    (command_at n start l) refl refl refl refl refl refl
  where
    job : FieldSet → FieldSet → FieldSet → FieldSet → FieldSet → Stretch → Job
    job a b c d e m = record { line = n; minute = a; hour = b; day = c; month = d; weekday = e; command = m }

    go : (a b c d e : Result FieldSet Refusal) (m : Result Stretch Refusal) → field_at Minute n l ≡ a →
        field_at Hour n l ≡ b → field_at Day n l ≡ c → field_at Month n l ≡ d → field_at Weekday n l ≡ e →
        command_at n start l ≡ m → JobJudged n start l (job_reading n start l)
    go (Err x) b c d e m p q r s t u =
        rw p (inl (record { field = Minute; refuses = p; before = λ f h. absurd (omega arith) }))
    go (Ok a) (Err x) c d e m p q r s t u = rw (p, q) (inl (record {
      field = Hour;
      refuses = q;
      before =
          each (TakenBefore n l 1) (λ h. (a, p)) (λ h. absurd (omega arith)) (λ h. absurd (omega arith))
          (λ h. absurd (omega arith)) (λ h. absurd (omega arith));
    }))
    go (Ok a) (Ok b) (Err x) d e m p q r s t u = rw (p, q, r) (inl (record {
      field = Day;
      refuses = r;
      before =
          each (TakenBefore n l 2) (λ h. (a, p)) (λ h. (b, q)) (λ h. absurd (omega arith))
          (λ h. absurd (omega arith)) (λ h. absurd (omega arith));
    }))
    go (Ok a) (Ok b) (Ok c) (Err x) e m p q r s t u = rw (p, q, r, s) (inl (record {
      field = Month;
      refuses = s;
      before =
          each (TakenBefore n l 3) (λ h. (a, p)) (λ h. (b, q)) (λ h. (c, r)) (λ h. absurd (omega arith))
          (λ h. absurd (omega arith));
    }))
    go (Ok a) (Ok b) (Ok c) (Ok d) (Err x) m p q r s t u = rw (p, q, r, s, t) (inl (record {
      field = Weekday;
      refuses = t;
      before =
          each (TakenBefore n l 4) (λ h. (a, p)) (λ h. (b, q)) (λ h. (c, r)) (λ h. (d, s))
          (λ h. absurd (omega arith));
    }))
    go (Ok a) (Ok b) (Ok c) (Ok d) (Ok e) (Err x) p q r s t u =
        rw (p, q, r, s, t, u)
        (inr (record { refuses = u; before = each (Taken n l) (a, p) (b, q) (c, r) (d, s) (e, t) }))
    go (Ok a) (Ok b) (Ok c) (Ok d) (Ok e) (Ok m) p q r s t u =
        rw (p, q, r, s, t, u) (record {
          fields = each (λ f. field_at f n l ≡ Ok (field_of f (job a b c d e m))) p q r s t;
          command = u;
          line = refl;
        })

module _ (n start : ℕ) (l : List ℕ) (j : Job) where
  -- what is read of a field that is taken
  read_field : JobTaken n start l j → (f : Field) → FieldJudged f n l (Ok (field_of f j))
  read_field t f = subst (FieldJudged f n l) (t.fields f) (field_judged f n l)

  -- its word
  read_word : JobTaken n start l j → (f : Field) →
      let k = words_before f in Word (after l k) (blanks_from l (past l k)) (nth_word l k) (after l (k + 1))
  read_word t f = next_had l (words_before f) (read_field t f).0

  -- a job that is read is one of the grammar
  job_had : job_reading n start l ≡ Ok j → JobOf n start l j
  job_had e = go (subst (JobJudged n start l) e (job_judged n start l))
    where
      go : JobTaken n start l j → JobOf n start l j
      go t =
          let c = subst (CommandJudged n start l) t.command (command_judged n start l) in
          let r = after l 5 in
          let m = length-drop (past l 5) l in
          let o = length-drop (gap r) r in
          let g : gap r < length r = omega (arith, c.0) in
          record {
            minute = nth_word l 0;
            hour = nth_word l 1;
            day = nth_word l 2;
            month = nth_word l 3;
            weekday = nth_word l 4;
            command = drop (gap r) r;
            b₁ = blanks_from l (past l 0);
            b₂ = blanks_from l (past l 1);
            b₃ = blanks_from l (past l 2);
            b₄ = blanks_from l (past l 3);
            b₅ = blanks_from l (past l 4);
            b₆ = blanks_from l (past l 5);
            r₁ = after l 1;
            r₂ = after l 2;
            r₃ = after l 3;
            r₄ = after l 4;
            r₅ = after l 5;
            first =
                subst (λ (s : List ℕ). Word s (blanks_from l (past l 0)) (nth_word l 0) (after l 1)) (after_none l)
                (read_word t Minute);
            second = read_word t Hour;
            third = read_word t Day;
            fourth = read_word t Month;
            fifth = read_word t Weekday;
            rest = sym (take-append-drop (gap r) r);
            blanks = gap_blanks r;
            commanded = record {
              some = omega arith;
              solid = rw (get_or-drop (gap r) r 0 0, add-zero (gap r)) (gap_stops r g);
            };
            minute_says = (read_field t Minute).1;
            hour_says = (read_field t Hour).1;
            day_says = (read_field t Day).1;
            month_says = (read_field t Month).1;
            weekday_says = (read_field t Weekday).1;
            line = t.line;
            at = omega (arith, c.0, ap (λ (x : Stretch). x.at) c.1);
            length_is = omega (arith, c.0, ap (λ (x : Stretch). x.length) c.1);
          }

  -- the command of the grammar is read
  command_read : (b c : List ℕ) → after l 5 ≡ b ++ c → Blanks b → Command c →
      j.command.at + length c ≡ start + length l → j.command.length ≡ length c →
      command_at n start l ≡ Ok j.command
  command_read b c q h k at long =
      let g : gap (after l 5) ≡ length b = ap gap q ∙ gap_joined b c h (λ z. k.solid) in
      let m = ap length q in
      let o = length-append b c in
      let d = length-drop (past l 5) l in
      let s = k.some in
      let i : nth_begin l 5 < length l = omega arith in
      let x : start + nth_begin l 5 ≡ j.command.at = omega arith in
      let y : length l - nth_begin l 5 ≡ j.command.length = omega arith in
      rw (lt-ltb (nth_begin l 5) (length l) i)
      (ap₂ (λ (v w : ℕ). Ok (record { at = v; length = w })) x y)

  -- a job of the grammar is read
  job_read : JobOf n start l j → job_reading n start l ≡ Ok j
  job_read p =
      let a₀ = after_none l in
      let a₁ = next_after l 0 l p.b₁ p.minute p.r₁ a₀ p.first in
      let a₂ = next_after l 1 p.r₁ p.b₂ p.hour p.r₂ a₁ p.second in
      let a₃ = next_after l 2 p.r₂ p.b₃ p.day p.r₃ a₂ p.third in
      let a₄ = next_after l 3 p.r₃ p.b₄ p.month p.r₄ a₃ p.fourth in
      let a₅ = next_after l 4 p.r₄ p.b₅ p.weekday p.r₅ a₄ p.fifth in
      rw (
        field_read Minute n l l p.b₁ p.minute p.r₁ j.minute a₀ p.first p.minute_says,
        field_read Hour n l p.r₁ p.b₂ p.hour p.r₂ j.hour a₁ p.second p.hour_says,
        field_read Day n l p.r₂ p.b₃ p.day p.r₃ j.day a₂ p.third p.day_says,
        field_read Month n l p.r₃ p.b₄ p.month p.r₄ j.month a₃ p.fourth p.month_says,
        field_read Weekday n l p.r₄ p.b₅ p.weekday p.r₅ j.weekday a₄ p.fifth p.weekday_says,
        command_read p.b₆ p.command (a₅ ∙ p.rest) p.blanks p.commanded p.at p.length_is,
      ) (ap (λ (m : ℕ). Ok (record {
        line = m;
        minute = j.minute;
        hour = j.hour;
        day = j.day;
        month = j.month;
        weekday = j.weekday;
        command = j.command;
      })) (sym p.line))

pub reads_jobs : ReadsJobs
reads_jobs n start l j = (job_had n start l j, job_read n start l j)
