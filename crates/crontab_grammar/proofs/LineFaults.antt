-- A line is refused for its first fault.
use Rattle.std.proofs.Common.{◌≡◌, ℕ, zero, suc, ◌+◌, ◌-◌, ◌<◌, ◌≤◌, true, ◌⊎◌, List, ◌∷◌, length, get_or, take, Some, Ok, Err, Option, Result, sym, refl, ap, ◌∙◌, subst, inl, inr, arith, length-append}
use Rattle.std.proofs.lemmas.Bool.{cases_lt, cases_order}
use Rattle.scan.specs.Scan.{is, forbidden?}
use Rattle.scan.specs.declared.Kind.TheVariants.{Forbidden}
use Rattle.fields.specs.declared.element.Field.{Field}
use Rattle.fields.specs.declared.element.Field.TheVariants.{Minute, Hour, Day, Month, Weekday}
use Rattle.fields.specs.declared.reader.Fault.{Fault}
use Rattle.fields.specs.declared.reader.BadElement.{BadElement}
use Rattle.fields.specs.Values.{field_bad, fault_number}
use Rattle.field_grammar.specs.Grammar.{Parted, last, more, WrongAt}
use Rattle.field_grammar.specs.Grammar.{place as element_place}
use Rattle.field_grammar.proofs.Faults as elements
use Rattle.crontab.specs.declared.refusal.Refusal.{Refusal}
use Rattle.crontab.specs.declared.refusal.Refusal.TheVariants.{LineTooLong, ForbiddenByte, TooManyJobs}
use Rattle.crontab.specs.declared.job.Job.{Job}
use Rattle.crontab.specs.Words.{forbidden_in}
use Rattle.crontab.specs.Line as line
use Rattle.crontab.specs.Line.{place, words_before, job_reading}
use Rattle.crontab_grammar.specs.Grammar.{HoldsJob, WordAt}
use Rattle.crontab_grammar.specs.Faults.{FaultOf, too_long, forbidden, too_many, element, missing, First, line_of}
use Rattle.crontab_grammar.proofs.Firsts.{first_passes, first_least}
use Rattle.crontab_grammar.proofs.Idle.{reads_idle, idle_none}
use Rattle.crontab_grammar.proofs.Fields.{nth_begin, nth_word, refused, BadField, NoField, FieldJudged, field_judged}
use Rattle.crontab_grammar.proofs.Jobs.{Taken, FieldRefused, CommandRefused, JobJudged, job_judged}
use Rattle.crontab_grammar.proofs.Jobs.{CommandJudged, command_judged}
use Rattle.crontab_grammar.proofs.Places.{begin_rises, Stands, word_stands, word_listed, words_apart}
use Rattle.crontab_grammar.proofs.Readings as reading
use Rattle.crontab_grammar.proofs.Readings.{Clean, LineRead}
use Rattle.crontab.specs.Limits.{longest_line, most_jobs}
use Rattle.crontab.specs.Job.{field_of}

-- a line's faults are of the line
pub fault_line : {n k : ℕ} {l : List ℕ} {e : Refusal} → FaultOf n k l e → line_of e ≡ n
fault_line (too_long h) = refl
fault_line (forbidden i h b) = refl
fault_line (too_many h m) = refl
fault_line (element f p at w d h a b) = refl
fault_line (missing h a) = refl

-- an element begins within its field, or at its end
parted_place : {b : ℕ} {s : List ℕ} {es : List (List ℕ)} → Parted b s es → (i : ℕ) → i < length es →
    element_place (take i es) ≤ length s
parted_place (last w) zero h = omega arith
parted_place (last w) (suc i) h = absurd (omega arith)
parted_place (more w p) zero h = omega arith
parted_place {b} (more {e} {s} w p) (suc i) h =
    let r = parted_place p i (omega arith) in omega (arith, length-append e (b ∷ s))

-- and so does a wrong one
wrong_place : {f : Field} {w : List ℕ} {at : ℕ} {d : Fault} → WrongAt f w at d → at ≤ length w
wrong_place a = let r = parted_place a.parted a.which a.listed in omega (arith, a.begins)

-- a clean line is not too long, and has no forbidden byte
module _ (l : List ℕ) (c : Clean l) where
  clean_short : longest_line < length l → ⊥
  clean_short h = omega (arith, c.short)

  clean_allowed : (i : ℕ) → i < length l → forbidden? (get_or l i 0) ≡ true → ⊥
  clean_allowed i h b = omega (arith, c.allowed, first_least (is Forbidden) l i b)

-- the field of a word
field_after : ℕ → Field
field_after zero = Minute
field_after (suc zero) = Hour
field_after (suc (suc zero)) = Day
field_after (suc (suc (suc zero))) = Month
field_after (suc (suc (suc (suc k)))) = Weekday

-- each field is that of its word
field_found : (f : Field) → field_after (words_before f) ≡ f
unfolding field_after
field_found Minute = refl
field_found Hour = refl
field_found Day = refl
field_found Month = refl
field_found Weekday = refl

-- a field is known by how many words stand before it
field_same : (f g : Field) → words_before f ≡ words_before g → f ≡ g
field_same f g e = sym (field_found f) ∙ ap field_after e ∙ field_found g

-- five words stand before the command, and no more before a field
few_before : (f : Field) → words_before f ≤ 5
few_before Minute = omega arith
few_before Hour = omega arith
few_before Day = omega arith
few_before Month = omega arith
few_before Weekday = omega arith

-- no element of a field that is taken is wrong
taken_right : (n : ℕ) (l : List ℕ) (f : Field) → Taken n l f → (p at : ℕ) (w : List ℕ) (d : Fault) →
    WordAt l (words_before f) p w → WrongAt f w at d → ⊥
taken_right n l f t p at w d a b =
    let j = subst (FieldJudged f n l) t.1 (field_judged f n l) in
    let s = word_stands a in
    elements.takes_faultless f (nth_word l (words_before f)) j.1.faultless at d
    (subst (λ (v : List ℕ). WrongAt f v at d) (sym s.is_word) b)

-- the refusal of an element of a field of line n
abbrev named : ℕ → List ℕ → Field → BadElement → Refusal
named n l f b = refused f n (nth_begin l (words_before f)) b

-- the line's faults, if such is read of it
abbrev pub LineJudged : ℕ → ℕ → List ℕ → Result (Option Job) Refusal → Type 0
LineJudged n k l (Ok o) = (d : Refusal) → FaultOf n k l d → ⊥
LineJudged n k l (Err e) = FaultOf n k l e × ((d : Refusal) → FaultOf n k l d → First e d)

module _ (n k : ℕ) (l : List ℕ) (c : Clean l) (h : HoldsJob l) (few : k < most_jobs) where
  -- an element of a field is refused, and nothing before it
  module _ (f : Field) (i : nth_begin l (words_before f) < length l) (b : BadElement)
      (r : field_bad f (nth_word l (words_before f)) ≡ Some b)
      (before : (g : Field) → words_before g < words_before f → Taken n l g) where
    -- that element is the field's leftmost wrong one
    leftmost :
        WrongAt f (nth_word l (words_before f)) b.at b.fault
        × ((at : ℕ) (d : Fault) → WrongAt f (nth_word l (words_before f)) at d →
        (b.at < at) ⊎ ((b.at ≡ at) × (fault_number b.fault ≤ fault_number d)))
    leftmost = elements.refuses_leftmost f (nth_word l (words_before f)) b r

    -- an element of the same field comes after it
    same_field : (p at : ℕ) (w : List ℕ) (d : Fault) → Stands l (words_before f) p w → WrongAt f w at d →
        First (named n l f b) (refused f n p (record { fault = d; at = at }))
    same_field p at w d s a =
        go (leftmost.1 at d (subst (λ (v : List ℕ). WrongAt f v at d) (sym s.is_word) a))
      where
        go : (b.at < at) ⊎ ((b.at ≡ at) × (fault_number b.fault ≤ fault_number d)) →
            First (named n l f b) (refused f n p (record { fault = d; at = at }))
        go (inl m) = inr (refl, inr (refl, inl (omega (arith, s.begins))))
        go (inr m) = inr (refl, inr (refl, inr (omega (arith, s.begins, m.0), m.1)))

    -- every fault of the line comes after it
    element_first : (d : Refusal) → FaultOf n k l d → First (named n l f b) d
    element_first d (too_long m) = absurd (clean_short l c m)
    element_first d (forbidden j m a) = absurd (clean_allowed l c j m a)
    element_first d (too_many m a) = absurd (omega arith)
    element_first d (element g p at w e m a x) = go (cases_order v u)
      where
        s : Stands l (words_before g) p w
        s = word_stands a

        v : ℕ
        v = words_before f

        u : ℕ
        u = words_before g

        go : (v ≡ u) ⊎ ((v < u) ⊎ (u < v)) → First (named n l f b) (refused g n p (record { fault = e; at = at }))
        go (inl q) =
            let y = sym (field_same f g q) in
            same_field p at w e (subst (λ (o : Field). Stands l (words_before o) p w) y s)
            (subst (λ (o : Field). WrongAt o w at e) y x)
        go (inr (inl q)) =
            let y = words_apart l v u q (omega (arith, s.begins, s.inside)) in
            let z = wrong_place leftmost.0 in
            inr (refl, inr (refl, inl (omega (arith, s.begins))))
        go (inr (inr q)) = absurd (taken_right n l g (before g q) p at w e a x)
    element_first d (missing m a) = inr (refl, inl (omega arith))

    -- so the line's first fault is named
    element_judged : LineJudged n k l (Err (named n l f b))
    element_judged = (
      element f (nth_begin l (words_before f)) b.at (nth_word l (words_before f)) b.fault h
          (word_listed l (words_before f) i) leftmost.0,
      element_first,
    )

  -- the line ends before word m, a field or the command, and nothing before that is refused
  module _ (m : ℕ) (low : m ≤ 5) (i : length l ≤ nth_begin l m)
      (before : (g : Field) → words_before g < m → Taken n l g) where
    -- no word stands there or further right
    none_there : (j p : ℕ) (w : List ℕ) → m ≤ j → WordAt l j p w → ⊥
    none_there j p w q a =
        let s = word_stands a in
        let r = begin_rises l (j - m) m j (omega arith) in
        omega arith

    -- every fault of the line comes after that one
    missing_first : (d : Refusal) → FaultOf n k l d → First (line.missing n l) d
    missing_first d (too_long q) = absurd (clean_short l c q)
    missing_first d (forbidden j q a) = absurd (clean_allowed l c j q a)
    missing_first d (too_many q a) = absurd (omega arith)
    missing_first d (element g p at w e q a x) = go (cases_lt (words_before g) m)
      where
        go : (words_before g < m) ⊎ (m ≤ words_before g) →
            First (line.missing n l) (refused g n p (record { fault = e; at = at }))
        go (inl z) = absurd (taken_right n l g (before g z) p at w e a x)
        go (inr z) = absurd (none_there (words_before g) p w z a)
    missing_first d (missing q a) = inr (refl, inr (refl, inr (refl, omega arith)))

    -- so the line's first fault is named
    missing_judged : LineJudged n k l (Err (line.missing n l))
    missing_judged = (missing h (λ p w a. none_there 5 p w low a), missing_first)

  -- a job line that is refused is refused for its first fault
  job_refused : (start : ℕ) (e : Refusal) → job_reading n start l ≡ Err e → LineJudged n k l (Err e)
  job_refused start e q = go (subst (JobJudged n start l) q (job_judged n start l))
    where
      field : (f : Field) → ((g : Field) → words_before g < words_before f → Taken n l g) →
          BadField f n l e ⊎ NoField f n l e → LineJudged n k l (Err e)
      field f t (inl b) =
          subst (λ (x : Refusal). LineJudged n k l (Err x)) (sym b.named)
          (element_judged f b.inside b.bad b.refuses t)
      field f t (inr b) =
          subst (λ (x : Refusal). LineJudged n k l (Err x)) (sym b.named)
          (missing_judged (words_before f) (few_before f) b.ended t)

      go : FieldRefused n l e ⊎ CommandRefused n start l e → LineJudged n k l (Err e)
      go (inl r) =
          let f = r.field in
          field f r.before (subst (FieldJudged f n l) r.refuses (field_judged f n l))
      go (inr r) =
          let j = subst (CommandJudged n start l) r.refuses (command_judged n start l) in
          subst (λ (x : Refusal). LineJudged n k l (Err x)) (sym j.1)
          (missing_judged 5 (omega arith) j.0 (λ g z. r.before g))

  -- a job line that is taken has no fault
  job_faultless : (start : ℕ) (j : Job) → job_reading n start l ≡ Ok j → (d : Refusal) → FaultOf n k l d → ⊥
  job_faultless start j q = go (subst (JobJudged n start l) q (job_judged n start l))
    where
      go : JobJudged n start l (Ok j) → (d : Refusal) → FaultOf n k l d → ⊥
      go t d (too_long m) = clean_short l c m
      go t d (forbidden i m a) = clean_allowed l c i m a
      go t d (too_many m a) = omega arith
      go t d (element f p at w e m a x) = taken_right n l f (field_of f j, t.fields f) p at w e a x
      go t d (missing m a) =
          let x = subst (CommandJudged n start l) t.command (command_judged n start l) in
          a (nth_begin l 5) (nth_word l 5) (word_listed l 5 x.0)

-- a line that is too long is refused for that first
long_first : {n k : ℕ} {l : List ℕ} (d : Refusal) → FaultOf n k l d →
    First (LineTooLong (place n (longest_line + 1))) d
long_first d (too_long h) = inr (refl, inr (refl, inr (refl, omega arith)))
long_first d (forbidden i h b) = inr (refl, inl (omega arith))
long_first d (too_many h m) = inr (refl, inl (omega arith))
long_first d (element f p at w e h a b) = inr (refl, inl (omega arith))
long_first d (missing h a) = inr (refl, inl (omega arith))

-- another is refused for its first forbidden byte
forbidden_first : {n k : ℕ} {l : List ℕ} → length l ≤ longest_line → (d : Refusal) → FaultOf n k l d →
    First (ForbiddenByte (place n (forbidden_in l + 1))) d
forbidden_first s d (too_long h) = absurd (omega arith)
forbidden_first {n} {k} {l} s d (forbidden i h b) = go (cases_lt (forbidden_in l) i)
  where
    go : (forbidden_in l < i) ⊎ (i ≤ forbidden_in l) →
        First (ForbiddenByte (place n (forbidden_in l + 1))) (ForbiddenByte (place n (i + 1)))
    go (inl m) = inr (refl, inr (refl, inl (omega arith)))
    go (inr m) = inr (refl, inr (refl, inr (omega (arith, first_least (is Forbidden) l i b), omega arith)))
forbidden_first s d (too_many h m) = inr (refl, inl (omega arith))
forbidden_first s d (element f p at w e h a b) = inr (refl, inl (omega arith))
forbidden_first s d (missing h a) = inr (refl, inl (omega arith))

-- a clean line for being one too many
many_first : {n k : ℕ} {l : List ℕ} → Clean l → (d : Refusal) → FaultOf n k l d → First (TooManyJobs (place n 1)) d
many_first {l = l} c d (too_long h) = absurd (clean_short l c h)
many_first {l = l} c d (forbidden i h b) = absurd (clean_allowed l c i h b)
many_first c d (too_many h m) = inr (refl, inr (refl, inr (refl, omega arith)))
many_first c d (element f p at w e h a b) = inr (refl, inl (omega arith))
many_first c d (missing h a) = inr (refl, inl (omega arith))

-- a clean line that holds no job has no fault
idle_faultless : {n k : ℕ} {l : List ℕ} → Clean l → (HoldsJob l → ⊥) → (d : Refusal) → FaultOf n k l d → ⊥
idle_faultless {l = l} c i d (too_long h) = clean_short l c h
idle_faultless {l = l} c i d (forbidden j h b) = clean_allowed l c j h b
idle_faultless c i d (too_many h m) = i h
idle_faultless c i d (element f p at w e h a b) = i h
idle_faultless c i d (missing h a) = i h

-- a line is refused for its first fault, and has none if it is taken
pub line_judged : {n start k : ℕ} {l : List ℕ} {r : Result (Option Job) Refusal} → LineRead n start k l r →
    LineJudged n k l r
line_judged (reading.long h) = (too_long h, long_first)
line_judged {l = l} (reading.forbidden s h) =
    (forbidden (forbidden_in l) h (first_passes (is Forbidden) l h), forbidden_first s)
line_judged {l = l} (reading.passed c i) = idle_faultless c (idle_none l i)
line_judged {l = l} (reading.many c i m) = (too_many ((reads_idle l).0 i) m, many_first c)
line_judged {n} {start} {k} {l} (reading.taken {j} c i m q) = job_faultless n k l c ((reads_idle l).0 i) m start j q
line_judged {n} {start} {k} {l} (reading.refused {e} c i m q) = job_refused n k l c ((reads_idle l).0 i) m start e q
