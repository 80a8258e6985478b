-- The invariant of a service.
use Rattle.std.proofs.Common.{◌≡◌, refl, sym, ap, ◌∙◌, subst, List, [], ◌∷◌, ◌++◌, true, ℕ, ◌≤◌, ◌<◌, arith, length}
use Rattle.std.proofs.Math.Decide.{dec_lt}
use Rattle.disk.specs.Contents.{Among}
use Rattle.journal_model.proofs.Sound.{Sound}
use Rattle.journal_model.specs.Disks.{Disk}
use Rattle.journal_model.specs.Lists.{Ascending}
use Rattle.journal_model.specs.Pages.{Body, format, start, done, State, Page, leaves, state_after}
use Rattle.journal_model.specs.Runs.{Flight, none_in_flight, in_flight}
use Rattle.page.specs.declared.head.Ending.{Ending}
use Rattle.service.proofs.Books.{Books, Follows, follows_start, follows_done}
use Rattle.disk.proofs.Among.{snoc_new}
use Rattle.service.proofs.Lists.{asc_snoc}
use Rattle.service.specs.Setting.{Setting, due_at, first_position, NoneDue}
use Rattle.service.specs.Table.{Stage, written, logged, running, finished, closing}
use Rattle.service.specs.World.{DueSlip, no_due_slip, due_slip_out, FinishSlip, no_finish_slip, finish_slip_out, finish_slip_handed_back}

-- stages told apart by number
abbrev pub stage_number : Stage → ℕ
stage_number written = 0
stage_number logged = 1
stage_number running = 2
stage_number finished = 3
stage_number closing = 4

pub stages_differ : {A : Type 0} {a b : Stage} (x : Stage) → x ≡ a → x ≡ b → ¬ (stage_number a ≡ stage_number b) → A
stages_differ x p q d = absurd (d (ap stage_number (sym p ∙ q)))

-- the state after the page in flight, or after the newest synced page
abbrev pub air_state : Flight → State → State
air_state none_in_flight j = j
air_state (in_flight p) j = leaves p j

-- the table's tickets while a page with this event is in flight, over the journal's open ones
abbrev pub table_in : Body → List ℕ → List ℕ
table_in format xs = xs
table_in (start t) xs = xs ++ (t ∷ [])
table_in (done t c) xs = xs

-- the same of any flight
abbrev pub table_of : Flight → List ℕ → List ℕ
table_of none_in_flight xs = xs
table_of (in_flight p) xs = table_in p.body xs

-- the page in flight may follow
abbrev pub Air : Setting → (ℕ → Type 0) → Flight → State → Type 0
Air σ L none_in_flight j = Unit {0}
Air σ L (in_flight p) j = Follows σ L j (leaves p j) p.body

-- The ticket of the page in flight has its stage.
abbrev pub BodyStage : Body → (ℕ → Stage) → Type 0
BodyStage format g = Unit {0}
BodyStage (start t) g = g t ≡ written
BodyStage (done t c) g = g t ≡ closing

-- the same of any flight
abbrev pub AirStage : Flight → (ℕ → Stage) → Type 0
AirStage none_in_flight g = Unit {0}
AirStage (in_flight p) g = BodyStage p.body g

-- the start page of u is in flight
abbrev pub FliesStart : Flight → ℕ → Type 0
FliesStart none_in_flight u = ⊥
FliesStart (in_flight p) u = p.body ≡ start u

-- a done page of u is in flight
abbrev pub FliesDone : Flight → ℕ → Type 0
FliesDone none_in_flight u = ⊥
FliesDone (in_flight p) u = (c : Ending) × (p.body ≡ done u c)

-- What the stage of a ticket says. L: launched; C: launched since the last cut; j: the journal's state.
abbrev pub StageOk : (ℕ → Type 0) → (ℕ → Type 0) → State → Flight → ℕ → Stage → Type 0
StageOk L C j f u written = FliesStart f u × (¬ (C u))
StageOk L C j f u logged = Among u j.tickets × (¬ (C u))
StageOk L C j f u running = Among u j.tickets × L u
StageOk L C j f u finished = Among u j.tickets × L u
StageOk L C j f u closing = FliesDone f u × L u

-- a due slip that is out is of the next position, which is due, and the table has a place
abbrev pub SlipOk : Setting → ℕ → List ℕ → DueSlip → Type 0
SlipOk σ next ts no_due_slip = Unit {0}
SlipOk σ next ts (due_slip_out t) = (t ≡ next) × (due_at σ t ≡ true) × (length ts < 16)

-- the finish slip is of a finished ticket of the table
abbrev pub FinishOk : List ℕ → (ℕ → Stage) → FinishSlip → Type 0
FinishOk ts g no_finish_slip = Unit {0}
FinishOk ts g (finish_slip_out t c) = Among t ts × (g t ≡ finished)
FinishOk ts g (finish_slip_handed_back t c) = Among t ts × (g t ≡ finished)

-- L: launched; C: launched since the last cut; S: the synced pages.
pub record Inv
    (σ : Setting) (L C : ℕ → Type 0) (S : List Page) (k : Disk) (n : ℕ) (f : Flight) (next : ℕ) (ts : List ℕ)
    (g : ℕ → Stage) (slip : DueSlip) (fin : FinishSlip) : Type 0 where
  pub journal : Sound σ.blocks (first_position σ) S k n f
  pub books : Books σ L S
  pub air : Air σ L f (state_after (first_position σ) S)
  pub air_stage : AirStage f g
  pub table : ts ≡ table_of f (state_after (first_position σ) S).tickets
  pub ahead : (air_state f (state_after (first_position σ) S)).next ≤ next
  pub gap : NoneDue σ (air_state f (state_after (first_position σ) S)).next next
  pub stages : (u : ℕ) → Among u ts → StageOk L C (state_after (first_position σ) S) f u (g u)
  pub since : (u : ℕ) → C u → u < (state_after (first_position σ) S).next
  pub slip_ok : SlipOk σ next ts slip
  pub finish_ok : FinishOk ts g fin

-- of no ticket
abbrev pub Never : ℕ → Type 0
Never u = ⊥

pub inv_fresh :
    {σ : Setting} {L : ℕ → Type 0} {S : List Page} {k : Disk} {n : ℕ}
    → Sound σ.blocks (first_position σ) S k n none_in_flight → Books σ L S
    → Inv σ L Never S k n none_in_flight (state_after (first_position σ) S).next
    (state_after (first_position σ) S).tickets (λ u. logged) no_due_slip no_finish_slip
inv_fresh {σ} {L} {S} {k} {n} i b =
    record {
      journal = i;
      books = b;
      air = tt;
      air_stage = tt;
      table = refl;
      ahead = omega arith;
      gap = λ u lo hi. let x : ⊥ = omega arith in absurd x;
      stages = λ u m. (m, λ c. c);
      since = λ u c. absurd c;
      slip_ok = tt;
      finish_ok = tt;
    }

-- The look's rank-of, and slips, may move.
pub inv_move :
    {σ : Setting} {L C : ℕ → Type 0} {S : List Page} {k : Disk} {n : ℕ} {f : Flight} {next later : ℕ} {ts : List ℕ}
    {g : ℕ → Stage} {slip slip' : DueSlip} {fin fin' : FinishSlip}
    → Inv σ L C S k n f next ts g slip fin → next ≤ later → NoneDue σ next later → SlipOk σ later ts slip' → FinishOk ts g fin'
    → Inv σ L C S k n f later ts g slip' fin'
inv_move {σ} {L} {C} {S} {k} {n} {f} {next} {later} {ts} {g} {slip} {slip'} {fin} {fin'} i lo none s q = record {
  journal = i.journal;
  books = i.books;
  air = i.air;
  air_stage = i.air_stage;
  table = i.table;
  ahead = let x : (air_state f (state_after (first_position σ) S)).next ≤ next = i.ahead in omega arith;
  gap = λ u a b. elim (dec_lt u next) [ yes h ↦ i.gap u a h | no h ↦ none u (omega arith) b ];
  stages = i.stages;
  since = i.since;
  slip_ok = s;
  finish_ok = q;
}

-- The table is in ascending order.
pub table_ascending :
    {σ : Setting} {L C : ℕ → Type 0} {S : List Page} {k : Disk} {n : ℕ} {f : Flight} {next : ℕ} {ts : List ℕ}
    {g : ℕ → Stage} {slip : DueSlip} {fin : FinishSlip}
    → Inv σ L C S k n f next ts g slip fin → Ascending ts
table_ascending {σ} {L} {C} {S} {k} {n} {f} {next} {ts} {g} {slip} {fin} i = go f i.air i.table
  where
    j : State
    j = state_after (first_position σ) S

    body : (b : Body) (x : State) → Follows σ L j x b → ts ≡ table_in b j.tickets → Ascending ts
    body b x (follows_start {t = t} en et lo d gap few) e =
        subst Ascending (sym e)
        (asc_snoc j.tickets t i.books.shows.ascending
        (λ u m. let z : u < j.next = i.books.shows.below u m in omega arith))
    body b x (follows_done et lo gap m lt) e = subst Ascending (sym e) i.books.shows.ascending

    go : (f : Flight) → Air σ L f j → ts ≡ table_of f j.tickets → Ascending ts
    go none_in_flight a e = subst Ascending (sym e) i.books.shows.ascending
    go (in_flight p) a e = body p.body (leaves p j) a e

-- The ticket of a due slip is not in the table.
pub slip_fresh :
    {σ : Setting} {L C : ℕ → Type 0} {S : List Page} {k : Disk} {n next : ℕ} {ts : List ℕ} {g : ℕ → Stage} {t : ℕ}
    {fin : FinishSlip}
    → Inv σ L C S k n none_in_flight next ts g (due_slip_out t) fin → ¬ (Among t ts)
slip_fresh {σ} {L} {C} {S} {k} {n} {next} {ts} {g} {t} {fin} i m =
    let x : t < (state_after (first_position σ) S).next = i.books.shows.below t (subst (Among t) i.table m) in
    let y : (state_after (first_position σ) S).next ≤ next = i.ahead in
    let e : t ≡ next = i.slip_ok.0 in omega arith

air_cong :
    (σ : Setting) (L : ℕ → Type 0) (j : State) (ts : List ℕ) (g g' : ℕ → Stage)
    → ((u : ℕ) → Among u ts → g' u ≡ g u) → (f : Flight) → Air σ L f j → ts ≡ table_of f j.tickets
    → AirStage f g → AirStage f g'
air_cong σ L j ts g g' eq none_in_flight a e o = tt
air_cong σ L j ts g g' eq (in_flight p) a e o = body p.body a e o
  where
    body : (b : Body) → Follows σ L j (leaves p j) b → ts ≡ table_in b j.tickets → BodyStage b g → BodyStage b g'
    body b (follows_start {t = t} en et lo d gap few) e o = eq t (subst (Among t) (sym e) (snoc_new j.tickets t)) ∙ o
    body b (follows_done {t = t} et lo gap m lt) e o = eq t (subst (Among t) (sym e) m) ∙ o

finish_cong :
    (ts : List ℕ) (g g' : ℕ → Stage) → ((u : ℕ) → Among u ts → g' u ≡ g u) → (fin : FinishSlip)
    → FinishOk ts g fin → FinishOk ts g' fin
finish_cong ts g g' eq no_finish_slip o = tt
finish_cong ts g g' eq (finish_slip_out t c) o = (o.0, eq t o.0 ∙ o.1)
finish_cong ts g g' eq (finish_slip_handed_back t c) o = (o.0, eq t o.0 ∙ o.1)

-- Only the stages of the table's tickets count.
pub inv_cong :
    {σ : Setting} {L C : ℕ → Type 0} {S : List Page} {k : Disk} {n : ℕ} {f : Flight} {next : ℕ} {ts ts' : List ℕ}
    {g g' : ℕ → Stage} {slip : DueSlip} {fin : FinishSlip}
    → Inv σ L C S k n f next ts g slip fin → ts' ≡ ts → ((u : ℕ) → Among u ts → g' u ≡ g u) → Inv σ L C S k n f next ts' g' slip fin
inv_cong {σ} {L} {C} {S} {k} {n} {f} {next} {ts} {ts'} {g} {g'} {slip} {fin} i e eq =
    let P : List ℕ → Type 0 = λ xs. Inv σ L C S k n f next xs g' slip fin in
    subst P (sym e) (record {
      journal = i.journal;
      books = i.books;
      air = i.air;
      air_stage = air_cong σ L (state_after (first_position σ) S) ts g g' eq f i.air i.table i.air_stage;
      table = i.table;
      ahead = i.ahead;
      gap = i.gap;
      stages = λ u m. subst (StageOk L C (state_after (first_position σ) S) f u) (sym (eq u m)) (i.stages u m);
      since = i.since;
      slip_ok = i.slip_ok;
      finish_ok = finish_cong ts g g' eq fin i.finish_ok;
    })
