-- Each call that alters the journal, the table or the launches keeps the invariant.
use Rattle.std.proofs.Common.{◌≡◌, refl, sym, ap, ◌∙◌, subst, ◌⊎◌, inl, inr, List, [], ◌∷◌, ◌++◌, Bool, true, not, ℕ, suc, ◌%◌, ◌≤◌, ◌<◌, arith, length, eqb}
use Rattle.std.proofs.Math.Decide.{ℕ_discrete}
use Rattle.disk.specs.Contents.{Among}
use Rattle.journal_model.proofs.Sound.{sound_sync, sound_write}
use Rattle.journal_model.specs.Disks.{page, Disk, Written, Synced}
use Rattle.journal_model.specs.Lists.{keep, without}
use Rattle.journal_model.specs.Pages.{Body, format, start, done, State, Page, page_for, leaves, state_after}
use Rattle.journal_model.specs.Runs.{Flight, none_in_flight, in_flight, Proper}
use Rattle.page.specs.declared.head.Ending.{Ending}
use Rattle.service.proofs.Books.{Follows, follows_start, follows_done, follows_more, books_more, done_ticket, start_not_done, follows_next, books_next, start_follows, done_follows}
use Rattle.service.proofs.Invariant.{stages_differ, table_in, Air, BodyStage, AirStage, StageOk, SlipOk, FinishOk, Inv}
use Rattle.disk.proofs.Among.{among_snoc, snoc_old}
use Rattle.journal_model.proofs.Lists.{among_keep}
use Rattle.service.proofs.Lists.{eqb_same, eqb_differ, not_both, keep_among, length_keep, keep_same, keep_all}
use Rattle.service.proofs.Table.{put, put_same, put_other}
use Rattle.service.specs.Setting.{Setting, first_position}
use Rattle.service.specs.Table.{Stage, written, logged, running, finished, closing, landed, stays}
use Rattle.service.specs.World.{DueSlip, no_due_slip, due_slip_out, FinishSlip, no_finish_slip, finish_slip_out, finish_slip_handed_back}

finish_snoc :
    (ts : List ℕ) (g : ℕ → Stage) (t : ℕ) (s : Stage) (fin : FinishSlip) → ¬ (Among t ts) → FinishOk ts g fin
    → FinishOk (ts ++ (t ∷ [])) (put t s g) fin
finish_snoc ts g t s no_finish_slip d o = tt
finish_snoc ts g t s (finish_slip_out v c) d o =
    (snoc_old ts v t o.0, put_other t s g v (λ e. d (subst (λ x. Among x ts) e o.0)) ∙ o.1)
finish_snoc ts g t s (finish_slip_handed_back v c) d o =
    (snoc_old ts v t o.0, put_other t s g v (λ e. d (subst (λ x. Among x ts) e o.0)) ∙ o.1)

finish_put :
    (ts : List ℕ) (g : ℕ → Stage) (t : ℕ) (s : Stage) (fin : FinishSlip) → ¬ (g t ≡ finished) → FinishOk ts g fin
    → FinishOk ts (put t s g) fin
finish_put ts g t s no_finish_slip d o = tt
finish_put ts g t s (finish_slip_out v c) d o = (o.0, put_other t s g v (λ e. d (ap g (sym e) ∙ o.1)) ∙ o.1)
finish_put ts g t s (finish_slip_handed_back v c) d o = (o.0, put_other t s g v (λ e. d (ap g (sym e) ∙ o.1)) ∙ o.1)

-- With no page in flight a ticket of the table keeps its standing when one goes up.
stage_flies :
    (L C : ℕ → Type 0) (j : State) (p : Page) (u : ℕ) (s : Stage) → StageOk L C j none_in_flight u s
    → StageOk L C j (in_flight p) u s
stage_flies L C j p u written o = absurd o.0
stage_flies L C j p u logged o = o
stage_flies L C j p u running o = o
stage_flies L C j p u finished o = o
stage_flies L C j p u closing o = absurd o.0

pub inv_log :
    {σ : Setting} {L C : ℕ → Type 0} {S : List Page} {k l : Disk} {n next : ℕ} {ts : List ℕ} {g : ℕ → Stage}
    {fin : FinishSlip} (t : ℕ)
    → Inv σ L C S k n none_in_flight next ts g (due_slip_out t) fin
    → let p : Page = page_for (suc n) (start t) (record { next = suc t; tickets = ts ++ (t ∷ []) }) in
    Written k (suc n % σ.blocks) (page (suc n) p) l
    → Inv σ L C S l n (in_flight p) (suc t) (ts ++ (t ∷ [])) (put t written g) no_due_slip fin
inv_log {σ} {L} {C} {S} {k} {l} {n} {next} {ts} {g} {fin} t i y = record {
  journal = sound_write σ.blocks (first_position σ) S k l n p σ.many_blocks i.journal made.0 y;
  books = i.books;
  air = made.1;
  air_stage = put_same t written g t refl;
  table = ap (λ xs. xs ++ (t ∷ [])) i.table;
  ahead = after_next made.1;
  gap = λ u lo hi. let x : (leaves p j).next ≡ suc t = is_next made.1 in let z : ⊥ = omega arith in absurd z;
  stages = λ u m. at u (among_snoc ts u t m);
  since = i.since;
  slip_ok = tt;
  finish_ok = finish_snoc ts g t written fin fresh i.finish_ok;
}
  where
    j : State
    j = state_after (first_position σ) S

    p : Page
    p = page_for (suc n) (start t) (record { next = suc t; tickets = ts ++ (t ∷ []) })

    lo : j.next ≤ t
    lo = let x : j.next ≤ next = i.ahead in let e : t ≡ next = i.slip_ok.0 in omega arith

    made : Proper (suc n) p j × Follows σ L j (leaves p j) (start t)
    made =
        let P : List ℕ → Type 0 =
        λ xs.
        let q : Page = page_for (suc n) (start t) (record { next = suc t; tickets = xs ++ (t ∷ []) }) in
        Proper (suc n) q j × Follows σ L j (leaves q j) (start t) in
        subst P (sym i.table)
        (start_follows σ L j (suc n) t i.books.shows lo i.slip_ok.1
        (λ u a b. i.gap u a (let e : t ≡ next = i.slip_ok.0 in omega arith))
        (subst (λ xs. length xs < 16) i.table i.slip_ok.2))

    is_next : Follows σ L j (leaves p j) (start t) → (leaves p j).next ≡ suc t
    is_next (follows_start a b c d e f) = a

    after_next : Follows σ L j (leaves p j) (start t) → (leaves p j).next ≤ suc t
    after_next (follows_start a b c d e f) = omega arith

    fresh : ¬ (Among t ts)
    fresh m = let x : t < j.next = i.books.shows.below t (subst (Among t) i.table m) in omega arith

    at : (u : ℕ) → Among u ts ⊎ (u ≡ t) → StageOk L C j (in_flight p) u (put t written g u)
    at u (inl m) =
        subst (StageOk L C j (in_flight p) u)
        (sym (put_other t written g u (λ e. fresh (subst (λ x. Among x ts) e m))))
        (stage_flies L C j p u (g u) (i.stages u m))
    at u (inr e) =
        subst (StageOk L C j (in_flight p) u) (sym (put_same t written g u e))
        (ap start (sym e), λ c. let x : u < j.next = i.since u c in omega arith)

pub inv_settle :
    {σ : Setting} {L C : ℕ → Type 0} {S : List Page} {k l : Disk} {n next : ℕ} {ts : List ℕ} {g : ℕ → Stage}
    {slip : DueSlip} (t : ℕ) (c c' : Ending)
    → Inv σ L C S k n none_in_flight next ts g slip (finish_slip_out t c')
    → let p : Page = page_for (suc n) (done t c) (record { next = next; tickets = without t ts }) in
    Written k (suc n % σ.blocks) (page (suc n) p) l
    → Inv σ L C S l n (in_flight p) next ts (put t closing g) slip no_finish_slip
inv_settle {σ} {L} {C} {S} {k} {l} {n} {next} {ts} {g} {slip} t c c' i y = record {
  journal = sound_write σ.blocks (first_position σ) S k l n p σ.many_blocks i.journal made.0 y;
  books = i.books;
  air = made.1;
  air_stage = put_same t closing g t refl;
  table = i.table;
  ahead = made.2;
  gap = λ u lo hi. i.gap u (let x : j.next ≤ (leaves p j).next = follows_next made.1 in omega arith) hi;
  stages = λ u m. at u m (ℕ_discrete u t);
  since = i.since;
  slip_ok = i.slip_ok;
  finish_ok = tt;
}
  where
    j : State
    j = state_after (first_position σ) S

    p : Page
    p = page_for (suc n) (done t c) (record { next = next; tickets = without t ts })

    lt : L t
    lt =
        let o : StageOk L C j none_in_flight t finished =
        subst (StageOk L C j none_in_flight t) i.finish_ok.1 (i.stages t i.finish_ok.0) in
        o.1

    made : Proper (suc n) p j × Follows σ L j (leaves p j) (done t c) × ((leaves p j).next ≤ next)
    made =
        let P : List ℕ → Type 0 =
        λ xs.
        let q : Page = page_for (suc n) (done t c) (record { next = next; tickets = without t xs }) in
        Proper (suc n) q j × Follows σ L j (leaves q j) (done t c) × ((leaves q j).next ≤ next) in
        subst P (sym i.table)
        (done_follows σ L j (suc n) t c next i.books.shows i.ahead i.gap
        (subst (Among t) i.table i.finish_ok.0) lt)

    at : (u : ℕ) → Among u ts → Dec (u ≡ t) → StageOk L C j (in_flight p) u (put t closing g u)
    at u m (yes e) =
        subst (StageOk L C j (in_flight p) u) (sym (put_same t closing g u e))
        ((c, ap (λ v. done v c) (sym e)), subst L (sym e) lt)
    at u m (no d) =
        subst (StageOk L C j (in_flight p) u) (sym (put_other t closing g u d))
        (stage_flies L C j p u (g u) (i.stages u m))

stays_unless : (s : Stage) → ¬ (s ≡ closing) → stays s ≡ true
stays_unless written d = refl
stays_unless logged d = refl
stays_unless running d = refl
stays_unless finished d = refl
stays_unless closing d = absurd (d refl)

-- After the sync the table is that of the journal.
sync_table :
    (σ : Setting) (L : ℕ → Type 0) (j k : State) (b : Body) (ts : List ℕ) (g : ℕ → Stage) → Follows σ L j k b
    → ts ≡ table_in b j.tickets → BodyStage b g
    → ((u : ℕ) → Among u ts → g u ≡ closing → (c : Ending) × (b ≡ done u c))
    → keep (λ u. stays (g u)) ts ≡ k.tickets
sync_table σ L j k b ts g (follows_start {t} en et lo d gap few) tab st cl =
    keep_all (λ u. stays (g u)) ts (λ u m. stays_unless (g u) (λ e. start_not_done t u (cl u m e).0 (cl u m e).1))
    ∙ tab ∙ sym et
sync_table σ L j k b ts g (follows_done {t} {c} et lo gap m lt) tab st cl =
    keep_same (λ u. stays (g u)) (λ u. not (eqb u t)) ts (λ u a. at u a (ℕ_discrete u t))
    ∙ ap (without t) tab ∙ sym et
  where
    at : (u : ℕ) → Among u ts → Dec (u ≡ t) → stays (g u) ≡ not (eqb u t)
    at u a (yes e) = ap stays (ap g e ∙ st) ∙ sym (ap not (ap (λ v. eqb v t) e ∙ eqb_same t))
    at u a (no d) =
        stays_unless (g u) (λ e. d (sym (done_ticket t u c (cl u a e).0 (cl u a e).1)))
        ∙ sym (ap not (eqb_differ u t d))

sync_stage :
    (L C : ℕ → Type 0) (j k : State) (f : Flight) (u : ℕ) (s : Stage) → Among u k.tickets → stays s ≡ true
    → StageOk L C j f u s → StageOk L C k none_in_flight u (landed s)
sync_stage L C j k f u written m e o = (m, o.1)
sync_stage L C j k f u logged m e o = (m, o.1)
sync_stage L C j k f u running m e o = (m, o.1)
sync_stage L C j k f u finished m e o = (m, o.1)
sync_stage L C j k f u closing m e o = not_both e refl

sync_slip :
    (σ : Setting) (next : ℕ) (ts : List ℕ) (p : ℕ → Bool) (slip : DueSlip) → SlipOk σ next ts slip
    → SlipOk σ next (keep p ts) slip
sync_slip σ next ts p no_due_slip o = tt
sync_slip σ next ts p (due_slip_out t) o =
    (o.0, o.1, let x : length (keep p ts) ≤ length ts = length_keep p ts in omega arith)

sync_finish :
    (ts : List ℕ) (g : ℕ → Stage) (fin : FinishSlip) → FinishOk ts g fin
    → FinishOk (keep (λ u. stays (g u)) ts) (λ u. landed (g u)) fin
sync_finish ts g no_finish_slip o = tt
sync_finish ts g (finish_slip_out t c) o =
    (keep_among (λ u. stays (g u)) ts t o.0 (ap stays o.1), ap landed o.1)
sync_finish ts g (finish_slip_handed_back t c) o =
    (keep_among (λ u. stays (g u)) ts t o.0 (ap stays o.1), ap landed o.1)

closers :
    (L C : ℕ → Type 0) (j : State) (p : Page) (u : ℕ) (s : Stage) → StageOk L C j (in_flight p) u s → s ≡ closing
    → (c : Ending) × (p.body ≡ done u c)
closers L C j p u written o e = stages_differ closing (sym e) refl (omega arith)
closers L C j p u logged o e = stages_differ closing (sym e) refl (omega arith)
closers L C j p u running o e = stages_differ closing (sym e) refl (omega arith)
closers L C j p u finished o e = stages_differ closing (sym e) refl (omega arith)
closers L C j p u closing o e = o.0

pub inv_sync :
    {σ : Setting} {L C : ℕ → Type 0} {S : List Page} {k l : Disk} {n next : ℕ} {p : Page} {ts : List ℕ}
    {g : ℕ → Stage} {slip : DueSlip} {fin : FinishSlip}
    → Inv σ L C S k n (in_flight p) next ts g slip fin → Synced k l
    → Inv σ L C (p ∷ S) l (suc n) none_in_flight next (keep (λ u. stays (g u)) ts) (λ u. landed (g u)) slip fin
inv_sync {σ} {L} {C} {S} {k} {l} {n} {next} {p} {ts} {g} {slip} {fin} i y = record {
  journal = sound_sync σ.blocks (first_position σ) S k l n p i.journal y;
  books = books_next σ L S p p.body refl i.books i.air;
  air = tt;
  air_stage = tt;
  table = tab;
  ahead = i.ahead;
  gap = i.gap;
  stages = λ u m.
      sync_stage L C j (leaves p j) (in_flight p) u (g u) (subst (Among u) tab m)
      (among_keep (λ v. stays (g v)) ts u m).1 (i.stages u (among_keep (λ v. stays (g v)) ts u m).0);
  since = λ u c.
      let x : u < j.next = i.since u c in
      let z : j.next ≤ (leaves p j).next = follows_next i.air in omega arith;
  slip_ok = sync_slip σ next ts (λ u. stays (g u)) slip i.slip_ok;
  finish_ok = sync_finish ts g fin i.finish_ok;
}
  where
    j : State
    j = state_after (first_position σ) S

    tab : keep (λ u. stays (g u)) ts ≡ (leaves p j).tickets
    tab =
        sync_table σ L j (leaves p j) p.body ts g i.air i.table i.air_stage
        (λ u m e. closers L C j p u (g u) (i.stages u m) e)

-- A ticket of the table that is logged stands in the journal's state.
pub logged_ok :
    (L C : ℕ → Type 0) (j : State) (f : Flight) (u : ℕ) (s : Stage) → s ≡ logged → StageOk L C j f u s
    → Among u j.tickets × (¬ (C u))
logged_ok L C j f u s e o = subst (StageOk L C j f u) e o

body_put :
    (b : Body) (g : ℕ → Stage) (t : ℕ) (s : Stage) → ¬ (g t ≡ written) → ¬ (g t ≡ closing) → BodyStage b g
    → BodyStage b (put t s g)
body_put format g t s a b o = tt
body_put (start v) g t s a b o = put_other t s g v (λ e. a (ap g (sym e) ∙ o)) ∙ o
body_put (done v c) g t s a b o = put_other t s g v (λ e. b (ap g (sym e) ∙ o)) ∙ o

air_put :
    (f : Flight) (g : ℕ → Stage) (t : ℕ) (s : Stage) → ¬ (g t ≡ written) → ¬ (g t ≡ closing) → AirStage f g
    → AirStage f (put t s g)
air_put none_in_flight g t s a b o = tt
air_put (in_flight p) g t s a b o = body_put p.body g t s a b o

stage_more :
    (L C M D : ℕ → Type 0) (j : State) (f : Flight) (u : ℕ) (s : Stage) → (L u → M u) → (D u → C u)
    → StageOk L C j f u s → StageOk M D j f u s
stage_more L C M D j f u written l c o = (o.0, λ d. o.1 (c d))
stage_more L C M D j f u logged l c o = (o.0, λ d. o.1 (c d))
stage_more L C M D j f u running l c o = (o.0, l o.1)
stage_more L C M D j f u finished l c o = (o.0, l o.1)
stage_more L C M D j f u closing l c o = (o.0, l o.1)

air_more : (σ : Setting) (L M : ℕ → Type 0) (f : Flight) (j : State) → ((u : ℕ) → L u → M u) → Air σ L f j → Air σ M f j
air_more σ L M none_in_flight j h a = tt
air_more σ L M (in_flight p) j h a = follows_more h a

pub inv_launch :
    {σ : Setting} {L C : ℕ → Type 0} {S : List Page} {k : Disk} {n : ℕ} {f : Flight} {next : ℕ} {ts : List ℕ}
    {g : ℕ → Stage} {slip : DueSlip} {fin : FinishSlip} (t : ℕ)
    → Inv σ L C S k n f next ts g slip fin → Among t ts → g t ≡ logged
    → Inv σ (λ u. (u ≡ t) ⊎ L u) (λ u. (u ≡ t) ⊎ C u) S k n f next ts (put t running g) slip fin
inv_launch {σ} {L} {C} {S} {k} {n} {f} {next} {ts} {g} {slip} {fin} t i m e = record {
  journal = i.journal;
  books = books_more (λ u a. inr a) i.books;
  air = air_more σ L (λ u. (u ≡ t) ⊎ L u) f j (λ u a. inr a) i.air;
  air_stage =
      air_put f g t running (λ q. stages_differ (g t) e q (omega arith))
      (λ q. stages_differ (g t) e q (omega arith)) i.air_stage;
  table = i.table;
  ahead = i.ahead;
  gap = i.gap;
  stages = λ u a. at u a (ℕ_discrete u t);
  since = λ u.
      elim [ inl q ↦ subst (λ v. v < j.next) (sym q) (i.books.shows.below t ok.0) | inr c ↦ i.since u c ];
  slip_ok = i.slip_ok;
  finish_ok = finish_put ts g t running fin (λ q. stages_differ (g t) e q (omega arith)) i.finish_ok;
}
  where
    j : State
    j = state_after (first_position σ) S

    ok : Among t j.tickets × (¬ (C t))
    ok = logged_ok L C j f t (g t) e (i.stages t m)

    M : ℕ → Type 0
    M u = (u ≡ t) ⊎ L u

    D : ℕ → Type 0
    D u = (u ≡ t) ⊎ C u

    at : (u : ℕ) → Among u ts → Dec (u ≡ t) → StageOk M D j f u (put t running g u)
    at u a (yes q) =
        subst (StageOk M D j f u) (sym (put_same t running g u q))
        (subst (λ v. Among v j.tickets) (sym q) ok.0, inl q)
    at u a (no d) =
        subst (StageOk M D j f u) (sym (put_other t running g u d))
        (stage_more L C M D j f u (g u) (λ x. inr x) (elim [ inl q ↦ absurd (d q) | inr x ↦ x ]) (i.stages u a))

pub inv_collect :
    {σ : Setting} {L C : ℕ → Type 0} {S : List Page} {k : Disk} {n : ℕ} {f : Flight} {next : ℕ} {ts : List ℕ}
    {g : ℕ → Stage} {slip : DueSlip} (t : ℕ) (c : Ending)
    → Inv σ L C S k n f next ts g slip no_finish_slip → Among t ts → g t ≡ running
    → Inv σ L C S k n f next ts (put t finished g) slip (finish_slip_out t c)
inv_collect {σ} {L} {C} {S} {k} {n} {f} {next} {ts} {g} {slip} t c i m e = record {
  journal = i.journal;
  books = i.books;
  air = i.air;
  air_stage =
      air_put f g t finished (λ q. stages_differ (g t) e q (omega arith))
      (λ q. stages_differ (g t) e q (omega arith)) i.air_stage;
  table = i.table;
  ahead = i.ahead;
  gap = i.gap;
  stages = λ u a. at u a (ℕ_discrete u t);
  since = i.since;
  slip_ok = i.slip_ok;
  finish_ok = (m, put_same t finished g t refl);
}
  where
    j : State
    j = state_after (first_position σ) S

    at : (u : ℕ) → Among u ts → Dec (u ≡ t) → StageOk L C j f u (put t finished g u)
    at u a (yes q) =
        subst (StageOk L C j f u) (sym (put_same t finished g u q))
        (let o : StageOk L C j f u running = subst (StageOk L C j f u) (ap g q ∙ e) (i.stages u a) in o)
    at u a (no d) = subst (StageOk L C j f u) (sym (put_other t finished g u d)) (i.stages u a)
