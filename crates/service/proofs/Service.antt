-- Every call keeps the invariant, and what it promises of launches and restarts.
use Rattle.std.proofs.Common.{◌≡◌, refl, sym, ap, ◌∙◌, subst, List, ◌∷◌, true, ℕ, suc, ◌+◌, max, arith}
use Rattle.disk.specs.Contents.{Among}
use Rattle.journal_model.specs.Lists.{Ascending}
use Rattle.journal_model.specs.Pages.{State, Page, state_after}
use Rattle.journal_model.specs.Runs.{Flight, none_in_flight}
use Rattle.page.specs.declared.head.Ending.{Ending}
use Rattle.service.proofs.Books.{StartIn}
use Rattle.service.proofs.Causes.{reading_cause, look_cause, log_cause, sync_cause, launch_cause, settle_cause, hand_back_cause}
use Rattle.service.proofs.Cuts.{step_cut}
use Rattle.service.proofs.Held.{Holds, Promised, Next, kinds_differ, harmless, before_earliest, a_cut}
use Rattle.service.proofs.Invariant.{SlipOk, FinishOk, Inv, inv_move, table_ascending, slip_fresh, inv_cong}
use Rattle.service.proofs.Steps.{inv_log, inv_settle, inv_sync, logged_ok, inv_launch, inv_collect}
use Rattle.service.proofs.Table.{tickets_snoc, stage_snoc, tickets_mark, stage_mark, tickets_sync, stage_sync}
use Rattle.service.specs.After.{run_of}
use Rattle.service.specs.Calls.{Collecting, collecting_18, collecting_handed_back, collecting_none, collecting_other, collecting}
use Rattle.service.specs.Causes.{ReadingCause, reading_13, reading, LookingCause, looking_18, looking_19, looking_due, looking_level, looking_spent, LoggingCause, logging_20, logging_21, logging_22, logging, SyncingCause, syncing_nothing, syncing, LaunchingCause, launching_none, launching_23, launching, SettlingCause, settling_20, settling_21, settling_22, settling, HandingBackCause, handing_due_20, handing_finish_20, handing_due, handing_finish}
use Rattle.service.specs.Events.{Event, History}
use Rattle.service.specs.Histories.{add_flight, synced_pages, Launched, LaunchedSince}
use Rattle.service.specs.Promises.{InOrderOf, AgainOf}
use Rattle.service.specs.Service.{Call, call_reading, call_look, call_log, call_sync, call_launch, call_collect, call_settle, call_hand_back, call_cut}
use Rattle.service.specs.Setting.{Setting, due_at, first_position}
use Rattle.service.specs.Table.{written, running, finished, closing, Entry, tickets_of, stage_of, synced_table}
use Rattle.service.specs.World.{DueSlip, due_slip_out, FinishSlip, finish_slip_out, finish_slip_handed_back, Slip, World, past_horizon}

step_launch :
    (σ : Setting) (h : History) (w v : World) (e : Event) → Holds σ h w → LaunchingCause σ w e v → Next σ h e v
step_launch σ h w v e i (launching_none n) = (record { inv = i.inv; tie = i.tie }, harmless σ _ h refl)
step_launch σ h w v e i (launching_23 t x f) = (record { inv = i.inv; tie = i.tie }, harmless σ _ h refl)
step_launch σ h w v e i (launching t x f) = (
  record {
    inv =
        inv_cong (inv_launch t i.inv x.is_logged.0 x.is_logged.1) (tickets_mark t running w.table)
        (stage_mark t running w.table);
    tie = i.tie;
  },
  record {
    in_order = λ r q.
        subst (InOrderOf σ h) (let same : run_of σ t ≡ r = cc in same)
        (record {
          is_due = opened.0;
          has_place = refl;
          has_size = refl;
          start_synced = opened.1;
          earlier_launched = λ u lo hi d. before_earliest σ h w t i.inv x u lo hi d;
        });
    finds = λ top s q. kinds_differ _ _ q (omega arith);
    again = λ r q.
        subst (AgainOf σ h) (let same : run_of σ t ≡ r = cc in same)
        (record {
          after_cut = λ between before earlier same e'. a_cut t earlier same h between before ok.1 e';
          not_done = λ z. (i.inv.books.closed t z.1.0 z.0 z.1.1.0 z.1.1.1).1 ok.0;
        });
  },
)
  where
    j : State
    j = state_after (first_position σ) (synced_pages σ h)

    ok : Among t j.tickets × (¬ (LaunchedSince t h))
    ok =
        logged_ok (λ u. Launched u h) (λ u. LaunchedSince u h) j w.flight t (stage_of w.table t)
        x.is_logged.1 (i.inv.stages t x.is_logged.0)

    opened : (due_at σ t ≡ true) × StartIn t (synced_pages σ h)
    opened = i.inv.books.opened t ok.0

step_reading :
    (σ : Setting) (h : History) (w : World) (m : ℕ) (v : World) (e : Event) → Holds σ h w → ReadingCause σ w m e v
    → Next σ h e v
step_reading σ h w m v e i (reading lo hi) = (record { inv = i.inv; tie = i.tie }, harmless σ _ h refl)
step_reading σ h w m v e i (reading_13 out) = (record { inv = i.inv; tie = i.tie }, harmless σ _ h refl)

step_look : (σ : Setting) (h : History) (w v : World) (e : Event) → Holds σ h w → LookingCause σ w e v → Next σ h e v
step_look σ h w v e i (looking_18 t s) = (record { inv = i.inv; tie = i.tie }, harmless σ _ h refl)
step_look σ h w v e i (looking_19 s f) = (record { inv = i.inv; tie = i.tie }, harmless σ _ h refl)
step_look σ h w v e i (looking_due t s f lo hi near d none) =
    (record { inv = inv_move i.inv lo none (refl, d, f) i.inv.finish_ok; tie = i.tie }, harmless σ _ h refl)
step_look σ h w v e i (looking_level s f near none) = (
  record {
    inv =
        inv_move i.inv (omega arith) (λ u lo hi. none u lo (omega arith))
        (subst (SlipOk σ (max w.next (past_horizon w)) (tickets_of w.table)) (sym s) tt)
        i.inv.finish_ok;
    tie = i.tie;
  },
  harmless σ _ h refl,
)
step_look σ h w v e i (looking_spent s f hi none) = (
  record {
    inv =
        inv_move i.inv (omega arith) none
        (subst (SlipOk σ (w.next + 4096) (tickets_of w.table)) (sym s) tt) i.inv.finish_ok;
    tie = i.tie;
  },
  harmless σ _ h refl,
)

step_log :
    (σ : Setting) (h : History) (w v : World) (e : Event) (t : ℕ) → Holds σ h w → LoggingCause σ w t e v
    → Next σ h e v
step_log σ h w v e t i (logging_20 s) = (record { inv = i.inv; tie = i.tie }, harmless σ _ h refl)
step_log σ h w v e t i (logging_21 p s f) = (record { inv = i.inv; tie = i.tie }, harmless σ _ h refl)
step_log σ h w v e t i (logging_22 s f l) = (record { inv = i.inv; tie = i.tie }, harmless σ _ h refl)
step_log σ h w v e t i (logging d s f l y) = (
  record {
    inv = inv_cong (inv_log t now y) (tickets_snoc w.table new) (stage_snoc w.table new (slip_fresh now));
    tie = refl;
  },
  harmless σ _ h refl,
)
  where
    new : Entry
    new = record { ticket = t; stage = written }

    P : Flight → DueSlip → Type 0
    P a b =
        Inv σ (λ u. Launched u h) (λ u. LaunchedSince u h) (synced_pages σ h) w.disk w.newest a w.next
        (tickets_of w.table) (stage_of w.table) b w.finish

    now : P none_in_flight (due_slip_out t)
    now = subst (λ z. P none_in_flight z) s (subst (λ z. P z w.slip) f i.inv)

step_sync : (σ : Setting) (h : History) (w v : World) (e : Event) → Holds σ h w → SyncingCause σ w e v → Next σ h e v
step_sync σ h w v e i (syncing_nothing f) = (record { inv = i.inv; tie = i.tie }, harmless σ _ h refl)
step_sync σ h w v e i (syncing p d f y) = (
  record {
    inv =
        subst Q (sym (ap (λ x. add_flight x (synced_pages σ h)) (i.tie ∙ f)))
        (inv_cong (inv_sync (subst P f i.inv) y) (tickets_sync w.table asc)
        (λ u m. stage_sync w.table asc u (subst (Among u) (sym (tickets_sync w.table asc)) m)));
    tie = refl;
  },
  harmless σ _ h refl,
)
  where
    P : Flight → Type 0
    P a =
        Inv σ (λ u. Launched u h) (λ u. LaunchedSince u h) (synced_pages σ h) w.disk w.newest a w.next
        (tickets_of w.table) (stage_of w.table) w.slip w.finish

    Q : List Page → Type 0
    Q S =
        Inv σ (λ u. Launched u h) (λ u. LaunchedSince u h) S d (suc w.newest) none_in_flight w.next
        (tickets_of (synced_table w.table)) (stage_of (synced_table w.table)) w.slip w.finish

    asc : Ascending (tickets_of w.table)
    asc = table_ascending i.inv

step_collect : (σ : Setting) (h : History) (w v : World) (e : Event) → Holds σ h w → Collecting σ w e v → Next σ h e v
step_collect σ h w v e i (collecting_18 t c f) = (record { inv = i.inv; tie = i.tie }, harmless σ _ h refl)
step_collect σ h w v e i (collecting_handed_back t c f) = (
  record {
    inv =
        inv_move i.inv (omega arith) (λ u lo hi. let x : ⊥ = omega arith in absurd x) i.inv.slip_ok
        (let o : FinishOk (tickets_of w.table) (stage_of w.table) (finish_slip_handed_back t c) =
        subst (FinishOk (tickets_of w.table) (stage_of w.table)) f i.inv.finish_ok in
        o);
    tie = i.tie;
  },
  harmless σ _ h refl,
)
step_collect σ h w v e i (collecting_none f) = (record { inv = i.inv; tie = i.tie }, harmless σ _ h refl)
step_collect σ h w v e i (collecting_other r rest f x d) = (record { inv = i.inv; tie = i.tie }, harmless σ _ h refl)
step_collect σ h w v e i (collecting r c rest f x k m) = (
  record {
    inv =
        inv_cong (inv_collect r.ticket c (subst P f i.inv) m.0 m.1)
        (tickets_mark r.ticket finished w.table) (stage_mark r.ticket finished w.table);
    tie = i.tie;
  },
  harmless σ _ h refl,
)
  where
    P : FinishSlip → Type 0
    P b =
        Inv σ (λ u. Launched u h) (λ u. LaunchedSince u h) (synced_pages σ h) w.disk w.newest w.flight
        w.next (tickets_of w.table) (stage_of w.table) w.slip b

step_settle :
    (σ : Setting) (h : History) (w v : World) (e : Event) (t : ℕ) (c : Ending) → Holds σ h w
    → SettlingCause σ w t c e v → Next σ h e v
step_settle σ h w v e t c i (settling_20 s) = (record { inv = i.inv; tie = i.tie }, harmless σ _ h refl)
step_settle σ h w v e t c i (settling_21 p s f) = (record { inv = i.inv; tie = i.tie }, harmless σ _ h refl)
step_settle σ h w v e t c i (settling_22 s f l) = (record { inv = i.inv; tie = i.tie }, harmless σ _ h refl)
step_settle σ h w v e t c i (settling d s f l y) = (
  record {
    inv =
        inv_cong
        (inv_settle t c s.0
        (subst (λ z. P none_in_flight z) s.1 (subst (λ z. P z w.finish) f i.inv)) y)
        (tickets_mark t closing w.table) (stage_mark t closing w.table);
    tie = refl;
  },
  harmless σ _ h refl,
)
  where
    P : Flight → FinishSlip → Type 0
    P a b =
        Inv σ (λ u. Launched u h) (λ u. LaunchedSince u h) (synced_pages σ h) w.disk w.newest a w.next
        (tickets_of w.table) (stage_of w.table) w.slip b

step_hand_back :
    (σ : Setting) (h : History) (w v : World) (e : Event) (b : Slip) → Holds σ h w → HandingBackCause σ w b e v
    → Next σ h e v
step_hand_back σ h w v e b i (handing_due_20 t s) = (record { inv = i.inv; tie = i.tie }, harmless σ _ h refl)
step_hand_back σ h w v e b i (handing_finish_20 t c s) = (record { inv = i.inv; tie = i.tie }, harmless σ _ h refl)
step_hand_back σ h w v e b i (handing_due t s) = (
  record {
    inv =
        inv_move i.inv (omega arith) (λ u lo hi. let x : ⊥ = omega arith in absurd x) tt i.inv.finish_ok;
    tie = i.tie;
  },
  harmless σ _ h refl,
)
step_hand_back σ h w v e b i (handing_finish t c f) = (
  record {
    inv =
        inv_move i.inv (omega arith) (λ u lo hi. let x : ⊥ = omega arith in absurd x) i.inv.slip_ok
        (let o : FinishOk (tickets_of w.table) (stage_of w.table) (finish_slip_out t f.0) =
        subst (FinishOk (tickets_of w.table) (stage_of w.table)) f.1 i.inv.finish_ok in
        o);
    tie = i.tie;
  },
  harmless σ _ h refl,
)

pub step :
    (σ : Setting) (h : History) (w v : World) (e : Event) → Holds σ h w → Call σ w e v
    → Holds σ (e ∷ h) v × Promised σ e h
step σ h w v e i (call_reading m c) = step_reading σ h w m v e i (reading_cause σ w m e v c)
step σ h w v e i (call_look c) = step_look σ h w v e i (look_cause σ w e v c)
step σ h w v e i (call_log t c) = step_log σ h w v e t i (log_cause σ w t e v c)
step σ h w v e i (call_sync c) = step_sync σ h w v e i (sync_cause σ w e v c)
step σ h w v e i (call_launch c) = step_launch σ h w v e i (launch_cause σ w e v c)
step σ h w v e i (call_collect c) = step_collect σ h w v e i c
step σ h w v e i (call_settle t a k c) = step_settle σ h w v e t a i (settle_cause σ w t a e v c)
step σ h w v e i (call_hand_back b k c) = step_hand_back σ h w v e b i (hand_back_cause σ w b e v c)
step σ h w v e i (call_cut c) = step_cut σ h w v e i c
