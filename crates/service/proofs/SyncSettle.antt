-- What the sync, launch, collect and settle of a round do to it.
use Rattle.std.proofs.Common.{◌≡◌, refl, sym, ap, ◌∙◌, subst, ◌⊎◌, inl, inr, List, ◌∷◌, Bool, true, ℕ, suc, ◌≤◌, ◌<◌, arith, length}
use Rattle.disk.specs.Contents.{Among}
use Rattle.journal_model.specs.Lists.{Ascending, keep}
use Rattle.journal_model.specs.Pages.{Page}
use Rattle.journal_model.specs.Runs.{none_in_flight, in_flight}
use Rattle.page.specs.declared.head.Ending.{Ending}
use Rattle.service.proofs.Causes.{sync_cause, launch_cause, settle_cause}
use Rattle.service.proofs.Counts.{count, count_le, count_keep, count_some, taken_length}
use Rattle.service.proofs.Invariant.{FinishOk, table_ascending}
use Rattle.service.proofs.Lists.{clash, not_both, keep_among}
use Rattle.service.proofs.LookLog.{Part, Enough, newest_still, newest_flying}
use Rattle.service.proofs.Further.{FinishSound, run_tickets, runs_length, runs_taken}
use Rattle.service.proofs.More.{more}
use Rattle.service.proofs.Promises.{holds}
use Rattle.service.proofs.Table.{put, tickets_sync, stage_sync}
use Rattle.service.proofs.Work.{newest_with, Place, waits, work, eases_refl, eases_of, count_cong, mark_cong, count_put, count_put_lt}
use Rattle.service.specs.Calls.{Syncing, Launching, collecting_18, collecting_handed_back, collecting_none, collecting_other, collecting}
use Rattle.service.specs.Causes.{NoneLogged, SyncingCause, syncing_nothing, syncing, LaunchingCause, launching_none, launching_23, launching, SettlingCause, settling_20, settling_21, settling_22, settling}
use Rattle.service.specs.Events.{Event, History}
use Rattle.service.specs.Lists.{Taken}
use Rattle.service.specs.Rounds.{CollectUnlessOut, finish_is_out, collect, SettleAny, none_to_settle, settle, PartYields}
use Rattle.service.specs.Service.{call_sync, call_launch, call_collect, call_settle, Service, goes_on}
use Rattle.service.specs.Setting.{Setting}
use Rattle.service.specs.Table.{Stage, written, logged, running, finished, closing, tickets_of, stage_of, landed, stays, synced_table}
use Rattle.service.specs.World.{FinishSlip, no_finish_slip, finish_slip_out, finish_slip_handed_back, Run, World}

waits_landed : (s : Stage) → waits (landed s) ≡ true → waits s ≡ true
waits_landed written e = refl
waits_landed logged e = refl
waits_landed running e = e
waits_landed finished e = e
waits_landed closing e = e

stays_landed : (s : Stage) → stays (landed s) ≡ true → stays s ≡ true
stays_landed written e = refl
stays_landed logged e = refl
stays_landed running e = refl
stays_landed finished e = refl
stays_landed closing e = e

-- What a sync can have come to.
pub data SyncCase (w v : World) : Type 0 where
  sync_none : w.flight ≡ none_in_flight → v ≡ w → SyncCase w v
  sync_done :
      (p : Page) → w.flight ≡ in_flight p
      → ((u : ℕ) → Among u (tickets_of w.table) → stage_of w.table u ≡ written
      → Among u (tickets_of v.table) × (stage_of v.table u ≡ logged))
      → SyncCase w v

sync_by :
    (σ : Setting) (h : History) (w : World) (e : Event) (w₁ : World) → Service σ h w → Service σ (e ∷ h) w₁
    → SyncingCause σ w e w₁
    → Part σ w (e ∷ h) w₁
    × (w₁.flight ≡ none_in_flight)
    × (w₁.finish ≡ w.finish)
    × (w₁.launcher ≡ w.launcher)
    × SyncCase w w₁
sync_by σ h w e w₁ s s₁ (syncing_nothing f) =
    (record { service = s₁; eases = eases_refl }, f, refl, refl, sync_none f refl)
sync_by σ h w e w₁ s s₁ (syncing p d f y) = (
  record {
    service = s₁;
    eases =
        eases_of (cong waits) refl refl refl refl refl (cong stays) refl refl e_n (omega (arith, c1))
        (omega arith) (omega (arith, c2));
  },
  refl,
  refl,
  refl,
  sync_done p f
      (λ u m k.
      let m' : Among u (tickets_of (synced_table w.table)) =
      subst (Among u) (sym (tickets_sync w.table asc))
      (keep_among (λ x. stays (stage_of w.table x)) (tickets_of w.table) u m (ap stays k)) in
      (m', stage_sync w.table asc u m' ∙ ap landed k)),
)
  where
    asc : Ascending (tickets_of w.table)
    asc = table_ascending (holds σ h w s).0.inv

    cong :
        (q : Stage → Bool)
        → count (λ u. q (stage_of (synced_table w.table) u)) (tickets_of (synced_table w.table)) ≡ count
        (λ u. q (landed (stage_of w.table u)))
        (keep (λ u. stays (stage_of w.table u)) (tickets_of w.table))
    cong q =
        count_cong q (keep (λ u. stays (stage_of w.table u)) (tickets_of w.table))
        (tickets_of (synced_table w.table)) (λ u. landed (stage_of w.table u))
        (stage_of (synced_table w.table)) (tickets_sync w.table asc)
        (λ u m. stage_sync w.table asc u (subst (Among u) (sym (tickets_sync w.table asc)) m))

    e_n : newest_with w.flight w.newest ≡ suc w.newest
    e_n = newest_flying w.flight w.newest p f

    counted :
        (q : Stage → Bool) → ((x : Stage) → q (landed x) ≡ true → q x ≡ true)
        → count (λ u. q (landed (stage_of w.table u)))
        (keep (λ u. stays (stage_of w.table u)) (tickets_of w.table)) ≤ count
        (λ u. q (stage_of w.table u)) (tickets_of w.table)
    counted q back =
        let a :
        count (λ u. q (landed (stage_of w.table u)))
        (keep (λ u. stays (stage_of w.table u)) (tickets_of w.table)) ≤ count
        (λ u. q (landed (stage_of w.table u))) (tickets_of w.table) =
        count_keep (λ u. q (landed (stage_of w.table u))) (λ u. stays (stage_of w.table u))
        (tickets_of w.table) in
        let b :
        count (λ u. q (landed (stage_of w.table u))) (tickets_of w.table) ≤ count
        (λ u. q (stage_of w.table u)) (tickets_of w.table) =
        count_le (λ u. q (stage_of w.table u)) (λ u. q (landed (stage_of w.table u)))
        (tickets_of w.table) (λ u m z. back (stage_of w.table u) z) in
        omega arith

    c1 :
        count (λ u. waits (landed (stage_of w.table u)))
        (keep (λ u. stays (stage_of w.table u)) (tickets_of w.table)) ≤ count
        (λ u. waits (stage_of w.table u)) (tickets_of w.table)
    c1 = counted waits waits_landed

    c2 :
        count (λ u. stays (landed (stage_of w.table u)))
        (keep (λ u. stays (stage_of w.table u)) (tickets_of w.table)) ≤ count
        (λ u. stays (stage_of w.table u)) (tickets_of w.table)
    c2 = counted stays stays_landed

pub sync_part :
    (σ : Setting) (h : History) (w : World) (e : Event) (w₁ : World) → Service σ h w → Syncing σ w e w₁
    → Part σ w (e ∷ h) w₁
    × (w₁.flight ≡ none_in_flight)
    × (w₁.finish ≡ w.finish)
    × (w₁.launcher ≡ w.launcher)
    × SyncCase w w₁
sync_part σ h w e w₁ s c = sync_by σ h w e w₁ s (goes_on s (call_sync c)) (sync_cause σ w e w₁ c)

-- What a launch can have come to.
pub data LaunchCase (σ : Setting) (w v : World) : Type 0 where
  launch_none : NoneLogged w → LaunchCase σ w v
  launch_full : ¬ (Place w.launcher) → LaunchCase σ w v
  launch_done : suc (work σ v) ≤ work σ w → LaunchCase σ w v

launch_by :
    (σ : Setting) (h : History) (w : World) (e : Event) (w₁ : World) → Service σ (e ∷ h) w₁
    → LaunchingCause σ w e w₁
    → Part σ w (e ∷ h) w₁ × (w₁.flight ≡ w.flight) × (w₁.finish ≡ w.finish) × LaunchCase σ w w₁
launch_by σ h w e w₁ s₁ (launching_none n) = (record { service = s₁; eases = eases_refl }, refl, refl, launch_none n)
launch_by σ h w e w₁ s₁ (launching_23 t x f) =
    (record { service = s₁; eases = eases_refl }, refl, refl, launch_full (λ z. omega arith))
launch_by σ h w e w₁ s₁ (launching t x f) = (
  record {
    service = s₁;
    eases =
        eases_of (mark_cong waits t running w.table) refl refl refl refl refl
        (mark_cong stays t running w.table) refl refl refl (omega (arith, c1)) (omega arith)
        (omega (arith, c2));
  },
  refl,
  refl,
  launch_done (omega (arith, c1, mark_cong waits t running w.table)),
)
  where
    c1 :
        suc (count (λ u. waits (put t running (stage_of w.table) u)) (tickets_of w.table)) ≤ count
        (λ u. waits (stage_of w.table u)) (tickets_of w.table)
    c1 =
        count_put_lt waits t running (stage_of w.table) (tickets_of w.table) x.is_logged.0
        (ap waits x.is_logged.1) refl

    c2 :
        count (λ u. stays (put t running (stage_of w.table) u)) (tickets_of w.table) ≤ count
        (λ u. stays (stage_of w.table u)) (tickets_of w.table)
    c2 = count_put stays t running (stage_of w.table) (tickets_of w.table) (λ z. ap stays x.is_logged.1)

pub launch_part :
    (σ : Setting) (h : History) (w : World) (e : Event) (w₁ : World) → Service σ h w → Launching σ w e w₁
    → Part σ w (e ∷ h) w₁ × (w₁.flight ≡ w.flight) × (w₁.finish ≡ w.finish) × LaunchCase σ w w₁
launch_part σ h w e w₁ s c = launch_by σ h w e w₁ (goes_on s (call_launch c)) (launch_cause σ w e w₁ c)

-- After the collect no finish is handed back, and if it called the launcher that has a place.
abbrev pub NotBack : FinishSlip → Type 0
NotBack f = (f ≡ no_finish_slip) ⊎ ((t : ℕ) × ((c : Ending) × (f ≡ finish_slip_out t c)))

pub fewer :
    (σ : Setting) (h : History) (w : World) → Service σ h w → (r : Run) (rest : List Run)
    → Taken r w.launcher.held rest → length rest < w.launcher.capacity
fewer σ h w s r rest x =
    let a : length (run_tickets w.launcher.held) ≡ suc (length (run_tickets rest)) =
    taken_length r.ticket (run_tickets w.launcher.held) (run_tickets rest)
    (runs_taken r w.launcher.held rest x) in
    let b : length (run_tickets w.launcher.held) ≤ w.launcher.capacity = (more σ h w s).fits in
    let c : length (run_tickets rest) ≡ length rest = runs_length rest in
    omega (arith, a, b, c)

pub collect_part :
    (σ : Setting) (h : History) (w : World) (h₁ : History) (w₁ : World) → Service σ h w
    → (c : CollectUnlessOut σ h w h₁ w₁) → PartYields σ c
    → Part σ w h₁ w₁
    × (w₁.flight ≡ w.flight)
    × NotBack w₁.finish
    × (w.finish ≡ no_finish_slip → Place w₁.launcher)
collect_part σ h w h₁ w₁ s (finish_is_out t c e) y =
    (record { service = s; eases = eases_refl }, refl, inr (t, (c, e)), λ z. differ w t c z e)
  where
    differ :
        (w : World) (t : ℕ) (c : Ending) → w.finish ≡ no_finish_slip → w.finish ≡ finish_slip_out t c
        → Place w.launcher
    differ w t c z e = clash (cc)
collect_part σ h w h₁ w₁ s (collect nay (collecting_18 t c f)) y = absurd (nay t c f)
collect_part σ h w h₁ w₁ s (collect nay (collecting_handed_back t c f)) y = (
  record {
    service = goes_on s (call_collect (collecting_handed_back t c f));
    eases =
        eases_of refl refl refl refl refl refl refl refl refl refl (omega arith) (omega arith) (omega arith);
  },
  refl,
  inr (t, (c, refl)),
  λ z. differ z f,
)
  where
    differ : w.finish ≡ no_finish_slip → w.finish ≡ finish_slip_handed_back t c → Place w.launcher
    differ z e = clash (cc)
collect_part σ h w h₁ w₁ s (collect nay (collecting_none f)) y = (
  record { service = goes_on s (call_collect (collecting_none f)); eases = eases_refl },
  refl,
  inl f,
  λ z.
      let a : length w.launcher.held ≡ 0 = ap length y in
      let b : 1 ≤ w.launcher.capacity = (more σ h w s).capable.0 in omega (arith, a, b),
)
collect_part σ h w h₁ w₁ s (collect nay (collecting_other r rest f x d)) y = (
  record {
    service = goes_on s (call_collect (collecting_other r rest f x d));
    eases =
        eases_of refl refl refl refl refl refl refl refl refl refl (omega arith) (omega arith) (omega arith);
  },
  refl,
  inl f,
  λ z. fewer σ h w s r rest x,
)
collect_part σ h w h₁ w₁ s (collect nay (collecting r c rest f x k m)) y = (
  record {
    service = goes_on s (call_collect (collecting r c rest f x k m));
    eases =
        eases_of (mark_cong waits r.ticket finished w.table) refl refl refl refl refl
        (mark_cong stays r.ticket finished w.table) refl refl refl (omega (arith, c1)) (omega arith)
        (omega (arith, c2));
  },
  refl,
  inr (r.ticket, (c, refl)),
  λ z. fewer σ h w s r rest x,
)
  where
    c1 :
        count (λ u. waits (put r.ticket finished (stage_of w.table) u)) (tickets_of w.table) ≤ count
        (λ u. waits (stage_of w.table u)) (tickets_of w.table)
    c1 = count_put waits r.ticket finished (stage_of w.table) (tickets_of w.table) (λ z. not_both z refl)

    c2 :
        count (λ u. stays (put r.ticket finished (stage_of w.table) u)) (tickets_of w.table) ≤ count
        (λ u. stays (stage_of w.table u)) (tickets_of w.table)
    c2 = count_put stays r.ticket finished (stage_of w.table) (tickets_of w.table) (λ z. ap stays m.1)

settle_by :
    (σ : Setting) (h : History) (w : World) (e : Event) (v : World) (t : ℕ) (c : Ending) → Service σ h w
    → Enough σ w → w.flight ≡ none_in_flight → w.finish ≡ finish_slip_out t c → Service σ (e ∷ h) v
    → SettlingCause σ w t c e v → Part σ w (e ∷ h) v × (v.finish ≡ no_finish_slip) × (v.launcher ≡ w.launcher)
settle_by σ h w ev v t c s n f e s₁ (settling_20 k) = absurd (k (c, e))
settle_by σ h w ev v t c s n f e s₁ (settling_21 p k g) = clash (cc)
settle_by σ h w ev v t c s n f e s₁ (settling_22 k g l) = absurd none_left
  where
    ok : FinishOk (tickets_of w.table) (stage_of w.table) (finish_slip_out t c)
    ok = subst (FinishOk (tickets_of w.table) (stage_of w.table)) e (holds σ h w s).0.inv.finish_ok

    none_left : ⊥
    none_left =
        let e_n : newest_with w.flight w.newest ≡ w.newest = newest_still w.flight w.newest g in
        let one : 1 ≤ count (λ u. stays (stage_of w.table u)) (tickets_of w.table) =
        count_some (λ u. stays (stage_of w.table u)) (tickets_of w.table) t ok.0 (ap stays ok.1) in
        omega arith
settle_by σ h w ev v t c s n f e s₁ (settling d k g l y) = (
  record {
    service = s₁;
    eases =
        eases_of (mark_cong waits t closing w.table) refl refl refl refl refl
        (mark_cong stays t closing w.table) refl refl e_n (omega (arith, c1)) (omega arith)
        (omega (arith, c2));
  },
  refl,
  refl,
)
  where
    ok : FinishOk (tickets_of w.table) (stage_of w.table) (finish_slip_out t c)
    ok = subst (FinishOk (tickets_of w.table) (stage_of w.table)) e (holds σ h w s).0.inv.finish_ok

    e_n : newest_with w.flight w.newest ≡ w.newest
    e_n = newest_still w.flight w.newest g

    c1 :
        count (λ u. waits (put t closing (stage_of w.table) u)) (tickets_of w.table) ≤ count
        (λ u. waits (stage_of w.table u)) (tickets_of w.table)
    c1 = count_put waits t closing (stage_of w.table) (tickets_of w.table) (λ z. not_both z refl)

    c2 :
        suc (count (λ u. stays (put t closing (stage_of w.table) u)) (tickets_of w.table)) ≤ count
        (λ u. stays (stage_of w.table u)) (tickets_of w.table)
    c2 = count_put_lt stays t closing (stage_of w.table) (tickets_of w.table) ok.0 (ap stays ok.1) refl

pub settle_part :
    (σ : Setting) (h : History) (w : World) (h₁ : History) (w₁ : World) → Service σ h w → Enough σ w
    → w.flight ≡ none_in_flight → NotBack w.finish → SettleAny σ h w h₁ w₁
    → Part σ w h₁ w₁ × (w₁.finish ≡ no_finish_slip) × (w₁.launcher ≡ w.launcher)
settle_part σ h w h₁ w₁ s n f b (none_to_settle nay) = (
  record { service = s; eases = eases_refl },
  elim b [ inl e ↦ e | inr k ↦ absurd (nay k.0 k.1.0 k.1.1) ],
  refl,
)
settle_part σ h w h₁ w₁ s n f b (settle {e = ev} {v = v} t c e q) =
    settle_by σ h w ev v t c s n f e (goes_on s (call_settle t c (subst FinishSound e (more σ h w s).sound) q))
    (settle_cause σ w t c ev v q)
