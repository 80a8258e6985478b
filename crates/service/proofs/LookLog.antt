-- What the look and the log of a round do to the work that is left.
use Rattle.std.proofs.Common.{◌≡◌, refl, sym, ap, ◌∙◌, subst, [], ◌∷◌, ◌++◌, Bool, ℕ, suc, ◌+◌, ◌-◌, ◌/◌, ◌≤◌, max, arith, length}
use Rattle.disk.specs.Contents.{Among}
use Rattle.journal_model.specs.Pages.{Page}
use Rattle.journal_model.specs.Runs.{Flight, none_in_flight, in_flight}
use Rattle.page.specs.Limits.{last_page}
use Rattle.service.proofs.Causes.{look_cause, log_cause}
use Rattle.service.proofs.Counts.{count, count_le, count_snoc, due_one}
use Rattle.service.proofs.Held.{InvAt}
use Rattle.service.proofs.Invariant.{SlipOk, Inv, slip_fresh}
use Rattle.disk.proofs.Among.{snoc_new}
use Rattle.service.proofs.Further.{SlipNear}
use Rattle.service.proofs.More.{more}
use Rattle.service.proofs.Promises.{holds}
use Rattle.service.proofs.Table.{put, put_same, put_other, tickets_snoc, stage_snoc}
use Rattle.service.proofs.Work.{newest_with, waits, waiting, work, pages, Eases, eases_refl, eases_of, count_cong, due_same}
use Rattle.service.specs.Causes.{LookingCause, looking_18, looking_19, looking_due, looking_level, looking_spent, LoggingCause, logging_20, logging_21, logging_22, logging}
use Rattle.service.specs.Events.{Event, History}
use Rattle.service.specs.Histories.{synced_pages, Launched, LaunchedSince}
use Rattle.service.specs.Lists.{how_many}
use Rattle.service.specs.Progress.{due_between, due_ahead}
use Rattle.service.specs.Rounds.{LookUnlessOut, slip_is_out, look, LogAny, none_to_log, log}
use Rattle.service.specs.Service.{call_look, call_log, Service, goes_on}
use Rattle.service.specs.Setting.{Setting, due_at}
use Rattle.service.specs.Table.{Stage, written, Entry, tickets_of, stage_of, stays}
use Rattle.service.specs.World.{DueSlip, no_due_slip, due_slip_out, World, past_horizon}

-- What a look can have come to.
pub data LookCase (σ : Setting) (w v : World) : Type 0 where
  case_out : (t : ℕ) → v.slip ≡ due_slip_out t → LookCase σ w v
  case_spent : suc (work σ v) ≤ work σ w → LookCase σ w v
  case_level : v.slip ≡ no_due_slip → due_ahead σ v ≡ 0 → LookCase σ w v
  case_full : v.slip ≡ no_due_slip → 16 ≤ length (tickets_of v.table) → LookCase σ w v

-- the service goes on to v, and nothing gets more
pub record Part (σ : Setting) (w : World) (h : History) (v : World) : Type 0 where
  pub service : Service σ h v
  pub eases : Eases σ w v

look_by :
    (σ : Setting) (h : History) (w : World) (e : Event) (v : World) → Service σ (e ∷ h) v → LookingCause σ w e v
    → Part σ w (e ∷ h) v
    × (v.flight ≡ w.flight)
    × (v.finish ≡ w.finish)
    × (v.launcher ≡ w.launcher)
    × LookCase σ w v
look_by σ h w ev v s (looking_18 t k) = (record { service = s; eases = eases_refl }, refl, refl, refl, case_out t k)
look_by σ h w ev v s (looking_19 k f) = (record { service = s; eases = eases_refl }, refl, refl, refl, case_full k f)
look_by σ h w ev v s (looking_due t k f lo hi near d none) =
    let e_f : due_between σ w.next (past_horizon w) ≡ due_between σ t (past_horizon w) =
    due_same σ w.next t (past_horizon w) lo (omega arith) none in (
      record {
        service = s;
        eases = eases_of refl refl refl e_f refl refl refl refl refl refl (omega arith) (omega arith) (omega arith);
      },
      refl,
      refl,
      refl,
      case_out t refl,
    )
look_by σ h w ev v s (looking_level k f near none) =
    let n : ℕ = max w.next (past_horizon w) in
    let e0 : past_horizon w - n ≡ 0 = omega arith in
    let e_f : how_many (due_at σ) n (past_horizon w - n) ≡ 0 = ap (how_many (due_at σ) n) e0 in (
      record {
        service = s;
        eases = eases_of refl refl e_f refl e0 refl refl refl refl refl (omega arith) (omega arith) (omega arith);
      },
      refl,
      refl,
      refl,
      case_level k e_f,
    )
look_by σ h w ev v s (looking_spent k f hi none) =
    let m : ℕ = w.next + 4096 in
    let e_f : due_between σ w.next (past_horizon w) ≡ due_between σ m (past_horizon w) =
    due_same σ w.next m (past_horizon w) (omega arith) (omega arith) none in
    let e_q : past_horizon w - w.next ≡ 4096 + (past_horizon w - m) = omega arith in (
      record {
        service = s;
        eases = eases_of refl refl refl e_f refl e_q refl refl refl refl (omega arith) (omega arith) (omega arith);
      },
      refl,
      refl,
      refl,
      case_spent
          (spends (waiting w) (due_between σ w.next (past_horizon w)) (due_between σ m (past_horizon w))
          (past_horizon w - w.next) (past_horizon w - m) e_f e_q),
    )
  where
    spends : (a b c p q : ℕ) → b ≡ c → p ≡ 4096 + q → suc (a + c + q / 4096) ≤ a + b + p / 4096
    spends a b c p q e e' = omega arith

pub look_part :
    (σ : Setting) (h : History) (w : World) (h₁ : History) (w₁ : World) → Service σ h w
    → LookUnlessOut σ h w h₁ w₁
    → Part σ w h₁ w₁
    × (w₁.flight ≡ w.flight)
    × (w₁.finish ≡ w.finish)
    × (w₁.launcher ≡ w.launcher)
    × LookCase σ w w₁
look_part σ h w h₁ w₁ s (slip_is_out t e) = (record { service = s; eases = eases_refl }, refl, refl, refl, case_out t e)
look_part σ h w h₁ w₁ s (look {e = ev} {v = v} e c) =
    look_by σ h w ev v (goes_on s (call_look c)) (look_cause σ w ev v c)

-- page numbers suffice for all that is left
abbrev pub Enough : Setting → World → Type 0
Enough σ w = pages σ w ≤ last_page

-- What a log can have come to.
pub data LogCase (w v : World) : Type 0 where
  log_none : w.slip ≡ no_due_slip → v ≡ w → LogCase w v
  log_done :
      (t : ℕ) (p : Page) → Among t (tickets_of v.table) → stage_of v.table t ≡ written
      → v.flight ≡ in_flight p → LogCase w v
  log_air : (p : Page) → w.flight ≡ in_flight p → LogCase w v

pub newest_still : (f : Flight) (n : ℕ) → f ≡ none_in_flight → newest_with f n ≡ n
newest_still f n e = ap (λ z. newest_with z n) e

pub newest_flying : (f : Flight) (n : ℕ) (p : Page) → f ≡ in_flight p → newest_with f n ≡ suc n
newest_flying f n p e = ap (λ z. newest_with z n) e

log_by :
    (σ : Setting) (h : History) (w : World) (e : Event) (v : World) (t : ℕ) → Service σ h w → Enough σ w
    → w.slip ≡ due_slip_out t → Service σ (e ∷ h) v → LoggingCause σ w t e v
    → Part σ w (e ∷ h) v × (v.finish ≡ w.finish) × (v.launcher ≡ w.launcher) × LogCase w v
log_by σ h w ev v t s n e s₁ (logging_20 k) = absurd (k e)
log_by σ h w ev v t s n e s₁ (logging_21 p k f) = (record { service = s₁; eases = eases_refl }, refl, refl, log_air p f)
log_by σ h w ev v t s n e s₁ (logging_22 k f l) = absurd none_left
  where
    inv : InvAt σ h w
    inv = (holds σ h w s).0.inv

    ok : SlipOk σ w.next (tickets_of w.table) (due_slip_out t)
    ok = subst (SlipOk σ w.next (tickets_of w.table)) e inv.slip_ok

    near : SlipNear w.horizon (due_slip_out t)
    near = subst (SlipNear w.horizon) e (more σ h w s).slip_near

    none_left : ⊥
    none_left =
        let e_n : newest_with w.flight w.newest ≡ w.newest = newest_still w.flight w.newest f in
        let e1 :
        how_many (due_at σ) w.next (past_horizon w - w.next) ≡ how_many (due_at σ) t
        (past_horizon w - t) =
        ap (λ z. how_many (due_at σ) z (past_horizon w - z)) (sym ok.0) in
        let e2 :
        how_many (due_at σ) t (past_horizon w - t) ≡ suc
        (how_many (due_at σ) (suc t) (past_horizon w - suc t)) =
        due_one (due_at σ) t (past_horizon w - suc t) (past_horizon w - t) (omega (arith, near)) ok.1 in
        omega arith
log_by σ h w ev v t s n e s₁ (logging d k f l y) = (
  record {
    service = s₁;
    eases =
        eases_of (cong waits) refl refl (e1 ∙ e2) refl refl (cong stays) refl refl e_n (omega (arith, c1))
        (omega (arith, same_next)) (omega (arith, c2));
  },
  refl,
  refl,
  log_done t _ (subst (Among t) (sym (tickets_snoc w.table new)) (snoc_new (tickets_of w.table) t))
      (stage_snoc w.table new fresh t (snoc_new (tickets_of w.table) t)
      ∙ put_same t written (stage_of w.table) t refl)
      refl,
)
  where
    inv : InvAt σ h w
    inv = (holds σ h w s).0.inv

    ok : SlipOk σ w.next (tickets_of w.table) (due_slip_out t)
    ok = subst (SlipOk σ w.next (tickets_of w.table)) e inv.slip_ok

    near : SlipNear w.horizon (due_slip_out t)
    near = subst (SlipNear w.horizon) e (more σ h w s).slip_near

    same_next : t ≡ w.next
    same_next = ok.0

    P : Flight → DueSlip → Type 0
    P a b =
        Inv σ (λ u. Launched u h) (λ u. LaunchedSince u h) (synced_pages σ h) w.disk w.newest a w.next
        (tickets_of w.table) (stage_of w.table) b w.finish

    fresh : ¬ (Among t (tickets_of w.table))
    fresh = slip_fresh (subst (λ z. P none_in_flight z) k (subst (λ z. P z w.slip) f inv))

    new : Entry
    new = record { ticket = t; stage = written }

    cong :
        (q : Stage → Bool)
        → count (λ u. q (stage_of (w.table ++ (new ∷ [])) u)) (tickets_of (w.table ++ (new ∷ []))) ≡ count
        (λ u. q (put t written (stage_of w.table) u)) (tickets_of w.table ++ (t ∷ []))
    cong q =
        count_cong q (tickets_of w.table ++ (t ∷ [])) (tickets_of (w.table ++ (new ∷ [])))
        (put t written (stage_of w.table)) (stage_of (w.table ++ (new ∷ []))) (tickets_snoc w.table new)
        (stage_snoc w.table new fresh)

    e_n : newest_with w.flight w.newest ≡ w.newest
    e_n = newest_still w.flight w.newest f

    e1 : how_many (due_at σ) w.next (past_horizon w - w.next) ≡ how_many (due_at σ) t (past_horizon w - t)
    e1 = ap (λ z. how_many (due_at σ) z (past_horizon w - z)) (sym ok.0)

    e2 : how_many (due_at σ) t (past_horizon w - t) ≡ suc (how_many (due_at σ) (suc t) (past_horizon w - suc t))
    e2 = due_one (due_at σ) t (past_horizon w - suc t) (past_horizon w - t) (omega (arith, near)) ok.1

    counted :
        (q : Stage → Bool)
        → count (λ u. q (put t written (stage_of w.table) u)) (tickets_of w.table ++ (t ∷ [])) ≤ suc
        (count (λ u. q (stage_of w.table u)) (tickets_of w.table))
    counted q =
        let a :
        count (λ u. q (put t written (stage_of w.table) u)) (tickets_of w.table ++ (t ∷ [])) ≤ suc
        (count (λ u. q (put t written (stage_of w.table) u)) (tickets_of w.table)) =
        count_snoc (λ u. q (put t written (stage_of w.table) u)) (tickets_of w.table) t in
        let b :
        count (λ u. q (put t written (stage_of w.table) u)) (tickets_of w.table) ≤ count
        (λ u. q (stage_of w.table u)) (tickets_of w.table) =
        count_le (λ u. q (stage_of w.table u)) (λ u. q (put t written (stage_of w.table) u))
        (tickets_of w.table)
        (λ u m z.
        sym
        (ap q
        (put_other t written (stage_of w.table) u
        (λ x. fresh (subst (λ v. Among v (tickets_of w.table)) x m))))
        ∙ z) in
        omega arith

    c1 :
        count (λ u. waits (put t written (stage_of w.table) u)) (tickets_of w.table ++ (t ∷ [])) ≤ suc
        (count (λ u. waits (stage_of w.table u)) (tickets_of w.table))
    c1 = counted waits

    c2 :
        count (λ u. stays (put t written (stage_of w.table) u)) (tickets_of w.table ++ (t ∷ [])) ≤ suc
        (count (λ u. stays (stage_of w.table u)) (tickets_of w.table))
    c2 = counted stays

pub log_part :
    (σ : Setting) (h : History) (w : World) (h₁ : History) (w₁ : World) → Service σ h w → Enough σ w
    → LogAny σ h w h₁ w₁ → Part σ w h₁ w₁ × (w₁.finish ≡ w.finish) × (w₁.launcher ≡ w.launcher) × LogCase w w₁
log_part σ h w h₁ w₁ s n (none_to_log e) = (record { service = s; eases = eases_refl }, refl, refl, log_none e refl)
log_part σ h w h₁ w₁ s n (log {e = ev} {v = v} t e c) =
    log_by σ h w ev v t s n e (goes_on s (call_log t c)) (log_cause σ w t ev v c)
