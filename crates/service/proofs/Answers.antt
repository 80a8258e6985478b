-- What the answers of the calls say.
use Rattle.std.proofs.Common.{◌≡◌, refl, subst, inl, inr, ℕ, suc, ◌-◌, ◌≤◌, arith, length}
use Rattle.journal_model.specs.Runs.{none_in_flight}
use Rattle.page.specs.declared.head.Ending.{Ending}
use Rattle.service.proofs.Causes.{reading_cause, look_cause, log_cause, sync_cause, launch_cause, settle_cause, hand_back_cause}
use Rattle.service.proofs.Lists.{clash}
use Rattle.service.specs.After.{start_page, done_page, run_of}
use Rattle.service.specs.Answers.{ValidTaken, Spent, Level, SlipGiven, LooksRight, LaunchesRight, RightAnswers}
use Rattle.service.specs.Calls.{collecting_18, collecting_handed_back, collecting_none, collecting_other, collecting, cutting}
use Rattle.service.specs.Causes.{ReadingCause, reading_13, reading, LookingCause, looking_18, looking_19, looking_due, looking_level, looking_spent, LoggingCause, logging_20, logging_21, logging_22, logging, SyncingCause, syncing_nothing, syncing, LaunchingCause, launching_none, launching_23, launching, SettlingCause, settling_20, settling_21, settling_22, settling, HandingBackCause, handing_due_20, handing_finish_20, handing_due, handing_finish}
use Rattle.service.specs.Events.{Asked, Beside, handed_back, rejected, Event, was_read, was_logged, launched, settled, replied}
use Rattle.service.specs.Limits.{most_examined}
use Rattle.service.specs.Outcomes.{LogWrites, SettleWrites}
use Rattle.service.specs.Service.{Call, call_reading, call_look, call_log, call_sync, call_launch, call_collect, call_settle, call_hand_back, call_cut}
use Rattle.service.specs.Setting.{Setting}
use Rattle.service.specs.World.{due_slip_out, Slip, due_slip, finish_slip, Run, World, past_horizon, FinishOut}
use Rattle.time.specs.Limits.{first_minute, last_minute}

module _ (σ : Setting) (w : World) where
  taken_reading :
      (m : ℕ) (e : Event) (v : World) → ReadingCause σ w m e v → first_minute ≤ m → m ≤ last_minute → e ≡ was_read m
  taken_reading m e v (reading_13 (inl out)) lo hi = let z : ⊥ = omega arith in absurd z
  taken_reading m e v (reading_13 (inr out)) lo hi = let z : ⊥ = omega arith in absurd z
  taken_reading m e v (reading lo hi) lo' hi' = refl

  taken_log :
      (t : ℕ) (e : Event) (v : World) → LoggingCause σ w t e v → LogWrites w t
      → e ≡ was_logged (suc w.newest) t (start_page w t)
  taken_log t e v (logging_20 s) ok = absurd (s ok.0)
  taken_log t e v (logging_21 p s f) ok = let g : w.flight ≡ none_in_flight = ok.1.0 in clash (cc)
  taken_log t e v (logging_22 s f l) ok = let g = ok.1.1 in let z : ⊥ = omega arith in absurd z
  taken_log t e v (logging d s f l y) ok = refl

  taken_settle :
      (t : ℕ) (c : Ending) (e : Event) (v : World) → SettlingCause σ w t c e v → SettleWrites w t
      → e ≡ settled (suc w.newest) t c (done_page w t c)
  taken_settle t c e v (settling_20 s) ok = absurd (s ok.0)
  taken_settle t c e v (settling_21 p s f) ok = let g : w.flight ≡ none_in_flight = ok.1.0 in clash (cc)
  taken_settle t c e v (settling_22 s f l) ok = let g = ok.1.1 in let z : ⊥ = omega arith in absurd z
  taken_settle t c e v (settling d s f l y) ok = refl

  -- what a valid slip that is handed back is answered
  Out : Slip → Type 0
  Out (due_slip t) = w.slip ≡ due_slip_out t
  Out (finish_slip t c) = FinishOut w t

  taken_back : (s : Slip) (e : Event) (v : World) → HandingBackCause σ w s e v → Out s → e ≡ replied (handed_back s)
  unfolding Out
  taken_back s e v (handing_due_20 t no-slip) ok = absurd (no-slip ok)
  taken_back s e v (handing_finish_20 t c no-slip) ok = absurd (no-slip ok)
  taken_back s e v (handing_due t q) ok = refl
  taken_back s e v (handing_finish t c q) ok = refl

  valid_taken : ValidTaken σ w
  unfolding Out
  valid_taken =
      record {
        reading_taken = λ m e v c. taken_reading m e v (reading_cause σ w m e v c);
        log_taken = λ t e v c. taken_log t e v (log_cause σ w t e v c);
        settle_taken = λ t c e v q. taken_settle t c e v (settle_cause σ w t c e v q);
        due_slip_taken = λ t e v q ok. taken_back (due_slip t) e v (hand_back_cause σ w (due_slip t) e v q) ok;
        finish_slip_taken = λ t c e v q ok.
            taken_back (finish_slip t c) e v (hand_back_cause σ w (finish_slip t c) e v q) ok;
      }

  looks_right : (e : Event) (v : World) → LookingCause σ w e v → LooksRight σ w v e
  looks_right e v (looking_18 t s) =
      record { spent_right = λ n q. clash (cc); level_right = λ n q. clash (cc); slip_right = λ n t q. clash (cc) }
  looks_right e v (looking_19 s f) =
      record { spent_right = λ n q. clash (cc); level_right = λ n q. clash (cc); slip_right = λ n t q. clash (cc) }
  looks_right e v (looking_due t s f lo hi near d none) =
      record {
        spent_right = λ n q. clash (cc);
        level_right = λ n q. clash (cc);
        slip_right = λ n u q.
            let en : suc t - w.next ≡ n = cc in
            let et : t ≡ u = cc in
            subst (λ x. SlipGiven σ w v x u) en (subst (λ x. SlipGiven σ w v (suc t - w.next) x) et (record {
              not_too_many = near;
              counted = omega arith;
              is_due = d;
              none_due = none;
              within = hi;
              stands = refl;
              is_out = refl;
            }));
      }
  looks_right e v (looking_level s f near none) =
      record {
        spent_right = λ n q. clash (cc);
        level_right = λ n q.
            let en : past_horizon w - w.next ≡ n = cc in
            subst (λ x. Level σ w v x) en (record {
              not_too_many = near;
              all_left = refl;
              none_due = λ u a b. none u a (omega arith);
              past = omega arith;
            });
        slip_right = λ n t q. clash (cc);
      }
  looks_right e v (looking_spent s f hi none) =
      record {
        spent_right = λ n q.
            let en : most_examined ≡ n = cc in
            subst (λ x. Spent σ w v x) en
            (record { all_examined = refl; moved_past = refl; none_due = none; within = hi });
        level_right = λ n q. clash (cc);
        slip_right = λ n t q. clash (cc);
      }

  launches_right :
      (v : World) (e : Event) → LaunchingCause σ w e v → (r : Run) → e ≡ launched r → LaunchesRight σ w v r
  launches_right v e (launching_none n) r q = clash (cc)
  launches_right v e (launching_23 t x f) r q = clash (cc)
  launches_right v e (launching t x f) r q =
      let er : run_of σ t ≡ r = cc in
      subst (λ y. LaunchesRight σ w v y) er
      (record { had_place = f; was_ready = x.is_logged; own_command = refl; now_held = refl })

  full_only :
      (v : World) (e : Event) → LaunchingCause σ w e v → (a : Asked) (n : ℕ) (b : Beside)
      → e ≡ replied (rejected a n b)
      → w.launcher.capacity ≤ length w.launcher.held
  full_only v e (launching_none none) a n b q = clash (cc)
  full_only v e (launching_23 t x f) a n b q = f
  full_only v e (launching t x f) a n b q = clash (cc)

  reading_unaltered :
      (m : ℕ) (e : Event) (v : World) → ReadingCause σ w m e v → (a : Asked) (n : ℕ) (b : Beside)
      → e ≡ replied (rejected a n b) → v ≡ w
  reading_unaltered m e v (reading_13 out) a n b q = refl
  reading_unaltered m e v (reading lo hi) a n b q = clash (cc)

  look_unaltered :
      (e : Event) (v : World) → LookingCause σ w e v → (a : Asked) (n : ℕ) (b : Beside)
      → e ≡ replied (rejected a n b) → v ≡ w
  look_unaltered e v (looking_18 t s) a n b q = refl
  look_unaltered e v (looking_19 s f) a n b q = refl
  look_unaltered e v (looking_due t s f lo hi near d none) a n b q = clash (cc)
  look_unaltered e v (looking_level s f near none) a n b q = clash (cc)
  look_unaltered e v (looking_spent s f hi none) a n b q = clash (cc)

  log_unaltered :
      (t : ℕ) (e : Event) (v : World) → LoggingCause σ w t e v → (a : Asked) (n : ℕ) (b : Beside)
      → e ≡ replied (rejected a n b) → v ≡ w
  log_unaltered t e v (logging_20 s) a n b q = refl
  log_unaltered t e v (logging_21 p s f) a n b q = refl
  log_unaltered t e v (logging_22 s f l) a n b q = refl
  log_unaltered t e v (logging d s f l y) a n b q = clash (cc)

  sync_unaltered :
      (e : Event) (v : World) → SyncingCause σ w e v → (a : Asked) (n : ℕ) (b : Beside)
      → e ≡ replied (rejected a n b) → v ≡ w
  sync_unaltered e v (syncing_nothing f) a n b q = refl
  sync_unaltered e v (syncing p d f y) a n b q = clash (cc)

  launch_unaltered :
      (e : Event) (v : World) → LaunchingCause σ w e v → (a : Asked) (n : ℕ) (b : Beside)
      → e ≡ replied (rejected a n b) → v ≡ w
  launch_unaltered e v (launching_none none) a n b q = refl
  launch_unaltered e v (launching_23 t x f) a n b q = refl
  launch_unaltered e v (launching t x f) a n b q = clash (cc)

  settle_unaltered :
      (t : ℕ) (c : Ending) (e : Event) (v : World) → SettlingCause σ w t c e v → (a : Asked) (n : ℕ) (b : Beside)
      → e ≡ replied (rejected a n b) → v ≡ w
  settle_unaltered t c e v (settling_20 s) a n b q = refl
  settle_unaltered t c e v (settling_21 p s f) a n b q = refl
  settle_unaltered t c e v (settling_22 s f l) a n b q = refl
  settle_unaltered t c e v (settling d s f l y) a n b q = clash (cc)

  hand_back_unaltered :
      (s : Slip) (e : Event) (v : World) → HandingBackCause σ w s e v → (a : Asked) (n : ℕ) (b : Beside)
      → e ≡ replied (rejected a n b) → v ≡ w
  hand_back_unaltered s e v (handing_due_20 t x) a n b q = refl
  hand_back_unaltered s e v (handing_finish_20 t c x) a n b q = refl
  hand_back_unaltered s e v (handing_due t x) a n b q = clash (cc)
  hand_back_unaltered s e v (handing_finish t c x) a n b q = clash (cc)

  unaltered :
      (e : Event) (v : World) → Call σ w e v → (a : Asked) (n : ℕ) (b : Beside) → e ≡ replied (rejected a n b) → v ≡ w
  unaltered e v (call_reading m c) = reading_unaltered m e v (reading_cause σ w m e v c)
  unaltered e v (call_look c) = look_unaltered e v (look_cause σ w e v c)
  unaltered e v (call_log t c) = log_unaltered t e v (log_cause σ w t e v c)
  unaltered e v (call_sync c) = sync_unaltered e v (sync_cause σ w e v c)
  unaltered e v (call_launch c) = launch_unaltered e v (launch_cause σ w e v c)
  unaltered e v (call_settle t c k q) = settle_unaltered t c e v (settle_cause σ w t c e v q)
  unaltered e v (call_hand_back s k q) = hand_back_unaltered s e v (hand_back_cause σ w s e v q)
  unaltered e v (call_collect (collecting_18 t c f)) = λ a n b q. refl
  unaltered e v (call_collect (collecting_handed_back t c f)) = λ a n b q. clash (cc)
  unaltered e v (call_collect (collecting_none f)) = λ a n b q. refl
  unaltered e v (call_collect (collecting_other r rest f x d)) = λ a n b q. clash (cc)
  unaltered e v (call_collect (collecting r c rest f x k m)) = λ a n b q. clash (cc)
  unaltered e v (call_cut (cutting d top s k kk y r)) = λ a n b q. clash (cc)

pub right_answers : RightAnswers
right_answers σ w =
    record {
      valid = valid_taken σ w;
      looks = λ e v c. looks_right σ w e v (look_cause σ w e v c);
      launches = λ v e c. launches_right σ w v e (launch_cause σ w e v c);
      full_only = λ v e c. full_only σ w v e (launch_cause σ w e v c);
      unaltered = unaltered σ w;
    }
