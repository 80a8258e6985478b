-- Every call keeps it.
use Rattle.std.proofs.Common.{◌≡◌, refl, sym, ap, ◌∙◌, subst, ◌⊎◌, inl, inr, List, [], ◌∷◌, ◌++◌, ℕ, suc, ◌≤◌, max, arith, length}
use Rattle.std.proofs.Math.Decide.{ℕ_discrete}
use Rattle.disk.specs.Contents.{Among}
use Rattle.journal_model.specs.Lists.{Ascending}
use Rattle.journal_model.specs.Runs.{Flight, none_in_flight}
use Rattle.page.specs.declared.head.Ending.{Ending}
use Rattle.service.proofs.Causes.{reading_cause, look_cause, log_cause, sync_cause, launch_cause, settle_cause, hand_back_cause}
use Rattle.service.proofs.Counts.{taken_length, taken_other}
use Rattle.service.proofs.Further.{SlipNear, Names, FinishSound, run_tickets, runs_snoc, runs_length, runs_taken, MoreAt, put_back, more_cong, more_put}
use Rattle.service.proofs.Held.{InvAt, Holds}
use Rattle.service.proofs.Invariant.{stages_differ, FinishOk, Inv, table_ascending, slip_fresh}
use Rattle.disk.proofs.Among.{among_snoc, snoc_old, snoc_new}
use Rattle.journal_model.proofs.Lists.{among_keep}
use Rattle.service.proofs.Lists.{length_snoc, keep_among}
use Rattle.service.proofs.Promises.{holds}
use Rattle.service.proofs.Table.{put, put_other, tickets_snoc, stage_snoc, tickets_mark, stage_mark, tickets_sync, stage_sync, tickets_logged, stage_logged}
use Rattle.service.specs.After.{run_of}
use Rattle.service.specs.Calls.{Collecting, collecting_18, collecting_handed_back, collecting_none, collecting_other, collecting, Cutting, cutting}
use Rattle.service.specs.Causes.{ReadingCause, reading_13, reading, LookingCause, looking_18, looking_19, looking_due, looking_level, looking_spent, LoggingCause, logging_20, logging_21, logging_22, logging, SyncingCause, syncing_nothing, syncing, LaunchingCause, launching_none, launching_23, launching, SettlingCause, settling_20, settling_21, settling_22, settling, HandingBackCause, handing_due_20, handing_finish_20, handing_due, handing_finish}
use Rattle.service.specs.Events.{Event, History}
use Rattle.service.specs.Histories.{synced_pages, Launched, LaunchedSince}
use Rattle.service.specs.Service.{SoundSlip, Call, call_reading, call_look, call_log, call_sync, call_launch, call_collect, call_settle, call_hand_back, call_cut, Service, begins, goes_on}
use Rattle.service.specs.Setting.{Setting}
use Rattle.service.specs.Table.{Stage, written, logged, running, finished, closing, Entry, tickets_of, stage_of, landed, stays}
use Rattle.service.specs.World.{DueSlip, no_due_slip, due_slip_out, no_finish_slip, finish_slip_out, finish_slip_handed_back, Slip, Run, World}

more_reading :
    (σ : Setting) (h : History) (w : World) (m : ℕ) (v : World) (e : Event) → MoreAt σ h w
    → ReadingCause σ w m e v → MoreAt σ (e ∷ h) v
more_reading σ h w m v e i (reading lo hi) =
    record {
      same_horizon = ap (λ x. max x m) i.same_horizon;
      slip_near = near w.slip i.slip_near;
      running_held = i.running_held;
      fits = i.fits;
      capable = i.capable;
      sound = i.sound;
      finished_named = i.finished_named;
      reopened = i.reopened;
    }
  where
    near : (s : DueSlip) → SlipNear w.horizon s → SlipNear (max w.horizon m) s
    near no_due_slip k = tt
    near (due_slip_out t) k = omega arith
more_reading σ h w m v e i (reading_13 out) = i

more_look :
    (σ : Setting) (h : History) (w v : World) (e : Event) → MoreAt σ h w → LookingCause σ w e v
    → MoreAt σ (e ∷ h) v
more_look σ h w v e i (looking_18 t s) = i
more_look σ h w v e i (looking_19 s f) = i
more_look σ h w v e i (looking_due t s f lo hi near d none) =
    record {
      same_horizon = i.same_horizon;
      slip_near = hi;
      running_held = i.running_held;
      fits = i.fits;
      capable = i.capable;
      sound = i.sound;
      finished_named = i.finished_named;
      reopened = i.reopened;
    }
more_look σ h w v e i (looking_level s f near none) = i
more_look σ h w v e i (looking_spent s f hi none) = i

more_log :
    (σ : Setting) (h : History) (w v : World) (e : Event) (t : ℕ) → InvAt σ h w → MoreAt σ h w
    → LoggingCause σ w t e v → MoreAt σ (e ∷ h) v
more_log σ h w v e t k i (logging_20 s) = i
more_log σ h w v e t k i (logging_21 p s f) = i
more_log σ h w v e t k i (logging_22 s f l) = i
more_log σ h w v e t k i (logging d s f l y) =
    more_cong (tickets_snoc w.table new) (stage_snoc w.table new fresh) (record {
      same_horizon = i.same_horizon;
      slip_near = tt;
      running_held = λ u m r.
          let b = put_back t written (stage_of w.table) u running (omega arith) r in
          i.running_held u (old u m b.1) b.0;
      fits = i.fits;
      capable = i.capable;
      sound = i.sound;
      finished_named = λ u m r.
          let b = put_back t written (stage_of w.table) u finished (omega arith) r in
          i.finished_named u (old u m b.1) b.0;
      reopened = λ u m.
          elim (i.reopened u m) [
            | inl c ↦ inl c
            | inr q ↦
                inr (
                  snoc_old (tickets_of w.table) u t q.0,
                  put_other t written (stage_of w.table) u
                      (λ x. fresh (subst (λ z. Among z (tickets_of w.table)) x q.0))
                      ∙ q.1,
                )
          ];
    })
  where
    new : Entry
    new = record { ticket = t; stage = written }

    P : Flight → DueSlip → Type 0
    P a b =
        Inv σ (λ u. Launched u h) (λ u. LaunchedSince u h) (synced_pages σ h) w.disk w.newest a w.next
        (tickets_of w.table) (stage_of w.table) b w.finish

    fresh : ¬ (Among t (tickets_of w.table))
    fresh = slip_fresh (subst (λ z. P none_in_flight z) s (subst (λ z. P z w.slip) f k))

    old : (u : ℕ) → Among u (tickets_of w.table ++ (t ∷ [])) → ¬ (u ≡ t) → Among u (tickets_of w.table)
    old u m d' = elim (among_snoc (tickets_of w.table) u t m) [ inl a ↦ a | inr q ↦ absurd (d' q) ]

landed_running : (s : Stage) → landed s ≡ running → s ≡ running
landed_running written e = stages_differ logged refl e (omega arith)
landed_running logged e = e
landed_running running e = e
landed_running finished e = e
landed_running closing e = e

landed_finished : (s : Stage) → landed s ≡ finished → s ≡ finished
landed_finished written e = stages_differ logged refl e (omega arith)
landed_finished logged e = e
landed_finished running e = e
landed_finished finished e = e
landed_finished closing e = e

more_sync :
    (σ : Setting) (h : History) (w v : World) (e : Event) → InvAt σ h w → MoreAt σ h w → SyncingCause σ w e v
    → MoreAt σ (e ∷ h) v
more_sync σ h w v e k i (syncing_nothing f) = i
more_sync σ h w v e k i (syncing p d f y) =
    more_cong (tickets_sync w.table asc)
    (λ u m. stage_sync w.table asc u (subst (Among u) (sym (tickets_sync w.table asc)) m)) (record {
      same_horizon = i.same_horizon;
      slip_near = i.slip_near;
      running_held = λ u m r.
          i.running_held u (among_keep (λ x. stays (stage_of w.table x)) (tickets_of w.table) u m).0
          (landed_running (stage_of w.table u) r);
      fits = i.fits;
      capable = i.capable;
      sound = i.sound;
      finished_named = λ u m r.
          i.finished_named u (among_keep (λ x. stays (stage_of w.table x)) (tickets_of w.table) u m).0
          (landed_finished (stage_of w.table u) r);
      reopened = λ u m.
          elim (i.reopened u m) [
            | inl c ↦ inl c
            | inr q ↦
                inr (
                  keep_among (λ x. stays (stage_of w.table x)) (tickets_of w.table) u q.0 (ap stays q.1),
                  ap landed q.1,
                )
          ];
    })
  where
    asc : Ascending (tickets_of w.table)
    asc = table_ascending k

more_launch :
    (σ : Setting) (h : History) (w v : World) (e : Event) → MoreAt σ h w → LaunchingCause σ w e v
    → MoreAt σ (e ∷ h) v
more_launch σ h w v e i (launching_none n) = i
more_launch σ h w v e i (launching_23 t x f) = i
more_launch σ h w v e i (launching t x f) =
    more_cong (tickets_mark t running w.table) (stage_mark t running w.table) (record {
      same_horizon = i.same_horizon;
      slip_near = i.slip_near;
      running_held = λ u m r. subst (Among u) (sym (runs_snoc held (run_of σ t))) (go u m r (ℕ_discrete u t));
      fits =
          let z : length (run_tickets (held ++ (run_of σ t ∷ []))) ≡ length (held ++ (run_of σ t ∷ [])) =
          runs_length (held ++ (run_of σ t ∷ [])) in
          let y : length (held ++ (run_of σ t ∷ [])) ≡ suc (length held) = length_snoc held (run_of σ t) in
          omega (arith, f, z, y);
      capable = i.capable;
      sound = i.sound;
      finished_named = λ u m r.
          i.finished_named u m (put_back t running (stage_of w.table) u finished (omega arith) r).0;
      reopened = λ u m. again u (i.reopened u m) (ℕ_discrete u t);
    })
  where
    held : List Run
    held = w.launcher.held

    go :
        (u : ℕ) → Among u (tickets_of w.table) → put t running (stage_of w.table) u ≡ running → Dec (u ≡ t)
        → Among u (run_tickets held ++ (t ∷ []))
    go u m r (yes q) = subst (λ z. Among z (run_tickets held ++ (t ∷ []))) (sym q) (snoc_new (run_tickets held) t)
    go u m r (no q) =
        snoc_old (run_tickets held) u t
        (i.running_held u m (sym (put_other t running (stage_of w.table) u q) ∙ r))

    again :
        (u : ℕ) → LaunchedSince u h ⊎ (Among u (tickets_of w.table) × (stage_of w.table u ≡ logged))
        → Dec (u ≡ t)
        → ((u ≡ t) ⊎ LaunchedSince u h)
        ⊎ (Among u (tickets_of w.table) × (put t running (stage_of w.table) u ≡ logged))
    again u (inl c) q = inl (inr c)
    again u (inr m) (yes q) = inl (inl q)
    again u (inr m) (no q) = inr (m.0, put_other t running (stage_of w.table) u q ∙ m.1)

more_collect :
    (σ : Setting) (h : History) (w v : World) (e : Event) → MoreAt σ h w → Collecting σ w e v → MoreAt σ (e ∷ h) v
more_collect σ h w v e i (collecting_18 t c f) = i
more_collect σ h w v e i (collecting_handed_back t c f) =
    record {
      same_horizon = i.same_horizon;
      slip_near = i.slip_near;
      running_held = i.running_held;
      fits = i.fits;
      capable = i.capable;
      sound = (let o : FinishSound (finish_slip_handed_back t c) = subst FinishSound f i.sound in o);
      finished_named = λ u m r.
          let o : Names (finish_slip_handed_back t c) u = subst (λ z. Names z u) f (i.finished_named u m r) in o;
      reopened = i.reopened;
    }
more_collect σ h w v e i (collecting_none f) = i
more_collect σ h w v e i (collecting_other r rest f x d) = record {
  same_horizon = i.same_horizon;
  slip_near = i.slip_near;
  running_held = λ u m k.
      taken_other r.ticket (run_tickets w.launcher.held) (run_tickets rest)
      (runs_taken r w.launcher.held rest x) u (i.running_held u m k)
      (λ q. d (subst (λ z. Among z (tickets_of w.table)) q m, ap (stage_of w.table) (sym q) ∙ k));
  fits =
      let z : length (run_tickets w.launcher.held) ≡ suc (length (run_tickets rest)) =
      taken_length r.ticket (run_tickets w.launcher.held) (run_tickets rest)
      (runs_taken r w.launcher.held rest x) in
      let k : length (run_tickets w.launcher.held) ≤ w.launcher.capacity = i.fits in omega (arith, z, k);
  capable = i.capable;
  sound = i.sound;
  finished_named = i.finished_named;
  reopened = i.reopened;
}
more_collect σ h w v e i (collecting r c rest f x code hs) =
    more_cong (tickets_mark t finished w.table) (stage_mark t finished w.table) (record {
      same_horizon = i.same_horizon;
      slip_near = i.slip_near;
      running_held = λ u m k.
          let b = put_back t finished (stage_of w.table) u running (omega arith) k in
          taken_other t (run_tickets w.launcher.held) (run_tickets rest) (runs_taken r w.launcher.held rest x) u
          (i.running_held u m b.0) b.1;
      fits =
          let z : length (run_tickets w.launcher.held) ≡ suc (length (run_tickets rest)) =
          taken_length t (run_tickets w.launcher.held) (run_tickets rest)
          (runs_taken r w.launcher.held rest x) in
          let k : length (run_tickets w.launcher.held) ≤ w.launcher.capacity = i.fits in omega (arith, z, k);
      capable = i.capable;
      sound = code;
      finished_named = λ u m k. named u m k (ℕ_discrete u t);
      reopened = λ u m.
          more_put (tickets_of w.table) (stage_of w.table) (λ z. LaunchedSince z h) t finished
          (λ q. stages_differ (stage_of w.table t) hs.1 q (omega arith)) u (i.reopened u m);
    })
  where
    t : ℕ
    t = r.ticket

    named :
        (u : ℕ) → Among u (tickets_of w.table) → put t finished (stage_of w.table) u ≡ finished → Dec (u ≡ t)
        → u ≡ t
    named u m r (yes q) = q
    named u m r (no q) =
        let o : Names no_finish_slip u =
        subst (λ z. Names z u) f
        (i.finished_named u m (sym (put_other t finished (stage_of w.table) u q) ∙ r)) in
        absurd o

more_settle :
    (σ : Setting) (h : History) (w v : World) (e : Event) (t : ℕ) (c : Ending) → InvAt σ h w → MoreAt σ h w
    → SettlingCause σ w t c e v → MoreAt σ (e ∷ h) v
more_settle σ h w v e t c k i (settling_20 s) = i
more_settle σ h w v e t c k i (settling_21 p s f) = i
more_settle σ h w v e t c k i (settling_22 s f l) = i
more_settle σ h w v e t c k i (settling d s f l y) =
    more_cong (tickets_mark t closing w.table) (stage_mark t closing w.table) (record {
      same_horizon = i.same_horizon;
      slip_near = i.slip_near;
      running_held = λ u m r.
          i.running_held u m (put_back t closing (stage_of w.table) u running (omega arith) r).0;
      fits = i.fits;
      capable = i.capable;
      sound = tt;
      finished_named = λ u m r.
          let b = put_back t closing (stage_of w.table) u finished (omega arith) r in
          let o : Names (finish_slip_out t s.0) u = subst (λ z. Names z u) s.1 (i.finished_named u m b.0) in
          absurd (b.1 o);
      reopened = λ u m.
          more_put (tickets_of w.table) (stage_of w.table) (λ z. LaunchedSince z h) t closing
          (λ q. stages_differ (stage_of w.table t) ok.1 q (omega arith)) u (i.reopened u m);
    })
  where
    ok : FinishOk (tickets_of w.table) (stage_of w.table) (finish_slip_out t s.0)
    ok = subst (FinishOk (tickets_of w.table) (stage_of w.table)) s.1 k.finish_ok

more_hand_back :
    (σ : Setting) (h : History) (w v : World) (e : Event) (b : Slip) → SoundSlip b → MoreAt σ h w
    → HandingBackCause σ w b e v → MoreAt σ (e ∷ h) v
more_hand_back σ h w v e b code i (handing_due_20 t s) = i
more_hand_back σ h w v e b code i (handing_finish_20 t c s) = i
more_hand_back σ h w v e b code i (handing_due t s) =
    record {
      same_horizon = i.same_horizon;
      slip_near = tt;
      running_held = i.running_held;
      fits = i.fits;
      capable = i.capable;
      sound = i.sound;
      finished_named = i.finished_named;
      reopened = i.reopened;
    }
more_hand_back σ h w v e b code i (handing_finish t c f) =
    record {
      same_horizon = i.same_horizon;
      slip_near = i.slip_near;
      running_held = i.running_held;
      fits = i.fits;
      capable = i.capable;
      sound = code;
      finished_named = λ u m r.
          let o : Names (finish_slip_out t f.0) u = subst (λ z. Names z u) f.1 (i.finished_named u m r) in o;
      reopened = i.reopened;
    }

more_cut : (σ : Setting) (h : History) (w v : World) (e : Event) → Cutting σ w e v → MoreAt σ (e ∷ h) v
more_cut σ h w v e (cutting d top s k kk y r) =
    more_cong (tickets_logged s.tickets) (λ u m. stage_logged s.tickets u m)
    (record {
      same_horizon = refl;
      slip_near = tt;
      running_held = λ u m q. stages_differ logged refl q (omega arith);
      fits = omega arith;
      capable = kk;
      sound = tt;
      finished_named = λ u m q. stages_differ logged refl q (omega arith);
      reopened = λ u m. inr (m, refl);
    })

more_step :
    (σ : Setting) (h : History) (w v : World) (e : Event) → Holds σ h w → MoreAt σ h w → Call σ w e v
    → MoreAt σ (e ∷ h) v
more_step σ h w v e k i (call_reading m c) = more_reading σ h w m v e i (reading_cause σ w m e v c)
more_step σ h w v e k i (call_look c) = more_look σ h w v e i (look_cause σ w e v c)
more_step σ h w v e k i (call_log t c) = more_log σ h w v e t k.inv i (log_cause σ w t e v c)
more_step σ h w v e k i (call_sync c) = more_sync σ h w v e k.inv i (sync_cause σ w e v c)
more_step σ h w v e k i (call_launch c) = more_launch σ h w v e i (launch_cause σ w e v c)
more_step σ h w v e k i (call_collect c) = more_collect σ h w v e i c
more_step σ h w v e k i (call_settle t a code c) = more_settle σ h w v e t a k.inv i (settle_cause σ w t a e v c)
more_step σ h w v e k i (call_hand_back b code c) = more_hand_back σ h w v e b code i (hand_back_cause σ w b e v c)
more_step σ h w v e k i (call_cut c) = more_cut σ h w v e c

pub more : (σ : Setting) (h : History) (w : World) → Service σ h w → MoreAt σ h w
more σ h w (begins d k kk y) =
    record {
      same_horizon = refl;
      slip_near = tt;
      running_held = λ u m q. absurd m;
      fits = omega arith;
      capable = kk;
      sound = tt;
      finished_named = λ u m q. absurd m;
      reopened = λ u m. absurd m;
    }
more σ h w (goes_on {h = h'} {w = w'} {e = e'} s c) = more_step σ h' w' w e' (holds σ h' w' s).0 (more σ h' w' s) c
