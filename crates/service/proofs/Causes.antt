-- Each call comes to exactly what has a cause.
use Rattle.std.proofs.Common.{◌≡◌, refl, sym, ap, ap₂, ◌∙◌, subst, inl, inr, List, [], ◌∷◌, true, ℕ, suc, ◌%◌, ◌≤◌, ◌<◌, arith, length, eqb, leb, ltb}
use Rattle.disk.specs.Contents.{Among}
use Rattle.journal_model.specs.Disks.{page, Disk, Written, Synced}
use Rattle.journal_model.specs.Pages.{Page}
use Rattle.journal_model.specs.Runs.{Flight, none_in_flight, in_flight}
use Rattle.page.specs.Limits.{last_page}
use Rattle.page.specs.declared.head.Ending.{Ending}
use Rattle.service.proofs.Calls.{launches}
use Rattle.service.proofs.Lists.{eqb_same, eqb_differ, eqb-true, not_both}
use Rattle.service.proofs.LookCauses.{reading_at, reading_of, look_of, look_at}
use Rattle.service.proofs.Tests.{lt_of, ge_of, lt_true, lt_false, le_of, gt_of, on_true, on_false, either, no_clash, same_due, flight_clash, none_clash, back_clash, same_finish}
use Rattle.service.specs.After.{start_page, done_page}
use Rattle.service.specs.Calls.{Reading, Looking, Logging, Syncing, Launching, Settling, HandingBack}
use Rattle.service.specs.Causes.{Earliest, ReadingCause, LookingCause, LoggingCause, logging_20, logging_21, logging_22, logging, SyncingCause, syncing_nothing, syncing, LaunchingCause, launching_none, launching_23, launching, SettlingCause, settling_20, settling_21, settling_22, settling, HandingBackCause, handing_due_20, handing_finish_20, handing_due, handing_finish, Determined}
use Rattle.service.specs.Events.{to_log, to_settle, to_hand_back, slip_beside, Event}
use Rattle.service.specs.Outcomes.{Outcome, refuse, LogWrites, log_page, log_with, log_outcome, sync_with, sync_outcome, Least, no_ticket, ticket_is, launchable, earlier, least_logged, launch_with, launch_outcome, SettleWrites, settle_page, settle_with, settle_outcome, hand_back_due, hand_back_finish, hand_back_outcome}
use Rattle.service.specs.Setting.{Setting}
use Rattle.service.specs.Table.{Stage, written, logged, running, finished, closing, tickets_of, stage_of}
use Rattle.service.specs.World.{DueSlip, no_due_slip, due_slip_out, FinishSlip, no_finish_slip, finish_slip_out, finish_slip_handed_back, Slip, due_slip, finish_slip, World, FinishOut}

module _ (σ : Setting) (w : World) (t : ℕ) where
  abbrev LogWritten : Disk → Type 0
  LogWritten d = Written w.disk (suc w.newest % σ.blocks) (page (suc w.newest) (start_page w t)) d

  log_at :
      (d : Disk) → (LogWrites w t → LogWritten d)
      → LoggingCause σ w t (log_outcome w t d).0 (log_outcome w t d).1
  log_at d y = by w.slip refl
    where
      P : Outcome → Type 0
      P o = LoggingCause σ w t o.0 o.1

      onto : w.slip ≡ due_slip_out t → (f : Flight) → w.flight ≡ f → P (log_page w t d f)
      onto s (in_flight p) e = logging_21 p s e
      onto s none_in_flight e =
          either P (ltb w.newest last_page) _ _
          (λ q. logging d s e (lt_of w.newest last_page q) (y (s, (e, lt_of w.newest last_page q))))
          (λ q. logging_22 s e (ge_of w.newest last_page q))

      by : (s : DueSlip) → w.slip ≡ s → P (log_with w t d w.flight s)
      by no_due_slip e = logging_20 (no_clash w.slip t e)
      by (due_slip_out u) e =
          either P (eqb u t) _ _ (λ q. onto (e ∙ ap due_slip_out (eqb-true u t q)) w.flight refl)
          (λ q. logging_20 (λ r. not_both (ap (λ z. eqb z t) (same_due w.slip t u e r) ∙ eqb_same t) q))

  pub log_of :
      (e : Event) (v : World) → LoggingCause σ w t e v
      → (d : Disk) × ((LogWrites w t → LogWritten d) × ((e, v) ≡ log_outcome w t d))
  log_of e v (logging_20 k) = (w.disk, ((λ x. absurd (k x.0)), by w.slip refl))
    where
      by :
          (s : DueSlip) → w.slip ≡ s
          → refuse w (to_log t) 20 (slip_beside (due_slip t)) ≡ log_with w t w.disk w.flight s
      by no_due_slip q = refl
      by (due_slip_out u) q = on_false _ _ (eqb_differ u t (λ r. k (q ∙ ap due_slip_out r)))
  log_of e v (logging_21 p s f) = (
    w.disk,
    (
      (λ x. absurd (flight_clash w.flight p f x.1.0)),
      on_true _ _ (eqb_same t) ∙ sym (ap₂ (log_with w t w.disk) f s),
    ),
  )
  log_of e v (logging_22 s f l) = (
    w.disk,
    (
      (λ x. let z : w.newest < last_page = x.1.1 in let k : ⊥ = omega arith in absurd k),
      on_false _ _ (lt_false w.newest last_page l)
          ∙ on_true _ _ (eqb_same t) ∙ sym (ap₂ (log_with w t w.disk) f s),
    ),
  )
  log_of e v (logging d s f l y) = (
    d,
    (
      (λ x. y),
      on_true _ _ (lt_true w.newest last_page l) ∙ on_true _ _ (eqb_same t) ∙ sym (ap₂ (log_with w t d) f s),
    ),
  )

module _ (σ : Setting) (w : World) where
  sync_at :
      (d : Disk) → ((p : Page) → w.flight ≡ in_flight p → Synced w.disk d)
      → SyncingCause σ w (sync_outcome w d).0 (sync_outcome w d).1
  sync_at d y = by w.flight refl
    where
      by : (f : Flight) → w.flight ≡ f → SyncingCause σ w (sync_with w d f).0 (sync_with w d f).1
      by none_in_flight e = syncing_nothing e
      by (in_flight p) e = syncing p d e (y p e)

  pub sync_of :
      (e : Event) (v : World) → SyncingCause σ w e v
      → (d : Disk) × (((p : Page) → w.flight ≡ in_flight p → Synced w.disk d) × ((e, v) ≡ sync_outcome w d))
  sync_of e v (syncing_nothing f) =
      (w.disk, ((λ p q. absurd (flight_clash w.flight p q f)), sym (ap (sync_with w w.disk) f)))
  sync_of e v (syncing p d f y) = (d, ((λ q r. y), sym (ap (sync_with w d) f)))

logged_of : (s : Stage) → launchable s ≡ true → s ≡ logged
logged_of written e = not_both e refl
logged_of logged e = refl
logged_of running e = not_both e refl
logged_of finished e = not_both e refl
logged_of closing e = not_both e refl

abbrev LeastOf : (ℕ → Stage) → List ℕ → ℕ → Type 0
LeastOf g xs t = Among t xs × ((g t ≡ logged) × ((u : ℕ) → Among u xs → g u ≡ logged → t ≤ u))

abbrev Right : (ℕ → Stage) → List ℕ → Least → Type 0
Right g xs no_ticket = (u : ℕ) → Among u xs → ¬ (g u ≡ logged)
Right g xs (ticket_is t) = LeastOf g xs t

join : (x u : ℕ) (xs : List ℕ) (A : Type 0) → (u ≡ x → A) → (Among u xs → A) → Among u (x ∷ xs) → A
join x u xs A a b (inl e) = a e
join x u xs A a b (inr m) = b m

least_right : (g : ℕ → Stage) (xs : List ℕ) → Right g xs (least_logged g xs)
least_right g [] = λ u m. absurd m
least_right g (x ∷ xs) =
    either (Right g (x ∷ xs)) (launchable (g x)) _ _
    (λ e. yes_case (logged_of (g x) e) (least_logged g xs) (least_right g xs))
    (λ e. no_case (λ q. not_both (ap launchable q) e) (least_logged g xs) (least_right g xs))
  where
    yes_case : g x ≡ logged → (l : Least) → Right g xs l → Right g (x ∷ xs) (earlier x l)
    yes_case e no_ticket r = (inl refl, (e, λ u m k. join x u xs (x ≤ u) (λ q. omega arith) (λ a. absurd (r u a k)) m))
    yes_case e (ticket_is y) r =
        either (Right g (x ∷ xs)) (leb x y) _ _
        (λ q. (
          inl refl,
          (
            e,
            λ u m k.
                let z : x ≤ y = le_of x y q in
                join x u xs (x ≤ u) (λ p. omega arith) (λ a. let b : y ≤ u = r.1.1 u a k in omega arith) m,
          ),
        ))
        (λ q. (
          inr r.0,
          (
            r.1.0,
            λ u m k.
                let z : y < x = gt_of x y q in join x u xs (y ≤ u) (λ p. omega arith) (λ a. r.1.1 u a k) m,
          ),
        ))

    no_case : ¬ (g x ≡ logged) → (l : Least) → Right g xs l → Right g (x ∷ xs) l
    no_case d no_ticket r = λ u m k. join x u xs ⊥ (λ q. d (ap g (sym q) ∙ k)) (λ a. r u a k) m
    no_case d (ticket_is y) r = (
      inr r.0,
      (r.1.0, λ u m k. join x u xs (y ≤ u) (λ q. absurd (d (ap g (sym q) ∙ k))) (λ a. r.1.1 u a k) m),
    )

least_none :
    (g : ℕ → Stage) (xs : List ℕ) (l : Least) → Right g xs l → ((u : ℕ) → Among u xs → ¬ (g u ≡ logged))
    → l ≡ no_ticket
least_none g xs no_ticket r n = refl
least_none g xs (ticket_is t) r n = absurd (n t r.0 r.1.0)

least_some : (g : ℕ → Stage) (xs : List ℕ) (l : Least) → Right g xs l → (t : ℕ) → LeastOf g xs t → l ≡ ticket_is t
least_some g xs no_ticket r t k = absurd (r t k.0 k.1.0)
least_some g xs (ticket_is u) r t k =
    ap ticket_is
    (let a : u ≤ t = r.1.1 t k.0 k.1.0 in let b : t ≤ u = k.1.1 u r.0 r.1.0 in omega arith)

module _ (σ : Setting) (w : World) where
  earliest_is : (t : ℕ) → Earliest w t → least_logged (stage_of w.table) (tickets_of w.table) ≡ ticket_is t
  earliest_is t x =
      least_some (stage_of w.table) (tickets_of w.table) _
      (least_right (stage_of w.table) (tickets_of w.table)) t
      (x.is_logged.0, (x.is_logged.1, λ u m k. x.first u (m, k)))

  pub launch_of : (e : Event) (v : World) → LaunchingCause σ w e v → (e, v) ≡ launch_outcome σ w
  launch_of e v (launching_none n) =
      sym
      (ap (launch_with σ w)
      (least_none (stage_of w.table) (tickets_of w.table) _
      (least_right (stage_of w.table) (tickets_of w.table)) (λ u m k. n u (m, k))))
  launch_of e v (launching_23 t x f) =
      on_false _ _ (lt_false (length w.launcher.held) w.launcher.capacity f)
      ∙ sym (ap (launch_with σ w) (earliest_is t x))
  launch_of e v (launching t x f) =
      on_true _ _ (lt_true (length w.launcher.held) w.launcher.capacity f)
      ∙ sym (ap (launch_with σ w) (earliest_is t x))

  launch_at : LaunchingCause σ w (launch_outcome σ w).0 (launch_outcome σ w).1
  launch_at =
      let r = launches σ w in
      subst (λ (o : Outcome). LaunchingCause σ w o.0 o.1) (launch_of r.0 r.1.0 r.1.1) r.1.1

module _ (σ : Setting) (w : World) (t : ℕ) (c : Ending) where
  abbrev DoneWritten : Disk → Type 0
  DoneWritten d = Written w.disk (suc w.newest % σ.blocks) (page (suc w.newest) (done_page w t c)) d

  settle_at :
      (d : Disk) → (SettleWrites w t → DoneWritten d)
      → SettlingCause σ w t c (settle_outcome w t c d).0 (settle_outcome w t c d).1
  settle_at d y = by w.finish refl
    where
      P : Outcome → Type 0
      P o = SettlingCause σ w t c o.0 o.1

      onto : FinishOut w t → (f : Flight) → w.flight ≡ f → P (settle_page w t c d f)
      onto s (in_flight p) e = settling_21 p s e
      onto s none_in_flight e =
          either P (ltb w.newest last_page) _ _
          (λ q. settling d s e (lt_of w.newest last_page q) (y (s, (e, lt_of w.newest last_page q))))
          (λ q. settling_22 s e (ge_of w.newest last_page q))

      by : (s : FinishSlip) → w.finish ≡ s → P (settle_with w t c d w.flight s)
      by no_finish_slip e = settling_20 (λ r. none_clash w.finish t r.0 e r.1)
      by (finish_slip_handed_back u b) e = settling_20 (λ r. back_clash w.finish t u b r.0 e r.1)
      by (finish_slip_out u b) e =
          either P (eqb u t) _ _
          (λ q. onto (b, e ∙ ap (λ z. finish_slip_out z b) (eqb-true u t q)) w.flight refl)
          (λ q.
          settling_20
          (λ r. not_both (ap (λ z. eqb z t) (same_finish w.finish t u b r.0 e r.1) ∙ eqb_same t) q))

  pub settle_of :
      (e : Event) (v : World) → SettlingCause σ w t c e v
      → (d : Disk) × ((SettleWrites w t → DoneWritten d) × ((e, v) ≡ settle_outcome w t c d))
  settle_of e v (settling_20 k) = (w.disk, ((λ x. absurd (k x.0)), by w.finish refl))
    where
      by :
          (s : FinishSlip) → w.finish ≡ s
          → refuse w (to_settle t c) 20 (slip_beside (finish_slip t c)) ≡ settle_with w t c w.disk w.flight s
      by no_finish_slip q = refl
      by (finish_slip_handed_back u b) q = refl
      by (finish_slip_out u b) q = on_false _ _ (eqb_differ u t (λ r. k (b, q ∙ ap (λ z. finish_slip_out z b) r)))
  settle_of e v (settling_21 p s f) = (
    w.disk,
    (
      (λ x. absurd (flight_clash w.flight p f x.1.0)),
      on_true _ _ (eqb_same t) ∙ sym (ap₂ (settle_with w t c w.disk) f s.1),
    ),
  )
  settle_of e v (settling_22 s f l) = (
    w.disk,
    (
      (λ x. let z : w.newest < last_page = x.1.1 in let k : ⊥ = omega arith in absurd k),
      on_false _ _ (lt_false w.newest last_page l)
          ∙ on_true _ _ (eqb_same t) ∙ sym (ap₂ (settle_with w t c w.disk) f s.1),
    ),
  )
  settle_of e v (settling d s f l y) = (
    d,
    (
      (λ x. y),
      on_true _ _ (lt_true w.newest last_page l)
          ∙ on_true _ _ (eqb_same t) ∙ sym (ap₂ (settle_with w t c d) f s.1),
    ),
  )

module _ (σ : Setting) (w : World) where
  hand_back_at : (s : Slip) → HandingBackCause σ w s (hand_back_outcome w s).0 (hand_back_outcome w s).1
  hand_back_at (due_slip t) = by w.slip refl
    where
      P : Outcome → Type 0
      P o = HandingBackCause σ w (due_slip t) o.0 o.1

      by : (s : DueSlip) → w.slip ≡ s → P (hand_back_due w t s)
      by no_due_slip e = handing_due_20 t (no_clash w.slip t e)
      by (due_slip_out u) e =
          either P (eqb u t) _ _ (λ q. handing_due t (e ∙ ap due_slip_out (eqb-true u t q)))
          (λ q. handing_due_20 t (λ r. not_both (ap (λ z. eqb z t) (same_due w.slip t u e r) ∙ eqb_same t) q))
  hand_back_at (finish_slip t c) = by w.finish refl
    where
      P : Outcome → Type 0
      P o = HandingBackCause σ w (finish_slip t c) o.0 o.1

      by : (s : FinishSlip) → w.finish ≡ s → P (hand_back_finish w t c s)
      by no_finish_slip e = handing_finish_20 t c (λ r. none_clash w.finish t r.0 e r.1)
      by (finish_slip_handed_back u b) e = handing_finish_20 t c (λ r. back_clash w.finish t u b r.0 e r.1)
      by (finish_slip_out u b) e =
          either P (eqb u t) _ _ (λ q. handing_finish t c (b, e ∙ ap (λ z. finish_slip_out z b) (eqb-true u t q)))
          (λ q.
          handing_finish_20 t c
          (λ r. not_both (ap (λ z. eqb z t) (same_finish w.finish t u b r.0 e r.1) ∙ eqb_same t) q))

  pub hand_back_of : (s : Slip) (e : Event) (v : World) → HandingBackCause σ w s e v → (e, v) ≡ hand_back_outcome w s
  hand_back_of s e v (handing_due_20 t k) = by w.slip refl
    where
      by :
          (x : DueSlip) → w.slip ≡ x
          → refuse w (to_hand_back (due_slip t)) 20 (slip_beside (due_slip t)) ≡ hand_back_due w t x
      by no_due_slip q = refl
      by (due_slip_out u) q = on_false _ _ (eqb_differ u t (λ r. k (q ∙ ap due_slip_out r)))
  hand_back_of s e v (handing_finish_20 t c k) = by w.finish refl
    where
      by :
          (x : FinishSlip) → w.finish ≡ x
          → refuse w (to_hand_back (finish_slip t c)) 20 (slip_beside (finish_slip t c)) ≡ hand_back_finish w t c x
      by no_finish_slip q = refl
      by (finish_slip_handed_back u b) q = refl
      by (finish_slip_out u b) q = on_false _ _ (eqb_differ u t (λ r. k (b, q ∙ ap (λ z. finish_slip_out z b) r)))
  hand_back_of s e v (handing_due t q) = on_true _ _ (eqb_same t) ∙ sym (ap (hand_back_due w t) q)
  hand_back_of s e v (handing_finish t c q) = on_true _ _ (eqb_same t) ∙ sym (ap (hand_back_finish w t c) q.1)

-- To the causes, and from them.
module _ (σ : Setting) (w : World) where
  pub reading_cause : (m : ℕ) (e : Event) (v : World) → Reading σ w m e v → ReadingCause σ w m e v
  reading_cause m e v q = subst (λ (o : Outcome). ReadingCause σ w m o.0 o.1) (sym q) (reading_at σ w m)

  pub look_cause : (e : Event) (v : World) → Looking σ w e v → LookingCause σ w e v
  look_cause e v q = subst (λ (o : Outcome). LookingCause σ w o.0 o.1) (sym q) (look_at σ w)

  pub log_cause : (t : ℕ) (e : Event) (v : World) → Logging σ w t e v → LoggingCause σ w t e v
  log_cause t e v q =
      subst (λ (o : Outcome). LoggingCause σ w t o.0 o.1) (sym q.1.1) (log_at σ w t q.0 q.1.0)

  pub sync_cause : (e : Event) (v : World) → Syncing σ w e v → SyncingCause σ w e v
  sync_cause e v q =
      subst (λ (o : Outcome). SyncingCause σ w o.0 o.1) (sym q.1.1) (sync_at σ w q.0 q.1.0)

  pub launch_cause : (e : Event) (v : World) → Launching σ w e v → LaunchingCause σ w e v
  launch_cause e v q = subst (λ (o : Outcome). LaunchingCause σ w o.0 o.1) (sym q) (launch_at σ w)

  pub settle_cause :
      (t : ℕ) (c : Ending) (e : Event) (v : World) → Settling σ w t c e v → SettlingCause σ w t c e v
  settle_cause t c e v q =
      subst (λ (o : Outcome). SettlingCause σ w t c o.0 o.1) (sym q.1.1) (settle_at σ w t c q.0 q.1.0)

  pub hand_back_cause : (s : Slip) (e : Event) (v : World) → HandingBack σ w s e v → HandingBackCause σ w s e v
  hand_back_cause s e v q =
      subst (λ (o : Outcome). HandingBackCause σ w s o.0 o.1) (sym q) (hand_back_at σ w s)

pub determined : Determined
determined σ w =
    record {
      reading_cause = reading_cause σ w;
      reading_caused = reading_of σ w;
      look_cause = look_cause σ w;
      look_caused = look_of σ w;
      log_cause = log_cause σ w;
      log_caused = log_of σ w;
      sync_cause = sync_cause σ w;
      sync_caused = sync_of σ w;
      launch_cause = launch_cause σ w;
      launch_caused = launch_of σ w;
      settle_cause = settle_cause σ w;
      settle_caused = settle_of σ w;
      hand_back_cause = hand_back_cause σ w;
      hand_back_caused = hand_back_of σ w;
    }
