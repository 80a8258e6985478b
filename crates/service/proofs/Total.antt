-- Every call has an outcome, so any number of rounds can follow.
use Rattle.std.proofs.Common.{◌≡◌, refl, sym, subst, ◌⊎◌, inl, inr, List, [], ◌∷◌, ℕ, zero, suc, ◌+◌, ◌*◌, ◌%◌, ◌≤◌, ◌<◌, max, arith}
use Rattle.std.proofs.Math.Decide.{ℕ_discrete, dec_lt}
use Rattle.disk.specs.Contents.{Among}
use Rattle.journal_model.specs.Disks.{page}
use Rattle.journal_model.specs.Pages.{Page}
use Rattle.journal_model.specs.Positions.{minute_of}
use Rattle.journal_model.specs.Runs.{none_in_flight, in_flight}
use Rattle.page.specs.Limits.{last_page}
use Rattle.page.specs.declared.head.Ending.{Ending}
use Rattle.service.proofs.Calls.{launches, HasOutcome, looks, slips, flights}
use Rattle.service.proofs.Causes.{log_of, sync_of, launch_of, settle_of}
use Rattle.service.proofs.Disks.{writes, syncs, formats}
use Rattle.service.proofs.Further.{FinishSound}
use Rattle.service.proofs.Invariant.{stages_differ}
use Rattle.service.proofs.Lists.{clash}
use Rattle.service.proofs.LookCauses.{reading_of, look_of}
use Rattle.service.proofs.More.{more}
use Rattle.service.proofs.Promises.{holds}
use Rattle.service.proofs.Readings.{rounds_service, rounds_reading}
use Rattle.service.proofs.Rounds.{catching_up}
use Rattle.service.specs.After.{start_page, done_page}
use Rattle.service.specs.Calls.{Syncing, Launching, Collecting, collecting_handed_back, collecting_none, collecting_other, collecting}
use Rattle.service.specs.Causes.{reading, LoggingCause, logging_21, logging_22, logging, SyncingCause, syncing_nothing, syncing, SettlingCause, settling_21, settling_22, settling}
use Rattle.service.specs.Events.{History}
use Rattle.service.specs.Histories.{greatest_reading}
use Rattle.service.specs.Lists.{Taken, here}
use Rattle.service.specs.Progress.{due_between, RoundsFollow, Reached}
use Rattle.service.specs.Rounds.{LookUnlessOut, slip_is_out, look, LogAny, none_to_log, log, CollectUnlessOut, finish_is_out, collect, SettleAny, none_to_settle, settle, Round, round, Rounds, no_round, one_more, PartYields, RoundYields, CollectYields}
use Rattle.service.specs.Service.{call_reading, call_look, call_log, call_sync, call_launch, call_collect, call_settle, Service, begins, goes_on}
use Rattle.service.specs.Setting.{Setting, first_position}
use Rattle.service.specs.Table.{Stage, written, logged, running, finished, closing, tickets_of, stage_of}
use Rattle.service.specs.World.{due_slip_out, FinishSlip, no_finish_slip, finish_slip_out, finish_slip_handed_back, Run, World}
use Rattle.time.specs.Position.{rank_of}

-- a part of a round can follow, and the service goes on
abbrev Part : (History → World → History → World → Type 0) → Setting → History → World → Type 0
Part R σ h w = (h' : History) × ((w' : World) × (R h w h' w' × Service σ h' w'))

look_total : (σ : Setting) (h : History) (w : World) → Service σ h w → Part (LookUnlessOut σ) σ h w
look_total σ h w s =
    elim (slips w.slip) [
      | inl e ↦
          (let r = looks σ w e in
          let c = look_of σ w r.0 r.1.0 r.1.1 in
          (r.0 ∷ h, (r.1.0, (look e c, goes_on s (call_look c)))))
      | inr e ↦ (h, (w, (slip_is_out e.0 e.1, s)))
    ]

log_total : (σ : Setting) (h : History) (w : World) → Service σ h w → Part (LogAny σ) σ h w
log_total σ h w s =
    elim (slips w.slip) [
      | inl e ↦ (h, (w, (none_to_log e, s)))
      | inr e ↦ made e.0 e.1 (logs e.0 e.1 (flights w.flight) (dec_lt w.newest last_page))
    ]
  where
    logs :
        (t : ℕ) → w.slip ≡ due_slip_out t → (w.flight ≡ none_in_flight) ⊎ ((p : Page) × (w.flight ≡ in_flight p))
        → Dec (w.newest < last_page) → HasOutcome (λ x e v. LoggingCause σ x t e v) w
    logs t e (inr f) n = (_, (_, logging_21 f.0 e f.1))
    logs t e (inl f) (no n) = (_, (_, logging_22 e f (omega arith)))
    logs t e (inl f) (yes n) =
        let d =
        writes w.disk (suc w.newest % σ.blocks) (page (suc w.newest) (start_page w t))
        (holds σ h w s).0.inv.journal.includes in
        (_, (_, logging d.0 e f n d.1))

    made :
        (t : ℕ) → w.slip ≡ due_slip_out t → HasOutcome (λ x e v. LoggingCause σ x t e v) w
        → Part (LogAny σ) σ h w
    made t e r =
        let c = log_of σ w t r.0 r.1.0 r.1.1 in
        (r.0 ∷ h, (r.1.0, (log t e c, goes_on s (call_log t c))))

sync_causes : (σ : Setting) (w : World) → HasOutcome (SyncingCause σ) w
sync_causes σ w =
    elim (flights w.flight) [
      | inl f ↦ (_, (_, syncing_nothing f))
      | inr f ↦ (let d = syncs w.disk in (_, (_, syncing f.0 d.0 f.1 d.1)))
    ]

sync_total : (σ : Setting) (w : World) → HasOutcome (Syncing σ) w
sync_total σ w = let r = sync_causes σ w in (r.0, (r.1.0, sync_of σ w r.0 r.1.0 r.1.1))

launch_total : (σ : Setting) (w : World) → HasOutcome (Launching σ) w
launch_total σ w = let r = launches σ w in (r.0, (r.1.0, launch_of σ w r.0 r.1.0 r.1.1))

running? : (s : Stage) → Dec (s ≡ running)
running? written = no (λ e. stages_differ written refl e (omega arith))
running? logged = no (λ e. stages_differ logged refl e (omega arith))
running? running = yes refl
running? finished = no (λ e. stages_differ finished refl e (omega arith))
running? closing = no (λ e. stages_differ closing refl e (omega arith))

among? : (t : ℕ) (xs : List ℕ) → Dec (Among t xs)
among? t [] = no (λ m. m)
among? t (x ∷ xs) = go (ℕ_discrete t x) (among? t xs)
  where
    go : Dec (t ≡ x) → Dec (Among t xs) → Dec (Among t (x ∷ xs))
    go (yes e) m = yes (inl e)
    go (no e) (yes m) = yes (inr m)
    go (no e) (no m) = no (elim [ inl k ↦ e k | inr k ↦ m k ])

no_out : (f : FinishSlip) → f ≡ no_finish_slip → (t : ℕ) (c : Ending) → ¬ (f ≡ finish_slip_out t c)
no_out f e t c q = clash (cc)

back_not_out :
    (f : FinishSlip) (t' : ℕ) (c' : Ending) → f ≡ finish_slip_handed_back t' c' → (t : ℕ) (c : Ending)
    → ¬ (f ≡ finish_slip_out t c)
back_not_out f t' c' e t c q = clash (cc)

-- Of a launcher whose runs end at once, with code 0, oldest first.
abbrev CollectPart : Setting → History → World → Type 0
CollectPart σ h w =
    (h' : History) × ((w' : World) × ((c : CollectUnlessOut σ h w h' w') × (PartYields σ c × Service σ h' w')))

collect_total : (σ : Setting) (h : History) (w : World) → Service σ h w → CollectPart σ h w
collect_total σ h w s = by w.finish refl w.launcher.held refl
  where
    some :
        (x : Run) (rest : List Run) → w.finish ≡ no_finish_slip → w.launcher.held ≡ x ∷ rest
        → Dec (Among x.ticket (tickets_of w.table)) → Dec (stage_of w.table x.ticket ≡ running)
        → CollectPart σ h w
    some x rest f e (yes m) (yes r) =
        let c : Collecting σ w _ _ =
        collecting x (record { code = 0 }) rest f (subst (λ z. Taken x z rest) (sym e) here) (omega arith)
        (m, r) in
        (_, (_, (collect (no_out w.finish f) c, (tt, goes_on s (call_collect c)))))
    some x rest f e (yes m) (no r) =
        let c : Collecting σ w _ _ =
        collecting_other x rest f (subst (λ z. Taken x z rest) (sym e) here) (λ k. r k.1) in
        (_, (_, (collect (no_out w.finish f) c, (tt, goes_on s (call_collect c)))))
    some x rest f e (no m) r =
        let c : Collecting σ w _ _ =
        collecting_other x rest f (subst (λ z. Taken x z rest) (sym e) here) (λ k. m k.0) in
        (_, (_, (collect (no_out w.finish f) c, (tt, goes_on s (call_collect c)))))

    by : (f : FinishSlip) → w.finish ≡ f → (xs : List Run) → w.launcher.held ≡ xs → CollectPart σ h w
    by (finish_slip_out t c) f xs e = (h, (w, (finish_is_out t c f, (tt, s))))
    by (finish_slip_handed_back t c) f xs e = (
      _,
      (
        _,
        (
          collect (back_not_out w.finish t c f) (collecting_handed_back t c f),
          (tt, goes_on s (call_collect (collecting_handed_back t c f))),
        ),
      ),
    )
    by no_finish_slip f [] e = (
      _,
      (
        _,
        (collect (no_out w.finish f) (collecting_none f), (e, goes_on s (call_collect (collecting_none f)))),
      ),
    )
    by no_finish_slip f (x ∷ rest) e =
        some x rest f e (among? x.ticket (tickets_of w.table)) (running? (stage_of w.table x.ticket))

settle_total : (σ : Setting) (h : History) (w : World) → Service σ h w → Part (SettleAny σ) σ h w
settle_total σ h w s = by w.finish refl
  where
    settles :
        (t : ℕ) (c : Ending) → w.finish ≡ finish_slip_out t c
        → (w.flight ≡ none_in_flight) ⊎ ((p : Page) × (w.flight ≡ in_flight p)) → Dec (w.newest < last_page)
        → HasOutcome (λ x e v. SettlingCause σ x t c e v) w
    settles t c e (inr f) n = (_, (_, settling_21 f.0 (c, e) f.1))
    settles t c e (inl f) (no n) = (_, (_, settling_22 (c, e) f (omega arith)))
    settles t c e (inl f) (yes n) =
        let d =
        writes w.disk (suc w.newest % σ.blocks) (page (suc w.newest) (done_page w t c))
        (holds σ h w s).0.inv.journal.includes in
        (_, (_, settling d.0 (c, e) f n d.1))

    made :
        (t : ℕ) (c : Ending) → w.finish ≡ finish_slip_out t c → HasOutcome (λ x e v. SettlingCause σ x t c e v) w
        → Part (SettleAny σ) σ h w
    made t c e r =
        let q = settle_of σ w t c r.0 r.1.0 r.1.1 in (
          r.0 ∷ h,
          (r.1.0, (settle t c e q, goes_on s (call_settle t c (subst FinishSound e (more σ h w s).sound) q))),
        )

    by : (f : FinishSlip) → w.finish ≡ f → Part (SettleAny σ) σ h w
    by no_finish_slip f = (h, (w, (none_to_settle (no_out w.finish f), s)))
    by (finish_slip_handed_back t c) f = (h, (w, (none_to_settle (back_not_out w.finish t c f), s)))
    by (finish_slip_out t c) f = made t c f (settles t c f (flights w.flight) (dec_lt w.newest last_page))

round_total :
    (σ : Setting) (h : History) (w : World) → Service σ h w
    → (h' : History) × ((w' : World) × ((r : Round σ h w h' w') × (RoundYields σ r × Service σ h' w')))
round_total σ h w s =
    let a = look_total σ h w s in
    let b = log_total σ a.0 a.1.0 a.1.1.1 in
    let c = sync_total σ b.1.0 in
    let sc = goes_on b.1.1.1 (call_sync c.1.1) in
    let d = launch_total σ c.1.0 in
    let sd = goes_on sc (call_launch d.1.1) in
    let e = collect_total σ (d.0 ∷ (c.0 ∷ b.0)) d.1.0 sd in
    let f = settle_total σ e.0 e.1.0 e.1.1.1.1 in
    let g = sync_total σ f.1.0 in (
      g.0 ∷ f.0,
      (
        g.1.0,
        (
          round a.1.1.0 b.1.1.0 c.1.1 d.1.1 e.1.1.0 f.1.1.0 g.1.1,
          (e.1.1.1.0, goes_on f.1.1.1 (call_sync g.1.1)),
        ),
      ),
    )

rounds_total :
    (σ : Setting) (n : ℕ) (h : History) (w : World) → Service σ h w
    → (h' : History) × ((w' : World) × ((rs : Rounds σ n h w h' w') × CollectYields σ rs))
rounds_total σ zero h w s = (h, (w, (no_round, tt)))
rounds_total σ (suc n) h w s =
    let r = round_total σ h w s in
    let k = rounds_total σ n r.0 r.1.0 r.1.1.1.1 in
    (k.0, (k.1.0, (one_more r.1.1.0 k.1.1.0, (r.1.1.1.0, k.1.1.1))))

pub rounds_follow : RoundsFollow
rounds_follow σ h w s n = rounds_total σ n h w s

pub reached : Reached
reached σ t lo hi d small =
    let f = formats σ in
    let s = begins f.0 1 (omega arith, omega arith) f.1 in
    let early : 2_000 ≤ minute_of t = omega (arith, σ.first_not_early) in
    let s' = goes_on s (call_reading (minute_of t) (reading_of σ _ (minute_of t) _ _ (reading early hi))) in
    let e : max 0 (minute_of t) ≡ minute_of t = omega arith in
    let r = rounds_total σ _ _ _ s' in
    let all =
    catching_up σ _ r.0 _ r.1.0 s'
    (subst (λ z. 0 + (2 * due_between σ (first_position σ) (rank_of (suc z) 0) + 40) ≤ last_page) (sym e)
    (omega arith))
    r.1.1.0 r.1.1.1 in
    let q = rounds_reading σ _ _ _ r.0 r.1.0 s' r.1.1.0 in (
      r.0,
      (
        r.1.0,
        (
          rounds_service σ _ _ _ r.0 r.1.0 s' r.1.1.0,
          all.due_launched t lo (let k : greatest_reading r.0 ≡ max 0 (minute_of t) = q in omega arith) d,
        ),
      ),
    )
