-- Catching up: round by round the work gets less.
use Rattle.std.proofs.Common.{◌≡◌, refl, sym, ap, ◌∙◌, subst, ◌⊎◌, inl, inr, ◌∷◌, false, ℕ, suc, ◌+◌, ◌-◌, ◌/◌, ◌≤◌, ◌<◌, arith, length}
use Rattle.disk.specs.Contents.{Among}
use Rattle.journal_model.specs.Lists.{Ascending}
use Rattle.journal_model.specs.Pages.{Page, state_after}
use Rattle.journal_model.specs.Runs.{Flight, none_in_flight, in_flight}
use Rattle.service.proofs.Caught.{few_tickets, all_launched}
use Rattle.service.proofs.Counts.{count, count_length, count_zero, within}
use Rattle.service.proofs.Further.{Names, run_tickets, runs_length}
use Rattle.service.proofs.Held.{InvAt}
use Rattle.service.proofs.Invariant.{table_of, StageOk}
use Rattle.service.proofs.Lists.{clash}
use Rattle.service.proofs.LookLog.{LookCase, case_out, case_spent, case_level, case_full, look_part, Enough, LogCase, log_none, log_done, log_air, log_part}
use Rattle.service.proofs.More.{more}
use Rattle.service.proofs.Promises.{holds}
use Rattle.service.proofs.SyncSettle.{SyncCase, sync_none, sync_done, sync_part, LaunchCase, launch_none, launch_full, launch_done, launch_part, collect_part, settle_part}
use Rattle.service.proofs.Work.{newest_with, Place, waits, waiting, left, work, pages, Eases, eases_trans}
use Rattle.service.specs.Causes.{NoneLogged}
use Rattle.service.specs.Events.{History}
use Rattle.service.specs.Histories.{add_flight, synced_pages, Launched, LaunchedSince}
use Rattle.service.specs.Progress.{positions_ahead, due_ahead, newest_page, AllLaunched, CatchingUp}
use Rattle.service.specs.Rounds.{Round, round, Rounds, no_round, one_more, RoundYields, CollectYields}
use Rattle.service.specs.Service.{Service}
use Rattle.service.specs.Setting.{Setting, first_position}
use Rattle.service.specs.Table.{Stage, written, logged, running, finished, closing, tickets_of, stage_of, stays}
use Rattle.service.specs.World.{DueSlip, no_due_slip, due_slip_out, no_finish_slip, World}

not_flying : {A : Type 0} (f : Flight) (p : Page) → f ≡ none_in_flight → f ≡ in_flight p → A
not_flying f p a b = clash (cc)

not_out : {A : Type 0} (s : DueSlip) (t : ℕ) → s ≡ no_due_slip → s ≡ due_slip_out t → A
not_out s t a b = clash (cc)

-- With no page in flight and none logged, none waits.
idle :
    (σ : Setting) (h : History) (w : World) → Service σ h w → w.flight ≡ none_in_flight → NoneLogged w
    → waiting w ≡ 0
idle σ h w s f n =
    count_zero (λ u. waits (stage_of w.table u)) (tickets_of w.table)
    (λ u m.
    at u m (stage_of w.table u) refl
    (subst
    (λ z.
    StageOk (λ u. Launched u h) (λ u. LaunchedSince u h)
    (state_after (first_position σ) (synced_pages σ h)) z u (stage_of w.table u))
    f ((holds σ h w s).0.inv.stages u m)))
  where
    at :
        (u : ℕ) → Among u (tickets_of w.table) → (x : Stage) → stage_of w.table u ≡ x
        → StageOk (λ u. Launched u h) (λ u. LaunchedSince u h) (state_after (first_position σ) (synced_pages σ h))
        none_in_flight u x
        → waits x ≡ false
    at u m written e o = absurd o.0
    at u m logged e o = absurd (n u (m, e))
    at u m running e o = refl
    at u m finished e o = refl
    at u m closing e o = refl

-- With no slip out and none logged, all of the table is held by the launcher.
all_held :
    (σ : Setting) (h : History) (w : World) → Service σ h w → w.flight ≡ none_in_flight
    → w.finish ≡ no_finish_slip → NoneLogged w → length (tickets_of w.table) ≤ length w.launcher.held
all_held σ h w s f q n =
    subst (λ z. length (tickets_of w.table) ≤ z) (runs_length w.launcher.held)
    (within (tickets_of w.table) (run_tickets w.launcher.held)
    (subst Ascending (sym table) inv.books.shows.ascending)
    (λ u m.
    at u m (stage_of w.table u) refl
    (subst
    (λ z.
    StageOk (λ u. Launched u h) (λ u. LaunchedSince u h)
    (state_after (first_position σ) (synced_pages σ h)) z u (stage_of w.table u))
    f (inv.stages u m))))
  where
    inv : InvAt σ h w
    inv = (holds σ h w s).0.inv

    table : tickets_of w.table ≡ (state_after (first_position σ) (synced_pages σ h)).tickets
    table = inv.table ∙ ap (λ z. table_of z (state_after (first_position σ) (synced_pages σ h)).tickets) f

    at :
        (u : ℕ) → Among u (tickets_of w.table) → (x : Stage) → stage_of w.table u ≡ x
        → StageOk (λ u. Launched u h) (λ u. LaunchedSince u h) (state_after (first_position σ) (synced_pages σ h))
        none_in_flight u x
        → Among u (run_tickets w.launcher.held)
    at u m written e o = absurd o.0
    at u m logged e o = absurd (n u (m, e))
    at u m running e o = (more σ h w s).running_held u m e
    at u m finished e o =
        let z : Names no_finish_slip u = subst (λ y. Names y u) q ((more σ h w s).finished_named u m e) in absurd z
    at u m closing e o = absurd o.0

-- What a round comes to. If it begins with nothing in flight, no finish slip and a place in the launcher, it lowers
-- the work, or nothing is left to launch.
record RoundOut (σ : Setting) (w : World) (h : History) (v : World) : Type 0 where
  service : Service σ h v
  eases : Eases σ w v
  is_still : v.flight ≡ none_in_flight
  no_slip_out : v.finish ≡ no_finish_slip
  free : w.finish ≡ no_finish_slip → Place v.launcher
  progress :
      w.flight ≡ none_in_flight → w.finish ≡ no_finish_slip → Place w.launcher
      → (suc (work σ v) ≤ work σ w) ⊎ (left σ v ≡ 0)

-- What is left of the work after the look, log, sync and launch of a round that began clean.
launched_or_idle :
    (σ : Setting) (h₃ : History) (w w₁ w₂ w₃ w₄ : World) → Service σ h₃ w₃ → Eases σ w w₁ → Eases σ w₁ w₂
    → Eases σ w₂ w₃ → Eases σ w₃ w₄
    → w₁.flight ≡ none_in_flight → w₃.flight ≡ none_in_flight → w₃.finish ≡ no_finish_slip → Place w₃.launcher
    → LookCase σ w w₁ → LogCase w₁ w₂ → SyncCase w₂ w₃ → LaunchCase σ w₃ w₄ → (suc (work σ w₄) ≤ work σ w) ⊎ (left σ w₃ ≡ 0)
launched_or_idle σ h₃ w w₁ w₂ w₃ w₄ s a b c d f₁ f₃ q free look-c log-c sync-c (launch_full k) = absurd (k free)
launched_or_idle σ h₃ w w₁ w₂ w₃ w₄ s a b c d f₁ f₃ q free look-c log-c sync-c (launch_done k) =
    let x : work σ w₁ ≤ work σ w = a.less in
    let y : work σ w₂ ≤ work σ w₁ = b.less in
    let z : work σ w₃ ≤ work σ w₂ = c.less in inl (omega (arith, x, y, z, k))
launched_or_idle σ h₃ w w₁ w₂ w₃ w₄ s a b c d f₁ f₃ q free look-c log-c sync-c (launch_none n) = go look-c log-c sync-c
  where
    same : LogCase w₁ w₂ → SyncCase w₂ w₃ → w₃ ≡ w₁
    same (log_none k e) (sync_none f e') = e' ∙ e
    same (log_none k e) (sync_done p f g) = not_flying w₁.flight p f₁ (ap (λ (x : World). x.flight) (sym e) ∙ f)
    same (log_done t p m st fl) (sync_none f e') = not_flying w₂.flight p f fl
    same (log_done t p m st fl) (sync_done p' f g) = absurd (n t (g t m st))
    same (log_air p f) y = not_flying w₁.flight p f₁ f

    quiet_work : suc (work σ w₁) ≤ work σ w → suc (work σ w₄) ≤ work σ w
    quiet_work k =
        let y : work σ w₂ ≤ work σ w₁ = b.less in
        let z : work σ w₃ ≤ work σ w₂ = c.less in
        let x : work σ w₄ ≤ work σ w₃ = d.less in omega (arith, x, y, z, k)

    go : LookCase σ w w₁ → LogCase w₁ w₂ → SyncCase w₂ w₃ → (suc (work σ w₄) ≤ work σ w) ⊎ (left σ w₃ ≡ 0)
    go (case_spent k) x y = inl (quiet_work k)
    go (case_out t e) (log_none k e') y = not_out w₁.slip t k e
    go (case_out t e) (log_done t' p m st fl) (sync_none f e') = not_flying w₂.flight p f fl
    go (case_out t e) (log_done t' p m st fl) (sync_done p' f g) = absurd (n t' (g t' m st))
    go (case_out t e) (log_air p f) y = not_flying w₁.flight p f₁ f
    go (case_level k e_f) x y =
        let e1 : due_ahead σ w₃ ≡ 0 = ap (λ (v : World). due_ahead σ v) (same x y) ∙ e_f in
        let e2 : waiting w₃ ≡ 0 = idle σ h₃ w₃ s f₃ n in
        inr (omega (arith, e1, e2))
    go (case_full k full) x y =
        let e1 : length (tickets_of w₃.table) ≡ length (tickets_of w₁.table) =
        ap (λ (v : World). length (tickets_of v.table)) (same x y) in
        let e2 : length (tickets_of w₃.table) ≤ length w₃.launcher.held = all_held σ h₃ w₃ s f₃ q n in
        let e3 : w₃.launcher.capacity ≤ 16 = (more σ h₃ w₃ s).capable.1 in
        let z : ⊥ = omega (arith, e1, e2, e3, free, full) in absurd z

enough_more : (σ : Setting) (w v : World) → Enough σ w → Eases σ w v → Enough σ v
enough_more σ w v n e = let x : pages σ v ≤ pages σ w = e.room in omega (arith, x, n)

round_out :
    (σ : Setting) (h : History) (w : World) (h₇ : History) (w₇ : World) → Service σ h w → Enough σ w
    → (r : Round σ h w h₇ w₇) → RoundYields σ r → RoundOut σ w h₇ w₇
round_out σ h w h₇ w₇ s n
    (round {h₁} {h₂} {h₅} {h₆} {w₁} {w₂} {w₃} {w₄} {w₅} {w₆} {w₇ = w₇'} {e₃} {e₄} {e₇}
    look_p log-p sync-p launch-p collect-p settle-p last-p)
    yields =
    let a = look_part σ h w h₁ w₁ s look_p in
    let n₁ = enough_more σ w w₁ n a.0.eases in
    let b = log_part σ h₁ w₁ h₂ w₂ a.0.service n₁ log-p in
    let n₂ = enough_more σ w₁ w₂ n₁ b.0.eases in
    let c = sync_part σ h₂ w₂ e₃ w₃ b.0.service sync-p in
    let n₃ = enough_more σ w₂ w₃ n₂ c.0.eases in
    let d = launch_part σ (e₃ ∷ h₂) w₃ e₄ w₄ c.0.service launch-p in
    let n₄ = enough_more σ w₃ w₄ n₃ d.0.eases in
    let e = collect_part σ (e₄ ∷ (e₃ ∷ h₂)) w₄ h₅ w₅ d.0.service collect-p yields in
    let n₅ = enough_more σ w₄ w₅ n₄ e.0.eases in
    let f₅ : w₅.flight ≡ none_in_flight = e.1 ∙ d.1 ∙ c.1 in
    let f = settle_part σ h₅ w₅ h₆ w₆ e.0.service n₅ f₅ e.2 settle-p in
    let g = sync_part σ h₆ w₆ e₇ w₇' f.0.service last-p in
    let fin₃ : w₃.finish ≡ w.finish = c.2 ∙ b.1 ∙ a.2 in
    let fin₄ : w₄.finish ≡ w.finish = d.2 ∙ fin₃ in
    let held₃ : w₃.launcher ≡ w.launcher = c.3 ∙ b.2 ∙ a.3 in
    let held₇ : w₇'.launcher ≡ w₅.launcher = g.3 ∙ f.2 in
    let late : Eases σ w₄ w₇' = eases_trans e.0.eases (eases_trans f.0.eases g.0.eases) in
    record {
      service = g.0.service;
      eases =
          eases_trans a.0.eases
          (eases_trans b.0.eases (eases_trans c.0.eases (eases_trans d.0.eases late)));
      is_still = g.1;
      no_slip_out = g.2 ∙ f.1;
      free = λ q. subst Place (sym held₇) (e.3 (fin₄ ∙ q));
      progress = λ fl q fr.
          finish w₃ w₄ w₇' d.0.eases late
          (launched_or_idle σ (e₃ ∷ h₂) w w₁ w₂ w₃ w₄ c.0.service a.0.eases b.0.eases c.0.eases
          d.0.eases (a.1 ∙ fl) c.1 (fin₃ ∙ q) (subst Place (sym held₃) fr) a.4 b.3 c.4 d.3);
    }
  where
    finish :
        (x y z : World) → Eases σ x y → Eases σ y z → (suc (work σ y) ≤ work σ w) ⊎ (left σ x ≡ 0)
        → (suc (work σ z) ≤ work σ w) ⊎ (left σ z ≡ 0)
    finish x y z xy yz (inl k) = let q : work σ z ≤ work σ y = yz.less in inl (omega (arith, q, k))
    finish x y z xy yz (inr k) =
        let q : left σ z ≤ left σ y = yz.fewer in
        let r : left σ y ≤ left σ x = xy.fewer in inr (omega (arith, q, r, k))

-- What n such rounds come to.
record ManyOut (σ : Setting) (n : ℕ) (w : World) (h : History) (v : World) : Type 0 where
  service : Service σ h v
  is_still : v.flight ≡ none_in_flight
  fewer : left σ v ≤ left σ w
  outcome : (work σ v + n ≤ work σ w) ⊎ (left σ v ≡ 0)

many :
    (σ : Setting) (n : ℕ) (h : History) (w : World) (h' : History) (w' : World) → Service σ h w → Enough σ w
    → w.flight ≡ none_in_flight → w.finish ≡ no_finish_slip → Place w.launcher → (rs : Rounds σ n h w h' w')
    → CollectYields σ rs → ManyOut σ n w h' w'
many σ n h w h' w' s k f q fr no_round ys =
    record { service = s; is_still = f; fewer = omega arith; outcome = inl (omega arith) }
many σ n h w h' w' s k f q fr (one_more {n = m} {h₁ = h₁} {w₁ = w₁} r rest) ys =
    let o = round_out σ h w h₁ w₁ s k r ys.0 in
    let p =
    many σ m h₁ w₁ h' w' o.service (enough_more σ w w₁ k o.eases) o.is_still o.no_slip_out
    (o.free q) rest ys.1 in
    let a : left σ w₁ ≤ left σ w = o.eases.fewer in
    let b : left σ w' ≤ left σ w₁ = p.fewer in
    record {
      service = p.service;
      is_still = p.is_still;
      fewer = omega (arith, a, b);
      outcome = join m w₁ (o.progress f q fr) p.outcome b;
    }
  where
    join :
        (m : ℕ) (w₁ : World) → (suc (work σ w₁) ≤ work σ w) ⊎ (left σ w₁ ≡ 0)
        → (work σ w' + m ≤ work σ w₁) ⊎ (left σ w' ≡ 0) → left σ w' ≤ left σ w₁
        → (work σ w' + suc m ≤ work σ w) ⊎ (left σ w' ≡ 0)
    join m w₁ (inl a) (inl b) z = inl (omega arith)
    join m w₁ (inl a) (inr b) z = inr b
    join m w₁ (inr a) b z = inr (omega (arith, a, z))

two_first :
    (σ : Setting) (m : ℕ) (h : History) (w : World) (h' : History) (w' : World) → Service σ h w → Enough σ w
    → work σ w < m → (rs : Rounds σ (suc (suc m)) h w h' w') → CollectYields σ rs → AllLaunched σ h'
two_first σ m h w h' w' s k lt (one_more {h₁ = h₁} {w₁ = w₁} r (one_more {h₁ = h₂} {w₁ = w₂} r' rest)) ys =
    let o = round_out σ h w h₁ w₁ s k r ys.0 in
    let k₁ = enough_more σ w w₁ k o.eases in
    let o' = round_out σ h₁ w₁ h₂ w₂ o.service k₁ r' ys.1.0 in
    let k₂ = enough_more σ w₁ w₂ k₁ o'.eases in
    let p =
    many σ m h₂ w₂ h' w' o'.service k₂ o'.is_still o'.no_slip_out (o'.free o.no_slip_out) rest
    ys.1.1 in
    let a : work σ w₁ ≤ work σ w = o.eases.less in
    let b : work σ w₂ ≤ work σ w₁ = o'.eases.less in
    all_launched σ h' w' p.service p.is_still (end w₁ w₂ a b p.outcome)
  where
    end :
        (w₁ w₂ : World) → work σ w₁ ≤ work σ w → work σ w₂ ≤ work σ w₁
        → (work σ w' + m ≤ work σ w₂) ⊎ (left σ w' ≡ 0) → left σ w' ≡ 0
    end w₁ w₂ a b (inl c) = let z : ⊥ = omega (arith, a, b, c, lt) in absurd z
    end w₁ w₂ a b (inr c) = c

pub catching_up : CatchingUp
catching_up σ h h' w w' s remain =
    subst P (sym split) (two_first σ (22 + (due_ahead σ w + positions_ahead w / 4096)) h w h' w' s enough little)
  where
    P : ℕ → Type 0
    P n = (rs : Rounds σ n h w h' w') → CollectYields σ rs → AllLaunched σ h'

    split :
        24 + (due_ahead σ w + positions_ahead w / 4096) ≡ suc
        (suc (22 + (due_ahead σ w + positions_ahead w / 4096)))
    split = omega arith

    inv : InvAt σ h w
    inv = (holds σ h w s).0.inv

    few : length (tickets_of w.table) ≤ 16
    few = few_tickets σ h w inv

    newest : newest_page σ h ≡ newest_with w.flight w.newest
    newest = ap (λ f. length (add_flight f (synced_pages σ h)) - 1) (holds σ h w s).0.tie ∙ at w.flight
      where
        num : length (synced_pages σ h) ≡ suc w.newest
        num = inv.journal.number

        at : (f : Flight) → length (add_flight f (synced_pages σ h)) - 1 ≡ newest_with f w.newest
        at none_in_flight = omega (arith, num)
        at (in_flight p) = omega (arith, num)

    enough : Enough σ w
    enough =
        let x :
        count (λ u. stays (stage_of w.table u)) (tickets_of w.table) ≤ length (tickets_of w.table) =
        count_length (λ u. stays (stage_of w.table u)) (tickets_of w.table) in
        omega (arith, x, few, remain, newest)

    little : work σ w < 22 + (due_ahead σ w + positions_ahead w / 4096)
    little =
        let x : waiting w ≤ length (tickets_of w.table) =
        count_length (λ u. waits (stage_of w.table u)) (tickets_of w.table) in
        omega (arith, x, few)
