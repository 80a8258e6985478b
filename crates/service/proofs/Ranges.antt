-- What the engine holds stays within the ranges of a journal page.
use Rattle.std.proofs.Common.{◌≡◌, sym, ap, ◌∙◌, subst, inl, inr, List, ℕ, suc, ◌≤◌, ◌<◌, arith, length}
use Rattle.disk.specs.Contents.{Among}
use Rattle.journal_model.specs.Pages.{Body, State, Page, leaves, state_after}
use Rattle.journal_model.specs.Positions.{minute_of}
use Rattle.journal_model.specs.Runs.{Flight, none_in_flight, in_flight, Found, Accepted}
use Rattle.page.specs.Limits.{last_page}
use Rattle.page.specs.declared.head.Ending.{Ending}
use Rattle.service.proofs.Books.{Follows, follows_start, follows_done, follows_next}
use Rattle.service.proofs.Causes.{reading_cause, look_cause, log_cause, sync_cause, launch_cause, settle_cause, hand_back_cause}
use Rattle.disk.proofs.Among.{among_snoc}
use Rattle.service.proofs.Further.{SlipNear, FinishSound, runs_length, MoreAt}
use Rattle.service.proofs.More.{more}
use Rattle.service.proofs.Caught.{few_tickets}
use Rattle.service.proofs.Held.{InvAt, Holds}
use Rattle.service.proofs.Promises.{holds}
use Rattle.service.proofs.Cuts.{accepted}
use Rattle.service.proofs.Invariant.{air_state, table_in, table_of, Air}
use Rattle.service.specs.Calls.{Collecting, collecting_18, collecting_handed_back, collecting_none, collecting_other, collecting, Cutting, cutting}
use Rattle.service.specs.Causes.{ReadingCause, reading_13, reading, LookingCause, looking_18, looking_19, looking_due, looking_level, looking_spent, LoggingCause, logging_20, logging_21, logging_22, logging, SyncingCause, syncing_nothing, syncing, LaunchingCause, launching_none, launching_23, launching, SettlingCause, settling_20, settling_21, settling_22, settling, HandingBackCause, handing_due_20, handing_finish_20, handing_due, handing_finish}
use Rattle.service.specs.Events.{Event, History}
use Rattle.service.specs.Histories.{flight_after, synced_pages, Launched}
use Rattle.service.specs.Promises.{RangesKept}
use Rattle.service.specs.Service.{Call, call_reading, call_look, call_log, call_sync, call_launch, call_collect, call_settle, call_hand_back, call_cut, Service, begins, goes_on}
use Rattle.service.specs.Setting.{Setting, first_position}
use Rattle.service.specs.Table.{tickets_of}
use Rattle.service.specs.World.{Slip, World}
use Rattle.time.specs.Limits.{last_minute}
use Rattle.time.specs.Position.{rank_of}

record Bounds (horizon next newest : ℕ) (f : Flight) : Type 0 where
  hz : horizon ≤ last_minute
  nx : next ≤ rank_of (suc last_minute) 0
  nw : newest ≤ last_page
  fl : (p : Page) → f ≡ in_flight p → newest < last_page

abbrev BoundsAt : World → Type 0
BoundsAt w = Bounds w.horizon w.next w.newest w.flight

none_flies : {A : Type 0} (p : Page) → none_in_flight ≡ in_flight p → A
none_flies p q = let z : ◌≡◌ {A = ℕ} 0 1 = cc in let k : ⊥ = omega arith in absurd k

-- The journal's next rank-of is not past the engine's.
journal_next :
    (σ : Setting) (h : History) (w : World) → InvAt σ h w
    → (state_after (first_position σ) (synced_pages σ h)).next ≤ w.next
journal_next σ h w i = go w.flight i.air i.ahead
  where
    j : State
    j = state_after (first_position σ) (synced_pages σ h)

    go : (f : Flight) → Air σ (λ u. Launched u h) f j → (air_state f j).next ≤ w.next → j.next ≤ w.next
    go none_in_flight a k = k
    go (in_flight p) a k = let x : j.next ≤ (leaves p j).next = follows_next a in omega (arith, x, k)

bounds-reading :
    (σ : Setting) (w : World) (m : ℕ) (v : World) (e : Event) → BoundsAt w → ReadingCause σ w m e v → BoundsAt v
bounds-reading σ w m v e i (reading_13 out) = i
bounds-reading σ w m v e i (reading lo hi) =
    let x : w.horizon ≤ last_minute = i.hz in record { hz = omega arith; nx = i.nx; nw = i.nw; fl = i.fl }

bounds-look : (σ : Setting) (w v : World) (e : Event) → BoundsAt w → LookingCause σ w e v → BoundsAt v
bounds-look σ w v e i (looking_18 t s) = i
bounds-look σ w v e i (looking_19 s f) = i
bounds-look σ w v e i (looking_due t s f lo hi near d none) =
    let x : w.horizon ≤ last_minute = i.hz in record { hz = i.hz; nx = omega arith; nw = i.nw; fl = i.fl }
bounds-look σ w v e i (looking_level s f near none) =
    let x : w.horizon ≤ last_minute = i.hz in
    let y : w.next ≤ rank_of (suc last_minute) 0 = i.nx in
    record { hz = i.hz; nx = omega arith; nw = i.nw; fl = i.fl }
bounds-look σ w v e i (looking_spent s f hi none) =
    let x : w.horizon ≤ last_minute = i.hz in record { hz = i.hz; nx = omega arith; nw = i.nw; fl = i.fl }

bounds-log :
    (σ : Setting) (h : History) (w v : World) (e : Event) (t : ℕ) → MoreAt σ h w → BoundsAt w
    → LoggingCause σ w t e v → BoundsAt v
bounds-log σ h w v e t k i (logging_20 s) = i
bounds-log σ h w v e t k i (logging_21 p s f) = i
bounds-log σ h w v e t k i (logging_22 s f l) = i
bounds-log σ h w v e t k i (logging d s f l y) =
    let x : w.horizon ≤ last_minute = i.hz in
    let n : minute_of t ≤ w.horizon = subst (SlipNear w.horizon) s k.slip_near in
    record { hz = i.hz; nx = omega (arith, x, n); nw = i.nw; fl = λ p q. l }

bounds-sync : (σ : Setting) (w v : World) (e : Event) → BoundsAt w → SyncingCause σ w e v → BoundsAt v
bounds-sync σ w v e i (syncing_nothing f) = i
bounds-sync σ w v e i (syncing p d f y) =
    let x : w.newest < last_page = i.fl p f in
    record { hz = i.hz; nx = i.nx; nw = omega (arith, x); fl = λ q r. none_flies q r }

bounds-launch : (σ : Setting) (w v : World) (e : Event) → BoundsAt w → LaunchingCause σ w e v → BoundsAt v
bounds-launch σ w v e i (launching_none n) = i
bounds-launch σ w v e i (launching_23 t x f) = i
bounds-launch σ w v e i (launching t x f) = i

bounds-collect : (σ : Setting) (w v : World) (e : Event) → BoundsAt w → Collecting σ w e v → BoundsAt v
bounds-collect σ w v e i (collecting_18 t c f) = i
bounds-collect σ w v e i (collecting_handed_back t c f) = i
bounds-collect σ w v e i (collecting_none f) = i
bounds-collect σ w v e i (collecting_other r rest f x d) = i
bounds-collect σ w v e i (collecting r c rest f x k m) = i

bounds-settle :
    (σ : Setting) (w v : World) (e : Event) (t : ℕ) (c : Ending) → BoundsAt w → SettlingCause σ w t c e v
    → BoundsAt v
bounds-settle σ w v e t c i (settling_20 s) = i
bounds-settle σ w v e t c i (settling_21 p s f) = i
bounds-settle σ w v e t c i (settling_22 s f l) = i
bounds-settle σ w v e t c i (settling d s f l y) = record { hz = i.hz; nx = i.nx; nw = i.nw; fl = λ p q. l }

bounds-hand-back :
    (σ : Setting) (w v : World) (e : Event) (b : Slip) → BoundsAt w → HandingBackCause σ w b e v → BoundsAt v
bounds-hand-back σ w v e b i (handing_due_20 t s) = i
bounds-hand-back σ w v e b i (handing_finish_20 t c s) = i
bounds-hand-back σ w v e b i (handing_due t s) = i
bounds-hand-back σ w v e b i (handing_finish t c f) = i

bounds-cut :
    (σ : Setting) (h : History) (w v : World) (e : Event) → Holds σ h w → BoundsAt w → Cutting σ w e v
    → BoundsAt v
bounds-cut σ h w v e k i (cutting d top s c cc y r) =
    record { hz = omega arith; nx = both.0; nw = both.1; fl = λ q x. none_flies q x }
  where
    S : List Page
    S = synced_pages σ h

    a : Accepted σ.blocks σ.job_lines (first_position σ) (synced_pages σ h) (flight_after h) d.latest
    a = accepted σ h w k d y

    num : length S ≡ suc w.newest
    num = k.inv.journal.number

    go :
        (n : ℕ) (x : State) → Found (first_position σ) (synced_pages σ h) (flight_after h) n x
        → (x.next ≤ rank_of (suc last_minute) 0) × (n ≤ last_page)
    go n x (inl q) =
        let e1 : x.next ≡ (state_after (first_position σ) S).next = ap (λ (z : State). z.next) q.1 in
        let e2 : (state_after (first_position σ) S).next ≤ w.next = journal_next σ h w k.inv in
        let e3 : w.next ≤ rank_of (suc last_minute) 0 = i.nx in
        let e4 : suc n ≡ length S = q.0 in
        let e5 : w.newest ≤ last_page = i.nw in
        (omega (arith, e1, e2, e3), omega (arith, e4, num, e5))
    go n x (inr (p, q)) =
        let f : w.flight ≡ in_flight p = sym k.tie ∙ q.0 in
        let e1 : x.next ≡ (leaves p (state_after (first_position σ) S)).next = ap (λ (z : State). z.next) q.1.1 in
        let e2 : (leaves p (state_after (first_position σ) S)).next ≤ w.next =
        subst (λ z. (air_state z (state_after (first_position σ) S)).next ≤ w.next) f k.inv.ahead in
        let e3 : w.next ≤ rank_of (suc last_minute) 0 = i.nx in
        let e4 : n ≡ length S = q.1.0 in
        let e5 : w.newest < last_page = i.fl p f in
        (omega (arith, e1, e2, e3), omega (arith, e4, num, e5))

    both : (s.next ≤ rank_of (suc last_minute) 0) × (top ≤ last_page)
    both =
        let g = go a.top a.state a.found in
        let o = a.only top s r in (
          subst (λ (z : State). z.next ≤ rank_of (suc last_minute) 0) (sym o.1) g.0,
          subst (λ z. z ≤ last_page) (sym o.0) g.1,
        )

bounds-step :
    (σ : Setting) (h : History) (w v : World) (e : Event) → Service σ h w → BoundsAt w → Call σ w e v → BoundsAt v
bounds-step σ h w v e s i (call_reading m c) = bounds-reading σ w m v e i (reading_cause σ w m e v c)
bounds-step σ h w v e s i (call_look c) = bounds-look σ w v e i (look_cause σ w e v c)
bounds-step σ h w v e s i (call_log t c) = bounds-log σ h w v e t (more σ h w s) i (log_cause σ w t e v c)
bounds-step σ h w v e s i (call_sync c) = bounds-sync σ w v e i (sync_cause σ w e v c)
bounds-step σ h w v e s i (call_launch c) = bounds-launch σ w v e i (launch_cause σ w e v c)
bounds-step σ h w v e s i (call_collect c) = bounds-collect σ w v e i c
bounds-step σ h w v e s i (call_settle t a k c) = bounds-settle σ w v e t a i (settle_cause σ w t a e v c)
bounds-step σ h w v e s i (call_hand_back b k c) = bounds-hand-back σ w v e b i (hand_back_cause σ w b e v c)
bounds-step σ h w v e s i (call_cut c) = bounds-cut σ h w v e (holds σ h w s).0 i c

bounds : (σ : Setting) (h : History) (w : World) → Service σ h w → BoundsAt w
bounds σ h w (begins d k kk y) =
    record { hz = omega arith; nx = omega (arith, σ.first_not_late); nw = omega arith; fl = λ q x. none_flies q x }
bounds σ h w (goes_on {h = h'} {w = w'} {e = e'} s c) = bounds-step σ h' w' w e' s (bounds σ h' w' s) c

pub ranges_kept : RangesKept
ranges_kept σ h w s = record {
  horizon_within = b.hz;
  next_from = omega (arith, from, ahead);
  next_to = b.nx;
  tickets_from = λ u m. let x : first_position σ ≤ u = (tickets u m).0 in omega (arith, x);
  tickets_to = λ u m.
      let x : u < w.next = (tickets u m).1 in
      let y : w.next ≤ rank_of (suc last_minute) 0 = b.nx in omega (arith, x, y);
  few_tickets = few_tickets σ h w i;
  newest_within = b.nw;
  code_within = λ t c f. let x : c.code ≤ 255 = subst FinishSound f (more σ h w s).sound in omega (arith, x);
  in_flight_within = λ p f. b.fl p f;
  capacity_within = (more σ h w s).capable;
  held_within = subst (λ z. z ≤ w.launcher.capacity) (runs_length w.launcher.held) (more σ h w s).fits;
}
  where
    b : BoundsAt w
    b = bounds σ h w s

    i : InvAt σ h w
    i = (holds σ h w s).0.inv

    j : State
    j = state_after (first_position σ) (synced_pages σ h)

    from : first_position σ ≤ j.next
    from = i.books.from_first

    ahead : j.next ≤ w.next
    ahead = journal_next σ h w i

    old : (u : ℕ) → Among u j.tickets → (first_position σ ≤ u) × (u < w.next)
    old u m = (i.books.open_from u m, let x : u < j.next = i.books.shows.below u m in omega (arith, x, ahead))

    body :
        (c : Body) (k : State) → Follows σ (λ u. Launched u h) j k c → k.next ≤ w.next
        → tickets_of w.table ≡ table_in c j.tickets → (u : ℕ) → Among u (tickets_of w.table)
        → (first_position σ ≤ u) × (u < w.next)
    body c k (follows_start {t = t} en et lo d gap fw) a e u m =
        elim (among_snoc j.tickets u t (subst (Among u) e m)) [
          | inl x ↦ old u x
          | inr x ↦ (omega (arith, from, lo, x), omega (arith, en, a, x))
        ]
    body c k (follows_done et lo gap mm lt) a e u m = old u (subst (Among u) e m)

    go :
        (f : Flight) → Air σ (λ u. Launched u h) f j → (air_state f j).next ≤ w.next
        → tickets_of w.table ≡ table_of f j.tickets → (u : ℕ) → Among u (tickets_of w.table)
        → (first_position σ ≤ u) × (u < w.next)
    go none_in_flight a k e u m = old u (subst (Among u) e m)
    go (in_flight p) a k e u m = body p.body (leaves p j) a k e u m

    tickets : (u : ℕ) → Among u (tickets_of w.table) → (first_position σ ≤ u) × (u < w.next)
    tickets = go w.flight i.air i.ahead i.table
