-- What a step of a service has to show, and why the earliest logged ticket may be launched.
use Rattle.std.proofs.Common.{◌≡◌, refl, sym, ap, subst, inl, inr, [], ◌∷◌, ◌++◌, true, ℕ, ◌≤◌, ◌<◌, arith}
use Rattle.disk.specs.Contents.{Among}
use Rattle.journal_model.specs.Pages.{Body, format, start, done, State, leaves, state_after}
use Rattle.journal_model.specs.Runs.{Flight, none_in_flight, in_flight}
use Rattle.service.proofs.Books.{Follows, follows_start, follows_done, start_ticket, start_not_done}
use Rattle.service.proofs.Invariant.{table_in, table_of, Air, FliesStart, StageOk, Inv}
use Rattle.disk.proofs.Among.{snoc_old}
use Rattle.service.proofs.Steps.{logged_ok}
use Rattle.service.specs.Causes.{Earliest}
use Rattle.service.specs.Events.{Event, formatted, was_read, was_logged, was_synced, launched, settled, restarted, replied, History}
use Rattle.service.specs.Histories.{flight_after, synced_pages, Launched, LaunchedSince, IsCut}
use Rattle.service.specs.Promises.{InOrder, Finds, Again}
use Rattle.service.specs.Setting.{Setting, due_at, first_position}
use Rattle.service.specs.Table.{Stage, written, logged, running, finished, closing, tickets_of, stage_of}
use Rattle.service.specs.World.{Run, World}

-- the invariant of a history and the world after it
abbrev pub InvAt : Setting → History → World → Type 0
InvAt σ h w =
    Inv σ (λ u. Launched u h) (λ u. LaunchedSince u h) (synced_pages σ h) w.disk w.newest w.flight
    w.next (tickets_of w.table) (stage_of w.table) w.slip w.finish

-- the invariant, and that the history has the page that is in flight
pub record Holds (σ : Setting) (h : History) (w : World) : Type 0 where
  pub inv : InvAt σ h w
  pub tie : flight_after h ≡ w.flight

-- what is promised of an event and what came before it
pub record Promised (σ : Setting) (e : Event) (h : History) : Type 0 where
  pub in_order : InOrder σ e h
  pub finds : Finds σ e h
  pub again : Again σ e h

-- what a step has to show
abbrev pub Next : Setting → History → Event → World → Type 0
Next σ h e v = Holds σ (e ∷ h) v × Promised σ e h

-- launches and cuts are told from all else
abbrev kind : Event → ℕ
kind formatted = 0
kind (was_read m) = 0
kind (was_logged n t p) = 0
kind was_synced = 0
kind (launched r) = 1
kind (settled n t c p) = 0
kind (restarted top s) = 2
kind (replied q) = 0

pub kinds_differ : {A : Type 0} (x y : Event) → x ≡ y → ¬ (kind x ≡ kind y) → A
kinds_differ x y e d = absurd (d (ap kind e))

pub harmless : (σ : Setting) (e : Event) (h : History) → kind e ≡ 0 → Promised σ e h
harmless σ e h z = record {
  in_order = λ r q. kinds_differ e (launched r) q (omega arith);
  finds = λ top s q. kinds_differ e (restarted top s) q (omega arith);
  again = λ r q. kinds_differ e (launched r) q (omega arith);
}

-- Every due ticket before the earliest logged one was launched.
pub before_earliest :
    (σ : Setting) (h : History) (w : World) (t : ℕ) → InvAt σ h w → Earliest w t → (u : ℕ) → first_position σ ≤ u
    → u < t → due_at σ u ≡ true → Launched u h
before_earliest σ h w t i e u lo hi d =
    elim (i.books.covered u lo (let x : t < j.next = i.books.shows.below t ok.0 in omega arith) d) [
      | inl a ↦ a
      | inr a ↦ at (stage_of w.table u) refl a (i.stages u (in_table w.flight i.table u a))
    ]
  where
    j : State
    j = state_after (first_position σ) (synced_pages σ h)

    ok : Among t j.tickets × (¬ (LaunchedSince t h))
    ok =
        logged_ok (λ u. Launched u h) (λ u. LaunchedSince u h) j w.flight t (stage_of w.table t)
        e.is_logged.1 (i.stages t e.is_logged.0)

    in_body : (b : Body) (v : ℕ) → Among v j.tickets → Among v (table_in b j.tickets)
    in_body format v a = a
    in_body (start x) v a = snoc_old j.tickets v x a
    in_body (done x c) v a = a

    in_table :
        (f : Flight) → tickets_of w.table ≡ table_of f j.tickets → (v : ℕ) → Among v j.tickets
        → Among v (tickets_of w.table)
    in_table none_in_flight tab v a = subst (Among v) (sym tab) a
    in_table (in_flight p) tab v a = subst (Among v) (sym tab) (in_body p.body v a)

    flies : (f : Flight) → Air σ (λ u. Launched u h) f j → FliesStart f u → Among u j.tickets → Launched u h
    flies none_in_flight x y a = absurd y
    flies (in_flight p) x y a = start_flies p.body x y
      where
        start_flies : (b : Body) → Follows σ (λ u. Launched u h) j (leaves p j) b → b ≡ start u → Launched u h
        start_flies b (follows_start {t = v} en et l dd g few) y =
            let z : v ≡ u = start_ticket v u y in
            let x : u < j.next = i.books.shows.below u a in let q : ⊥ = omega arith in absurd q
        start_flies b (follows_done {t = v} {c = c} et l g m lt) y = start_not_done u v c (sym y)

    at :
        (s : Stage) → stage_of w.table u ≡ s → Among u j.tickets
        → StageOk (λ u. Launched u h) (λ u. LaunchedSince u h) j w.flight u (stage_of w.table u)
        → Launched u h
    at written q a o =
        flies w.flight i.air
        (let r : StageOk (λ u. Launched u h) (λ u. LaunchedSince u h) j w.flight u written =
        subst (StageOk (λ u. Launched u h) (λ u. LaunchedSince u h) j w.flight u) q o in
        r.0)
        a
    at logged q a o =
        let x : t ≤ u = e.first u (in_table w.flight i.table u a, q) in let y : ⊥ = omega arith in absurd y
    at running q a o =
        let r : StageOk (λ u. Launched u h) (λ u. LaunchedSince u h) j w.flight u running =
        subst (StageOk (λ u. Launched u h) (λ u. LaunchedSince u h) j w.flight u) q o in
        r.1
    at finished q a o =
        let r : StageOk (λ u. Launched u h) (λ u. LaunchedSince u h) j w.flight u finished =
        subst (StageOk (λ u. Launched u h) (λ u. LaunchedSince u h) j w.flight u) q o in
        r.1
    at closing q a o =
        let r : StageOk (λ u. Launched u h) (λ u. LaunchedSince u h) j w.flight u closing =
        subst (StageOk (λ u. Launched u h) (λ u. LaunchedSince u h) j w.flight u) q o in
        r.1

-- A ticket not launched since the last cut has a cut after each earlier launch.
pub a_cut :
    (t : ℕ) (x : Run) → x.ticket ≡ t → (h between before : History) → ¬ (LaunchedSince t h)
    → h ≡ between ++ (launched x ∷ before) → (c : Event) × (Among c between × IsCut c)
a_cut t x q h [] before d e = absurd (d (subst (LaunchedSince t) (sym e) (inl (sym q))))
a_cut t x q h (c ∷ between) before d e =
    step c (λ d'. a_cut t x q (between ++ (launched x ∷ before)) between before d' refl)
    (λ y. d (subst (LaunchedSince t) (sym e) y))
  where
    rest : History
    rest = between ++ (launched x ∷ before)

    step :
        (y : Event) → (¬ (LaunchedSince t rest) → (y : Event) × (Among y between × IsCut y))
        → ¬ (LaunchedSince t (y ∷ rest)) → (z : Event) × (Among z (y ∷ between) × IsCut z)
    step formatted ih k = let r = ih k in (r.0, (inr r.1.0, r.1.1))
    step (was_read m) ih k = let r = ih k in (r.0, (inr r.1.0, r.1.1))
    step (was_logged n v p) ih k = let r = ih k in (r.0, (inr r.1.0, r.1.1))
    step was_synced ih k = let r = ih k in (r.0, (inr r.1.0, r.1.1))
    step (launched v) ih k = let r = ih (λ y. k (inr y)) in (r.0, (inr r.1.0, r.1.1))
    step (settled n v b p) ih k = let r = ih k in (r.0, (inr r.1.0, r.1.1))
    step (restarted top s) ih k = (restarted top s, (inl refl, (top, (s, refl))))
    step (replied q) ih k = let r = ih k in (r.0, (inr r.1.0, r.1.1))
