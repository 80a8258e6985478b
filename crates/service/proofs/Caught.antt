-- Where nothing is left to launch, all is launched.
use Rattle.std.proofs.Common.{◌≡◌, refl, sym, ap, ◌∙◌, subst, inl, inr, [], ◌∷◌, ◌++◌, true, false, ℕ, suc, ◌-◌, ◌≤◌, ◌<◌, arith, length}
use Rattle.std.proofs.Math.Decide.{dec_lt}
use Rattle.disk.specs.Contents.{Among}
use Rattle.journal_model.specs.Pages.{Body, State, leaves, state_after}
use Rattle.journal_model.specs.Positions.{minute_of}
use Rattle.journal_model.specs.Runs.{Flight, none_in_flight, in_flight}
use Rattle.service.proofs.Books.{Follows, follows_start, follows_done}
use Rattle.service.proofs.Counts.{count_some, due_none}
use Rattle.service.proofs.Further.{MoreAt}
use Rattle.service.proofs.Held.{InvAt}
use Rattle.service.proofs.Invariant.{air_state, table_in, table_of, Air, StageOk}
use Rattle.service.proofs.Lists.{not_both, length_snoc}
use Rattle.service.proofs.More.{more}
use Rattle.service.proofs.Promises.{holds}
use Rattle.service.proofs.Work.{waits, waiting, left}
use Rattle.service.specs.Events.{History}
use Rattle.service.specs.Histories.{synced_pages, Launched, LaunchedSince, greatest_reading}
use Rattle.service.specs.Progress.{due_ahead, AllLaunched}
use Rattle.service.specs.Service.{Service}
use Rattle.service.specs.Setting.{Setting, due_at, first_position}
use Rattle.service.specs.Table.{Stage, written, logged, running, finished, closing, tickets_of, stage_of}
use Rattle.service.specs.World.{World, past_horizon}

-- The table has at most 16 tickets.
pub few_tickets : (σ : Setting) (h : History) (w : World) → InvAt σ h w → length (tickets_of w.table) ≤ 16
few_tickets σ h w i = go w.flight i.air i.table
  where
    j : State
    j = state_after (first_position σ) (synced_pages σ h)

    few : length j.tickets ≤ 16
    few = i.books.shows.few

    body :
        (b : Body) (k : State) → Follows σ (λ u. Launched u h) j k b
        → tickets_of w.table ≡ table_in b j.tickets → length (tickets_of w.table) ≤ 16
    body b k (follows_start {t = t} en et lo d gap fw) e =
        let x : length (tickets_of w.table) ≡ length (j.tickets ++ (t ∷ [])) = ap length e in
        let y : length (j.tickets ++ (t ∷ [])) ≡ suc (length j.tickets) = length_snoc j.tickets t in
        omega arith
    body b k (follows_done et lo gap m lt) e =
        let x : length (tickets_of w.table) ≡ length j.tickets = ap length e in omega (arith, few)

    go :
        (f : Flight) → Air σ (λ u. Launched u h) f j → tickets_of w.table ≡ table_of f j.tickets
        → length (tickets_of w.table) ≤ 16
    go none_in_flight a e =
        let x : length (tickets_of w.table) ≡ length j.tickets = ap length e in omega (arith, few)
    go (in_flight p) a e = body p.body (leaves p j) a e

-- Where nothing is left, all is launched.
pub all_launched :
    (σ : Setting) (h : History) (w : World) → Service σ h w → w.flight ≡ none_in_flight → left σ w ≡ 0
    → AllLaunched σ h
all_launched σ h w s f z =
    record {
      due_launched = λ u lo hi d. by u lo hi d (dec_lt u j.next) (dec_lt u w.next);
      open_launched = λ u m. elim (mo.reopened u m) [ inl c ↦ c | inr q ↦ nobody u q.0 (ap waits q.1) ];
    }
  where
    inv : InvAt σ h w
    inv = (holds σ h w s).0.inv

    mo : MoreAt σ h w
    mo = more σ h w s

    j : State
    j = state_after (first_position σ) (synced_pages σ h)

    nobody : {A : Type 0} (u : ℕ) → Among u (tickets_of w.table) → waits (stage_of w.table u) ≡ true → A
    nobody u m e =
        let x : 1 ≤ waiting w = count_some (λ v. waits (stage_of w.table v)) (tickets_of w.table) u m e in
        let y : ⊥ = omega (arith, x, z) in absurd y

    table : tickets_of w.table ≡ j.tickets
    table = inv.table ∙ ap (λ y. table_of y j.tickets) f

    gap : (u : ℕ) → j.next ≤ u → u < w.next → due_at σ u ≡ false
    gap = subst (λ y. (u : ℕ) → (air_state y j).next ≤ u → u < w.next → due_at σ u ≡ false) f inv.gap

    stage :
        (u : ℕ) → Among u (tickets_of w.table) → (x : Stage) → stage_of w.table u ≡ x
        → StageOk (λ v. Launched v h) (λ v. LaunchedSince v h) j w.flight u x → Launched u h
    stage u m written e o = nobody u m (ap waits e)
    stage u m logged e o = nobody u m (ap waits e)
    stage u m running e o = o.1
    stage u m finished e o = o.1
    stage u m closing e o = o.1

    no_due : due_ahead σ w ≡ 0
    no_due = omega (arith, z)

    by :
        (u : ℕ) → first_position σ ≤ u → minute_of u ≤ greatest_reading h → due_at σ u ≡ true → Dec (u < j.next)
        → Dec (u < w.next) → Launched u h
    by u lo hi d (yes a) b =
        elim (inv.books.covered u lo a d) [
          | inl l ↦ l
          | inr m ↦
              (let m' : Among u (tickets_of w.table) = subst (Among u) (sym table) m in
              stage u m' (stage_of w.table u) refl (inv.stages u m'))
        ]
    by u lo hi d (no a) (yes b) = not_both d (gap u (omega arith) b)
    by u lo hi d (no a) (no b) =
        not_both d
        (due_none (due_at σ) (past_horizon w - w.next) w.next no_due u (omega arith)
        (let x : greatest_reading h ≡ w.horizon = mo.same_horizon in omega arith))
