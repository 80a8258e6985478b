-- The invariant holds throughout a service, and with it launch order and restart.
use Rattle.std.proofs.Common.{◌≡◌, refl, sym, ap, ◌∙◌, subst, inl, inr, List, [], ◌∷◌, ℕ, suc, arith}
use Rattle.journal_model.proofs.Sound.{proper_tickets, AirOk, Sound, sound_format}
use Rattle.journal_model.specs.Disks.{Disk, Formatted}
use Rattle.journal_model.specs.Pages.{format, done, Page, Shows, state_after, format_page}
use Rattle.journal_model.specs.Runs.{Flight, none_in_flight, in_flight, TicketsShown}
use Rattle.page.specs.declared.head.Ending.{Ending}
use Rattle.service.proofs.Books.{Books, next_law}
use Rattle.service.proofs.Held.{Holds, Promised, harmless}
use Rattle.service.proofs.Invariant.{Air, inv_fresh, inv_cong}
use Rattle.service.proofs.Lists.{clash}
use Rattle.service.proofs.Cuts.{accepted}
use Rattle.service.proofs.Service.{step}
use Rattle.service.specs.After.{after_restart}
use Rattle.service.specs.Events.{Event, formatted, History}
use Rattle.service.specs.Histories.{add_flight, synced_pages, Launched, Each}
use Rattle.service.specs.Promises.{PositionsOrdered, InOrder, LaunchOrder, RestartAccepted, Finds, RestartFinds, NextKept, CheckpointsKept, Again, LaunchedAgain}
use Rattle.service.specs.Service.{Service, begins, goes_on}
use Rattle.service.specs.Setting.{Setting, first_position}
use Rattle.service.specs.World.{World}

format_not_done : {A : Type 0} (u : ℕ) (c : Ending) → format ≡ done u c → A
format_not_done u c q = clash (cc)

first_state :
    (σ : Setting) (d : Disk) (k : ℕ) → Formatted (first_position σ) d
    → Holds σ (formatted ∷ []) (after_restart d 0 (record { next = first_position σ; tickets = [] }) k)
first_state σ d k y = record { inv = inv_cong (inv_fresh snd books) refl (λ u m. absurd m); tie = refl }
  where
    S : List Page
    S = format_page (first_position σ) ∷ []

    shows : Shows (state_after (first_position σ) S)
    shows = record { ascending = tt; below = λ u m. absurd m; few = omega arith }

    snd : Sound σ.blocks (first_position σ) S d 0 none_in_flight
    snd = sound_format σ.blocks (first_position σ) d y

    books : Books σ (λ u. Launched u (formatted ∷ [])) S
    books =
        record {
          shows = shows;
          covered = λ u lo hi e. let z : ⊥ = omega arith in absurd z;
          opened = λ u m. absurd m;
          closed = λ u c p m e.
              elim m [ inl q ↦ format_not_done u c (ap (λ (z : Page). z.body) (sym q) ∙ e) | inr q ↦ absurd q ];
          law = ((omega arith, λ u x z. let k : ⊥ = omega arith in absurd k), tt);
          from_first = omega arith;
          open_from = λ u m. absurd m;
        }

pub holds : (σ : Setting) (h : History) (w : World) → Service σ h w → Holds σ h w × Each (Promised σ) h
holds σ h w (begins d k kk y) = (first_state σ d k y, (harmless σ formatted [] refl, tt))
holds σ h w (goes_on {h = h'} {w = w'} {e = e'} s c) =
    let r = holds σ h' w' s in let n = step σ h' w' w e' r.0 c in (n.0, (n.1, r.1))

each :
    (P Q : Event → History → Type 0) (h : History) → ((e : Event) (p : History) → P e p → Q e p) → Each P h
    → Each Q h
each P Q [] f x = tt
each P Q (e ∷ h) f x = (f e h x.0, each P Q h f x.1)

pub positions_ordered : PositionsOrdered
positions_ordered =
    record {
      minute_back = λ m l h. omega arith;
      line_back = λ m l h. omega arith;
      rank_back = λ r. (omega arith, omega arith);
      by_minute = λ r s h. omega arith;
      then_line = λ r s e h. omega arith;
    }

pub launch_order : LaunchOrder
launch_order σ h w s = each (Promised σ) (InOrder σ) h (λ e p x. x.in_order) (holds σ h w s).1

pub checkpoints_kept : CheckpointsKept
checkpoints_kept σ h w s =
    subst (λ f. NextKept σ (add_flight f S) × TicketsShown (first_position σ) (add_flight f S)) (sym i.tie)
    (at w.flight i.inv.air i.inv.journal.air)
  where
    i : Holds σ h w
    i = (holds σ h w s).0

    S : List Page
    S = synced_pages σ h

    at :
        (f : Flight) → Air σ (λ u. Launched u h) f (state_after (first_position σ) S)
        → AirOk σ.blocks w.disk w.newest f (state_after (first_position σ) S)
        → NextKept σ (add_flight f S) × TicketsShown (first_position σ) (add_flight f S)
    at none_in_flight a k = (i.inv.books.law, i.inv.journal.shown)
    at (in_flight p) a k =
        let n = next_law σ (λ u. Launched u h) (state_after (first_position σ) S) p p.body refl a in (
          (n, i.inv.books.law),
          (proper_tickets (suc w.newest) p (state_after (first_position σ) S) k.1, i.inv.journal.shown),
        )

pub restart_accepted : RestartAccepted
restart_accepted σ h w s d y = accepted σ h w (holds σ h w s).0 d y

pub restart_finds : RestartFinds
restart_finds σ h w s = each (Promised σ) (Finds σ) h (λ e p x. x.finds) (holds σ h w s).1

pub launched_again : LaunchedAgain
launched_again σ h w s = each (Promised σ) (Again σ) h (λ e p x. x.again) (holds σ h w s).1
