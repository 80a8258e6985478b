-- A cut, and the restart after it, keep the invariant.
use Rattle.std.proofs.Common.{◌≡◌, refl, sym, ap, ◌∙◌, subst, inl, inr, List, ◌∷◌, cond, ℕ, suc, ◌<◌, arith, length, eqb}
use Rattle.disk.specs.Contents.{Among}
use Rattle.journal_model.proofs.Sound.{Sound, sound_restarts, restarts_one, Survives, survives_old, survives_new, sound_cut}
use Rattle.journal_model.specs.Disks.{Disk, Cut}
use Rattle.journal_model.specs.Pages.{State, Page, state_after}
use Rattle.journal_model.specs.Positions.{minute_of, line_of}
use Rattle.journal_model.specs.Runs.{none_in_flight, in_flight, Found, Accepted}
use Rattle.service.proofs.Books.{Books, books_next}
use Rattle.service.proofs.Held.{Holds, Promised, Next, kinds_differ}
use Rattle.service.proofs.Invariant.{Air, Inv, Never, inv_fresh, inv_cong}
use Rattle.service.proofs.Lists.{eqb_same, eqb_differ}
use Rattle.service.proofs.Table.{tickets_logged, stage_logged}
use Rattle.service.specs.After.{after_restart}
use Rattle.service.specs.Calls.{Cutting, cutting}
use Rattle.service.specs.Events.{Event, restarted, History}
use Rattle.service.specs.Histories.{flight_after, add_flight, synced_pages, Launched}
use Rattle.service.specs.Setting.{Setting, first_position}
use Rattle.service.specs.Table.{logged, tickets_of, stage_of, all_logged}
use Rattle.service.specs.World.{no_due_slip, no_finish_slip, World}

fresh_at :
    (σ : Setting) (L : ℕ → Type 0) (S S' : List Page) (d : Disk) (n top : ℕ) (s : State) → S' ≡ S → top ≡ n
    → s ≡ state_after (first_position σ) S → Sound σ.blocks (first_position σ) S d n none_in_flight → Books σ L S
    → Inv σ L Never S' d top none_in_flight s.next (tickets_of (all_logged s.tickets))
    (stage_of (all_logged s.tickets)) no_due_slip no_finish_slip
fresh_at σ L S S' d n top s e_s en es i b =
    let P : List Page → Type 0 =
    λ X. Inv σ L Never X d top none_in_flight s.next s.tickets (λ u. logged) no_due_slip no_finish_slip in
    let Q : ℕ → Type 0 =
    λ x. Inv σ L Never S d x none_in_flight s.next s.tickets (λ u. logged) no_due_slip no_finish_slip in
    let R : State → Type 0 =
    λ (x : State).
    Inv σ L Never S d n none_in_flight x.next x.tickets (λ u. logged) no_due_slip no_finish_slip in
    inv_cong (subst P (sym e_s) (subst Q (sym en) (subst R (sym es) (inv_fresh i b)))) (tickets_logged s.tickets)
    (λ u m. stage_logged s.tickets u m)

module _ (σ : Setting) (h : History) (w : World) (i : Holds σ h w) where
  books_new : (p : Page) → w.flight ≡ in_flight p → Books σ (λ u. Launched u h) (p ∷ synced_pages σ h)
  books_new p f =
      books_next σ (λ u. Launched u h) (synced_pages σ h) p p.body refl i.inv.books
      (subst (λ z. Air σ (λ u. Launched u h) z (state_after (first_position σ) (synced_pages σ h))) f i.inv.air)

  in_lines :
      (X : List Page) → Books σ (λ u. Launched u h) X → (u : ℕ)
      → Among u (state_after (first_position σ) X).tickets → line_of u < σ.job_lines
  in_lines X b u m = σ.due_in_file (minute_of u) (line_of u) (b.opened u m).0

  -- What the restart after a cut finds.
  accepted_at :
      (d : Disk) → Survives σ.blocks (first_position σ) (synced_pages σ h) w.newest w.flight d
      → Accepted σ.blocks σ.job_lines (first_position σ) (synced_pages σ h) (flight_after h) d.latest
  accepted_at d (survives_old snd) =
      let r =
      sound_restarts σ.blocks σ.job_lines (first_position σ) (synced_pages σ h) d w.newest snd
      (in_lines (synced_pages σ h) i.inv.books) in
      let num : length (synced_pages σ h) ≡ suc w.newest = snd.number in
      record {
        top = w.newest;
        state = state_after (first_position σ) (synced_pages σ h);
        restarts = r;
        found = inl (omega arith, refl);
        only = λ n s q.
            restarts_one σ.blocks σ.job_lines d.latest n w.newest s
            (state_after (first_position σ) (synced_pages σ h)) q r;
      }
  accepted_at d (survives_new p f snd) =
      let r =
      sound_restarts σ.blocks σ.job_lines (first_position σ) (p ∷ synced_pages σ h) d (suc w.newest)
      snd (in_lines (p ∷ synced_pages σ h) (books_new p f)) in
      let num : length (synced_pages σ h) ≡ suc w.newest = i.inv.journal.number in
      record {
        top = suc w.newest;
        state = state_after (first_position σ) (p ∷ synced_pages σ h);
        restarts = r;
        found = inr (p, (i.tie ∙ f, (omega arith, refl)));
        only = λ n s q.
            restarts_one σ.blocks σ.job_lines d.latest n (suc w.newest) s
            (state_after (first_position σ) (p ∷ synced_pages σ h)) q r;
      }

  pub accepted :
      (d : Disk) → Cut w.disk d
      → Accepted σ.blocks σ.job_lines (first_position σ) (synced_pages σ h) (flight_after h) d.latest
  accepted d y =
      accepted_at d
      (sound_cut σ.blocks (first_position σ) (synced_pages σ h) w.disk d w.newest w.flight
      i.inv.journal y)

pub step_cut : (σ : Setting) (h : History) (w v : World) (e : Event) → Holds σ h w → Cutting σ w e v → Next σ h e v
step_cut σ h w v e i (cutting d top s k kk y r) =
    go (sound_cut σ.blocks (first_position σ) S w.disk d w.newest w.flight i.inv.journal y)
  where
    S : List Page
    S = synced_pages σ h

    found : Promised σ (restarted top s) h
    found = record {
      in_order = λ x q. kinds_differ _ _ q (omega arith);
      finds = λ top' s' q.
          subst (λ z. Found (first_position σ) (synced_pages σ h) (flight_after h) top' z)
          (let same : s ≡ s' = cc in same)
          (subst (λ z. Found (first_position σ) (synced_pages σ h) (flight_after h) z s) (let same : top ≡ top' = cc in same)
          at_once);
      again = λ x q. kinds_differ _ _ q (omega arith);
    }
      where
        a : Accepted σ.blocks σ.job_lines (first_position σ) (synced_pages σ h) (flight_after h) d.latest
        a = accepted σ h w i d y

        at_once : Found (first_position σ) (synced_pages σ h) (flight_after h) top s
        at_once =
            subst (λ z. Found (first_position σ) (synced_pages σ h) (flight_after h) z s) (sym (a.only top s r).0)
            (subst (λ z. Found (first_position σ) (synced_pages σ h) (flight_after h) a.top z)
            (sym (a.only top s r).1) a.found)

    go :
        Survives σ.blocks (first_position σ) S w.newest w.flight d
        → Next σ h (restarted top s) (after_restart d top s k)
    go (survives_old snd) =
        let one =
        restarts_one σ.blocks σ.job_lines d.latest top w.newest s (state_after (first_position σ) S)
        r
        (sound_restarts σ.blocks σ.job_lines (first_position σ) S d w.newest snd
        (in_lines σ h w i S i.inv.books)) in
        let num : length S ≡ suc w.newest = snd.number in
        let differ : ¬ (top ≡ length S) = (λ q. let z : top ≡ w.newest = one.0 in omega arith) in
        let e_s : synced_pages σ (restarted top s ∷ h) ≡ S =
        ap (λ b. cond b (add_flight (flight_after h) S) S) (eqb_differ top (length S) differ) in (
          record {
            inv =
                fresh_at σ (λ u. Launched u h) S (synced_pages σ (restarted top s ∷ h)) d w.newest top s e_s
                one.0 one.1 snd i.inv.books;
            tie = refl;
          },
          found,
        )
    go (survives_new p f snd) =
        let one =
        restarts_one σ.blocks σ.job_lines d.latest top (suc w.newest) s
        (state_after (first_position σ) (p ∷ S)) r
        (sound_restarts σ.blocks σ.job_lines (first_position σ) (p ∷ S) d (suc w.newest) snd
        (in_lines σ h w i (p ∷ S) (books_new σ h w i p f))) in
        let num : length S ≡ suc w.newest = i.inv.journal.number in
        let same : top ≡ length S = one.0 ∙ sym num in
        let e_s : synced_pages σ (restarted top s ∷ h) ≡ p ∷ S =
        ap (λ b. cond b (add_flight (flight_after h) S) S)
        (ap (λ x. eqb x (length S)) same ∙ eqb_same (length S))
        ∙ ap (λ x. add_flight x S) (i.tie ∙ f) in (
          record {
            inv =
                fresh_at σ (λ u. Launched u h) (p ∷ S) (synced_pages σ (restarted top s ∷ h)) d (suc w.newest)
                top s e_s one.0 one.1 snd (books_new σ h w i p f);
            tie = refl;
          },
          found,
        )
