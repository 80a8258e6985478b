-- What the synced pages say of the tickets, and what a page in flight will add.
use Rattle.std.proofs.Common.{◌≡◌, refl, sym, ap, ◌∙◌, subst, ◌⊎◌, inl, inr, List, [], ◌∷◌, ◌++◌, Bool, true, false, cond, not, ℕ, suc, ◌%◌, ◌≤◌, ◌<◌, arith, length, eqb}
use Rattle.std.proofs.Math.Decide.{ℕ_discrete, dec_lt}
use Rattle.disk.specs.Contents.{Among}
use Rattle.journal_model.specs.Lists.{Ascending, without}
use Rattle.journal_model.specs.Pages.{Body, start, done, State, plain, checkpoint, Page, replay, Shows, page_for, leaves, state_after}
use Rattle.journal_model.specs.Runs.{Proper, proper_checkpoint, proper_plain}
use Rattle.page.specs.declared.head.Ending.{Ending}
use Rattle.disk.proofs.Among.{among_snoc, snoc_old, snoc_new}
use Rattle.service.proofs.Lists.{clash, eqb-true, eqb_same, not_both, length_snoc, length_keep, asc_keep, asc_snoc, without_not, without_old, without_other}
use Rattle.service.specs.Promises.{NextKept}
use Rattle.service.specs.Setting.{Setting, due_at, first_position, NoneDue}

-- a start page of t is among the pages
abbrev pub StartIn : ℕ → List Page → Type 0
StartIn t S = (p : Page) × (Among p S × (p.body ≡ start t))

-- L says which tickets were launched.
pub record Books (σ : Setting) (L : ℕ → Type 0) (S : List Page) : Type 0 where
  pub shows : Shows (state_after (first_position σ) S)
  pub covered :
      (u : ℕ) → first_position σ ≤ u → u < (state_after (first_position σ) S).next → due_at σ u ≡ true
      → L u ⊎ Among u (state_after (first_position σ) S).tickets
  pub opened : (u : ℕ) → Among u (state_after (first_position σ) S).tickets → (due_at σ u ≡ true) × StartIn u S
  pub closed :
      (u : ℕ) (c : Ending) (p : Page) → Among p S → p.body ≡ done u c
      → (u < (state_after (first_position σ) S).next) × (¬ (Among u (state_after (first_position σ) S).tickets))
  pub law : NextKept σ S
  pub from_first : first_position σ ≤ (state_after (first_position σ) S).next
  pub open_from : (u : ℕ) → Among u (state_after (first_position σ) S).tickets → first_position σ ≤ u

-- Page p may follow the state j, and leaves k.
pub data Follows (σ : Setting) (L : ℕ → Type 0) (j k : State) : Body → Type 0 where
  follows_start :
      {t : ℕ} → k.next ≡ suc t → k.tickets ≡ j.tickets ++ (t ∷ []) → j.next ≤ t → due_at σ t ≡ true
      → NoneDue σ j.next t → length j.tickets < 16 → Follows σ L j k (start t)
  follows_done :
      {t : ℕ} {c : Ending} → k.tickets ≡ without t j.tickets → j.next ≤ k.next
      → NoneDue σ j.next k.next → Among t j.tickets → L t → Follows σ L j k (done t c)

pub follows_more :
    {σ : Setting} {L M : ℕ → Type 0} {j k : State} {b : Body} → ((u : ℕ) → L u → M u) → Follows σ L j k b
    → Follows σ M j k b
follows_more {σ} {L} {M} {j} {k} {b} f (follows_start a c d e g h) = follows_start a c d e g h
follows_more {σ} {L} {M} {j} {k} {b} f (follows_done {t} a c d e g) = follows_done a c d e (f t g)

pub books_more : {σ : Setting} {L M : ℕ → Type 0} {S : List Page} → ((u : ℕ) → L u → M u) → Books σ L S → Books σ M S
books_more {σ} {L} {M} {S} f i = record {
  shows = i.shows;
  covered = λ u lo hi d. elim (i.covered u lo hi d) [ inl a ↦ inl (f u a) | inr a ↦ inr a ];
  opened = i.opened;
  closed = i.closed;
  law = i.law;
  from_first = i.from_first;
  open_from = i.open_from;
}

pub done_ticket : (t u : ℕ) (c e : Ending) → done t c ≡ done u e → t ≡ u
done_ticket t u c e q = cc

pub start_ticket : (t u : ℕ) → start t ≡ start u → t ≡ u
start_ticket t u q = cc

pub start_not_done : {A : Type 0} (t u : ℕ) (c : Ending) → start t ≡ done u c → A
start_not_done t u c q = clash (cc)

pub follows_next : {σ : Setting} {L : ℕ → Type 0} {j k : State} {b : Body} → Follows σ L j k b → j.next ≤ k.next
follows_next {σ} {L} {j} {k} {b} (follows_start a c d e g h) = omega arith
follows_next {σ} {L} {j} {k} {b} (follows_done a c d e g) = c

pub next_law :
    (σ : Setting) (L : ℕ → Type 0) (j : State) (p : Page) (b : Body) → p.body ≡ b → Follows σ L j (leaves p j) b
    → ((replay p.body j).next ≤ (leaves p j).next) × NoneDue σ (replay p.body j).next (leaves p j).next
next_law σ L j p b pb (follows_start {t} en et lo d gap few) =
    let e : (replay p.body j).next ≡ suc t = ap (λ x. (replay x j).next) pb in
    (omega (arith, e, en), λ u x y. let z : ⊥ = omega (arith, e, en, x, y) in absurd z)
next_law σ L j p b pb (follows_done {t} et lo gap m lt) =
    let e : (replay p.body j).next ≡ j.next = ap (λ x. (replay x j).next) pb in
    (omega (arith, e, lo), λ u x y. gap u (omega (arith, e, x)) y)

pub books_next :
    (σ : Setting) (L : ℕ → Type 0) (S : List Page) (p : Page) (b : Body) → p.body ≡ b → Books σ L S
    → Follows σ L (state_after (first_position σ) S) (leaves p (state_after (first_position σ) S)) b
    → Books σ L (p ∷ S)
books_next σ L S p b pb i (follows_start {t} en et lo d gap few) = record {
  shows = record {
    ascending =
        subst Ascending (sym et)
        (asc_snoc j.tickets t i.shows.ascending
        (λ u m. let x : u < j.next = i.shows.below u m in omega arith));
    below = λ u m.
        elim (old_or_new u m) [
          | inl a ↦ (let x : u < j.next = i.shows.below u a in omega arith)
          | inr e ↦ omega arith
        ];
    few =
        subst (λ xs. length xs ≤ 16) (sym et)
        (let x : length (j.tickets ++ (t ∷ [])) ≡ suc (length j.tickets) = length_snoc j.tickets t in
        omega arith);
  };
  covered = λ u first hi dd. cover u first hi dd (ℕ_discrete u t) (dec_lt u j.next);
  opened = λ u m.
      elim (old_or_new u m) [
        | inl a ↦ ((i.opened u a).0, ((i.opened u a).1.0, (inr (i.opened u a).1.1.0, (i.opened u a).1.1.1)))
        | inr e ↦ (ap (due_at σ) e ∙ d, (p, (inl refl, pb ∙ ap start (sym e))))
      ];
  closed = λ u c q m e. close u c q e m;
  law = (
    next_law σ L (state_after (first_position σ) S) p b pb (follows_start {t = t} en et lo d gap few),
    i.law,
  );
  from_first = let x : first_position σ ≤ j.next = i.from_first in omega (arith, x, en, lo);
  open_from = λ u m.
      elim (old_or_new u m) [
        | inl a ↦ i.open_from u a
        | inr e ↦ (let x : first_position σ ≤ j.next = i.from_first in omega (arith, x, lo, e))
      ];
}
  where
    j : State
    j = state_after (first_position σ) S

    k : State
    k = leaves p j

    old_or_new : (u : ℕ) → Among u k.tickets → Among u j.tickets ⊎ (u ≡ t)
    old_or_new u m = among_snoc j.tickets u t (subst (Among u) et m)

    cover :
        (u : ℕ) → first_position σ ≤ u → u < k.next → due_at σ u ≡ true → Dec (u ≡ t) → Dec (u < j.next)
        → L u ⊎ Among u k.tickets
    cover u first hi dd (yes e) x =
        inr
        (subst (Among u) (sym et) (subst (λ v. Among v (j.tickets ++ (t ∷ []))) (sym e) (snoc_new j.tickets t)))
    cover u first hi dd (no e) (yes x) =
        elim (i.covered u first x dd) [
          | inl a ↦ inl a
          | inr a ↦ inr (subst (Among u) (sym et) (snoc_old j.tickets u t a))
        ]
    cover u first hi dd (no e) (no x) = not_both dd (gap u (omega arith) (omega arith))

    close :
        (u : ℕ) (c : Ending) (q : Page) → q.body ≡ done u c → Among q (p ∷ S)
        → (u < k.next) × (¬ (Among u k.tickets))
    close u c q e (inl r) = start_not_done t u c (sym pb ∙ ap (λ (x : Page). x.body) (sym r) ∙ e)
    close u c q e (inr m) = (
      let x : u < j.next = (i.closed u c q m e).0 in
          omega arith,
      λ a. elim (old_or_new u a)
          [ inl y ↦ (i.closed u c q m e).1 y | inr y ↦ (let x : u < j.next = (i.closed u c q m e).0 in omega arith) ],
    )
books_next σ L S p b pb i (follows_done {t} {c} et lo gap m lt) = record {
  shows = record {
    ascending = subst Ascending (sym et) (asc_keep (λ x. not (eqb x t)) j.tickets i.shows.ascending);
    below = λ u a. let x : u < j.next = i.shows.below u (old u a) in omega arith;
    few =
        subst (λ xs. length xs ≤ 16) (sym et)
        (let x : length (without t j.tickets) ≤ length j.tickets =
        length_keep (λ x. not (eqb x t)) j.tickets in
        let y : length j.tickets ≤ 16 = i.shows.few in omega arith);
  };
  covered = λ u first hi dd. cover u first hi dd (ℕ_discrete u t) (dec_lt u j.next);
  opened = λ u a. (
    (i.opened u (old u a)).0,
    ((i.opened u (old u a)).1.0, (inr (i.opened u (old u a)).1.1.0, (i.opened u (old u a)).1.1.1)),
  );
  closed = λ u e q a y. close u e q y a;
  law = (
    next_law σ L (state_after (first_position σ) S) p b pb (follows_done {t = t} {c = c} et lo gap m lt),
    i.law,
  );
  from_first = let x : first_position σ ≤ j.next = i.from_first in omega (arith, x, lo);
  open_from = λ u a. i.open_from u (old u a);
}
  where
    j : State
    j = state_after (first_position σ) S

    k : State
    k = leaves p j

    old : (u : ℕ) → Among u k.tickets → Among u j.tickets
    old u a = without_old t j.tickets u (subst (Among u) et a)

    cover :
        (u : ℕ) → first_position σ ≤ u → u < k.next → due_at σ u ≡ true → Dec (u ≡ t) → Dec (u < j.next)
        → L u ⊎ Among u k.tickets
    cover u first hi dd (yes e) x = inl (subst L (sym e) lt)
    cover u first hi dd (no e) (yes x) =
        elim (i.covered u first x dd) [
          | inl a ↦ inl a
          | inr a ↦ inr (subst (Among u) (sym et) (without_other t j.tickets u a e))
        ]
    cover u first hi dd (no e) (no x) = not_both dd (gap u (omega arith) hi)

    close :
        (u : ℕ) (e : Ending) (q : Page) → q.body ≡ done u e → Among q (p ∷ S)
        → (u < k.next) × (¬ (Among u k.tickets))
    close u e q y (inl r) =
        let x : u ≡ t = done_ticket u t e c (sym y ∙ ap (λ (x : Page). x.body) r ∙ pb) in
        let z : t < j.next = i.shows.below t m in (
          omega arith,
          λ a. without_not t j.tickets (subst (λ v. Among v (without t j.tickets)) x (subst (Among u) et a)),
        )
    close u e q y (inr a) =
        (let x : u < j.next = (i.closed u e q a y).0 in omega arith, λ z. (i.closed u e q a y).1 (old u z))

-- The page that a log writes.
pub start_follows :
    (σ : Setting) (L : ℕ → Type 0) (j : State) (n t : ℕ) → Shows j → j.next ≤ t → due_at σ t ≡ true
    → NoneDue σ j.next t → length j.tickets < 16
    → let p : Page = page_for n (start t) (record { next = suc t; tickets = j.tickets ++ (t ∷ []) }) in
    Proper n p j × Follows σ L j (leaves p j) (start t)
start_follows σ L j n t h lo d gap few = go (eqb (n % 16) 0) refl
  where
    k : State
    k = record { next = suc t; tickets = j.tickets ++ (t ∷ []) }

    shows : Shows k
    shows =
        record {
          ascending =
              asc_snoc j.tickets t h.ascending (λ u m. let x : u < j.next = h.below u m in omega arith);
          below = λ u m.
              elim (among_snoc j.tickets u t m) [
                | inl a ↦ (let x : u < j.next = h.below u a in omega arith)
                | inr e ↦ omega arith
              ];
          few =
              let x : length (j.tickets ++ (t ∷ [])) ≡ suc (length j.tickets) = length_snoc j.tickets t in
              omega arith;
        }

    go :
        (b : Bool) → eqb (n % 16) 0 ≡ b
        → let p : Page = record { body = start t; shown = cond b (checkpoint k) plain } in
        Proper n p j × Follows σ L j (leaves p j) (start t)
    go true e = (
      proper_checkpoint (eqb-true (n % 16) 0 e) refl shows (refl, snoc_new j.tickets t),
      follows_start refl refl lo d gap few,
    )
    go false e = (
      proper_plain (λ q. not_both (ap (λ v. eqb v 0) q ∙ eqb_same 0) e) (lo, few),
      follows_start refl refl lo d gap few,
    )

-- The page that a settle writes; the engine's next rank-of may be past the journal's.
pub done_follows :
    (σ : Setting) (L : ℕ → Type 0) (j : State) (n t : ℕ) (c : Ending) (next : ℕ) → Shows j → j.next ≤ next
    → NoneDue σ j.next next → Among t j.tickets → L t
    → let p : Page = page_for n (done t c) (record { next = next; tickets = without t j.tickets }) in
    Proper n p j × Follows σ L j (leaves p j) (done t c) × ((leaves p j).next ≤ next)
done_follows σ L j n t c next h lo gap m lt = go (eqb (n % 16) 0) refl
  where
    k : State
    k = record { next = next; tickets = without t j.tickets }

    shows : Shows k
    shows =
        record {
          ascending = asc_keep (λ x. not (eqb x t)) j.tickets h.ascending;
          below = λ u a. let x : u < j.next = h.below u (without_old t j.tickets u a) in omega arith;
          few =
              let x : length (without t j.tickets) ≤ length j.tickets =
              length_keep (λ x. not (eqb x t)) j.tickets in
              let y : length j.tickets ≤ 16 = h.few in omega arith;
        }

    go :
        (b : Bool) → eqb (n % 16) 0 ≡ b
        → let p : Page = record { body = done t c; shown = cond b (checkpoint k) plain } in
        Proper n p j × Follows σ L j (leaves p j) (done t c) × ((leaves p j).next ≤ next)
    go true e = (
      proper_checkpoint (eqb-true (n % 16) 0 e) refl shows
          (let x : t < j.next = h.below t m in omega arith, without_not t j.tickets),
      follows_done refl lo gap m lt,
      omega arith,
    )
    go false e = (
      proper_plain (λ q. not_both (ap (λ v. eqb v 0) q ∙ eqb_same 0) e) m,
      follows_done refl (omega arith) (λ u a b. let x : ⊥ = omega arith in absurd x) m lt,
      lo,
    )
