-- The table as its tickets and a stage for each.
use Rattle.std.proofs.Common.{◌≡◌, refl, sym, ap, ◌∙◌, subst, inl, inr, List, [], ◌∷◌, ◌++◌, Bool, true, false, cond, ℕ, ◌<◌, arith, eqb}
use Rattle.std.proofs.Math.Decide.{ℕ_discrete}
use Rattle.disk.specs.Contents.{Among}
use Rattle.journal_model.specs.Lists.{Ascending, keep}
use Rattle.journal_model.proofs.Lists.{among_keep}
use Rattle.service.proofs.Lists.{eqb_same, eqb_differ, keep_same}
use Rattle.service.specs.Table.{Stage, logged, Entry, tickets_of, stage_of, mark, synced_table, all_logged, landed, stays}

-- the stages with that of t replaced
abbrev pub put : ℕ → Stage → (ℕ → Stage) → ℕ → Stage
put t s f u = cond (eqb u t) s (f u)

pub put_same : (t : ℕ) (s : Stage) (g : ℕ → Stage) (u : ℕ) → u ≡ t → put t s g u ≡ s
put_same t s g u e = ap (λ b. cond b s (g u)) (ap (λ v. eqb v t) e ∙ eqb_same t)

pub put_other : (t : ℕ) (s : Stage) (g : ℕ → Stage) (u : ℕ) → ¬ (u ≡ t) → put t s g u ≡ g u
put_other t s g u d = ap (λ b. cond b s (g u)) (eqb_differ u t d)

pub tickets_snoc : (tb : List Entry) (e : Entry) → tickets_of (tb ++ (e ∷ [])) ≡ tickets_of tb ++ (e.ticket ∷ [])
tickets_snoc [] e = refl
tickets_snoc (x ∷ xs) e = ap (λ r. x.ticket ∷ r) (tickets_snoc xs e)

pub stage_snoc :
    (tb : List Entry) (e : Entry) → ¬ (Among e.ticket (tickets_of tb)) → (u : ℕ)
    → Among u (tickets_of tb ++ (e.ticket ∷ []))
    → stage_of (tb ++ (e ∷ [])) u ≡ put e.ticket e.stage (stage_of tb) u
stage_snoc [] e d u m =
    elim m [
      | inl q ↦
          ap (λ z. cond z e.stage Stage.closing) (ap (λ v. eqb v e.ticket) q ∙ eqb_same e.ticket)
          ∙ sym (put_same e.ticket e.stage (stage_of []) u q)
      | inr q ↦ absurd q
    ]
stage_snoc (x ∷ xs) e d u m = go (ℕ_discrete u x.ticket) m (stage_snoc xs e (λ a. d (inr a)) u)
  where
    go :
        Dec (u ≡ x.ticket) → Among u (x.ticket ∷ (tickets_of xs ++ (e.ticket ∷ [])))
        → (Among u (tickets_of xs ++ (e.ticket ∷ []))
        → stage_of (xs ++ (e ∷ [])) u ≡ put e.ticket e.stage (stage_of xs) u)
        → cond (eqb u x.ticket) x.stage (stage_of (xs ++ (e ∷ [])) u) ≡ put e.ticket e.stage
        (stage_of (x ∷ xs)) u
    go (yes q) k ih =
        let a : eqb u x.ticket ≡ true = ap (λ v. eqb v x.ticket) q ∙ eqb_same x.ticket in
        let b : cond (eqb u x.ticket) x.stage (stage_of (xs ++ (e ∷ [])) u) ≡ x.stage =
        ap (λ z. cond z x.stage (stage_of (xs ++ (e ∷ [])) u)) a in
        let c : stage_of (x ∷ xs) u ≡ x.stage = ap (λ z. cond z x.stage (stage_of xs u)) a in
        b ∙ sym c ∙ sym (put_other e.ticket e.stage (stage_of (x ∷ xs)) u (λ r. d (inl (sym r ∙ q))))
    go (no q) (inl r) ih = absurd (q r)
    go (no q) (inr r) ih =
        let a : eqb u x.ticket ≡ false = eqb_differ u x.ticket q in
        ap (λ z. cond z x.stage (stage_of (xs ++ (e ∷ [])) u)) a
        ∙ ih r ∙ sym (ap (λ z. cond (eqb u e.ticket) e.stage (cond z x.stage (stage_of xs u))) a)

pub tickets_mark : (t : ℕ) (s : Stage) (tb : List Entry) → tickets_of (mark t s tb) ≡ tickets_of tb
tickets_mark t s [] = refl
tickets_mark t s (x ∷ xs) = ap (λ r. x.ticket ∷ r) (tickets_mark t s xs)

pub stage_mark :
    (t : ℕ) (s : Stage) (tb : List Entry) (u : ℕ) → Among u (tickets_of tb)
    → stage_of (mark t s tb) u ≡ put t s (stage_of tb) u
stage_mark t s [] u m = absurd m
stage_mark t s (x ∷ xs) u m = go (ℕ_discrete u x.ticket) m (stage_mark t s xs u)
  where
    go :
        Dec (u ≡ x.ticket) → Among u (x.ticket ∷ tickets_of xs)
        → (Among u (tickets_of xs) → stage_of (mark t s xs) u ≡ put t s (stage_of xs) u)
        → cond (eqb u x.ticket) (cond (eqb x.ticket t) s x.stage) (stage_of (mark t s xs) u) ≡ put t s
        (stage_of (x ∷ xs)) u
    go (yes q) k ih =
        let a : eqb u x.ticket ≡ true = ap (λ v. eqb v x.ticket) q ∙ eqb_same x.ticket in
        ap (λ z. cond z (cond (eqb x.ticket t) s x.stage) (stage_of (mark t s xs) u)) a
        ∙ ap (λ v. cond (eqb v t) s x.stage) (sym q)
        ∙ sym (ap (λ z. cond (eqb u t) s (cond z x.stage (stage_of xs u))) a)
    go (no q) (inl r) ih = absurd (q r)
    go (no q) (inr r) ih =
        let a : eqb u x.ticket ≡ false = eqb_differ u x.ticket q in
        ap (λ z. cond z (cond (eqb x.ticket t) s x.stage) (stage_of (mark t s xs) u)) a
        ∙ ih r ∙ sym (ap (λ z. cond (eqb u t) s (cond z x.stage (stage_of xs u))) a)

head_stage : (x : Entry) (xs : List Entry) → stage_of (x ∷ xs) x.ticket ≡ x.stage
head_stage x xs = ap (λ z. cond z x.stage (stage_of xs x.ticket)) (eqb_same x.ticket)

tail_stage : (x : Entry) (xs : List Entry) (u : ℕ) → ¬ (u ≡ x.ticket) → stage_of (x ∷ xs) u ≡ stage_of xs u
tail_stage x xs u d = ap (λ z. cond z x.stage (stage_of xs u)) (eqb_differ u x.ticket d)

pub tickets_sync :
    (tb : List Entry) → Ascending (tickets_of tb)
    → tickets_of (synced_table tb) ≡ keep (λ u. stays (stage_of tb u)) (tickets_of tb)
tickets_sync [] a = refl
tickets_sync (x ∷ xs) a =
    go (stays x.stage) refl
    (tickets_sync xs a.1
    ∙ keep_same (λ u. stays (stage_of xs u)) (λ u. stays (stage_of (x ∷ xs) u)) (tickets_of xs)
    (λ u m. ap stays (sym (tail_stage x xs u (λ e. let z : x.ticket < u = a.0 u m in omega arith)))))
  where
    K : List ℕ
    K = keep (λ u. stays (stage_of (x ∷ xs) u)) (tickets_of xs)

    go :
        (b : Bool) → stays x.stage ≡ b → tickets_of (synced_table xs) ≡ K
        → tickets_of
        (cond b (record { ticket = x.ticket; stage = landed x.stage } ∷ synced_table xs) (synced_table xs)) ≡
        cond (stays (stage_of (x ∷ xs) x.ticket)) (x.ticket ∷ K) K
    go true e ih =
        ap (λ r. x.ticket ∷ r) ih ∙ sym (ap (λ z. cond z (x.ticket ∷ K) K) (ap stays (head_stage x xs) ∙ e))
    go false e ih = ih ∙ sym (ap (λ z. cond z (x.ticket ∷ K) K) (ap stays (head_stage x xs) ∙ e))

pub stage_sync :
    (tb : List Entry) → Ascending (tickets_of tb) → (u : ℕ) → Among u (tickets_of (synced_table tb))
    → stage_of (synced_table tb) u ≡ landed (stage_of tb u)
stage_sync [] a u m = absurd m
stage_sync (x ∷ xs) a u m = go (stays x.stage) m (stage_sync xs a.1 u) (ℕ_discrete u x.ticket)
  where
    above : Among u (tickets_of (synced_table xs)) → ¬ (u ≡ x.ticket)
    above k e =
        let z : x.ticket < u =
        a.0 u
        (among_keep (λ v. stays (stage_of xs v)) (tickets_of xs) u
        (subst (Among u) (tickets_sync xs a.1) k)).0 in
        omega arith

    go :
        (b : Bool)
        → Among u
        (tickets_of
        (cond b (record { ticket = x.ticket; stage = landed x.stage } ∷ synced_table xs) (synced_table xs)))
        → (Among u (tickets_of (synced_table xs)) → stage_of (synced_table xs) u ≡ landed (stage_of xs u))
        → Dec (u ≡ x.ticket)
        → stage_of
        (cond b (record { ticket = x.ticket; stage = landed x.stage } ∷ synced_table xs) (synced_table xs)) u
        ≡ landed (stage_of (x ∷ xs) u)
    go true k ih (yes q) =
        ap (λ z. cond z (landed x.stage) (stage_of (synced_table xs) u))
        (ap (λ v. eqb v x.ticket) q ∙ eqb_same x.ticket)
        ∙ sym (ap landed (ap (stage_of (x ∷ xs)) q ∙ head_stage x xs))
    go true (inl k) ih (no q) = absurd (q k)
    go true (inr k) ih (no q) =
        ap (λ z. cond z (landed x.stage) (stage_of (synced_table xs) u)) (eqb_differ u x.ticket q)
        ∙ ih k ∙ sym (ap landed (tail_stage x xs u q))
    go false k ih q = ih k ∙ sym (ap landed (tail_stage x xs u (above k)))

pub tickets_logged : (ts : List ℕ) → tickets_of (all_logged ts) ≡ ts
tickets_logged [] = refl
tickets_logged (t ∷ ts) = ap (λ r. t ∷ r) (tickets_logged ts)

pub stage_logged : (ts : List ℕ) (u : ℕ) → Among u ts → stage_of (all_logged ts) u ≡ logged
stage_logged [] u m = absurd m
stage_logged (t ∷ ts) u m = go (ℕ_discrete u t) m (stage_logged ts u)
  where
    go :
        Dec (u ≡ t) → Among u (t ∷ ts) → (Among u ts → stage_of (all_logged ts) u ≡ logged)
        → cond (eqb u t) logged (stage_of (all_logged ts) u) ≡ logged
    go (yes q) k ih = ap (λ z. cond z logged (stage_of (all_logged ts) u)) (ap (λ v. eqb v t) q ∙ eqb_same t)
    go (no q) (inl r) ih = absurd (q r)
    go (no q) (inr r) ih = ap (λ z. cond z logged (stage_of (all_logged ts) u)) (eqb_differ u t q) ∙ ih r
