-- The work that is left, and what eases it.
use Rattle.std.proofs.Common.{◌≡◌, refl, sym, ap, ◌∙◌, List, Bool, true, false, ℕ, suc, ◌+◌, ◌-◌, ◌*◌, ◌/◌, ◌≤◌, ◌<◌, arith, length}
use Rattle.std.proofs.Math.Decide.{ℕ_discrete}
use Rattle.disk.specs.Contents.{Among}
use Rattle.journal_model.specs.Runs.{Flight, none_in_flight, in_flight}
use Rattle.service.proofs.Counts.{count, count_le, count_lt, due_skip}
use Rattle.service.proofs.Lists.{not_both}
use Rattle.service.proofs.Table.{put, put_same, put_other, tickets_mark, stage_mark}
use Rattle.service.specs.Lists.{how_many}
use Rattle.service.specs.Progress.{positions_ahead, due_ahead}
use Rattle.service.specs.Setting.{Setting, due_at}
use Rattle.service.specs.Table.{Stage, written, logged, running, finished, closing, Entry, tickets_of, stage_of, mark, stays}
use Rattle.service.specs.World.{Launcher, World}

-- The number of the newest page, counting one that is in flight.
abbrev pub newest_with : Flight → ℕ → ℕ
newest_with none_in_flight n = n
newest_with (in_flight p) n = suc n

-- The launcher has a place.
abbrev pub Place : Launcher → Type 0
Place l = length l.held < l.capacity

-- A ticket that is yet to be launched.
abbrev pub waits : Stage → Bool
waits written = true
waits logged = true
waits running = false
waits finished = false
waits closing = false

-- how many tickets of the table are yet to be launched
abbrev pub waiting : World → ℕ
waiting w = count (λ u. waits (stage_of w.table u)) (tickets_of w.table)

-- the launches that are left
abbrev pub left : Setting → World → ℕ
left σ w = waiting w + due_ahead σ w

-- and with them the looks that may be spent
abbrev pub work : Setting → World → ℕ
work σ w = left σ w + positions_ahead w / 4096

-- the newest page number once all that is left is written
abbrev pub pages : Setting → World → ℕ
pages σ w =
    newest_with w.flight w.newest +
    (2 * due_ahead σ w + count (λ u. stays (stage_of w.table u)) (tickets_of w.table))

-- from w to v nothing gets more
pub record Eases (σ : Setting) (w v : World) : Type 0 where
  pub fewer : left σ v ≤ left σ w
  pub less : work σ v ≤ work σ w
  pub room : pages σ v ≤ pages σ w

pub eases_refl : {σ : Setting} {w : World} → Eases σ w w
eases_refl {σ} {w} = record { fewer = omega arith; less = omega arith; room = omega arith }

pub eases_trans : {σ : Setting} {a b c : World} → Eases σ a b → Eases σ b c → Eases σ a c
eases_trans {σ} {a} {b} {c} x y =
    let x1 : left σ b ≤ left σ a = x.fewer in let y1 : left σ c ≤ left σ b = y.fewer in
    let x2 : work σ b ≤ work σ a = x.less in let y2 : work σ c ≤ work σ b = y.less in
    let x3 : pages σ b ≤ pages σ a = x.room in let y3 : pages σ c ≤ pages σ b = y.room in
    record { fewer = le3 y1 x1; less = le3 y2 x2; room = le3 y3 x3 }
  where
    le3 : {m n k : ℕ} → m ≤ n → n ≤ k → m ≤ k
    le3 p q = omega arith

-- From the parts of the measures.
pub eases_of : {σ : Setting} {w v : World} {wv ww dv dw pv pw sv sw nv nw : ℕ}
    → waiting v ≡ wv → waiting w ≡ ww → due_ahead σ v ≡ dv → due_ahead σ w ≡ dw → positions_ahead v ≡ pv → positions_ahead w ≡ pw
    → count (λ u. stays (stage_of v.table u)) (tickets_of v.table) ≡ sv
    → count (λ u. stays (stage_of w.table u)) (tickets_of w.table) ≡ sw
    → newest_with v.flight v.newest ≡ nv → newest_with w.flight w.newest ≡ nw
    → wv + dv ≤ ww + dw → pv ≤ pw → nv + (2 * dv + sv) ≤ nw + (2 * dw + sw) → Eases σ w v
eases_of {σ} {w} {v} {wv} {ww} {dv} {dw} {pv} {pw} {sv} {sw} {nv} {nw} e1 e2 e3 e4 e5 e6 e7 e8 e9 e10 a b c =
    record { fewer = one; less = two; room = three }
  where
    one : left σ v ≤ left σ w
    one = omega arith

    two : work σ v ≤ work σ w
    two = omega arith

    three : pages σ v ≤ pages σ w
    three = omega arith

-- Only the stages of the table's tickets count.
pub count_cong :
    (q : Stage → Bool) (ts ts' : List ℕ) (g g' : ℕ → Stage) → ts' ≡ ts → ((u : ℕ) → Among u ts → g' u ≡ g u)
    → count (λ u. q (g' u)) ts' ≡ count (λ u. q (g u)) ts
count_cong q ts ts' g g' e eq =
    ap (count (λ u. q (g' u))) e
    ∙ (let a : count (λ u. q (g' u)) ts ≤ count (λ u. q (g u)) ts =
    count_le (λ u. q (g u)) (λ u. q (g' u)) ts (λ u m k. sym (ap q (eq u m)) ∙ k) in
    let b : count (λ u. q (g u)) ts ≤ count (λ u. q (g' u)) ts =
    count_le (λ u. q (g' u)) (λ u. q (g u)) ts (λ u m k. ap q (eq u m) ∙ k) in
    omega arith)

pub mark_cong :
    (q : Stage → Bool) (t : ℕ) (s : Stage) (tb : List Entry)
    → count (λ u. q (stage_of (mark t s tb) u)) (tickets_of (mark t s tb)) ≡ count
    (λ u. q (put t s (stage_of tb) u)) (tickets_of tb)
mark_cong q t s tb =
    count_cong q (tickets_of tb) (tickets_of (mark t s tb)) (put t s (stage_of tb)) (stage_of (mark t s tb))
    (tickets_mark t s tb) (stage_mark t s tb)

pub count_put :
    (q : Stage → Bool) (t : ℕ) (s : Stage) (g : ℕ → Stage) (ts : List ℕ) → (q s ≡ true → q (g t) ≡ true)
    → count (λ u. q (put t s g u)) ts ≤ count (λ u. q (g u)) ts
count_put q t s g ts f = count_le (λ u. q (g u)) (λ u. q (put t s g u)) ts (λ u m e. at u e (ℕ_discrete u t))
  where
    at : (u : ℕ) → q (put t s g u) ≡ true → Dec (u ≡ t) → q (g u) ≡ true
    at u e (yes k) = ap (λ z. q (g z)) k ∙ f (sym (ap q (put_same t s g u k)) ∙ e)
    at u e (no k) = sym (ap q (put_other t s g u k)) ∙ e

pub count_put_lt :
    (q : Stage → Bool) (t : ℕ) (s : Stage) (g : ℕ → Stage) (ts : List ℕ) → Among t ts → q (g t) ≡ true → q s ≡ false
    → suc (count (λ u. q (put t s g u)) ts) ≤ count (λ u. q (g u)) ts
count_put_lt q t s g ts m a b =
    count_lt (λ u. q (g u)) (λ u. q (put t s g u)) ts (λ u k e. at u e (ℕ_discrete u t)) t m a
    (ap q (put_same t s g t refl) ∙ b)
  where
    at : (u : ℕ) → q (put t s g u) ≡ true → Dec (u ≡ t) → q (g u) ≡ true
    at u e (yes k) = not_both (sym (ap q (put_same t s g u k)) ∙ e) b
    at u e (no k) = sym (ap q (put_other t s g u k)) ∙ e

pub due_same :
    (σ : Setting) (a b h : ℕ) → a ≤ b → b ≤ h → ((u : ℕ) → a ≤ u → u < b → due_at σ u ≡ false)
    → how_many (due_at σ) a (h - a) ≡ how_many (due_at σ) b (h - b)
due_same σ a b h ab bh none = due_skip (due_at σ) (b - a) a (h - b) (h - a) b (omega arith) (omega arith) none
