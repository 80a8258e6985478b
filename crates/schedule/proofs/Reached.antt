-- Labels that a minute is the first to reach, one by one.
use Rattle.std.proofs.Common.{◌≡◌, ℕ, zero, suc, ◌+◌, ◌-◌, ◌<◌, ◌≤◌, Bool, true, false, ℤ, sym, refl, ap, ◌∙◌, subst, arith, lit<}
use Rattle.std.proofs.Math.Decide.{ℕ_discrete}
use Rattle.std.proofs.lemmas.Bool.{both_ways}
use Rattle.zone.specs.Limits.{look_back}
use Rattle.zone.specs.Offsets.{label, highest, reached}
use Rattle.crontab.specs.Job.{wild}
use Rattle.schedule.specs.Match.{matches}
use Rattle.schedule.specs.Due.{DueBy, DueMeans, some_of, due_in}

-- what a search of n numbers up to m finds
record Passing (p : ℕ → Bool) (n m : ℕ) : Type 0 where
  number : ℕ
  passes : p number ≡ true
  below : number ≤ m
  near : m < number + n

some_found : (n : ℕ) (p : ℕ → Bool) (m : ℕ) → some_of n p m ≡ true → Passing p n m
some_found zero p m t = absurd (both_ways false refl t)
some_found (suc n) p m t = go (p m) refl (some_found n p (m - 1)) t
  where
    go : (b : Bool) → p m ≡ b → (some_of n p (m - 1) ≡ true → Passing p n (m - 1)) →
        elim b [ true ↦ true | false ↦ some_of n p (m - 1) ] ≡ true → Passing p (suc n) m
    go true e ih s = record { number = m; passes = e; below = omega arith; near = omega arith }
    go false e ih s =
        let r = ih s in
        record { number = r.number; passes = r.passes; below = omega (arith, r.below); near = omega (arith, r.near) }

some_finds : (n : ℕ) (p : ℕ → Bool) (m x : ℕ) → p x ≡ true → x ≤ m → m < x + n → some_of n p m ≡ true
some_finds zero p m x t h k = absurd (omega arith)
some_finds (suc n) p m x t h k = go (p m) refl (some_finds n p (m - 1) x t)
  where
    go : (b : Bool) → p m ≡ b → (x ≤ m - 1 → m - 1 < x + n → some_of n p (m - 1) ≡ true) →
        elim b [ true ↦ true | false ↦ some_of n p (m - 1) ] ≡ true
    go true e ih = refl
    go false e ih =
        elim (ℕ_discrete x m) [
          | yes q ↦ absurd (both_ways (p m) e (sym (ap p q) ∙ t))
          | no q ↦ let a : x ≤ m - 1 = omega arith in ih a (omega arith)
        ]

-- above the greatest of n labels before u are exactly the numbers above each of them
pub highest_above : (off : ℕ → ℤ) (n u k m : ℕ) → highest off n u < m → k < n → label off (u - suc k) < m
highest_above off zero u k m h lt = absurd (omega arith)
highest_above off (suc n) u k m h lt =
    elim (ℕ_discrete k n) [
      | yes q ↦ subst (λ (x : ℕ). label off (u - suc x) < m) (sym q) (omega arith)
      | no q ↦ highest_above off n u k m (omega arith) (omega arith)
    ]

highest_below : (off : ℕ → ℤ) (n u m : ℕ) → 0 < m → ((k : ℕ) → k < n → label off (u - suc k) < m) → highest off n u < m
highest_below off zero u m z h = z
highest_below off (suc n) u m z h =
    let a = highest_below off n u m z (λ k lt. h k (omega arith)) in
    let b = h n (omega arith) in
    omega arith

-- over n, since omega would open a search of 180 minutes
module _ (n : ℕ) (off : ℕ → ℤ) (p : ℕ → Bool) (u : ℕ) where
  -- some number passes that the label of u has reached and the n labels before have not
  record Reaches : Type 0 where
    number : ℕ
    passes : p number ≡ true
    shown : number ≤ label off u
    unshown : (k : ℕ) → k < n → label off (u - suc k) < number

  fixed_there : some_of (label off u - highest off n u) p (label off u) ≡ true → Reaches
  fixed_there t =
      let r = some_found (label off u - highest off n u) p (label off u) t in
      record {
        number = r.number;
        passes = r.passes;
        shown = r.below;
        unshown = λ k h. highest_above off n u k r.number (omega (arith, r.near, r.below)) h;
      }

  fixed_back : 0 < n → Reaches → some_of (label off u - highest off n u) p (label off u) ≡ true
  fixed_back some d =
      let z = d.unshown 0 some in
      let h = highest_below off n u d.number (omega arith) d.unshown in
      some_finds (label off u - highest off n u) p (label off u) d.number d.passes d.shown (omega (arith, d.shown))

-- a step of the search
pub some_go : (n j : ℕ) (p : ℕ → Bool) (m : ℕ) → n ≡ suc j → p m ≡ false → some_of n p m ≡ some_of j p (m - 1)
some_go n j p m e h = rw (e, h, some_of) refl

due_by : (w : Bool) (p : ℕ → Bool) (off : ℕ → ℤ) (u : ℕ) →
    (due_in w p (reached off u) (label off u) ≡ true → DueBy w p off u)
    × (DueBy w p off u → due_in w p (reached off u) (label off u) ≡ true)
unfolding reached
due_by true p off u = (λ t. t, λ t. t)
due_by false p off u = (there, back)
  where
    there : some_of (label off u - highest off look_back u) p (label off u) ≡ true → DueBy false p off u
    there t =
        let d = fixed_there look_back off p u t in
        (d.number, d.passes, record { now_reached = d.shown; not_before = d.unshown })

    back : DueBy false p off u → some_of (label off u - highest off look_back u) p (label off u) ≡ true
    back d =
        fixed_back look_back off p u (lit< tt)
        (record { number = d.0; passes = d.1; shown = d.2.now_reached; unshown = d.2.not_before })

pub due_means : DueMeans
due_means off j u = due_by (wild j) (matches j) off u
