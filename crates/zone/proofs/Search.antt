-- In a table without fault the place of u tells the offset in force and the next change.
use Rattle.std.proofs.Common.{◌≡◌, ℕ, zero, suc, ◌-◌, ◌<◌, ◌≤◌, true, false, leb, leb-true, leb-false, List, [], ◌∷◌, length, get_or, take, ap, ◌-ℤ◌, nat_abs, pos, ℤ, Bor, MatchOption, IsSomeAnd, Some, None, Option, sym, refl, ◌∙◌, sub-one, arith}
use Rattle.std.proofs.lemmas.Int.{ints}
use Rattle.std.proofs.lemmas.List.{get_or-take, length-take-le}
use Rattle.std.proofs.lemmas.List.Sorted.{IsNonDecreasingBy-from_default, IsPartitionedBy-leb}
use Rattle.std.specs.Option.{option_map, unwrap_or}
use Rattle.std.specs.List.{HoldsAt}
use Rattle.std.specs.List.Sorted.{IsNonDecreasingBy, IsPartitionedBy, IsPartitionPoint}
use Rattle.time.specs.declared.minute.Minute.{Minute}
use Rattle.zone.specs.declared.entry.Entry.{Entry}
use Rattle.zone.specs.Offsets.{NextChange}
use Rattle.zone.specs.Table.{blank, in_force, table_offset, Parts}
use Rattle.zone.proofs.Chain.{Chain, Follows, Good}
use Rattle.zone.proofs.Lawful.{before, from, stays, first, next_moved}

-- the minutes ascend
pub ascends :
    (e : Entry) (es : List Entry) (k : ℕ) →
    Chain e es →
    k ≤ length es →
    e.minute.0 ≤ (get_or (e ∷ es) k blank).minute.0
ascends e es zero c h = omega arith
ascends e [] (suc k) c h = absurd (omega arith)
ascends e (x ∷ es) (suc k) c h = let a = c.0.apart in let r = ascends x es k c.1 (omega arith) in omega arith

rising :
    (e : Entry) (es : List Entry) (i j : ℕ) →
    Chain e es →
    i ≤ j →
    j ≤ length es →
    (get_or (e ∷ es) i blank).minute.0 ≤ (get_or (e ∷ es) j blank).minute.0
rising e es zero j c h k = ascends e es j c k
rising e es (suc i) zero c h k = absurd (omega arith)
rising e [] (suc i) (suc j) c h k = absurd (omega arith)
rising e (x ∷ es) (suc i) (suc j) c h k = rising x es i j c.1 (omega arith) (omega arith)

abbrev minute_of : Entry → ℕ
minute_of e = e.minute.0

in_order : (es : List Entry) → Good es → IsNonDecreasingBy minute_of es
in_order es g = IsNonDecreasingBy-from_default minute_of es blank (go es g)
  where
    go : (xs : List Entry) → Good xs → (i j : ℕ) → i ≤ j → j < length xs
        → minute_of (get_or xs i blank) ≤ minute_of (get_or xs j blank)
    go [] w i j h k = absurd (omega arith)
    go (x ∷ xs) w i j h k = rising x xs i j w.2 h (omega arith)

-- the place at which `partition_point` parts the entries
pub parted :
    (es : List Entry) (u r : ℕ) →
    r ≤ length es →
    (IsPartitionedBy (λ e. leb (minute_of e) u) es →
    IsPartitionPoint (λ e. leb (minute_of e) u ≡ true) (λ e. leb (minute_of e) u ≡ false) es r) →
    Good es →
    Parts es u r
parted es u r within point g =
    let p = point (IsPartitionedBy-leb minute_of es u (in_order es g)) in
    record {
      within = within;
      before = λ h. leb-true _ _ (p.0 (r - 1) blank (omega arith) (omega arith));
      after = λ h. leb-false _ _ (p.1 r blank (omega arith) h);
    }

-- the same place, without the first entry
rest : (e : Entry) (es : List Entry) (u k : ℕ) → Parts (e ∷ es) u (suc k) → Parts es u k
rest e es u zero s =
    record {
      within = omega arith;
      before = λ h. absurd (omega arith);
      after = λ h. s.after (omega arith);
    }
rest e es u (suc k) s =
    record {
      within = let w = s.within in omega arith;
      before = λ h. rw sub-one (rw sub-one at (s.before (omega arith)));
      after = λ h. s.after (omega arith);
    }

-- a place after the first entry: it holds by u
held : (e : Entry) (es : List Entry) (u k : ℕ) → Chain e es → Parts (e ∷ es) u (suc k) → e.minute.0 ≤ u
held e es u k c s =
    let w = s.within in
    let b = rw sub-one at (s.before (omega arith)) in
    let a = ascends e es k c (omega arith) in
    omega arith

pub offset_there :
    (p : Entry) (es : List Entry) (u r : ℕ) →
    Chain p es →
    Parts es u r →
    in_force p.offset es u ≡ (get_or (p ∷ es) r blank).offset
offset_there p [] u zero c s = refl
offset_there p [] u (suc r) c s = absurd (let w = s.within in omega arith)
offset_there p (e ∷ es) u zero c s = before p.offset e es u (s.after (omega arith))
offset_there p (e ∷ es) u (suc r) c s =
    from p.offset e es u (held e es u r c.1 s) ∙ offset_there e es u r c.1 (rest e es u r s)

-- the minute of the entry at r, if there is one
abbrev pub at_place : List Entry → ℕ → Option ℕ
at_place [] r = None
at_place (e ∷ es) zero = Some e.minute.0
at_place (e ∷ es) (suc r) = at_place es r

differ : (p e : Entry) → Follows p e → e.offset ≡ p.offset → ⊥
differ p e f s =
    let k = f.some in
    let z : nat_abs (e.offset -ℤ p.offset) ≤ 0 = omega (arith, ints) in
    omega arith

pub next_there :
    (p : Entry) (es : List Entry) (u r : ℕ) →
    Chain p es →
    Parts es u r →
    NextChange (in_force p.offset es) u (at_place es r)
next_there p [] u r c s = λ v h k. refl
next_there p (e ∷ es) u zero c s =
    let h : u < e.minute.0 = s.after (omega arith) in
    let o = p.offset in
    let m = e.minute.0 in
    let now_new = from o e es m (omega arith) ∙ stays e es m c.1 (omega arith) in (
      h,
      c.0.early,
      λ q. differ p e c.0 (sym now_new ∙ q ∙ before o e es (m - 1) (omega arith)),
      λ w a b. before o e es w b ∙ sym (before o e es (w - 1) (omega arith)),
    )
next_there p (e ∷ es) u (suc r) c s =
    let h = held e es u r c.1 s in
    next_moved (in_force p.offset (e ∷ es)) (in_force e.offset es) u (at_place es r)
    (λ w a. from p.offset e es w (omega arith))
    (next_there e es u r c.1 (rest e es u r s))

-- of the whole table
pub offset_of :
    (es : List Entry) (u r : ℕ) →
    Good es →
    Parts es u r →
    0 < r →
    table_offset es u ≡ (get_or es (r - 1) blank).offset
offset_of [] u r g s h = absurd (let w = s.within in omega arith)
offset_of (e ∷ es) u zero g s h = absurd (omega arith)
offset_of (e ∷ es) u (suc k) g s h =
    rw sub-one (first e es u g.0 ∙ offset_there e es u k g.2 (rest e es u k s))

-- by the last entry that holds by u, or `blank` where none does
pub offset_at_last :
    (es : List Entry) (u r : ℕ) →
    Good es →
    Parts es u r →
    (get_or (take r es) (length (take r es) - 1) blank).offset ≡ table_offset es u
offset_at_last [] u zero g s = refl
offset_at_last [] u (suc k) g s = absurd (let w = s.within in omega arith)
offset_at_last (e ∷ es) u zero g s = absurd (let z = g.0 in let h = s.after (omega arith) in omega arith)
offset_at_last (e ∷ es) u (suc k) g s =
    let long = length-take-le (suc k) (e ∷ es) s.within in
    let last = get_or-take (suc k) (e ∷ es) (suc k - 1) blank (omega arith) in
    ap (λ n. (get_or (take (suc k) (e ∷ es)) (n - 1) blank).offset) long
    ∙ ap (λ (x : Entry). x.offset) last
    ∙ sym (offset_of (e ∷ es) u (suc k) g s (omega arith))

-- a number that is 0 of no entry, and the offset of any other
pub offset_or :
    {P : Bor Entry → Type 0} (o : Option (Bor Entry)) (x : ℤ) →
    MatchOption o (x ≡ pos 0) P →
    ((e : Bor Entry) → P e → x ≡ e.now.offset) →
    x ≡ (unwrap_or (option_map (λ e. e.now) o) blank).offset
offset_or None x m h = m
offset_or (Some e) x m h = h e m

pub next_of :
    (es : List Entry) (u r : ℕ) →
    Good es →
    Parts es u r →
    NextChange (table_offset es) u (at_place es r)
next_of [] u r g s = λ v h k. refl
next_of (e ∷ es) u zero g s = absurd (let z = g.0 in let h = s.after (omega arith) in omega arith)
next_of (e ∷ es) u (suc k) g s =
    next_moved (table_offset (e ∷ es)) (in_force e.offset es) u (at_place es k)
    (λ w a. first e es w g.0)
    (next_there e es u k g.2 (rest e es u k s))

at_place_some : (es : List Entry) (r : ℕ) → r < length es → at_place es r ≡ Some (get_or es r blank).minute.0
at_place_some [] r h = absurd (omega arith)
at_place_some (e ∷ es) zero h = refl
at_place_some (e ∷ es) (suc r) h = at_place_some es r (omega arith)

at_place_none : (es : List Entry) (r : ℕ) → length es ≤ r → at_place es r ≡ None
at_place_none [] r h = refl
at_place_none (e ∷ es) zero h = absurd (omega arith)
at_place_none (e ∷ es) (suc r) h = at_place_none es r (omega arith)

-- the minute of the entry at r, as `map` gives it of what `get` found
pub at_place_mapped :
    {P : Bor Entry → Minute → Type 0} (o : Option (Bor Entry)) (m : Option Minute) (es : List Entry) (r : ℕ) →
    MatchOption o (m ≡ None) (λ e. IsSomeAnd m (P e)) →
    ((e : Bor Entry) (x : Minute) → P e x → x ≡ e.now.minute) →
    MatchOption o (length es ≤ r) (λ e. (r < length es) × HoldsAt (λ x. e.now ≡ x) es r) →
    at_place es r ≡ option_map (λ x. x.0) m
at_place_mapped None m es r f h i = at_place_none es r i ∙ sym (ap (option_map (λ (x : Minute). x.0)) f)
at_place_mapped (Some e) None es r f h i = absurd f
at_place_mapped (Some e) (Some x) es r f h i =
    at_place_some es r i.0
    ∙ ap (λ (y : Entry). Some y.minute.0) (sym (i.1 blank))
    ∙ ap (λ (y : Minute). Some y.0) (sym (h e x f))
