-- A name is read exactly as the grammar has it.
use Rattle.std.proofs.Common.{◌≡◌, ℕ, zero, suc, ◌+◌, ◌<◌, ◌≤◌, Bool, true, false, ◌&&◌, eqb, leb, List, [], ◌∷◌, map, length, get_or, Some, None, Option, sym, refl, ap, ◌∙◌, arith}
use Rattle.std.proofs.lemmas.List.{length-map}
use Rattle.std.proofs.lemmas.List.{get_or-map}
use Rattle.std.proofs.lemmas.Bool.{and_parts, eqb-true, eq-eqb, leb-true, cond_both}
use Rattle.std.proofs.lemmas.Bool.Decides.{nat_tests, Decides-below_and}
use Rattle.fields.specs.declared.element.Field.{Field}
use Rattle.fields.specs.declared.element.Field.TheVariants.{Minute, Hour, Day, Month, Weekday}
use Rattle.fields.specs.Names.{lower, spells, named, name_in}
use Rattle.fields.specs.Element.{low, name_of}
use Rattle.field_grammar.specs.Grammar.{Name, names}
use Rattle.field_grammar.proofs.Cuts.{Above}

-- every number below n passes a test
abbrev each_below : ℕ → (ℕ → Bool) → Bool
each_below zero p = true
each_below (suc n) p = p n && each_below n p

-- then each of them does
below_each : (n : ℕ) (p : ℕ → Bool) → each_below n p ≡ true → (i : ℕ) → i < n → p i ≡ true
below_each n p =
    (Decides-below_and p (λ i. p i ≡ true) (λ k. each_below k p) (λ k. (λ e. e, λ e. e)) refl (λ k. refl) n).0

-- a number is read, and it is v
abbrev is : Option ℕ → ℕ → Bool
is None v = false
is (Some w) v = eqb w v

-- then it is read as v
is_some : (o : Option ℕ) (v : ℕ) → is o v ≡ true → o ≡ Some v
is_some None v e = absurd cc
is_some (Some w) v e = ap Some (eqb-true w v e)

-- the i-th name n of the names ns has three letters in lower case, and is found at its own place
abbrev well_named : ℕ → List (List ℕ) → ℕ → List ℕ → Bool
well_named k ns i n =
    eqb (length n) 3
    && (each_below 3 (λ j. leb 97 (get_or n j 0))
    && is (named k ns (get_or n 0 0) (get_or n 1 0) (get_or n 2 0)) (k + i))

-- so are the names of every field
names_good : (f : Field) →
    each_below (length (names f)) (λ i. well_named (low f) (names f) i (get_or (names f) i [])) ≡ true
names_good Minute = refl
names_good Hour = refl
names_good Day = refl
names_good Month = refl
names_good Weekday = refl

-- the facts of which that is the test
record Known (k : ℕ) (ns : List (List ℕ)) (i : ℕ) (n : List ℕ) : Type 0 where
  three : length n ≡ 3
  letters : (j : ℕ) → j < 3 → 97 ≤ get_or n j 0
  found : named k ns (get_or n 0 0) (get_or n 1 0) (get_or n 2 0) ≡ Some (k + i)

-- they hold of each name that a field knows
known : (f : Field) (i : ℕ) → i < length (names f) → Known (low f) (names f) i (get_or (names f) i [])
known f i h = go (get_or (names f) i []) (below_each (length (names f)) _ (names_good f) i h)
  where
    go : (n : List ℕ) → well_named (low f) (names f) i n ≡ true → Known (low f) (names f) i n
    go n e =
        let a = and_parts (eqb (length n) 3) _ e in
        let b = and_parts (each_below 3 (λ j. leb 97 (get_or n j 0))) _ a.1 in
        record {
          three = eqb-true (length n) 3 a.0;
          letters = λ j l. leb-true 97 (get_or n j 0) (below_each 3 (λ i. leb 97 (get_or n i 0)) b.0 j l);
          found = is_some (named (low f) (names f) (get_or n 0 0) (get_or n 1 0) (get_or n 2 0)) (low f + i) b.1;
        }

-- a list of three is its three elements
three_parts : (n : List ℕ) → length n ≡ 3 → n ≡ get_or n 0 0 ∷ get_or n 1 0 ∷ get_or n 2 0 ∷ []
three_parts [] e = absurd (omega arith)
three_parts (x ∷ []) e = absurd (omega arith)
three_parts (x ∷ y ∷ []) e = absurd (omega arith)
three_parts (x ∷ y ∷ z ∷ []) e = refl
three_parts (x ∷ y ∷ z ∷ w ∷ r) e = absurd (omega arith)

-- a name of the grammar has three bytes; each lowers to its letter, and stands above 47
module _ (f : Field) (bs : List ℕ) (v : ℕ) (n : Name f bs v) where
  pub name_three : length bs ≡ 3
  name_three = sym (length-map bs lower) ∙ ap length n.spelt ∙ (known f n.which n.known).three

  letter_at : (j : ℕ) → j < 3 → lower (get_or bs j 0) ≡ get_or (get_or (names f) n.which []) j 0
  letter_at j h =
      sym (get_or-map lower bs j 0 0 (omega (arith, name_three))) ∙ ap (λ (l : List ℕ). get_or l j 0) n.spelt

  pub name_above : Above bs
  name_above j h =
      let l : j < 3 = omega (arith, name_three) in
      let k = (known f n.which n.known).letters j l in
      let e = letter_at j l in
      go (get_or bs j 0) (omega arith)
    where
      go : (x : ℕ) → 97 ≤ lower x → 47 < x
      go x h = grind (arith, nat_tests)

-- where there are no names, none is read
nameless : (k : ℕ) (e : List ℕ) → None ≡ name_in k [] e
nameless k e = cond_both (eqb (length e) 3) None None (λ o. None ≡ o) (λ q. refl) (λ q. refl)

-- the names of a field are those that it is read by
by_names : (f : Field) (e : List ℕ) → name_of f e ≡ name_in (low f) (names f) e
by_names Minute e = nameless 0 e
by_names Hour e = nameless 0 e
by_names Day e = nameless 1 e
by_names Month e = refl
by_names Weekday e = refl

-- a name that the grammar has is read
pub name_read : (f : Field) (bs : List ℕ) (v : ℕ) → Name f bs v → name_of f bs ≡ Some v
name_read f bs v n =
    by_names f bs ∙
    rw (
      eq-eqb (length bs) 3 (name_three f bs v n),
      letter_at f bs v n 0 (omega arith),
      letter_at f bs v n 1 (omega arith),
      letter_at f bs v n 2 (omega arith),
      n.meant,
    )
    (known f n.which n.known).found

-- one of a list of names, counted from k, spells the letters a b c, and v is its number
record Spelt (k : ℕ) (ns : List (List ℕ)) (a b c v : ℕ) : Type 0 where
  which : ℕ
  listed : which < length ns
  spelling : spells (get_or ns which []) a b c ≡ true
  counted : v ≡ k + which

-- so it is where letters are found in the list
named_spelt : (k : ℕ) (ns : List (List ℕ)) (a b c v : ℕ) → named k ns a b c ≡ Some v → Spelt k ns a b c v
named_spelt k [] a b c v e = absurd cc
named_spelt k (n ∷ ns) a b c v e = go (spells n a b c) refl (named_spelt (k + 1) ns a b c v)
  where
    go : (t : Bool) → spells n a b c ≡ t → (named (k + 1) ns a b c ≡ Some v → Spelt (k + 1) ns a b c v) →
        Spelt k (n ∷ ns) a b c v
    go true s rest =
        let q : Some k ≡ Some v = rw s at e in
        let r : k ≡ v = cc in
        record { which = 0; listed = omega arith; spelling = s; counted = omega arith }
    go false s rest =
        let p = rest (rw s at e) in
        record { which = suc p.which; listed = omega arith; spelling = p.spelling; counted = omega arith }

-- letters that a name spells, in lower case, are that name
spells_name : (bs n : List ℕ) → length bs ≡ 3 → length n ≡ 3 →
    spells n (lower (get_or bs 0 0)) (lower (get_or bs 1 0)) (lower (get_or bs 2 0)) ≡ true → map lower bs ≡ n
spells_name bs n l k e =
    let a = and_parts (eqb (get_or n 0 0) (lower (get_or bs 0 0))) _ e in
    let b = and_parts (eqb (get_or n 1 0) (lower (get_or bs 1 0))) _ a.1 in
    let p = eqb-true (get_or n 0 0) (lower (get_or bs 0 0)) a.0 in
    let q = eqb-true (get_or n 1 0) (lower (get_or bs 1 0)) b.0 in
    let r = eqb-true (get_or n 2 0) (lower (get_or bs 2 0)) b.1 in
    let t = ap (map lower) (three_parts bs l) in
    let u = three_parts n k in
    cc

-- a name that is read is one of the grammar
pub name_had : (f : Field) (bs : List ℕ) (v : ℕ) → name_of f bs ≡ Some v → Name f bs v
name_had f bs v e = go (eqb (length bs) 3) refl (sym (by_names f bs) ∙ e)
  where
    go : (t : Bool) → eqb (length bs) 3 ≡ t → name_in (low f) (names f) bs ≡ Some v → Name f bs v
    go true s h = spelt_name (named_spelt (low f) (names f) _ _ _ v (rw s at h))
      where
        spelt_name : Spelt (low f) (names f) (lower (get_or bs 0 0)) (lower (get_or bs 1 0)) (lower (get_or bs 2 0)) v →
            Name f bs v
        spelt_name p = record {
          which = p.which;
          known = p.listed;
          spelt = spells_name bs (get_or (names f) p.which []) (eqb-true (length bs) 3 s)
              (known f p.which p.listed).three p.spelling;
          meant = p.counted;
        }
    go false s h = absurd (cc (rw s at h))
