-- A field's elements, one after the other.
use Rattle.std.proofs.Common.{◌≡◌, ℕ, suc, ◌+◌, ◌<◌, Bool, true, false, cond, ◌&&◌, ◌||◌, eqb, List, [], ◌∷◌, length, Some, None, Ok, Err, sym, refl, ap, ◌∙◌, arith, lt-ltb, ltb-true, ltb-false, take_all, length-drop}
use Rattle.std.proofs.Math.Dec.{leb-suc-suc}
use Rattle.fields.specs.declared.element.Field.{Field}
use Rattle.fields.specs.declared.element.Field.TheVariants.{Minute, Hour, Day, Month, Weekday}
use Rattle.fields.specs.declared.reader.BadElement.{BadElement}
use Rattle.fields.specs.Bytes.{find_in, has, front, back, split}
use Rattle.fields.specs.Values.{standing, verdict, after, first_bad, field_bad, field_set, field_reading, unless}

-- the first part, and the parts of the rest
pub split_step : (b : ℕ) (s : List ℕ) → split b s ≡ front b s ∷ cond (has b s) (split b (back b s)) []
split_step b [] = refl
split_step b (x ∷ xs) = go (eqb x b) refl (split_step b xs)
  where
    go : (t : Bool) → eqb x b ≡ t → split b xs ≡ front b xs ∷ cond (has b xs) (split b (back b xs)) []
        → split b (x ∷ xs) ≡ front b (x ∷ xs) ∷ cond (has b (x ∷ xs)) (split b (back b (x ∷ xs))) []
    go true e ih = let p : 0 < suc (length xs) = omega arith in rw (e, lt-ltb 0 (suc (length xs)) p) refl
    go false e ih = rw (e, leb-suc-suc (suc (find_in b xs)) (length xs), ih) refl

-- where there is a comma, what stands before it and the parts of what stands after it
pub split_more : (s e m : List ℕ) → has 44 s ≡ true → e ≡ front 44 s → m ≡ back 44 s → split 44 s ≡ e ∷ split 44 m
split_more s e m h p q =
    split_step 44 s
    ∙ ap (λ (b : Bool). front 44 s ∷ cond b (split 44 (back 44 s)) []) h
    ∙ (λ i. sym p i ∷ split 44 (sym q i))

-- and else the whole
pub split_last : (s : List ℕ) → has 44 s ≡ false → split 44 s ≡ s ∷ []
split_last s h =
    split_step 44 s
    ∙ ap (λ (b : Bool). front 44 s ∷ cond b (split 44 (back 44 s)) []) h
    ∙ ap (λ (l : List ℕ). l ∷ []) (take_all (find_in 44 s) s (ltb-false (find_in 44 s) (length s) h))

-- the first element e of those that are left, l, is the first bad one if it is refused
pub bad_here : (f : Field) (l : List (List ℕ)) (e : List ℕ) (es : List (List ℕ)) → l ≡ e ∷ es → (at : ℕ) (b : BadElement) →
    (verdict f e ≡ Err b.fault) × (b.at ≡ at) → first_bad f at l ≡ Some b
bad_here f l e es parts at b (q, w) =
    ap (first_bad f at) parts
    ∙ ap (λ v. after v at (first_bad f (at + (length e + 1)) es)) q
    ∙ (λ i. Some (record { fault = b.fault; at = sym w i }))

-- what follows the first comma is shorter by what stands before it and the comma
pub back_length : (s m : List ℕ) → has 44 s ≡ true → m ≡ back 44 s → find_in 44 s + 1 + length m ≡ length s
back_length s m h q =
    let le : find_in 44 s < length s = ltb-true (find_in 44 s) (length s) h in
    rw q (simp length-drop (omega arith))

pub refused : (f : Field) (s : List ℕ) (b : BadElement) → field_bad f s ≡ Some b → Err b ≡ field_reading f s
unfolding field_reading
refused f s b e = sym (ap (λ o. unless o (field_set f s)) e)

pub accepted : (f : Field) (s : List ℕ) → field_bad f s ≡ None → Ok (field_set f s) ≡ field_reading f s
unfolding field_reading
accepted f s e = sym (ap (λ o. unless o (field_set f s)) e)

-- the values hang only on the numbers below 64
pub standing_same : (f : Field) (t u : ℕ → Bool) → ((n : ℕ) → n < 64 → t n ≡ u n) → (v : ℕ) → v < 64 → standing f t v ≡ standing f u v
standing_same Minute t u h v l = h v l
standing_same Hour t u h v l = h v l
standing_same Day t u h v l = h v l
standing_same Month t u h v l = h v l
standing_same Weekday t u h v l = λ i. cond (eqb v 7) false (h v l i || (eqb v 0 && h 7 (omega arith) i))
