-- A list of which every item was changed in its turn.
use Rattle.std.proofs.Common.{◌≡◌, ℕ, ◌≤◌, List, ◌++◌, map, length, take, drop, ap, ◌∙◌, arith}
use Rattle.std.proofs.lemmas.List.{append-nil, drop_all, take_all}

-- f was taken of each item below i, which is past the last, and the n items were written back into their list
pub all_changed :
    {A : Type 0} (f : A → A) (was now : List A) (i n : ℕ) → length was ≡ n → length now ≡ n → n ≤ i
    → now ≡ map f (take i was) ++ drop i was → take n (now ++ drop (length now) was) ≡ map f was
all_changed f was now i n lw ln h e =
    ap (λ x. take n (now ++ x)) (drop_all (length now) was (omega arith)) ∙ ap (take n) (append-nil now)
    ∙ take_all n now (omega arith) ∙ e ∙ ap (λ x. map f (take i was) ++ x) (drop_all i was (omega arith))
    ∙ append-nil (map f (take i was)) ∙ ap (map f) (take_all i was (omega arith))
