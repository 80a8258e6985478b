use Rattle.std.proofs.Common.{◌≡◌, ◌||◌, Bool, true, false, List, [], ◌∷◌, ℕ, fold, nat_le, ◌&&◌, refl, ◌∙◌, rules, tests}
use Rattle.std.proofs.lemmas.Iterator.{YieldsList-from_slice}
use Rattle.std.proofs.lemmas.Iterator.Consumers.{fold_from_yields_List}
use Rattle.std.specs.List.{list_any}
use Rattle.cases.proofs.text.has_capital.Goals as goal

-- whether it was found already, or is found in what is left
any_fold : (p : ℕ → Bool) (found : Bool) (xs : List ℕ) → fold (λ f x. f || p x) found xs ≡ (found || list_any p xs)
any_fold p true [] = refl
any_fold p false [] = refl
any_fold p true (x ∷ xs) = any_fold p true xs
any_fold p false (x ∷ xs) = any_fold p (p x) xs

pub returns : goal.returns
returns c =
    let p : ℕ → Bool = λ b. nat_le 65 b && nat_le b 90 in
    fold_from_yields_List _ (λ f x. f || p x) false _ c.fold.ensures.ran
    (YieldsList-from_slice c.args.text.now c.iter.ensures.rest)
    (λ a x b q k. search (rules, tests))
    ∙ any_fold p false c.args.text.now
