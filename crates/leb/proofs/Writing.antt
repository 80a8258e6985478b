-- A block that is written from its start on.
use Rattle.std.proofs.Common.{◌≡◌, ℕ, zero, suc, ◌+◌, ◌/◌, ◌%◌, ◌<◌, ◌≤◌, List, [], ◌∷◌, ◌++◌, length, take, drop, replicate, sym, refl, ap, ◌∙◌, append_assoc, arith}
use Rattle.std.proofs.lemmas.List.{drop-replicate, take_all, take_at, append-nil, length-append}
use Rattle.leb.specs.Block.{Wrote, filled}
use Rattle.leb.specs.Limits.{block}
use Rattle.leb.specs.Number.{number_bytes}
use Rattle.leb.specs.Written.{written}
use Rattle.leb.specs.declared.writer.Writer.{Writer}
use Rattle.leb.proofs.Numbers.{number_low, number_high}

-- one byte, where there is room and where there is none
pub wrote_byte : (xs : List ℕ) (b : ℕ) → length xs < block → Wrote xs (xs ++ (b ∷ [])) (b ∷ [])
wrote_byte xs b h = sym (take_all block (xs ++ b ∷ []) (omega (arith, length-append xs (b ∷ []))))

pub wrote_past : (xs : List ℕ) (b : ℕ) → length xs ≡ block → Wrote xs xs (b ∷ [])
wrote_past xs b h = sym (take_at xs (b ∷ []) block h)

-- xs is written over the first bytes of a block of zeros
pub padded_by :
    (xs ys : List ℕ) → ys ≡ xs → ys ++ drop (length xs) (replicate block 0) ≡ filled xs
padded_by xs ys e = ap (λ zs. zs ++ drop (length xs) (replicate block 0)) e ∙ ap (λ t. xs ++ t) (drop-replicate (length xs) block 0)

-- what was left out is left out of all that follows
pub take_cut : (n : ℕ) (xs ys : List ℕ) → take n (take n xs ++ ys) ≡ take n (xs ++ ys)
take_cut zero xs ys = refl
take_cut (suc n) [] ys = refl
take_cut (suc n) (x ∷ xs) ys = ap (λ t. x ∷ t) (take_cut n xs ys)

pub wrote_both : (a b c xs ys : List ℕ) → Wrote a b xs → Wrote b c ys → Wrote a c (xs ++ ys)
wrote_both a b c xs ys p q =
    q ∙ ap (λ t. take block (t ++ ys)) p ∙ take_cut block (a ++ xs) ys ∙ ap (take block) (append_assoc a xs ys)

-- what fits is written whole
pub wrote_all : (b xs : List ℕ) → length xs ≤ block → Wrote [] b xs → b ≡ xs
wrote_all b xs h p = p ∙ take_all block xs h

-- where nothing more is written, what is there is all
pub wrote_nothing : (w : Writer) → Wrote (written w) (written w) []
wrote_nothing w =
    sym (ap (take block) (append-nil (written w)) ∙ take_all block (written w) w.within)

-- the loop of a number: y is x and one more group
pub write_more :
    (x y z : List ℕ) (n g : ℕ) → 128 ≤ n → g ≡ 128 + n % 128 → Wrote x y (g ∷ [])
    → take block (x ++ number_bytes n) ≡ z → take block (y ++ number_bytes (n / 128)) ≡ z
write_more x y z n g h is e i =
    wrote_both x y _ (g ∷ []) (number_bytes (n / 128)) e refl
    ∙ ap (λ b. take block (x ++ b ∷ number_bytes (n / 128))) is
    ∙ ap (λ t. take block (x ++ t)) (sym (number_high n h)) ∙ i

pub write_last :
    (x y z : List ℕ) (n : ℕ) → n < 128 → Wrote x y (n ∷ []) → take block (x ++ number_bytes n) ≡ z → y ≡ z
write_last x y z n h e i = e ∙ ap (λ t. take block (x ++ t)) (sym (number_low n h)) ∙ i
