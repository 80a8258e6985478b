-- Kinds of bytes, and where the first of a kind stands.
use Rattle.std.specs.Prelude.{ℕ, suc, Bool, cond, not, ◌&&◌, ◌||◌, List, [], ◌∷◌, ◌==◌, nat_lt}
use Rattle.scan.specs.declared.Kind.{Kind}
use Rattle.scan.specs.declared.Kind.TheVariants.{Byte, Blank, Other, Forbidden}

-- 32 is a space, 9 a tab
abbrev pub blank? : ℕ → Bool
blank? x = x == 32 || x == 9

-- a byte that no line may have
abbrev pub forbidden? : ℕ → Bool
forbidden? x = nat_lt x 32 && not (x == 9)

abbrev pub is : Kind → ℕ → Bool
is (Byte b) x = x == b
is Blank x = blank? x
is Other x = not (blank? x)
is Forbidden x = forbidden? x

-- how many bytes stand before the first that passes a test: all if none does
abbrev pub before_first : (ℕ → Bool) → List ℕ → ℕ
before_first p [] = 0
before_first p (x ∷ xs) = cond (p x) 0 (suc (before_first p xs))
