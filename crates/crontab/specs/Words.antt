-- The words of a line: runs of bytes between blanks.
use Rattle.std.specs.Prelude.{ℕ, zero, suc, ◌+◌, ◌-◌, Bool, true, cond, List, length, take, drop, ◌==◌, nat_lt, slice_index}
use Rattle.scan.specs.Scan.{before_first, is}
use Rattle.scan.specs.declared.Kind.TheVariants.{Blank, Other, Forbidden}

-- where the word after place i begins and ends, and its bytes
abbrev pub begin : List ℕ → ℕ → ℕ
begin s i = i + before_first (is Other) (drop i s)

abbrev pub end : List ℕ → ℕ → ℕ
end s i = begin s i + before_first (is Blank) (drop (begin s i) s)

abbrev pub word : List ℕ → ℕ → List ℕ
word s i = take (end s i - begin s i) (drop (begin s i) s)

-- where the first k words end
unfoldable pub past : List ℕ → ℕ → ℕ
past s zero = 0
past s (suc k) = end s (past s k)

-- the place of the first forbidden byte, or the length
abbrev pub forbidden_in : List ℕ → ℕ
forbidden_in l = before_first (is Forbidden) l

-- a line with no job: blanks alone, or a comment; 35 is `#`
abbrev pub idle : List ℕ → Bool
idle l = cond (nat_lt (begin l 0) (length l)) (slice_index l (begin l 0) == 35) true
