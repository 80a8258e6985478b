-- The grammar of a crontab, by concatenation: its lines, and the words of a line.
use Rattle.std.specs.Prelude.{◌≡◌, ℕ, suc, ◌+◌, ◌<◌, true, false, List, [], ◌∷◌, ◌++◌, length, None, slice_index}
use Rattle.scan.specs.Scan.{blank?}
use Rattle.fields.specs.declared.element.Field.{Field}
use Rattle.fields.specs.declared.element.Field.TheVariants.{Minute, Hour, Day, Month, Weekday}
use Rattle.fields.specs.declared.reader.FieldSet.{FieldSet}
use Rattle.fields.specs.Values.{field_bad, field_set}
use Rattle.field_grammar.specs.Grammar.{Without}
use Rattle.crontab.specs.declared.job.Job.{Job}

-- the lines of a text: byte 10 ends each, and is in none; the last may go without it if it has a byte
pub data Lines : List ℕ → List (List ℕ) → Type 0 where
  none : Lines [] []
  last : {l : List ℕ} → Without 10 l → 0 < length l → Lines l (l ∷ [])
  more : {l s : List ℕ} {ls : List (List ℕ)} → Without 10 l → Lines s ls → Lines (l ++ 10 ∷ s) (l ∷ ls)

-- blanks alone
abbrev pub Blanks : List ℕ → Type 0
Blanks b = (i : ℕ) → i < length b → blank? (slice_index b i) ≡ true

-- no blank, and at least one byte
pub record Solid (w : List ℕ) : Type 0 where
  pub some : 0 < length w
  pub unbroken : (i : ℕ) → i < length w → blank? (slice_index w i) ≡ false

-- a text is blanks b, the word w, and a rest r that is empty or begins with a blank
pub record Word (s b w r : List ℕ) : Type 0 where
  pub bytes : s ≡ b ++ (w ++ r)
  pub blanks : Blanks b
  pub solid : Solid w
  pub parted : 0 < length r → blank? (slice_index r 0) ≡ true

-- the word w begins at a place of the text, after k other words
pub data WordAt : List ℕ → ℕ → ℕ → List ℕ → Type 0 where
  first : {s b w r : List ℕ} → Word s b w r → WordAt s 0 (length b) w
  next : {s b w r v : List ℕ} {k p : ℕ} → Word s b w r → WordAt r k p v →
      WordAt s (suc k) (length b + length w + p) v

-- a line holds a job if it has a byte that is no blank, and the first such byte is not `#`, 35
pub record HoldsJob (l : List ℕ) : Type 0 where
  pub before : List ℕ
  pub byte : ℕ
  pub after : List ℕ
  pub bytes : l ≡ before ++ byte ∷ after
  pub blanks : Blanks before
  pub solid : blank? byte ≡ false
  pub no_comment : byte ≡ 35 → ⊥

-- a command: from a byte that is no blank to the line's end
pub record Command (c : List ℕ) : Type 0 where
  pub some : 0 < length c
  pub solid : blank? (slice_index c 0) ≡ false

-- a field's bytes are taken, and hold what the set says
pub record Says (f : Field) (w : List ℕ) (v : FieldSet) : Type 0 where
  pub faultless : field_bad f w ≡ None
  pub set : v ≡ field_set f w

-- line n, which begins at place start of the file, is the job j: blanks, five fields parted by blanks,
-- blanks, and a command
pub record JobOf (n start : ℕ) (l : List ℕ) (j : Job) : Type 0 where
  pub minute : List ℕ
  pub hour : List ℕ
  pub day : List ℕ
  pub month : List ℕ
  pub weekday : List ℕ
  pub command : List ℕ
  pub b₁ : List ℕ
  pub b₂ : List ℕ
  pub b₃ : List ℕ
  pub b₄ : List ℕ
  pub b₅ : List ℕ
  pub b₆ : List ℕ
  pub r₁ : List ℕ
  pub r₂ : List ℕ
  pub r₃ : List ℕ
  pub r₄ : List ℕ
  pub r₅ : List ℕ
  pub first : Word l b₁ minute r₁
  pub second : Word r₁ b₂ hour r₂
  pub third : Word r₂ b₃ day r₃
  pub fourth : Word r₃ b₄ month r₄
  pub fifth : Word r₄ b₅ weekday r₅
  pub rest : r₅ ≡ b₆ ++ command
  pub blanks : Blanks b₆
  pub commanded : Command command
  pub minute_says : Says Minute minute j.minute
  pub hour_says : Says Hour hour j.hour
  pub day_says : Says Day day j.day
  pub month_says : Says Month month j.month
  pub weekday_says : Says Weekday weekday j.weekday
  pub line : j.line ≡ n
  pub at : j.command.at + length command ≡ start + length l
  pub length_is : j.command.length ≡ length command

-- the jobs of some lines, in their order: those from line n on, which begins at place start of the file
pub data JobsOf : ℕ → ℕ → List (List ℕ) → List Job → Type 0 where
  none : {n start : ℕ} → JobsOf n start [] []
  idle : {n start : ℕ} {l : List ℕ} {ls : List (List ℕ)} {js : List Job} → (HoldsJob l → ⊥) →
      JobsOf (n + 1) (start + (length l + 1)) ls js → JobsOf n start (l ∷ ls) js
  job : {n start : ℕ} {l : List ℕ} {ls : List (List ℕ)} {j : Job} {js : List Job} → HoldsJob l → JobOf n start l j →
      JobsOf (n + 1) (start + (length l + 1)) ls js → JobsOf n start (l ∷ ls) (j ∷ js)
