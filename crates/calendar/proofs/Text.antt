-- A number with zeros before it, as the options of a hole write it.
use Rattle.std.proofs.Common.{◌≡◌, ℕ, ◌^◌, ◌-◌, [], refl, false}
use Rattle.std.proofs.Math.Nat.{sub-zero}
use Rattle.std.proofs.lemmas.List.{append-nil}
use Rattle.std.specs.Fmt.{decimal, padded_integral, format_spec, char_count}
use Rattle.calendar.specs.Text.{zero_filled}

pub zeros_before :
    (width n : ℕ) → padded_integral (format_spec 32 0 4 width (2 ^ 64 - 1)) false [] (decimal n) ≡ zero_filled width n
unfolding padded_integral char_count
zeros_before width n = simp (append-nil, sub-zero) refl
