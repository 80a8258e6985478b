-- A date as text.
use Rattle.std.specs.Prelude.{ℕ, ◌-◌, List, ◌++◌, length, replicate, codes}
use Rattle.std.specs.Fmt.{decimal}
use Rattle.calendar.specs.declared.Date.{Date}

-- a number in so many digits: zeros stand before those that it has
abbrev pub zero_filled : ℕ → ℕ → List ℕ
zero_filled width n = replicate (width - length (decimal n)) 48 ++ decimal n

-- `YYYY-MM-DD`
abbrev pub date_text : Date → List ℕ
date_text d = zero_filled 4 d.year ++ (codes "-" ++ (zero_filled 2 d.month ++ (codes "-" ++ zero_filled 2 d.day)))
