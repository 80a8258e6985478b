-- The limits of minutes and positions, and which minutes lie within them.
use Rattle.std.specs.Prelude.{ℕ, Bool, ◌&&◌, nat_le}

-- the first minute for which a zone tells an offset
abbrev pub first_told : ℕ
first_told = 1000

-- the first minute at which a line can be due or an offset change
abbrev pub first_minute : ℕ
first_minute = 2000

-- the last minute
abbrev pub last_minute : ℕ
last_minute = 100000000

-- how many lines a minute has
abbrev pub lines : ℕ
lines = 64

-- from a first minute on, up to the last
abbrev pub within : ℕ → ℕ → Bool
within first u = nat_le first u && nat_le u last_minute

-- the minutes of which a zone tells
abbrev pub told : ℕ → Bool
told u = within first_told u

-- the minutes at which a line can be due or an offset change
abbrev pub served : ℕ → Bool
served u = within first_minute u
