-- What a zone answers: outside the minutes of which it tells, a refusal with the minute.
use Rattle.std.specs.Prelude.{◌≡◌, ℕ, true, false, cond, ℤ, Ok, Err, Option, Result}
use Rattle.std.specs.Option.{option_map}
use Rattle.time.specs.declared.minute.Minute.{Minute}
use Rattle.zone.specs.declared.label.Label.{Label}
use Rattle.zone.specs.declared.refusal.Refusal.{Refusal}
use Rattle.zone.specs.declared.refusal.Refusal.TheVariants.{OutOfRange}
use Rattle.zone.specs.declared.window.Window.{Window}
use Rattle.time.specs.Limits.{told, served}
use Rattle.zone.specs.Offsets.{label, reached, NextChange}

abbrev pub offset_answer : (ℕ → ℤ) → Minute → Result ℤ Refusal
offset_answer off u = cond (told u.0) (Ok (off u.0)) (Err (OutOfRange u))

abbrev pub label_answer : (ℕ → ℤ) → Minute → Result Label Refusal
label_answer off u = cond (told u.0) (Ok (record { 0 = label off u.0 })) (Err (OutOfRange u))

-- the next change is told by a relation, which only one answer fits
abbrev pub NextAnswer : (ℕ → ℤ) → Minute → Result (Option Minute) Refusal → Type 0
NextAnswer off u (Ok v) = (told u.0 ≡ true) × NextChange off u.0 (option_map (λ m. m.0) v)
NextAnswer off u (Err e) = (told u.0 ≡ false) × (e ≡ OutOfRange u)

-- the labels above what the clock showed lately, up to what it shows now
abbrev pub window : (ℕ → ℤ) → ℕ → Window
window off u = record { above = record { 0 = reached off u }; to = record { 0 = label off u } }

abbrev pub fresh_answer : (ℕ → ℤ) → Minute → Result Window Refusal
fresh_answer off u = cond (served u.0) (Ok (window off u.0)) (Err (OutOfRange u))
