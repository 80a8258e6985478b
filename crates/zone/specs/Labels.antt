-- The labels of a window, the earliest first.
use Rattle.std.specs.Prelude.{ℕ, zero, suc, ◌+◌, ◌-◌, List, [], ◌∷◌}
use Rattle.zone.specs.declared.label.Label.{Label}
use Rattle.zone.specs.declared.labels.Labels.{Labels}
use Rattle.zone.specs.declared.window.Window.{Window}

-- the n labels after a
abbrev pub labels_after : ℕ → ℕ → List Label
labels_after zero a = []
labels_after (suc n) a = record { 0 = a + 1 } ∷ labels_after n (a + 1)

abbrev pub labels_of : Window → List Label
labels_of w = labels_after (w.to.0 - w.above.0) w.above.0

-- what an iterator over them has left
abbrev pub labels_left : Labels → List Label
labels_left s = labels_after (s.to.0 - s.above.0) s.above.0
