-- Rounds. In a round the program makes one look and logs what it finds due, syncs, launches once, collects once and
-- settles what has ended, and syncs. While a due slip is out it leaves the look, while a finish slip is out the collect.
use Rattle.std.specs.Prelude.{◌≡◌, [], ◌∷◌, ℕ, suc}
use Rattle.page.specs.declared.head.Ending.{Ending}
use Rattle.service.specs.Calls.{Looking, Logging, Syncing, Launching, Settling, Collecting, collecting_18, collecting_handed_back, collecting_none, collecting_other, collecting}
use Rattle.service.specs.Events.{Event, History}
use Rattle.service.specs.Setting.{Setting}
use Rattle.service.specs.World.{no_due_slip, due_slip_out, finish_slip_out, World}

-- no finish slip is out
abbrev pub NoFinishOut : World → Type 0
NoFinishOut w = (t : ℕ) (c : Ending) → ¬ (w.finish ≡ finish_slip_out t c)

module _ (σ : Setting) where
  -- The parts of a round. Each call that is made adds its event to the history.
  pub data LookUnlessOut (h : History) (w : World) : History → World → Type 0 where
    slip_is_out : (t : ℕ) → w.slip ≡ due_slip_out t → LookUnlessOut h w h w
    look : {e : Event} {v : World} → w.slip ≡ no_due_slip → Looking σ w e v → LookUnlessOut h w (e ∷ h) v

  pub data LogAny (h : History) (w : World) : History → World → Type 0 where
    none_to_log : w.slip ≡ no_due_slip → LogAny h w h w
    log : {e : Event} {v : World} (t : ℕ) → w.slip ≡ due_slip_out t → Logging σ w t e v → LogAny h w (e ∷ h) v

  pub data CollectUnlessOut (h : History) (w : World) : History → World → Type 0 where
    finish_is_out : (t : ℕ) (c : Ending) → w.finish ≡ finish_slip_out t c → CollectUnlessOut h w h w
    collect : {e : Event} {v : World} → NoFinishOut w → Collecting σ w e v → CollectUnlessOut h w (e ∷ h) v

  pub data SettleAny (h : History) (w : World) : History → World → Type 0 where
    none_to_settle : NoFinishOut w → SettleAny h w h w
    settle :
        {e : Event} {v : World} (t : ℕ) (c : Ending) → w.finish ≡ finish_slip_out t c → Settling σ w t c e v
        → SettleAny h w (e ∷ h) v

  pub data Round (h : History) (w : World) : History → World → Type 0 where
    round :
        {h₁ h₂ h₅ h₆ : History} {w₁ w₂ w₃ w₄ w₅ w₆ w₇ : World} {e₃ e₄ e₇ : Event}
        → LookUnlessOut h w h₁ w₁ → LogAny h₁ w₁ h₂ w₂ → Syncing σ w₂ e₃ w₃ → Launching σ w₃ e₄ w₄
        → CollectUnlessOut (e₄ ∷ (e₃ ∷ h₂)) w₄ h₅ w₅ → SettleAny h₅ w₅ h₆ w₆ → Syncing σ w₆ e₇ w₇
        → Round h w (e₇ ∷ h₆) w₇

  -- so many rounds, one after the other
  pub data Rounds : ℕ → History → World → History → World → Type 0 where
    no_round : {h : History} {w : World} → Rounds 0 h w h w
    one_more :
        {n : ℕ} {h h₁ h₂ : History} {w w₁ w₂ : World} → Round h w h₁ w₁ → Rounds n h₁ w₁ h₂ w₂
        → Rounds (suc n) h w h₂ w₂

  -- Collect yields: a launcher that still holds a run answers one.
  abbrev pub Yields : {w v : World} {e : Event} → Collecting σ w e v → Type 0
  Yields {w} (collecting_18 t c f) = Unit {0}
  Yields {w} (collecting_handed_back t c f) = Unit {0}
  Yields {w} (collecting_none f) = w.launcher.held ≡ []
  Yields {w} (collecting_other r rest f x d) = Unit {0}
  Yields {w} (collecting r c rest f x k m) = Unit {0}

  abbrev pub PartYields : {h h' : History} {w w' : World} → CollectUnlessOut h w h' w' → Type 0
  PartYields (finish_is_out t c f) = Unit {0}
  PartYields (collect n c) = Yields c

  abbrev pub RoundYields : {h h' : History} {w w' : World} → Round h w h' w' → Type 0
  RoundYields (round a b c d e f g) = PartYields e

  -- collect yields in each of these rounds
  abbrev pub CollectYields : {n : ℕ} {h h' : History} {w w' : World} → Rounds n h w h' w' → Type 0
  CollectYields no_round = Unit {0}
  CollectYields (one_more r rs) = RoundYields r × CollectYields rs
