-- After rounds the service goes on, and nothing was read.
use Rattle.std.proofs.Common.{◌≡◌, refl, ◌∙◌, subst, ◌∷◌, ℕ}
use Rattle.page.specs.declared.head.Ending.{Ending}
use Rattle.service.proofs.Causes.{look_cause, log_cause, sync_cause, launch_cause, settle_cause}
use Rattle.service.proofs.Further.{FinishSound}
use Rattle.service.proofs.More.{more}
use Rattle.service.specs.Calls.{Syncing, Launching, collecting_18, collecting_handed_back, collecting_none, collecting_other, collecting}
use Rattle.service.specs.Causes.{LookingCause, looking_18, looking_19, looking_due, looking_level, looking_spent, LoggingCause, logging_20, logging_21, logging_22, logging, SyncingCause, syncing_nothing, syncing, LaunchingCause, launching_none, launching_23, launching, SettlingCause, settling_20, settling_21, settling_22, settling}
use Rattle.service.specs.Events.{Event, History}
use Rattle.service.specs.Histories.{greatest_reading}
use Rattle.service.specs.Rounds.{LookUnlessOut, slip_is_out, look, LogAny, none_to_log, log, CollectUnlessOut, finish_is_out, collect, SettleAny, none_to_settle, settle, Round, round, Rounds, no_round, one_more}
use Rattle.service.specs.Service.{call_look, call_log, call_sync, call_launch, call_collect, call_settle, Service, goes_on}
use Rattle.service.specs.Setting.{Setting}
use Rattle.service.specs.World.{World}

-- Rounds belong to the service.
round_service :
    (σ : Setting) (h : History) (w : World) (h' : History) (w' : World) → Service σ h w → Round σ h w h' w'
    → Service σ h' w'
round_service σ h w h' w' s (round {h₁} {h₂} {h₅} {h₆} {w₁} {w₂} {w₃} {w₄} {w₅} {w₆} {w₇ = w₇} {e₃} {e₄} {e₇} a b c d e f g) =
    goes_on
    (after_settle h₅ w₅ h₆ w₆
    (after_collect (e₄ ∷ (e₃ ∷ h₂)) w₄ h₅ w₅
    (goes_on (goes_on (after_log h₁ w₁ h₂ w₂ (after_look h w h₁ w₁ s a) b) (call_sync c)) (call_launch d)) e)
    f)
    (call_sync g)
  where
    after_look :
        (h : History) (w : World) (h' : History) (w' : World) → Service σ h w → LookUnlessOut σ h w h' w'
        → Service σ h' w'
    after_look h w h' w' s (slip_is_out t x) = s
    after_look h w h' w' s (look x y) = goes_on s (call_look y)

    after_log :
        (h : History) (w : World) (h' : History) (w' : World) → Service σ h w → LogAny σ h w h' w'
        → Service σ h' w'
    after_log h w h' w' s (none_to_log x) = s
    after_log h w h' w' s (log t x y) = goes_on s (call_log t y)

    after_collect :
        (h : History) (w : World) (h' : History) (w' : World) → Service σ h w → CollectUnlessOut σ h w h' w'
        → Service σ h' w'
    after_collect h w h' w' s (finish_is_out t c x) = s
    after_collect h w h' w' s (collect x y) = goes_on s (call_collect y)

    after_settle :
        (h : History) (w : World) (h' : History) (w' : World) → Service σ h w → SettleAny σ h w h' w'
        → Service σ h' w'
    after_settle h w h' w' s (none_to_settle x) = s
    after_settle h w h' w' s (settle t c x y) =
        goes_on s (call_settle t c (subst FinishSound x (more σ h w s).sound) y)

pub rounds_service :
    (σ : Setting) (n : ℕ) (h : History) (w : World) (h' : History) (w' : World) → Service σ h w
    → Rounds σ n h w h' w' → Service σ h' w'
rounds_service σ n h w h' w' s no_round = s
rounds_service σ n h w h' w' s (one_more {n = m} {h₁ = h₁} {w₁ = w₁} r rest) =
    rounds_service σ m h₁ w₁ h' w' (round_service σ h w h₁ w₁ s r) rest

-- No call of a round is a reading.
sync_reads :
    (σ : Setting) (h : History) (w : World) (e : Event) (v : World) → SyncingCause σ w e v
    → greatest_reading (e ∷ h) ≡ greatest_reading h
sync_reads σ h w e v (syncing_nothing f) = refl
sync_reads σ h w e v (syncing p d f y) = refl

launch_reads :
    (σ : Setting) (h : History) (w : World) (e : Event) (v : World) → LaunchingCause σ w e v
    → greatest_reading (e ∷ h) ≡ greatest_reading h
launch_reads σ h w e v (launching_none n) = refl
launch_reads σ h w e v (launching_23 t x f) = refl
launch_reads σ h w e v (launching t x f) = refl

look_reads :
    (σ : Setting) (h : History) (w : World) (e : Event) (v : World) → LookingCause σ w e v
    → greatest_reading (e ∷ h) ≡ greatest_reading h
look_reads σ h w e v (looking_18 t s) = refl
look_reads σ h w e v (looking_19 s f) = refl
look_reads σ h w e v (looking_due t s f lo hi near d none) = refl
look_reads σ h w e v (looking_level s f near none) = refl
look_reads σ h w e v (looking_spent s f hi none) = refl

log_reads :
    (σ : Setting) (h : History) (w : World) (t : ℕ) (e : Event) (v : World) → LoggingCause σ w t e v
    → greatest_reading (e ∷ h) ≡ greatest_reading h
log_reads σ h w t e v (logging_20 k) = refl
log_reads σ h w t e v (logging_21 p s f) = refl
log_reads σ h w t e v (logging_22 s f l) = refl
log_reads σ h w t e v (logging d s f l y) = refl

settle_reads :
    (σ : Setting) (h : History) (w : World) (t : ℕ) (c : Ending) (e : Event) (v : World) → SettlingCause σ w t c e v
    → greatest_reading (e ∷ h) ≡ greatest_reading h
settle_reads σ h w t c e v (settling_20 k) = refl
settle_reads σ h w t c e v (settling_21 p s f) = refl
settle_reads σ h w t c e v (settling_22 s f l) = refl
settle_reads σ h w t c e v (settling d s f l y) = refl

round_reading :
    (σ : Setting) (h : History) (w : World) (h' : History) (w' : World) → Service σ h w → Round σ h w h' w'
    → greatest_reading h' ≡ greatest_reading h
round_reading σ h w h' w' s (round {h₁} {h₂} {h₅} {h₆} {w₁} {w₂} {w₃} {w₄} {w₅} {w₆} {w₇ = w₇} {e₃} {e₄} {e₇} a b c d e f g) =
    of_sync h₆ e₇ w₆ w₇ g
    ∙ of_settle h₅ w₅ h₆ w₆ f ∙ of_collect (e₄ ∷ (e₃ ∷ h₂)) w₄ h₅ w₅ e ∙ of_launch (e₃ ∷ h₂) e₄ w₃ w₄ d
    ∙ of_sync h₂ e₃ w₂ w₃ c ∙ of_log h₁ w₁ h₂ w₂ b ∙ of_look h w h₁ w₁ a
  where
    of_sync : (h : History) (e : Event) (w v : World) → Syncing σ w e v → greatest_reading (e ∷ h) ≡ greatest_reading h
    of_sync h e w v c = sync_reads σ h w e v (sync_cause σ w e v c)

    of_launch :
        (h : History) (e : Event) (w v : World) → Launching σ w e v → greatest_reading (e ∷ h) ≡ greatest_reading h
    of_launch h e w v c = launch_reads σ h w e v (launch_cause σ w e v c)

    of_look :
        (h : History) (w : World) (h' : History) (w' : World) → LookUnlessOut σ h w h' w'
        → greatest_reading h' ≡ greatest_reading h
    of_look h w h' w' (slip_is_out t x) = refl
    of_look h w h' w' (look {e = e} {v = v} x c) = look_reads σ h w e v (look_cause σ w e v c)

    of_log :
        (h : History) (w : World) (h' : History) (w' : World) → LogAny σ h w h' w'
        → greatest_reading h' ≡ greatest_reading h
    of_log h w h' w' (none_to_log x) = refl
    of_log h w h' w' (log {e = e} {v = v} t x c) = log_reads σ h w t e v (log_cause σ w t e v c)

    of_collect :
        (h : History) (w : World) (h' : History) (w' : World) → CollectUnlessOut σ h w h' w'
        → greatest_reading h' ≡ greatest_reading h
    of_collect h w h' w' (finish_is_out t c x) = refl
    of_collect h w h' w' (collect x (collecting_18 t c f)) = refl
    of_collect h w h' w' (collect x (collecting_handed_back t c f)) = refl
    of_collect h w h' w' (collect x (collecting_none f)) = refl
    of_collect h w h' w' (collect x (collecting_other r rest f k d)) = refl
    of_collect h w h' w' (collect x (collecting r c rest f k m q)) = refl

    of_settle :
        (h : History) (w : World) (h' : History) (w' : World) → SettleAny σ h w h' w'
        → greatest_reading h' ≡ greatest_reading h
    of_settle h w h' w' (none_to_settle x) = refl
    of_settle h w h' w' (settle {e = e} {v = v} t c x q) = settle_reads σ h w t c e v (settle_cause σ w t c e v q)

pub rounds_reading :
    (σ : Setting) (n : ℕ) (h : History) (w : World) (h' : History) (w' : World) → Service σ h w
    → Rounds σ n h w h' w' → greatest_reading h' ≡ greatest_reading h
rounds_reading σ n h w h' w' s no_round = refl
rounds_reading σ n h w h' w' s (one_more {n = m} {h₁ = h₁} {w₁ = w₁} r rest) =
    rounds_reading σ m h₁ w₁ h' w' (round_service σ h w h₁ w₁ s r) rest ∙ round_reading σ h w h₁ w₁ s r
