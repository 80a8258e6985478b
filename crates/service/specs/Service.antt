-- The service of a journal: its format, and then any calls and cuts.
use Rattle.std.specs.Prelude.{[], ◌∷◌, ℕ}
use Rattle.journal_model.specs.Disks.{Disk, Formatted}
use Rattle.page.specs.Sound.{SoundEnding}
use Rattle.page.specs.declared.head.Ending.{Ending}
use Rattle.service.specs.After.{after_restart}
use Rattle.service.specs.Calls.{Reading, Looking, Logging, Syncing, Launching, Settling, HandingBack, Collecting, Cutting}
use Rattle.service.specs.Events.{Event, formatted, History}
use Rattle.service.specs.Setting.{Setting, first_position}
use Rattle.service.specs.World.{Slip, due_slip, finish_slip, Capacity, World}

-- a slip that can be written into a page
abbrev pub SoundSlip : Slip → Type 0
SoundSlip (due_slip t) = Unit {0}
SoundSlip (finish_slip t c) = SoundEnding c

module _ (σ : Setting) where
  -- A call, with any argument, or a cut: its event, and the world after it.
  pub data Call (w : World) (e : Event) (v : World) : Type 0 where
    call_reading : (m : ℕ) → Reading σ w m e v → Call w e v
    call_look : Looking σ w e v → Call w e v
    call_log : (t : ℕ) → Logging σ w t e v → Call w e v
    call_sync : Syncing σ w e v → Call w e v
    call_launch : Launching σ w e v → Call w e v
    call_collect : Collecting σ w e v → Call w e v
    call_settle : (t : ℕ) (c : Ending) → SoundEnding c → Settling σ w t c e v → Call w e v
    call_hand_back : (s : Slip) → SoundSlip s → HandingBack σ w s e v → Call w e v
    call_cut : Cutting σ w e v → Call w e v

  -- what happened, and the world after it
  pub data Service : History → World → Type 0 where
    begins :
        (d : Disk) (capacity : ℕ) → Capacity capacity → Formatted (first_position σ) d
        → Service (formatted ∷ []) (after_restart d 0 (record { next = first_position σ; tickets = [] }) capacity)
    goes_on : {h : History} {w v : World} {e : Event} → Service h w → Call w e v → Service (e ∷ h) v
