-- A small service, event by event: one line, due once. It is launched and settled, but the power fails before the done
-- page is synced, and the page is torn; so the restart finds the ticket open, and the next round launches it again and
-- settles it.
use Rattle.std.specs.Prelude.{◌≡◌, List, [], ◌∷◌, ◌++◌, Bool, false, cond, ℕ, eqb}
use Rattle.journal_model.specs.Pages.{start, done, plain, Page}
use Rattle.journal_model.specs.Positions.{successor}
use Rattle.page.specs.declared.head.Ending.{Ending}
use Rattle.service.specs.Events.{gives_slip, level, looked, nothing_to_sync, collected, formatted, was_read, was_logged, was_synced, launched, settled, restarted, replied, History}
use Rattle.service.specs.Histories.{DoneSynced}
use Rattle.service.specs.Rounds.{Round}
use Rattle.service.specs.Service.{Service}
use Rattle.service.specs.Setting.{Setting}
use Rattle.service.specs.World.{Run, World}
use Rattle.time.specs.Position.{rank_of}

-- line 0 is due at this minute, and nothing is due at any other
abbrev pub due_minute : ℕ
due_minute = 29_054_940

abbrev pub due_once : ℕ → ℕ → Bool
due_once minute line = cond (eqb minute due_minute) (eqb line 0) false

abbrev pub the_ticket : ℕ
the_ticket = rank_of due_minute 0

-- its command begins at byte 11 of the file and has 6 bytes
abbrev pub the_run : Run
the_run = record { ticket = the_ticket; place = 11; size = 6 }

-- every run ends with code 0
abbrev pub the_ending : Ending
the_ending = record { code = 0 }

abbrev pub page_1 : Page
page_1 = record { body = start the_ticket; shown = plain }

abbrev pub page_2 : Page
page_2 = record { body = done the_ticket the_ending; shown = plain }

-- Up to the cut, and the reading after it, the newest event first. The first look examines 3,841 positions: 60 minutes
-- of 64 lines, and the due one. The restart has page 1 as its top.
abbrev pub before_round : History
before_round =
    was_read due_minute
    ∷ (restarted 1 (record { next = successor the_ticket; tickets = the_ticket ∷ [] })
    ∷ (settled 2 the_ticket the_ending page_2
    ∷ (replied (collected the_ticket the_ending)
    ∷ (launched the_run
    ∷ (was_synced
    ∷ (was_logged 1 the_ticket page_1
    ∷ (replied (looked 3841 (gives_slip the_ticket))
    ∷ (was_read due_minute
    ∷ (formatted
    ∷ [])))))))))

-- The round: it looks through the other 63 lines of the minute, has nothing to log or to sync, and launches.
abbrev pub the_round : History
the_round =
    was_synced
    ∷ (settled 2 the_ticket the_ending page_2
    ∷ (replied (collected the_ticket the_ending)
    ∷ (launched the_run
    ∷ (replied nothing_to_sync
    ∷ (replied (looked 63 level)
    ∷ [])))))

-- the runs that were launched, the newest first
abbrev pub launches : History → List Run
launches [] = []
launches (formatted ∷ h) = launches h
launches (was_read m ∷ h) = launches h
launches (was_logged n t p ∷ h) = launches h
launches (was_synced ∷ h) = launches h
launches (launched r ∷ h) = r ∷ launches h
launches (settled n t c p ∷ h) = launches h
launches (restarted top s ∷ h) = launches h
launches (replied q ∷ h) = launches h

pub record ScriptRuns : Type 0 where
  pub setting : Setting
  pub one_line : setting.job_lines ≡ 1
  pub is_due : (minute line : ℕ) → setting.due minute line ≡ due_once minute line
  pub first_minute_is : setting.first ≡ 29_054_880
  pub blocks_are : setting.blocks ≡ 64
  -- these events are a service, and the last of them are one round
  pub halfway : World
  pub world : World
  pub up_to_round : Service setting before_round halfway
  pub then_round : Round setting before_round halfway (the_round ++ before_round) world
  pub service : Service setting (the_round ++ before_round) world
  -- the ticket was launched twice, and its done page is synced
  pub launched_twice : launches (the_round ++ before_round) ≡ the_run ∷ (the_run ∷ [])
  pub done_synced : DoneSynced setting the_ticket (the_round ++ before_round)
