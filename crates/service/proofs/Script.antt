-- The small service, event by event: the determined calls are computed.
use Rattle.std.proofs.Common.{◌≡◌, refl, sym, ap, ◌∙◌, subst, ◌⊎◌, inl, inr, List, [], ◌∷◌, ◌++◌, Bool, true, false, cond, ℕ, suc, ◌%◌, ◌<◌, arith, eqb}
use Rattle.std.proofs.Math.Decide.{ℕ_discrete}
use Rattle.disk.specs.Contents.{Among}
use Rattle.journal_model.specs.Disks.{Seen, torn, page, Disk, Includes, Written, Cut}
use Rattle.journal_model.specs.Pages.{State, format_page}
use Rattle.journal_model.specs.Restart.{Stands, Restarts}
use Rattle.journal_model.specs.Runs.{in_flight, Found, Accepted}
use Rattle.service.proofs.Lists.{clash, eqb_same, eqb_differ, not_both}
use Rattle.service.proofs.Promises.{restart_accepted}
use Rattle.service.proofs.Disks.{syncs, formats}
use Rattle.service.specs.After.{after_reading, after_look, after_log, after_sync, after_launch, after_collect, after_settle, after_restart}
use Rattle.service.specs.Calls.{Looking, Logging, Syncing, Launching, Settling, Collecting, collecting, cutting}
use Rattle.service.specs.Events.{gives_slip, level, looked, nothing_to_sync, collected, formatted, was_read, was_logged, was_synced, launched, settled, replied, History}
use Rattle.service.specs.Lists.{here}
use Rattle.service.specs.Rounds.{look, none_to_log, collect, settle, Round, round}
use Rattle.service.specs.Script.{due_minute, due_once, the_ticket, the_run, the_ending, page_1, page_2, before_round, the_round, ScriptRuns}
use Rattle.service.specs.Service.{call_reading, call_look, call_log, call_sync, call_launch, call_collect, call_settle, call_cut, Service, begins, goes_on}
use Rattle.service.specs.Setting.{Setting, first_position}
use Rattle.service.specs.Table.{finished, mark}
use Rattle.service.specs.World.{no_due_slip, due_slip_out, finish_slip_out, World}
use Rattle.time.specs.Position.{rank_of}

abbrev the_setting : Setting
the_setting =
    record {
      due = due_once;
      job_lines = 1;
      few_lines = omega arith;
      due_in_file = λ minute line e. in_file minute line e (ℕ_discrete line 0);
      place = λ line. 11;
      size = λ line. 6;
      first = 29_054_880;
      first_not_early = omega arith;
      first_not_late = omega arith;
      blocks = 64;
      many_blocks = omega arith;
      few_blocks = omega arith;
    }
  where
    never : (b : Bool) → cond b false false ≡ true → ⊥
    never true e = not_both e refl
    never false e = not_both e refl

    in_file : (minute line : ℕ) → due_once minute line ≡ true → Dec (line ≡ 0) → line < 1
    in_file minute line e (yes z) = omega arith
    in_file minute line e (no d) =
        absurd
        (never (eqb minute due_minute)
        (sym (ap (λ z. cond (eqb minute due_minute) z false) (eqb_differ line 0 d)) ∙ e))

-- A write that is kept back until the sync: a cut can leave the new content, the old, or torn.
abbrev kept_back : Disk → ℕ → Seen → Disk
kept_back d b c =
    record {
      latest = λ a. cond (eqb a b) c (d.latest a);
      possible = λ a. cond (eqb a b) (c ∷ (torn ∷ d.possible b)) (d.possible a);
    }

back_written : (d : Disk) (b : ℕ) (c : Seen) → Includes d → Written d b c (kept_back d b c)
back_written d b c i =
    record {
      at_latest = ap (λ z. cond z c (d.latest b)) (eqb_same b);
      off_latest = λ a k. ap (λ z. cond z c (d.latest a)) (eqb_differ a b k);
      at_possible = λ x m. at x (subst (λ z. Among x (cond z more (d.possible b))) (eqb_same b) m);
      off_possible = λ a k x m. subst (λ z. Among x (cond z more (d.possible a))) (eqb_differ a b k) m;
      includes = λ a. inc a (eqb a b);
    }
  where
    more : List Seen
    more = c ∷ (torn ∷ d.possible b)

    at : (x : Seen) → Among x more → (x ≡ c) ⊎ ((x ≡ torn) ⊎ Among x (d.possible b))
    at x (inl e) = inl e
    at x (inr (inl e)) = inr (inl e)
    at x (inr (inr m)) = inr (inr m)

    inc : (a : ℕ) (z : Bool) → Among (cond z c (d.latest a)) (cond z more (d.possible a))
    inc a true = inl refl
    inc a false = i a

-- The cut that tears that write.
abbrev torn_at : Disk → ℕ → Disk
torn_at d b =
    record {
      latest = λ a. cond (eqb a b) torn (d.latest a);
      possible = λ a. cond (eqb a b) torn (d.latest a) ∷ [];
    }

tears : (d : Disk) (b : ℕ) (c : Seen) → Includes d → Cut (kept_back d b c) (torn_at d b)
tears d b c i =
    record {
      picked = λ a. pick a (eqb a b);
      only_picked = λ a x m. elim m [ inl e ↦ e | inr e ↦ absurd e ];
      includes = λ a. inl refl;
    }
  where
    pick :
        (a : ℕ) (z : Bool)
        → Among (cond z torn (d.latest a)) (cond z (c ∷ (torn ∷ d.possible b)) (d.possible a))
    pick a true = inr (inl refl)
    pick a false = i a

-- The worlds, one after each event.
abbrev w0 : World
w0 = after_restart (formats the_setting).0 0 (record { next = first_position the_setting; tickets = [] }) 1

abbrev w1 : World
w1 = after_reading w0 due_minute

abbrev w2 : World
w2 = after_look w1 the_ticket (due_slip_out the_ticket)

abbrev w3 : World
w3 = after_log w2 the_ticket (kept_back w2.disk 1 (page 1 page_1))

abbrev w4 : World
w4 = after_sync w3 (syncs w3.disk).0

abbrev w5 : World
w5 = after_launch w4 the_run

abbrev w6 : World
w6 = after_collect w5 (mark the_ticket finished w5.table) [] (finish_slip_out the_ticket the_ending)

abbrev w7 : World
w7 = after_settle w6 the_ticket the_ending (kept_back w6.disk 2 (page 2 page_2))

abbrev found : State
found = record { next = suc the_ticket; tickets = the_ticket ∷ [] }

abbrev w8 : World
w8 = after_restart (torn_at w6.disk 2) 1 found 1

abbrev w9 : World
w9 = after_reading w8 due_minute

abbrev w10 : World
w10 = after_look w9 (rank_of (suc due_minute) 0) no_due_slip

abbrev w11 : World
w11 = after_launch w10 the_run

abbrev w12 : World
w12 = after_collect w11 (mark the_ticket finished w11.table) [] (finish_slip_out the_ticket the_ending)

abbrev w13 : World
w13 = after_settle w12 the_ticket the_ending (kept_back w12.disk 2 (page 2 page_2))

abbrev w14 : World
w14 = after_sync w13 (syncs w13.disk).0

-- Up to the cut.
look_1 : Looking the_setting w1 (replied (looked 3841 (gives_slip the_ticket))) w2
look_1 = refl

log_1 : Logging the_setting w2 the_ticket (was_logged 1 the_ticket page_1) w3
log_1 = (
  w3.disk,
  (λ x. back_written w2.disk 1 (page 1 page_1) (formats the_setting).1.includes, refl),
)

sync_1 : Syncing the_setting w3 was_synced w4
sync_1 = (w4.disk, (λ p f. (syncs w3.disk).1, refl))

launch_1 : Launching the_setting w4 (launched the_run) w5
launch_1 = refl

collect_1 : Collecting the_setting w5 (replied (collected the_ticket the_ending)) w6
collect_1 = collecting the_run the_ending [] refl here (omega arith) (inl refl, refl)

settle_1 : Settling the_setting w6 the_ticket the_ending (settled 2 the_ticket the_ending page_2) w7
settle_1 = (
  w7.disk,
  (λ x. back_written w6.disk 2 (page 2 page_2) (syncs w3.disk).1.includes, refl),
)

before_cut : History
before_cut =
    settled 2 the_ticket the_ending page_2
    ∷ (replied (collected the_ticket the_ending)
    ∷ (launched the_run
    ∷ (was_synced
    ∷ (was_logged 1 the_ticket page_1
    ∷ (replied (looked 3841 (gives_slip the_ticket))
    ∷ (was_read due_minute
    ∷ (formatted
    ∷ [])))))))

up_to_cut : Service the_setting before_cut w7
unfolding before_cut
up_to_cut =
    goes_on (goes_on (goes_on (goes_on (goes_on (goes_on (goes_on
    (begins (formats the_setting).0 1 (omega arith, omega arith) (formats the_setting).1)
    (call_reading due_minute refl)) (call_look look_1)) (call_log the_ticket log_1))
    (call_sync sync_1)) (call_launch launch_1)) (call_collect collect_1))
    (call_settle the_ticket the_ending (omega arith) settle_1)

-- The restart after the cut finds the ticket open: page 2 is torn, so page 1 is the top.
restart_1 : Restarts 64 1 (torn_at w6.disk 2).latest 1 found
unfolding before_cut
restart_1 = go a.top a.state a.restarts a.found
  where
    a :
        Accepted 64 1 (first_position the_setting) (page_1 ∷ (format_page (first_position the_setting) ∷ []))
        (in_flight page_2) (torn_at w6.disk 2).latest
    a =
        restart_accepted the_setting before_cut w7 up_to_cut (torn_at w6.disk 2)
        (tears w6.disk 2 (page 2 page_2) (syncs w3.disk).1.includes)

    go :
        (top : ℕ) (s : State) → Restarts 64 1 (torn_at w6.disk 2).latest top s
        → Found (first_position the_setting) (page_1 ∷ (format_page (first_position the_setting) ∷ [])) (in_flight page_2) top s
        → Restarts 64 1 (torn_at w6.disk 2).latest 1 found
    go top s r (inl q) =
        let e : top ≡ 1 = omega (arith, q.0) in
        subst (λ n. Restarts 64 1 (torn_at w6.disk 2).latest n found) e
        (subst (λ x. Restarts 64 1 (torn_at w6.disk 2).latest top x) q.1 r)
    go top s r (inr q) = absurd (gone top r.on_top.stands q.1.1.0)
      where
        gone : (n : ℕ) → Stands 64 (torn_at w6.disk 2).latest n → n ≡ 2 → ⊥
        gone n st e =
            let t : torn ≡ page n st.0 = ap (λ m. (torn_at w6.disk 2).latest (m % 64)) (sym e) ∙ st.1 in
            let z : ◌≡◌ {A = ℕ} 0 1 = cc in omega arith

halfway : Service the_setting before_round w9
unfolding before_cut
halfway =
    goes_on (goes_on up_to_cut
    (call_cut (cutting w8.disk 1 found 1 (omega arith, omega arith)
    (tears w6.disk 2 (page 2 page_2) (syncs w3.disk).1.includes) restart_1)))
    (call_reading due_minute refl)

-- The round.
look_2 : Looking the_setting w9 (replied (looked 63 level)) w10
look_2 = refl

sync_2 : Syncing the_setting w10 (replied nothing_to_sync) w10
sync_2 = (w10.disk, (λ p f. clash (cc), refl))

launch_2 : Launching the_setting w10 (launched the_run) w11
launch_2 = refl

collect_2 : Collecting the_setting w11 (replied (collected the_ticket the_ending)) w12
collect_2 = collecting the_run the_ending [] refl here (omega arith) (inl refl, refl)

settle_2 : Settling the_setting w12 the_ticket the_ending (settled 2 the_ticket the_ending page_2) w13
settle_2 = (
  w13.disk,
  (λ x. back_written w12.disk 2 (page 2 page_2) (λ b. inl refl), refl),
)

sync_3 : Syncing the_setting w13 was_synced w14
sync_3 = (w14.disk, (λ p f. (syncs w13.disk).1, refl))

the_round_is : Round the_setting before_round w9 (the_round ++ before_round) w14
the_round_is =
    round (look refl look_2) (none_to_log refl) sync_2 launch_2
    (collect (λ t c q. let z : ◌≡◌ {A = ℕ} 0 1 = cc in let k : ⊥ = omega arith in absurd k) collect_2)
    (settle the_ticket the_ending refl settle_2) sync_3

all : Service the_setting (the_round ++ before_round) w14
all =
    goes_on (goes_on (goes_on (goes_on (goes_on (goes_on halfway (call_look look_2)) (call_sync sync_2))
    (call_launch launch_2)) (call_collect collect_2)) (call_settle the_ticket the_ending (omega arith) settle_2))
    (call_sync sync_3)

pub script_runs : ScriptRuns
script_runs =
    record {
      setting = the_setting;
      one_line = refl;
      is_due = λ minute line. refl;
      first_minute_is = refl;
      blocks_are = refl;
      halfway = w9;
      world = w14;
      up_to_round = halfway;
      then_round = the_round_is;
      service = all;
      launched_twice = refl;
      done_synced = (page_2, (the_ending, (inl refl, refl)));
    }
