-- The jobs of a file that is taken, in their order.
use Rattle.std.proofs.Common.{ℕ, List, Some, None, Ok, subst}
use Rattle.crontab.specs.declared.job.Job.{Job}
use Rattle.crontab.specs.File.{lines}
use Rattle.crontab_grammar.specs.Grammar as grammar
use Rattle.crontab_grammar.specs.Grammar.{HoldsJob, JobOf, JobsOf}
use Rattle.crontab_grammar.specs.Laws.{TakesJobs}
use Rattle.crontab_grammar.proofs.Idle.{reads_idle, idle_none}
use Rattle.crontab_grammar.proofs.Jobs.{reads_jobs}
use Rattle.crontab_grammar.proofs.Readings.{LineRead, passed, taken, LinesTaken, none, pass, job}
use Rattle.crontab_grammar.proofs.Readings.{FileRead, file_taken, file_read}

-- a line that is passed over holds no job
pub passed_none : {n start k : ℕ} {l : List ℕ} → LineRead n start k l (Ok None) → HoldsJob l → ⊥
passed_none {l = l} (passed c i) = idle_none l i

-- a line whose job is taken holds one
pub taken_holds : {n start k : ℕ} {l : List ℕ} {j : Job} → LineRead n start k l (Ok (Some j)) → HoldsJob l
taken_holds {l = l} (taken c i m e) = (reads_idle l).0 i

-- and that job is the grammar's
pub taken_job : {n start k : ℕ} {l : List ℕ} {j : Job} → LineRead n start k l (Ok (Some j)) → JobOf n start l j
taken_job {n} {start} {k} {l} {j} (taken c i m e) = (reads_jobs n start l j).0 e

-- the jobs that are read of lines are those that they hold
jobs_had : {n start k : ℕ} {ls : List (List ℕ)} {js : List Job} → LinesTaken n start k ls js → JobsOf n start ls js
jobs_had none = grammar.none
jobs_had (pass p t) = grammar.idle (passed_none p) (jobs_had t)
jobs_had (job p t) = grammar.job (taken_holds p) (taken_job p) (jobs_had t)

-- the lines of a file that is taken are taken
pub file_lines : {s : List ℕ} {js : List Job} → FileRead s (Ok js) → LinesTaken 1 0 0 (lines s) js
file_lines (file_taken h t) = t

pub takes_jobs : TakesJobs
takes_jobs s js e = jobs_had (file_lines (subst (FileRead s) e (file_read s)))
