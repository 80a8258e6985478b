use Rattle.crontab_grammar.proofs.Lines.{reads_lines}
use Rattle.crontab_grammar.proofs.Idle.{reads_idle}
use Rattle.crontab_grammar.proofs.Jobs.{reads_jobs}
use Rattle.crontab_grammar.proofs.Orders.{takes_jobs}
use Rattle.crontab_grammar.proofs.lines_are_read_by_the_grammar.Goals as goal

pub returns : goal.returns
returns c = record { lines = reads_lines; idle = reads_idle; jobs = reads_jobs; in_order = takes_jobs }
