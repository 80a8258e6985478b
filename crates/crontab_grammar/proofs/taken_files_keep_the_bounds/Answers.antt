use Rattle.crontab_grammar.proofs.Bounds.{takes_in_range, takes_commands}
use Rattle.crontab_grammar.proofs.Found.{takes_bytes}
use Rattle.crontab_grammar.proofs.taken_files_keep_the_bounds.Goals as goal

pub returns : goal.returns
returns c = record { ranges = takes_in_range; commands = takes_commands; bytes = takes_bytes }
