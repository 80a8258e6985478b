use Rattle.crontab_grammar.proofs.FileFaults.{refuses_first, takes_faultless}
use Rattle.crontab_grammar.proofs.files_are_refused_for_their_first_fault.Goals as goal

pub returns : goal.returns
returns c = record { first = refuses_first; faultless = takes_faultless }
