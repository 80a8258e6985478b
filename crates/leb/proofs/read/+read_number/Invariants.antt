use Rattle.leb.proofs.read.+read_number.Given as goal

abbrev pub decreases-read-number : goal.decreases-read-number
decreases-read-number l = l.max
