use Rattle.std.proofs.Common.{◌≡◌, vec_items, vec_len}
use Rattle.crontab.specs.File.{lines, lines_reading}
use Rattle.crontab.proofs.Whole.{prepended}
use Rattle.crontab.proofs.file.read_lines.Given as goal

abbrev pub invariant-loop-line : goal.invariant-loop-line
invariant-loop-line l =
    let left = l.line-iterator in
    prepended (vec_items l.jobs) (lines_reading left.number left.start (vec_len l.jobs) (lines left.text.now))
    ≡ lines_reading 1 0 0 (lines l.file)
