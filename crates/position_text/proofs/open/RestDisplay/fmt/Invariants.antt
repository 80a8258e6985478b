use Rattle.std.proofs.Common.{take}
use Rattle.std.specs.Fmt.{HasWritten, IsPlainFormatter}
use Rattle.position_text.specs.Text.{rest_text}
use Rattle.position_text.proofs.open.RestDisplay.fmt.Given as goal

abbrev pub invariant-loop-ticket : goal.invariant-loop-ticket
invariant-loop-ticket g l =
    IsPlainFormatter l.initial.f → HasWritten g.W.Write.write_str_gives l.initial.f (rest_text (take l.ticket-index l.ticket-items)) l.f
