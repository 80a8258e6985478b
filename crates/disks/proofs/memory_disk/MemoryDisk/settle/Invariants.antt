use Rattle.std.proofs.Common.{◌≡◌, ◌++◌, map, take, drop}
use Rattle.disks.proofs.memory_disk.MemoryDisk.settle.Given as goal

-- the blocks before the index are settled, and those from it on are as they were
abbrev pub invariant-loop-b : goal.invariant-loop-b
invariant-loop-b g l =
    let was = l.fn.self.blocks.items in
    l.b-items ≡ map (g.B.Slot.settled l.fate) (take l.b-index was) ++ drop l.b-index was
