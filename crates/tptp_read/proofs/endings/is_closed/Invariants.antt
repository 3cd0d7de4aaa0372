use Rattle.std.proofs.Common.{◌≡◌}
use Rattle.std.specs.VecDeque.Iter.{deque_iter_rest}
use Rattle.tptp_read.specs.Machine.{no_group}
use Rattle.tptp_read.proofs.endings.is_closed.Given as goal

-- the frames that are left say what all of them say
abbrev pub invariant-loop-frame : goal.invariant-loop-frame
invariant-loop-frame l = no_group (deque_iter_rest l.frame-iterator) ≡ no_group l.frames.items
