use Rattle.std.proofs.Common.{take}
use Rattle.finite.specs.Finite as set
use Rattle.exp_check.specs.Links.{AreLinks}
use Rattle.exp_check.proofs.links.links_of.Given as goal

abbrev pub invariant-loop-edge : goal.invariant-loop-edge
invariant-loop-edge l = AreLinks (set.listing l.vars) (take l.edge-index l.edges) l.links.items
