use Rattle.std.proofs.Common.{false, take}
use Rattle.std.specs.List.{list_any}
use Rattle.expansion_laws.specs.Dependency.{is_above}
use Rattle.exp_check.specs.Edges.{IsExtended}
use Rattle.exp_check.proofs.dependency.push_edges_each.Given as goal

abbrev pub invariant-loop-tree : goal.invariant-loop-tree
invariant-loop-tree l = IsExtended l.initial.edges.items l.edges.items (λ y z. list_any (is_above y z false) (take l.tree-index l.trees))
