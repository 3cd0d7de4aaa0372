-- Which references and passes belong to a graph, what a pass has seen, and what calls make and do to a pass.
use Rattle.std.specs.Prelude.{◌≡◌, List, false}
use mathlib.Core.List.{IsPrefix}
use Rattle.turn_log.specs.Passes as log
use Rattle.proof_trees.specs.Trees.{Tree}
use Rattle.proof_graph.specs.declared.graph.Graph.{Graph}
use Rattle.proof_graph.specs.declared.graph.GraphPass.{GraphPass}
use Rattle.proof_graph.specs.References.{Reference}

-- the reference is of the graph
abbrev pub IsOf : Graph → Reference → Type 0
IsOf g r = r.home ≡ g.nodes

-- the pass is of the graph's index, and has no turn out
pub record IsPassOf (g : Graph) (p : GraphPass) : Type 0 where
  pub index : log.IsOf g.index p.pass
  pub rest : log.is_out p.pass ≡ false

-- the history that the pass has seen
abbrev pub history : GraphPass → List Reference
history p = log.seen p.pass

-- what a call makes: the reference is of the graph, and means the tree
abbrev pub Makes : Graph → Tree → Reference → Type 0
Makes g t r = IsOf g r × (r.tree ≡ t)

-- what a call does to a pass of the graph: it is one after the call, and has seen at least what it had seen
abbrev pub Extends : Graph → GraphPass → GraphPass → Type 0
Extends g old new = IsPassOf g new × IsPrefix (history old) (history new)
