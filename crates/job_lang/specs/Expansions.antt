-- Expansion trees as fields: a flat list of their nodes, with the places of the roots.
use Rattle.std.specs.Prelude.{ℕ, List, codes, Some, None, Ok}
use Rattle.fol.specs.Syntax.{Term}
use Rattle.exp_tree.specs.declared.flat.ExpNode.{ExpNode}
use Rattle.exp_tree.specs.declared.flat.ExpNode.TheVariants as nodes
use Rattle.exp_tree.specs.declared.flat.FlatExp.{FlatExp}
use Rattle.serde_json.specs.Data.{Data}
use Rattle.serde_json.specs.Find.{as_object}
use Rattle.job_words.specs.declared.causes.JobCause.TheVariants.{Field}
use Rattle.job_words.specs.declared.node_kinds.NodeKind.{NodeKind}
use Rattle.job_words.specs.declared.node_kinds.NodeKind.TheVariants.{Wk, Leaf, Not, And, Or, Imp, Weak, Strong}
use Rattle.job_words.specs.NodeKinds.{node_named}
use Rattle.job_lang.specs.declared.places.Place.{Place}
use Rattle.job_lang.specs.declared.places.Place.TheVariants.{Top, Node, Instance}
use Rattle.job_lang.specs.Places.{path}
use Rattle.job_lang.specs.Fields.{Reading, ◌>>=◌, or_fault, text_at, list_at, each}
use Rattle.job_lang.specs.Formulas.{formula_at, term_at, variable_at}
use Rattle.job_lang.specs.Numbers.{number_at, numbers_at, pair_at}

-- an instance: its term, and the place of its node
abbrev pub members_of_instance : Place → Data → Reading (Term × ℕ)
members_of_instance place d = do
  term ← term_at place (codes "term") d
  n ← number_at place (codes "of") d
  Ok (term, n)

-- the instance with the number k of the node with the number i, which has to be an object
abbrev pub instance_at : ℕ → ℕ → Data → Reading (Term × ℕ)
instance_at i k d = or_fault (Field (path (Node i) (codes "instances") (Some k))) (as_object d) >>= λ o. members_of_instance (Instance i k) d

abbrev pub instances_of : ℕ → List Data → Reading (List (Term × ℕ))
instances_of i ds = each (instance_at i) 0 ds

abbrev pub instances_at : ℕ → Data → Reading (List (Term × ℕ))
instances_at i d = list_at (Node i) (codes "instances") d >>= instances_of i

-- a weak quantifier's formula and its instances
abbrev pub weak_at : ℕ → Data → Reading ExpNode
weak_at i d = do
  f ← formula_at (Node i) (codes "formula") d
  is ← instances_at i d
  Ok (nodes.Weak f is)

-- a strong quantifier's formula, its variable, and the place of its child
abbrev pub strong_at : ℕ → Data → Reading ExpNode
strong_at i d = do
  f ← formula_at (Node i) (codes "formula") d
  y ← variable_at (Node i) (codes "var") d
  n ← number_at (Node i) (codes "of") d
  Ok (nodes.Strong f y n)

-- a node of this kind with what it names
abbrev pub node_of_kind : ℕ → NodeKind → Data → Reading ExpNode
node_of_kind i Wk d = formula_at (Node i) (codes "formula") d >>= λ f. Ok (nodes.Wk f)
node_of_kind i Leaf d = formula_at (Node i) (codes "formula") d >>= λ f. Ok (nodes.Leaf f)
node_of_kind i Not d = number_at (Node i) (codes "of") d >>= λ n. Ok (nodes.Not n)
node_of_kind i And d = pair_at (Node i) (codes "of") d >>= λ p. Ok (nodes.And p.0 p.1)
node_of_kind i Or d = pair_at (Node i) (codes "of") d >>= λ p. Ok (nodes.Or p.0 p.1)
node_of_kind i Imp d = pair_at (Node i) (codes "of") d >>= λ p. Ok (nodes.Imp p.0 p.1)
node_of_kind i Weak d = weak_at i d
node_of_kind i Strong d = strong_at i d

-- the node with the number i, by its kind
abbrev pub node_of : ℕ → Data → Reading ExpNode
node_of i d = text_at (Node i) (codes "kind") d >>= λ name. or_fault (Field (path (Node i) (codes "kind") None)) (node_named name) >>= λ k. node_of_kind i k d

-- a node has to be an object
abbrev pub node_at : ℕ → Data → Reading ExpNode
node_at i d = or_fault (Field (path Top (codes "nodes") (Some i))) (as_object d) >>= λ o. node_of i d

abbrev pub nodes_of : List Data → Reading (List ExpNode)
nodes_of ds = each node_at 0 ds

abbrev pub nodes_at : Data → Reading (List ExpNode)
nodes_at d = list_at Top (codes "nodes") d >>= nodes_of

-- the members that are a flat list
abbrev pub flat_at : Data → Reading FlatExp
flat_at d = do
  ns ← nodes_at d
  left ← numbers_at Top (codes "left") d
  right ← numbers_at Top (codes "right") d
  Ok (record { nodes = ns; left = left; right = right })
