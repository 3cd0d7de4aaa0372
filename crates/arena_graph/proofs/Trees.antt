-- A tree by its root and the trees below it: its size and its inference.
use Rattle.std.proofs.Common.{◌≡◌, ◌+◌, refl, sym, subst, arith}
use Rattle.lk_rules.specs.declared.sequent.Sequent.{Sequent}
use Rattle.lk_rules.specs.declared.rule.Rule.{Rule}
use Rattle.proof_trees.specs.Trees.{Tree, node, Trees, rule_of, concl, below, IsInference, IsValid}
use Rattle.proof_trees.specs.TreeLists.{nodes, nodes_all}

pub root_tree : (t : Tree) → node (rule_of t) (concl t) (below t) ≡ t
root_tree (node r s ts) = refl

pub nodes_root : (t : Tree) → nodes t ≡ nodes_all (below t) + 1
nodes_root (node r s ts) = omega arith

root_inference : (t : Tree) → IsValid t → IsInference (rule_of t) (concl t) (below t)
root_inference (node r s ts) h = h.0

-- the inference of the root of a valid tree
pub inference_of : (t : Tree) (r : Rule) (e : Sequent) (ts : Trees) → r ≡ rule_of t → e ≡ concl t → ts ≡ below t → IsValid t → IsInference r e ts
inference_of t r e ts rule end trees h =
    subst (λ (q : Rule). IsInference q e ts) (sym rule) (
    subst (λ (s : Sequent). IsInference (rule_of t) s ts) (sym end) (
    subst (λ (us : Trees). IsInference (rule_of t) (concl t) us) (sym trees) (root_inference t h)))
