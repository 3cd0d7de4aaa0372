-- Eliminations that end, and how those in the parts of a tree make up that of the tree.
use Rattle.std.proofs.Common.{◌≡◌, ℕ, suc, ◌+◌, ◌-◌, ◌≤◌, true, false, Some, refl, ap, ◌∙◌, arith}
use Rattle.fol.specs.Syntax.{Formula}
use Rattle.lk_rules.specs.declared.sequent.Sequent.{Sequent}
use Rattle.lk_rules.specs.declared.rule.Rule.{Rule}
use Rattle.proof_trees.specs.Trees.{Tree, node, Trees, none, more, concl, IsValid, is_cut, cut_free}
use Rattle.cut_laws.specs.Contraction.{cut, con}
use Rattle.cut_laws.specs.Elimination.{Reaches, one_more, elimination}
use Rattle.cut_laws.specs.Budgets.{given, counted, in_front, elimination_all, rooted}
use Rattle.cut_laws.proofs.Numbered.{within_enough}
use Rattle.cut_laws.proofs.Unrolled.{finished, stepped}
use Rattle.cut_laws.proofs.Places.{IsPlace, put_back, inside}
use Rattle.cut_laws.proofs.BigSteps.{big_other, next_cut}
use Rattle.cut_laws.proofs.LessBudget.{known_budget}
use Rattle.cut_laws.proofs.Reached.{least_reached}
use Rattle.cut_laws.proofs.Kept.{result_free, result_end, result_valid}

-- after so many replacements, and not before, the tree has become one without cuts
pub record Ends (t : Tree) : Type 0 where
  pub steps : ℕ
  pub tree : Tree
  pub is : elimination t steps ≡ Some (tree, steps)

pub reached : (t : Tree) (x : Ends t) → Reaches t x.steps x.tree
reached t x = ((least_reached t x.steps x.tree x.steps).0 x.is).0

pub ended_free : (t : Tree) (x : Ends t) → cut_free x.tree ≡ true
ended_free t x = result_free t x.tree x.steps x.steps x.is

pub ended_end : (t : Tree) (x : Ends t) → concl x.tree ≡ concl t
ended_end t x = result_end t x.tree x.steps x.steps x.is

pub ended_valid : (t : Tree) (x : Ends t) → IsValid t → IsValid x.tree
ended_valid t x h = result_valid t x.tree x.steps x.steps h x.is

takes : (t : Tree) (x : Ends t) (n : ℕ) → x.steps ≤ n → elimination t n ≡ Some (x.tree, x.steps)
takes t x n h = known_budget t x.tree x.steps n x.is ∙ within_enough n x.steps x.tree h

pub ends_itself : (t : Tree) → cut_free t ≡ true → Ends t
ends_itself t e = record { steps = 0; tree = t; is = finished t 0 e }

-- at a place that the first cut goes through
pub inside_ends : (c : Tree → Tree) → IsPlace c → (t : Tree) (x : Ends t) → Ends (c x.tree) → Ends (c t)
inside_ends c place t x y =
    let left : x.steps + y.steps - x.steps ≡ y.steps = omega arith in
    record {
      steps = x.steps + y.steps;
      tree = y.tree;
      is =
          inside c place (x.steps + y.steps) t
          ∙ ap (λ o. given o (put_back c (x.steps + y.steps))) (takes t x (x.steps + y.steps) (omega arith))
          ∙ ap (λ m. counted x.steps (elimination (c x.tree) m)) left
          ∙ ap (counted x.steps) y.is;
    }

-- at a cut whose premises have no cut
pub root_ends : (s : Sequent) (a : Formula) (l r : Tree) → cut_free l ≡ true → cut_free r ≡ true → Ends (con s a l r) → Ends (cut s a l r)
root_ends s a l r e f x = record {
  steps = suc x.steps;
  tree = x.tree;
  is = stepped (cut s a l r) x.steps refl ∙ ap (λ t. one_more (elimination t x.steps)) (next_cut s a l r e f) ∙ ap one_more x.is;
}

-- at a rule other than cut

abbrev pub AllEnd : Trees → Type 0
AllEnd none = Unit {0}
AllEnd (more t ts) = Ends t × AllEnd ts

abbrev pub all_steps : (ts : Trees) → AllEnd ts → ℕ
all_steps none x = 0
all_steps (more t ts) x = x.0.steps + all_steps ts x.1

abbrev pub all_trees : (ts : Trees) → AllEnd ts → Trees
all_trees none x = none
all_trees (more t ts) x = more x.0.tree (all_trees ts x.1)

takes_all : (ts : Trees) (x : AllEnd ts) (n : ℕ) → all_steps ts x ≤ n → elimination_all ts n ≡ Some (all_trees ts x, all_steps ts x)
takes_all none x n h = refl
takes_all (more t ts) x n h =
    ap (λ o. given o (λ u i. counted i (in_front u (elimination_all ts (n - i))))) (takes t x.0 n (omega arith))
    ∙ ap (λ o. counted x.0.steps (in_front x.0.tree o)) (takes_all ts x.1 (n - x.0.steps) (omega arith))

pub node_takes : (q : Rule) (s : Sequent) (ts : Trees) → is_cut q ≡ false → (x : AllEnd ts) → elimination (node q s ts) (all_steps ts x) ≡ Some (node q s (all_trees ts x), all_steps ts x)
node_takes q s ts other x = big_other q s ts (all_steps ts x) other ∙ ap (rooted q s) (takes_all ts x (all_steps ts x) (omega arith))

abbrev pub node_ends : (q : Rule) (s : Sequent) (ts : Trees) → is_cut q ≡ false → AllEnd ts → Ends (node q s ts)
node_ends q s ts other x = record { steps = all_steps ts x; tree = node q s (all_trees ts x); is = node_takes q s ts other x }
