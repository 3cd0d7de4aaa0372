-- The interpolation of an inference, by what stands above it.
use Rattle.std.proofs.Common.{◌≡◌, ◌<◌, true, sym, ap, subst, ◌∙◌, arith}
use Rattle.lk_rules.specs.declared.sequent.Sequent.{Sequent}
use Rattle.lk_rules.specs.declared.sequent.Side.{Side}
use Rattle.lk_rules.specs.declared.rule.Rule.{Rule}
use Rattle.lk_rules.specs.RuleOrder.{variable_of}
use Rattle.lk_rules.specs.Sequents.{union_sequent}
use Rattle.proof_trees.specs.Trees.{Tree, node, Trees, none, more, rule_of, below, count}
use Rattle.proof_trees.specs.Shapes.{height}
use Rattle.cut_laws.specs.Contraction.{moved_rule, moved_trees}
use Rattle.interp_laws.specs.Interpolation.{Interpolation, part_of, moved_tree, first_above, second_above, above, above_one, over_one, has_main, itp}
use Rattle.interp_laws.specs.Parts.{HasParts}
use Rattle.interp_laws.proofs.Moved.{moved_height, one_moved}

-- what the laws say of an inference with one premise
abbrev pub OneStep : Type 0
OneStep = (r : Rule) (s : Sequent) (p : Tree) (one two : Sequent) → has_main r ≡ true → let m = part_of r one in itp (node r s (more p none)) one two ≡ over_one m (moved_rule (union_sequent one two) r) one two (above_one itp m r p one two)

abbrev pub OneDescends : Type 0
OneDescends = (m : Side) (r : Rule) (s : Sequent) (p : Tree) (one two : Sequent) → HasParts (node r s (more p none)) one two → let e = union_sequent one two in let q = moved_rule e r in HasParts (moved_tree e (variable_of r) p) (first_above m q 0 one) (second_above m q 0 two)

only_tree : (t u : Tree) (ts : Trees) → more t ts ≡ more u none → t ≡ u
only_tree t u ts e = cc

module _ (one two : Sequent) where
  abbrev both : Sequent
  both = union_sequent one two

  -- of a tree with one premise: q is its last rule, and u the premise, with another name for the eigenvariable where that is free in a part
  module _ (t u : Tree) (q : Rule) (single : count (below t) ≡ 1) (rule : q ≡ moved_rule both (rule_of t)) (trees : more u none ≡ moved_trees both (rule_of t) (below t)) where
    pub one_step : OneStep → has_main (rule_of t) ≡ true → let m = part_of (rule_of t) one in over_one m q one two (above itp m q 0 u one two) ≡ itp t one two
    one_step law = by_tree t single rule trees
      where
        by_tree : (t : Tree) → count (below t) ≡ 1 → q ≡ moved_rule both (rule_of t) → more u none ≡ moved_trees both (rule_of t) (below t) → has_main (rule_of t) ≡ true → let m = part_of (rule_of t) one in over_one m q one two (above itp m q 0 u one two) ≡ itp t one two
        by_tree (node r s none) n e h main = absurd (cc)
        by_tree (node r s (more p none)) n e h main =
            let premise = only_tree u _ none (h ∙ one_moved both r p) in
            (λ i. over_one (part_of r one) (e i) one two (above itp (part_of r one) (e i) 0 (premise i) one two)) ∙ sym (law r s p one two main)
        by_tree (node r s (more p (more p' ps))) n e h main = absurd (cc)

    pub one_made : OneStep → has_main (rule_of t) ≡ true → (m : Side) (i : Interpolation) → m ≡ part_of (rule_of t) one → i ≡ above itp m q 0 u one two → over_one m q one two i ≡ itp t one two
    one_made law main m i side is =
        (λ k. over_one m q one two (is k)) ∙ (λ k. over_one (side k) q one two (above itp (side k) q 0 u one two)) ∙ one_step law main

    pub one_descends : OneDescends → (m : Side) → HasParts t one two → HasParts u (first_above m q 0 one) (second_above m q 0 two)
    one_descends law m = by_tree t single rule trees
      where
        by_tree : (t : Tree) → count (below t) ≡ 1 → q ≡ moved_rule both (rule_of t) → more u none ≡ moved_trees both (rule_of t) (below t) → HasParts t one two → HasParts u (first_above m q 0 one) (second_above m q 0 two)
        by_tree (node r s none) n e h parts = absurd (cc)
        by_tree (node r s (more p none)) n e h parts =
            let premise = only_tree u _ none (h ∙ one_moved both r p) in
            subst (λ (P : Type 0). P) (λ i. HasParts (sym premise i) (first_above m (sym e i) 0 one) (second_above m (sym e i) 0 two)) (law m r s p one two parts)
        by_tree (node r s (more p (more p' ps))) n e h parts = absurd (cc)

    pub one_lower : height u < height t
    one_lower = by_tree t single trees
      where
        by_tree : (t : Tree) → count (below t) ≡ 1 → more u none ≡ moved_trees both (rule_of t) (below t) → height u < height t
        by_tree (node r s none) n h = absurd (cc)
        by_tree (node r s (more p none)) n h =
            let premise = only_tree u _ none (h ∙ one_moved both r p) in
            let same : height u ≡ height p = ap height premise ∙ moved_height both (variable_of r) p in
            omega arith
        by_tree (node r s (more p (more p' ps))) n h = absurd (cc)
