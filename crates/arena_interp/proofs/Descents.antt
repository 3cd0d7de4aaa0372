-- From an inference to its premises, by numbers.
use Rattle.std.proofs.Common.{◌≡◌, ℕ, suc, ◌<◌, List, true, false, refl, sym, ap, ◌∙◌}
use Rattle.std.specs.Prelude.{Result, Ok, Err, IfOk, if◌then◌else◌}
use Rattle.fol.specs.declared.symbols.Var.{Var}
use Rattle.fol.specs.Syntax.{free}
use Rattle.substitution.specs.Maps.{Map, only}
use Rattle.lk_rules.specs.declared.sequent.Sequent.{Sequent}
use Rattle.lk_rules.specs.declared.sequent.Side.{Side}
use Rattle.lk_rules.specs.declared.rule.Rule.{Rule}
use Rattle.lk_rules.specs.declared.rule.Rule.TheVariants.{AllR, ExL}
use Rattle.lk_rules.specs.Sequents.{is_free_in_sequent, union_sequent}
use Rattle.proof_trees.specs.Trees.{Tree, Trees, none, more, rule_of, below, count}
use Rattle.proof_trees.specs.Shapes.{height}
use Rattle.proof_trees.specs.Substitution.{renamed, sub_all}
use Rattle.cut_laws.specs.Contraction.{moved_rule, renamed_trees, moved_trees}
use Rattle.interp_laws.specs.Interpolation.{Interpolation, part_of, at_leaf, first_above, second_above, above, over_one, has_main, itp}
use Rattle.interp_laws.specs.Parts.{HasParts}
use Rattle.arena_cells.specs.declared.key.RuleKey.{RuleKey}
use Rattle.arena_cells.specs.declared.key.Parts.{Parts}
use Rattle.arena_cells.specs.declared.key.Parts.TheVariants.{Zero, One, Two}
use Rattle.arena_cells.specs.Items.{Item}
use Rattle.arena_cells.specs.Standing.{Extends, HasSequent, sequent_at, tree_at, IsTreeAt}
use Rattle.arena_cells.specs.Meaning.{rule_at, trees_at}
use Rattle.arena_cells.proofs.Staying.{is_sequent, tree_stays}
use Rattle.arena_interp.proofs.Roots.{LeafStep, leaf_step}
use Rattle.arena_interp.proofs.Steps.{OneStep, OneDescends, one_made, one_descends, one_lower}

-- what holds anyway
pub anyway : {X E : Type 0} (r : Result X E) (P : Type 0) → P → IfOk r (λ x. P)
anyway (Ok x) P h = h
anyway (Err e) P h = tt

-- a leaf, by the part of its rule
pub leaf_made : (t : Tree) (one two : Sequent) (r : Rule) (m : Side) → LeafStep → below t ≡ none → has_main (rule_of t) ≡ true → rule_of t ≡ r → m ≡ part_of r one → at_leaf m r one two ≡ itp t one two
leaf_made t one two r m law above main rule side =
    (λ k. at_leaf (side k) r one two) ∙ (λ k. at_leaf (part_of (sym rule k) one) (sym rule k) one two) ∙ leaf_step t one two law above main

count_sub : (ts : Trees) (m : Map) → count (sub_all ts m) ≡ count ts
count_sub none m = refl
count_sub (more t ts) m = ap (λ n. suc n) (count_sub ts m)

count_renamed : (s : Sequent) (y : Var) (ts : Trees) → count (renamed_trees s y ts) ≡ count ts
count_renamed s y ts =
    elim (is_free_in_sequent y s) as (λ b. count (if b then sub_all ts (only y (free (renamed y s))) else ts) ≡ count ts) [
      | true ↦ count_sub ts (only y (free (renamed y s)))
      | false ↦ refl
    ]

-- under a new conclusion a rule has as many premises
count_moved : (s : Sequent) (r : Rule) (ts : Trees) → count (moved_trees s r ts) ≡ count ts
count_moved s (AllR a y) ts = count_renamed s y ts
count_moved s (ExL a y) ts = count_renamed s y ts
count_moved s r ts = refl

only_one : (a : List Item) (ps : Parts) → count (trees_at a ps) ≡ 1 → ((x : ℕ) → ps ≡ One x → ⊥) → ⊥
only_one a Zero h other = cc
only_one a (One x) h other = other x refl
only_one a (Two x y) h other = cc

pub one_is_there : (d : List Item) (s : Sequent) (t u : Tree) (ps : Parts) → trees_at d ps ≡ moved_trees s (rule_of t) (below t) → t ≡ u → count (below u) ≡ 1 → ((x : ℕ) → ps ≡ One x → ⊥) → ⊥
one_is_there d s t u ps trees same single other =
    only_one d ps (ap count trees ∙ count_moved s (rule_of t) (below t) ∙ ap (λ (v : Tree). count (below v)) same ∙ single) other

-- the last rule of a tree and the premise above it, where the eigenvariable is free in neither part
module _ (a b d : List Item) (grown : Extends a b) (p end one two q : ℕ) (r : RuleKey) (ps : Parts) (proof : IsTreeAt a p) (union : HasSequent b end (union_sequent (sequent_at a one) (sequent_at a two)))
    (rule : rule_at d r ≡ moved_rule (sequent_at b end) (rule_of (tree_at b p))) (trees : trees_at d ps ≡ moved_trees (sequent_at b end) (rule_of (tree_at b p)) (below (tree_at b p))) (premise : ps ≡ One q) where
  tree_is : tree_at b p ≡ tree_at a p
  tree_is = tree_stays a b grown p proof

  end_is : sequent_at b end ≡ union_sequent (sequent_at a one) (sequent_at a two)
  end_is = is_sequent b end _ union

  rule_is : rule_at d r ≡ moved_rule (union_sequent (sequent_at a one) (sequent_at a two)) (rule_of (tree_at a p))
  rule_is = rule ∙ λ k. moved_rule (end_is k) (rule_of (tree_is k))

  trees_are : more (tree_at d q) none ≡ moved_trees (union_sequent (sequent_at a one) (sequent_at a two)) (rule_of (tree_at a p)) (below (tree_at a p))
  trees_are = ap (trees_at d) (sym premise) ∙ trees ∙ λ k. moved_trees (end_is k) (rule_of (tree_is k)) (below (tree_is k))

  module _ (single : count (below (tree_at a p)) ≡ 1) where
    pub premise_has : OneDescends → (m : Side) → HasParts (tree_at a p) (sequent_at a one) (sequent_at a two) → HasParts (tree_at d q) (first_above m (rule_at d r) 0 (sequent_at a one)) (second_above m (rule_at d r) 0 (sequent_at a two))
    premise_has law m h = one_descends (sequent_at a one) (sequent_at a two) (tree_at a p) (tree_at d q) (rule_at d r) single rule_is trees_are law m h

    pub premise_lower : height (tree_at d q) < height (tree_at a p)
    premise_lower = one_lower (sequent_at a one) (sequent_at a two) (tree_at a p) (tree_at d q) (rule_at d r) single rule_is trees_are

    pub premise_made : OneStep → has_main (rule_of (tree_at a p)) ≡ true → (m : Side) (i : Interpolation) → m ≡ part_of (rule_of (tree_at a p)) (sequent_at a one)
        → i ≡ above itp m (rule_at d r) 0 (tree_at d q) (sequent_at a one) (sequent_at a two) → over_one m (rule_at d r) (sequent_at a one) (sequent_at a two) i ≡ itp (tree_at a p) (sequent_at a one) (sequent_at a two)
    premise_made law main m i side is = one_made (sequent_at a one) (sequent_at a two) (tree_at a p) (tree_at d q) (rule_at d r) single rule_is trees_are law main m i side is
