-- Proof trees with all defined predicate symbols unfolded.
--     flat_rule      a rule of a formula with all unfolded
--     unfolded, unfolded_all      a tree with all unfolded
--     HasNoBody      an inference in which no predicate symbol has a body
use Rattle.std.specs.Prelude.{◌≡◌, false}
use Rattle.fol.specs.Facts.{has_body}
use Rattle.lk_rules.specs.declared.sequent.Sequent.{Sequent}
use Rattle.lk_rules.specs.declared.rule.Rule.{Rule}
use Rattle.lk_rules.specs.declared.rule.Rule.TheVariants.{DefL, DefR, Weak}
use Rattle.lk_rules.specs.RuleOrder.{formula_of, map_rule}
use Rattle.proof_trees.specs.Trees.{Tree, node, Trees, none, more}
use Rattle.proof_trees.specs.Occurrence.{passes, IsPlainNode}
use Rattle.def_laws.specs.Flat.{flat, flat_sequent}

-- the rule with its formula unfolded. A rule that unfolds an atom becomes weakening, since the atom and its unfolding fall together
abbrev pub flat_rule : Rule → Rule
flat_rule (DefL a) = Weak
flat_rule (DefR a) = Weak
flat_rule r = map_rule flat (λ t. t) (λ y. y) r

-- the tree of the same shape with each conclusion and each rule unfolded
abbrev mutual
  pub unfolded : Tree → Tree
  unfolded (node r s ts) = node (flat_rule r) (flat_sequent s) (unfolded_all ts)

  pub unfolded_all : Trees → Trees
  unfolded_all none = none
  unfolded_all (more t ts) = more (unfolded t) (unfolded_all ts)

-- the rule unfolds nothing, and neither the conclusion nor the rule's formula has a predicate symbol with a body
pub record HasNoBody (r : Rule) (s : Sequent) : Type 0 where
  pub plain : IsPlainNode r s
  pub formula : passes has_body (formula_of r) ≡ false
