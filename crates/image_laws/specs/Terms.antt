-- The proof of an input clause under a map.
--     over_terms      a universal closure on the left, with a term for each variable
use Rattle.std.specs.Prelude.{List, [], ◌∷◌}
use Rattle.fol.specs.Syntax.{Term, Formula}
use Rattle.substitution.specs.Instance.{inst}
use Rattle.lk_rules.specs.declared.sequent.Sequent.{Sequent}
use Rattle.lk_rules.specs.declared.sequent.Side.TheVariants.{Left}
use Rattle.lk_rules.specs.declared.rule.Rule.TheVariants.{AllL}
use Rattle.lk_rules.specs.Sequents.{adds_to}
use Rattle.proof_trees.specs.Trees.{Tree, node, none, more}
use Rattle.refutations.specs.Refutations.{over_literals, body_of}

-- a universal closure on the left of s: a term for each variable, the outermost first, and then the literals
abbrev pub over_terms : Sequent → List Term → Formula → Tree
over_terms s [] f = over_literals s f
over_terms s (t ∷ ts) f = node (AllL f t) s (more (over_terms (adds_to s Left (inst (body_of f) t)) ts (inst (body_of f) t)) none)
