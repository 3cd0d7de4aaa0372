-- An image and a resolvent of derived clauses, with their proofs.
use Rattle.std.specs.FinMap as fin
use Rattle.fol.specs.Syntax.{Formula}
use Rattle.substitution.specs.Maps.{Map}
use Rattle.lk_rules.specs.declared.sequent.Sequent.{Sequent}
use Rattle.lk_rules.specs.declared.rule.Rule.TheVariants.{Cut}
use Rattle.lk_rules.specs.Sequents.{union_sequent, image_sequent}
use Rattle.proof_trees.specs.Trees.{node, none, more}
use Rattle.proof_trees.specs.Substitution.{sub}
use Rattle.refutations.specs.Refutations.{Derived, resolvent}

-- a derived clause under a map
abbrev pub image_of : Map → Derived → Derived
image_of m d = record { clause = image_sequent (fin.get m) d.clause; tree = sub d.tree m }

-- the resolvent of two derived clauses, by a cut; g has the closures of the clauses
abbrev pub resolved : Sequent → Derived → Derived → Formula → Derived
resolved g p n a = record {
  clause = resolvent p.clause n.clause a;
  tree = node (Cut a) (union_sequent g (resolvent p.clause n.clause a)) (more p.tree (more n.tree none));
}
