-- Substitution in proofs: each conclusion becomes its image under a map from variables to terms, and an eigenvariable that would be free
-- in its new conclusion becomes a fresh one.
--     renamed      an eigenvariable under a new conclusion
--     image_rule, premise_map      a rule under a map, and the map for its premises
--     sub, sub_all      a tree under a map
use Rattle.std.specs.Prelude.{if◌then◌else◌}
use Rattle.std.specs.FinMap as fin
use Rattle.fol.specs.declared.symbols.Var.{Var}
use Rattle.fol.specs.Syntax.{free}
use Rattle.finite.specs.Finite as set
use Rattle.free_variables.specs.Fresh.{least_outside}
use Rattle.substitution.specs.Image.{image, image_term}
use Rattle.substitution.specs.Maps.{Map}
use Rattle.lk_rules.specs.declared.sequent.Sequent.{Sequent}
use Rattle.lk_rules.specs.declared.rule.Rule.{Rule}
use Rattle.lk_rules.specs.declared.rule.Rule.TheVariants.{AllR, ExL}
use Rattle.lk_rules.specs.RuleOrder.{map_rule}
use Rattle.lk_rules.specs.Sequents.{is_free_in_sequent, vars_sequent, image_sequent}
use Rattle.proof_trees.specs.Trees.{Tree, node, Trees, none, more}

-- y, or where it is free in e the numbered variable of least number that isn't
unfoldable pub renamed : Var → Sequent → Var
renamed y e = if is_free_in_sequent y e then least_outside (set.listing (vars_sequent e)) else y

-- a rule under a map; e is the image of its conclusion
abbrev pub image_rule : Map → Rule → Sequent → Rule
image_rule m r e = map_rule (image (fin.get m)) (image_term (fin.get m)) (λ y. renamed y e) r

-- the map for the premises, in which the eigenvariable has its new name
abbrev pub premise_map : Map → Rule → Sequent → Map
premise_map m (AllR a y) e = fin.insert m y (free (renamed y e))
premise_map m (ExL a y) e = fin.insert m y (free (renamed y e))
premise_map m r e = m

-- a tree under a map
abbrev mutual
  pub sub : Tree → Map → Tree
  sub (node r s ts) m =
      node (image_rule m r (image_sequent (fin.get m) s)) (image_sequent (fin.get m) s)
      (sub_all ts (premise_map m r (image_sequent (fin.get m) s)))

  pub sub_all : Trees → Map → Trees
  sub_all none m = none
  sub_all (more t ts) m = more (sub t m) (sub_all ts m)
