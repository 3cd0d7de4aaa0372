-- The walk over the instances at a quantifier that counts their nodes and asks for the sides on which they can stand.
use Rattle.std.specs.Prelude.{◌≡◌, ◌+◌, ◌&&◌}
use Rattle.lk_rules.specs.declared.sequent.Side.TheVariants.{Left, Right}
use Rattle.expansion_laws.specs.Expansions.{Insts}
use Rattle.expansion_laws.specs.Proofs.{stand_in}
use Rattle.exp_tree.specs.declared.facts.Facts.{Facts}
use Rattle.exp_tree.specs.Sizes.{insts_nodes, capped}

-- the facts are those of the instances that were passed
pub record AreSoFar (facts : Facts) (rest all : Insts) : Type 0 where
  pub within : capped facts.nodes ≡ facts.nodes
  pub of_nodes : capped (facts.nodes + insts_nodes rest) ≡ capped (insts_nodes all)
  pub of_left : (facts.left && stand_in Left rest) ≡ stand_in Left all
  pub of_right : (facts.right && stand_in Right rest) ≡ stand_in Right all
