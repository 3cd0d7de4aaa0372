-- The last inferences of the two proofs of an interpolation, by numbers.
--     IsEndingAt      the rule and the premises stand at the numbers
--     ended      the proof of a sequent with a formula on that side too, by such an inference
--     concluded      the interpolation with a formula whose proofs end so
--     concluded_on      the same, by the inference of the proof in which the formula stands on a side, and the other one
use Rattle.std.specs.Prelude.{List}
use Rattle.fol.specs.Syntax.{Formula}
use Rattle.lk_rules.specs.declared.sequent.Sequent.{Sequent}
use Rattle.lk_rules.specs.declared.sequent.Side.{Side}
use Rattle.lk_rules.specs.declared.sequent.Side.TheVariants.{Left, Right}
use Rattle.lk_rules.specs.Sequents.{adds_to}
use Rattle.proof_trees.specs.Trees.{Tree, node}
use Rattle.interp_laws.specs.Interpolation.{Interpolation}
use Rattle.arena_cells.specs.Items.{Item}
use Rattle.arena_cells.specs.Meaning.{rule_at, trees_at, HasRuleParts, HasPremises}
use Rattle.arena_interp.specs.declared.endings.Ending.{Ending}

pub record IsEndingAt (a : List Item) (e : Ending) : Type 0 where
  pub rule : HasRuleParts a e.rule
  pub premises : HasPremises a e.premises

abbrev pub ended : List Item → Ending → Sequent → Side → Formula → Tree
ended a e s side f = node (rule_at a e.rule) (adds_to s side f) (trees_at a e.premises)

abbrev pub concluded : List Item → Sequent → Sequent → Formula → Ending → Ending → Interpolation
concluded a one two f x y = record { formula = f; first = ended a x one Right f; second = ended a y two Left f }

abbrev pub concluded_on : List Item → Side → Sequent → Sequent → Formula → Ending → Ending → Interpolation
concluded_on a Right one two f own other = concluded a one two f own other
concluded_on a Left one two f own other = concluded a one two f other own
