-- Answers, as the laws of ground clauses see them.
use Rattle.std.specs.Prelude.{Bool, true, false}
use Rattle.ground_laws.specs.Deciding.{Answer, model, refuting}
use Rattle.sat_search.specs.declared.answer.SatAnswer.{SatAnswer}
use Rattle.sat_search.specs.declared.answer.SatAnswer.TheVariants.{Model, Refutation}

-- a model, or a refutation
abbrev pub answer_of : SatAnswer → Answer
answer_of (Model atoms) = model atoms
answer_of (Refutation steps) = refuting steps

-- whether it is a model
abbrev pub is_model : SatAnswer → Bool
is_model (Model atoms) = true
is_model (Refutation steps) = false
