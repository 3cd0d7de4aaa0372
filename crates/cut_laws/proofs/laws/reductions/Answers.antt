-- The laws are lemmas.
use Rattle.cut_laws.proofs.LowerGrades.{below_cut_free, con_below}
use Rattle.cut_laws.proofs.laws.reductions.Goals as goal
use Rattle.free_variables.specs.Grade.{grade_of}

pub returns-clause-lower_grades : goal.returns-clause-lower_grades
returns-clause-lower_grades c = con_below

pub returns-clause-cut_free_premises : goal.returns-clause-cut_free_premises
returns-clause-cut_free_premises c s a l r h e x y = con_below s a l r h e (below_cut_free (grade_of a) l x) (below_cut_free (grade_of a) r y)
