-- The laws are lemmas.
use Rattle.herbrand_laws.proofs.NewInferences.{root_inference, left_inference, right_inference, left_end, right_end}
use Rattle.herbrand_laws.proofs.laws.inferences.Goals as goal

pub returns-clause-root : goal.returns-clause-root
returns-clause-root c width x s w l r h = root_inference width x s w h l r

pub returns-clause-left : goal.returns-clause-left
returns-clause-left c width x s w before after r t h is within = left_inference width x s w h before after r t is within

pub returns-clause-right : goal.returns-clause-right
returns-clause-right c width x s w before after r t h occurs is within = right_inference width x s w h occurs before after r t is within

pub returns-clause-left_ends : goal.returns-clause-left_ends
returns-clause-left_ends c width x s w before after h is = left_end width x s w h before after is

pub returns-clause-right_ends : goal.returns-clause-right_ends
returns-clause-right_ends c width x s w before after h occurs is = right_end width x s w h occurs before after is
