-- The map is that of the variables to their places.
use Rattle.std.proofs.Common.{sym, subst}
use Rattle.std.specs.Prelude.{IfSome}
use Rattle.fol.specs.Formed.{IsFormedTerm}
use Rattle.res_prover.proofs.Numbering.{numbered_formed}
use Rattle.res_prover.proofs.normal.normal.Goals as goal

pub image_by-requires : goal.image_by-requires
image_by-requires c = λ v. subst (λ o. IfSome o IsFormedTerm) (sym (c.in_ok-map.ensures v)) (numbered_formed 0 c.as_slice.result.now v)
