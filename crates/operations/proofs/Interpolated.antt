-- What an interpolation answers decides what the operation comes to.
use Rattle.std.proofs.Common.{◌≡◌, Bool, true, false, cond, Result, Ok, Err, sym, subst}
use Rattle.fol.specs.Formed.{is_formed, IsFormed}
use Rattle.proof_graph.specs.declared.graph.Graph.{Graph}
use Rattle.interp_laws.specs.Interpolation.{Interpolation}
use Rattle.interp_laws.specs.declared.fault.InterpFault.{InterpFault}
use Rattle.interp_laws.specs.declared.fault.InterpFault.TheVariants as interpolation
use Rattle.lk_interp.specs.declared.interpolation.Interp.{Interp}
use Rattle.lk_interp.specs.Interpolating.{interpolation_of}
use Rattle.operations.specs.declared.answers.Ran.{Ran}
use Rattle.operations.specs.declared.answers.Ran.TheVariants as ran
use Rattle.operation_laws.specs.Answers.{interpolant, lacking, product}
use Rattle.operation_laws.specs.Running.{interpolated}
use Rattle.operations.specs.Means.{Comes}

-- an interpolant that is well formed
pub interpolation_gives : (g : Graph) (r : Ran) (i : Interp) (wanted : Result Interpolation InterpFault) → wanted ≡ Ok (interpolation_of i) → IsFormed i.formula
    → Comes g r (product (interpolant i.formula i.first.tree i.second.tree)) → Comes g r (interpolated wanted)
interpolation_gives g r i wanted is formed comes =
    subst (λ (w : Result Interpolation InterpFault). Comes g r (interpolated w)) (sym is)
    (subst (λ (b : Bool). Comes g r (cond b (product (interpolant i.formula i.first.tree i.second.tree)) lacking)) (sym formed) comes)

pub interpolation_fails : (g : Graph) (r : Ran) (fault : InterpFault) (wanted : Result Interpolation InterpFault) → wanted ≡ Err fault → Comes g r (interpolated (Err fault))
    → Comes g r (interpolated wanted)
interpolation_fails g r fault wanted is comes = subst (λ (w : Result Interpolation InterpFault). Comes g r (interpolated w)) (sym is) comes

pub interpolation_lacks : (g : Graph) (wanted : Result Interpolation InterpFault) → Comes g ran.Lacking (interpolated wanted)
interpolation_lacks g (Ok i) =
    elim (is_formed i.formula) as (λ (b : Bool). Comes g ran.Lacking (cond b (product (interpolant i.formula i.first i.second)) lacking)) [ true ↦ tt | false ↦ tt ]
interpolation_lacks g (Err (interpolation.Cut step)) = tt
interpolation_lacks g (Err (interpolation.Defined f side)) = tt
interpolation_lacks g (Err (interpolation.Partition f side)) = tt
interpolation_lacks g (Err interpolation.Budget) = tt
interpolation_lacks g (Err interpolation.Memory) = tt
