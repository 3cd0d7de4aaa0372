-- Want of memory may be answered to whatever work on a proof finds.
use Rattle.std.proofs.Common.{ℕ, Bool, true, false, cond, Option, Some, None, List, Result, Ok, Err}
use Rattle.fol.specs.Formed.{is_formed}
use Rattle.proof_trees.specs.Trees.{Tree}
use Rattle.proof_graph.specs.declared.graph.Graph.{Graph}
use Rattle.tptp_problem.specs.declared.problems.Problem.{Problem}
use Rattle.expansion_laws.specs.Dependency.{Expansion}
use Rattle.extraction_laws.specs.declared.fault.ExtractFault.{ExtractFault}
use Rattle.extraction_laws.specs.declared.fault.ExtractFault.TheVariants as extraction
use Rattle.herbrand_laws.specs.Herbrand.{Item}
use Rattle.introduction_laws.specs.declared.fault.HerbrandFault.{HerbrandFault}
use Rattle.introduction_laws.specs.declared.fault.HerbrandFault.TheVariants as instances
use Rattle.introduction_laws.specs.declared.fault.IntroFault.{IntroFault}
use Rattle.introduction_laws.specs.declared.fault.IntroFault.TheVariants as introduction
use Rattle.introduction_laws.specs.Introducing.{Answer as Introduction, shorter, same, has_formed_instances}
use Rattle.interp_laws.specs.Interpolation.{Interpolation}
use Rattle.interp_laws.specs.declared.fault.InterpFault.{InterpFault}
use Rattle.interp_laws.specs.declared.fault.InterpFault.TheVariants as interpolation
use Rattle.operation_laws.specs.Answers.{product, lacking, interpolant, introduced}
use Rattle.operation_laws.specs.Given.{ToShow, of_proof, of_expansion}
use Rattle.operation_laws.specs.Running.{lists, compares, eliminates, extracted, interpolated, instanced, shortened}
use Rattle.operations.specs.declared.answers.Ran.{Ran}
use Rattle.operations.specs.declared.answers.Ran.TheVariants as ran
use Rattle.operations.specs.Means.{Comes}

pub lists_lacks : (g : Graph) (s : ToShow) → Comes g ran.Lacking (lists s)
lists_lacks g (of_proof t) = tt
lists_lacks g (of_expansion x) = tt

pub eliminates_lacks : (g : Graph) (o : Option (Tree × ℕ)) → Comes g ran.Lacking (eliminates o)
eliminates_lacks g None = tt
eliminates_lacks g (Some p) = tt

pub extracted_lacks : (g : Graph) (r : Result Expansion ExtractFault) → Comes g ran.Lacking (extracted r)
extracted_lacks g (Ok x) = tt
extracted_lacks g (Err (extraction.Cut step)) = tt
extracted_lacks g (Err (extraction.Defined f side)) = tt
extracted_lacks g (Err extraction.Budget) = tt
extracted_lacks g (Err extraction.Memory) = tt

pub interpolated_lacks : (g : Graph) (r : Result Interpolation InterpFault) → Comes g ran.Lacking (interpolated r)
interpolated_lacks g (Ok i) =
    elim (is_formed i.formula) as (λ (b : Bool). Comes g ran.Lacking (cond b (product (interpolant i.formula i.first i.second)) lacking)) [ true ↦ tt | false ↦ tt ]
interpolated_lacks g (Err (interpolation.Cut step)) = tt
interpolated_lacks g (Err (interpolation.Defined f side)) = tt
interpolated_lacks g (Err (interpolation.Partition f side)) = tt
interpolated_lacks g (Err interpolation.Budget) = tt
interpolated_lacks g (Err interpolation.Memory) = tt

pub instanced_lacks : (g : Graph) (r : Result (List Item) HerbrandFault) → Comes g ran.Lacking (instanced r)
instanced_lacks g (Ok items) = tt
instanced_lacks g (Err (instances.Cut step)) = tt
instanced_lacks g (Err (instances.NotPrenex f side)) = tt
instanced_lacks g (Err instances.Budget) = tt
instanced_lacks g (Err instances.Memory) = tt

pub shortened_lacks : (g : Graph) (t : Tree) (r : Result Introduction IntroFault) → Comes g ran.Lacking (shortened t r)
shortened_lacks g t (Ok (shorter u)) =
    elim (has_formed_instances t) as (λ (b : Bool). Comes g ran.Lacking (cond b (product (introduced u true)) lacking)) [ true ↦ tt | false ↦ tt ]
shortened_lacks g t (Ok same) = tt
shortened_lacks g t (Err (introduction.Cut step)) = tt
shortened_lacks g t (Err (introduction.NotPrenex f side)) = tt
shortened_lacks g t (Err introduction.Budget) = tt
shortened_lacks g t (Err (introduction.TooMany k)) = tt
shortened_lacks g t (Err introduction.Memory) = tt

-- what may be answered where memory is wanting may be answered where two values are compared
pub compares_lacks : (g : Graph) (r : Ran) (t : Tree) (p : Problem) → Comes g r lacking → Comes g r (compares t p)
compares_lacks g (ran.Refused q) t p comes = cc
compares_lacks g ran.Unnamed t p comes = absurd comes
compares_lacks g (ran.Failed f) t p comes = cc
compares_lacks g ran.Lacking t p comes = tt
compares_lacks g (ran.Done m) t p comes = let none = comes.0 in cc
