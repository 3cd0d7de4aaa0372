-- What an extraction answers decides what the operation comes to.
use Rattle.std.proofs.Common.{◌≡◌, Result, Ok, Err, sym, subst}
use Rattle.proof_graph.specs.declared.graph.Graph.{Graph}
use Rattle.expansion_laws.specs.Dependency.{Expansion}
use Rattle.extraction_laws.specs.declared.fault.ExtractFault.{ExtractFault}
use Rattle.extraction_laws.specs.declared.fault.ExtractFault.TheVariants as extraction
use Rattle.operations.specs.declared.answers.Ran.{Ran}
use Rattle.operations.specs.declared.answers.Ran.TheVariants as ran
use Rattle.operation_laws.specs.Answers.{expansion, product}
use Rattle.operation_laws.specs.Running.{extracted}
use Rattle.operations.specs.Means.{Comes}

pub extraction_gives : (g : Graph) (r : Ran) (x : Expansion) (wanted : Result Expansion ExtractFault) → wanted ≡ Ok x → Comes g r (product (expansion x)) → Comes g r (extracted wanted)
extraction_gives g r x wanted is comes = subst (λ (w : Result Expansion ExtractFault). Comes g r (extracted w)) (sym is) comes

pub extraction_fails : (g : Graph) (r : Ran) (fault : ExtractFault) (wanted : Result Expansion ExtractFault) → wanted ≡ Err fault → Comes g r (extracted (Err fault))
    → Comes g r (extracted wanted)
extraction_fails g r fault wanted is comes = subst (λ (w : Result Expansion ExtractFault). Comes g r (extracted w)) (sym is) comes

pub extraction_lacks : (g : Graph) (wanted : Result Expansion ExtractFault) → Comes g ran.Lacking (extracted wanted)
extraction_lacks g (Ok x) = tt
extraction_lacks g (Err (extraction.Cut step)) = tt
extraction_lacks g (Err (extraction.Defined f side)) = tt
extraction_lacks g (Err extraction.Budget) = tt
extraction_lacks g (Err extraction.Memory) = tt
