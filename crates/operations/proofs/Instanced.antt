-- What Herbrand instances are answered decides what the operation comes to.
use Rattle.std.proofs.Common.{◌≡◌, List, Result, Ok, Err, sym, subst}
use Rattle.proof_graph.specs.declared.graph.Graph.{Graph}
use Rattle.herbrand_laws.specs.Herbrand.{Item, herbrand_sequent}
use Rattle.herbrand_laws.specs.Counted.{counted}
use Rattle.introduction_laws.specs.declared.fault.HerbrandFault.{HerbrandFault}
use Rattle.introduction_laws.specs.declared.fault.HerbrandFault.TheVariants as instances
use Rattle.operations.specs.declared.answers.Ran.{Ran}
use Rattle.operations.specs.declared.answers.Ran.TheVariants as ran
use Rattle.operation_laws.specs.Answers.{herbrand, capped, product}
use Rattle.operation_laws.specs.Running.{instanced}
use Rattle.operations.specs.Means.{Comes}

pub instancing_gives : (g : Graph) (r : Ran) (items : List Item) (wanted : Result (List Item) HerbrandFault) → wanted ≡ Ok items
    → Comes g r (product (herbrand (capped (counted items)) (herbrand_sequent items))) → Comes g r (instanced wanted)
instancing_gives g r items wanted is comes = subst (λ (w : Result (List Item) HerbrandFault). Comes g r (instanced w)) (sym is) comes

pub instancing_fails : (g : Graph) (r : Ran) (fault : HerbrandFault) (wanted : Result (List Item) HerbrandFault) → wanted ≡ Err fault → Comes g r (instanced (Err fault))
    → Comes g r (instanced wanted)
instancing_fails g r fault wanted is comes = subst (λ (w : Result (List Item) HerbrandFault). Comes g r (instanced w)) (sym is) comes

pub instancing_lacks : (g : Graph) (wanted : Result (List Item) HerbrandFault) → Comes g ran.Lacking (instanced wanted)
instancing_lacks g (Ok items) = tt
instancing_lacks g (Err (instances.Cut step)) = tt
instancing_lacks g (Err (instances.NotPrenex f side)) = tt
instancing_lacks g (Err instances.Budget) = tt
instancing_lacks g (Err instances.Memory) = tt
