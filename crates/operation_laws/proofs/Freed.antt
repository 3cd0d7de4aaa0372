-- What elimination of cuts without a budget makes.
use Rattle.std.proofs.Common.{◌≡◌, ℕ, ◌<◌, List, Option, Some, refl, sym, subst, inl, inr, arith}
use Rattle.proof_trees.specs.Trees.{Tree, IsValid}
use Rattle.cut_laws.specs.Elimination.{Reaches, elimination}
use Rattle.cut_laws.proofs.Kept.{result_end, result_valid}
use Rattle.cut_laws.proofs.Reached.{least_reached}
use Rattle.job_lang.specs.declared.jobs.Op.{Op}
use Rattle.job_lang.specs.declared.jobs.Op.TheVariants as ops
use Rattle.operation_laws.specs.Values.{Value}
use Rattle.operation_laws.specs.Answers.{Product, reduced, Answer, refused, failed, lacking, product, capped, Asked, one, elimination as reached_from, OrLacking, IsReached}
use Rattle.operation_laws.specs.Given.{Found, missing, wanting, found, proof_given, problem_given, first_of}
use Rattle.operation_laws.specs.Running.{to_eliminate, run}
use Rattle.operation_laws.specs.Claims.{AReducedProof, IsFreed}

-- one answer that is a product is that product
pub of_one : (a : Answer) (made : Product) → OrLacking a (product made) → a ≡ product made
of_one (refused r) made is = cc
of_one (failed f) made (inl is) = cc
of_one (failed f) made (inr is) = cc
of_one lacking made is = cc
of_one (product p) made (inl is) = sym is
of_one (product p) made (inr is) = cc

pub inside : (a b : Answer) → one a ≡ one b → a ≡ b
inside a b is = cc

-- an elimination that is asked for is no product
pub eliminates_unanswered : (f : Found Tree) (made : Product) → to_eliminate f ≡ one (product made) → ⊥
eliminates_unanswered (missing r) made is = cc
eliminates_unanswered wanting made is = cc
eliminates_unanswered (found t) made is = cc

uncapped : (k : ℕ) → capped k < 18446744073709551615 → k ≡ capped k
uncapped k few = omega (arith, few)

pub freed : (t : Tree) (made : Product) → IsValid t → IsReached t (product made) → AReducedProof made (IsFreed t)
freed t made valid r =
    let by : elimination t r.steps ≡ Some (r.tree, r.steps) = (least_reached t r.steps r.tree r.steps).1 (r.reached, omega arith) in
    let is : IsFreed t r.tree (capped r.steps) = record {
      right = record { valid = result_valid t r.tree r.steps r.steps valid by; ends = result_end t r.tree r.steps r.steps by };
      cut_free = r.reached.done;
      reached = λ few. subst (λ (k : ℕ). Reaches t k r.tree) (uncapped r.steps few) r.reached;
    } in
    let same : reduced r.tree (capped r.steps) ≡ made = made_is made (reduced r.tree (capped r.steps)) r.is in
    subst (λ q. AReducedProof q (IsFreed t)) same is
  where
    made_is : (p q : Product) → product p ≡ product q → q ≡ p
    made_is p q h = cc
