-- What the import of a refutation answers decides what the operation comes to.
use Rattle.std.proofs.Common.{◌≡◌, ℕ, true, false, Bool, cond, List, Result, Ok, Err, sym, ap, subst}
use Rattle.std.specs.List.{list_all}
use Rattle.proof_trees.specs.Trees.{Tree}
use Rattle.proof_graph.specs.declared.graph.Graph.{Graph}
use Rattle.refutations.specs.declared.clause.Clause.{Clause}
use Rattle.refutations.specs.declared.step.ResStep.{ResStep}
use Rattle.refutations.specs.declared.step.ResCause.{ResCause}
use Rattle.refutations.specs.Refutations.{refutation}
use Rattle.tptp_problem.specs.declared.problems.Problem.{Problem}
use Rattle.tptp_problem.specs.ProblemClauses.{clauses_of}
use Rattle.operation_laws.specs.declared.refusals.Failure.TheVariants.{Refutation}
use Rattle.operations.specs.declared.answers.Ran.{Ran}
use Rattle.operations.specs.declared.answers.Ran.TheVariants as ran
use Rattle.operation_laws.specs.Answers.{Answer, proof, lacking, product}
use Rattle.operation_laws.specs.Running.{has_closure, refutation_shown, refuted, refutes_clauses, refutes}
use Rattle.operations.specs.Means.{Comes}

pub import_gives : (g : Graph) (r : Ran) (t : Tree) (wanted : Result Tree (ℕ × ResCause)) → wanted ≡ Ok t → Comes g r (product (proof t)) → Comes g r (refuted wanted)
import_gives g r t wanted is comes = subst (λ (w : Result Tree (ℕ × ResCause)). Comes g r (refuted w)) (sym is) comes

pub import_fails : (g : Graph) (i : ℕ) (cause : ResCause) (wanted : Result Tree (ℕ × ResCause)) → wanted ≡ Err (i, cause)
    → Comes g (ran.Failed (Refutation i (refutation_shown cause))) (refuted wanted)
import_fails g i cause wanted is = ap refuted is

pub refuted_lacks : (g : Graph) (wanted : Result Tree (ℕ × ResCause)) → Comes g ran.Lacking (refuted wanted)
refuted_lacks g (Ok t) = tt
refuted_lacks g (Err (i, cause)) = tt

-- what is tested of the clauses
by_test : (cs : List Clause) (steps : List ResStep) (P : Answer → Type 0) → P (refuted (refutation cs steps)) → P lacking → P (refutes_clauses cs steps)
by_test cs steps P refuting wanting =
    elim (list_all has_closure cs) as (λ (b : Bool). P (cond b (refuted (refutation cs steps)) lacking)) [ true ↦ refuting | false ↦ wanting ]

pub refutes_lacks : (g : Graph) (cs : List Clause) (steps : List ResStep) → Comes g ran.Lacking (refutes_clauses cs steps)
refutes_lacks g cs steps = by_test cs steps (Comes g ran.Lacking) (refuted_lacks g (refutation cs steps)) tt

-- clauses with closures are refuted by the import
pub with_closures : (g : Graph) (r : Ran) (cs : List Clause) (steps : List ResStep) (p : Problem) → cs ≡ clauses_of p.entries → list_all has_closure cs ≡ true
    → Comes g r (refuted (refutation cs steps)) → Comes g r (refutes steps p)
with_closures g r cs steps p same closed comes =
    subst (λ (ds : List Clause). Comes g r (refutes_clauses ds steps)) same
    (subst (λ (b : Bool). Comes g r (cond b (refuted (refutation cs steps)) lacking)) (sym closed) comes)
