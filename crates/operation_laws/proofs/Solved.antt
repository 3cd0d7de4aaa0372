-- What a model or a refutation of clauses makes.
use Rattle.std.proofs.Common.{◌≡◌, ℕ, Bool, true, false, cond, List, [], ◌∷◌, map, Option, Some, None, Result, Ok, refl, sym, ap, ◌∙◌, subst, inl, inr}
use Rattle.std.specs.List.{list_all}
use Rattle.proof_trees.specs.Trees.{Tree}
use Rattle.refutations.specs.declared.clause.Clause.{Clause}
use Rattle.refutations.specs.declared.step.ResCause.{ResCause}
use Rattle.refutations.specs.Clauses.{closures}
use Rattle.refutations.specs.Refutations.{refutation as refutation_of}
use Rattle.ground_laws.specs.Models.{IsModel}
use Rattle.ground_laws.specs.Steps.{res_step, sequents_of}
use Rattle.ground_laws.proofs.Ties.{proof_of}
use Rattle.tptp_problem.specs.declared.problems.Problem.{Problem}
use Rattle.tptp_problem.specs.ProblemClauses.{clauses_of, IsReadProblem}
use Rattle.job_lang.specs.declared.jobs.Op.{Op}
use Rattle.job_lang.specs.declared.jobs.Op.TheVariants as ops
use Rattle.operation_laws.specs.Values.{Value}
use Rattle.operation_laws.specs.Answers.{Product, model, refutation, Answer, lacking, product, Asked, one, elimination, satisfiability, IsModelOf, IsRefutationOf, May}
use Rattle.operation_laws.specs.Given.{Found, missing, wanting, found, problem_given, proof_given, first_of}
use Rattle.operation_laws.specs.Running.{has_closure, first_open, solves_ground, to_solve, to_eliminate, run}
use Rattle.operation_laws.specs.Claims.{IsProofOf, ASolution, IsRefuted}
use Rattle.operation_laws.proofs.Making.{read_clauses, closures_formed}

-- the clauses of a problem, which have closures
pub record AreClausesOf (p : Problem) (cs : List Clause) : Type 0 where
  pub are : clauses_of p.entries ≡ cs
  pub closed : list_all has_closure (clauses_of p.entries) ≡ true

-- what asks for a solution is no product
ground_unanswered : (o : Option ℕ) (b : Bool) (cs : List Clause) (made : Product) → list_all has_closure cs ≡ b → solves_ground o cs ≡ one (product made) → ⊥
ground_unanswered (Some i) b cs made closed is = cc
ground_unanswered None true cs made closed is = let same : satisfiability cs ≡ one (product made) = sym (ap (λ c. cond c (satisfiability cs) (one lacking)) closed) ∙ is in cc
ground_unanswered None false cs made closed is = let same : one lacking ≡ one (product made) = sym (ap (λ c. cond c (satisfiability cs) (one lacking)) closed) ∙ is in cc

pub solves_unanswered : (f : Found Problem) (made : Product) → to_solve f ≡ one (product made) → ⊥
solves_unanswered (missing r) made is = cc
solves_unanswered wanting made is = cc
solves_unanswered (found p) made is = ground_unanswered (first_open (clauses_of p.entries)) (list_all has_closure (clauses_of p.entries)) (clauses_of p.entries) made refl is

-- a solution is what is claimed of it
same_tree : (t u : Tree) → ◌≡◌ {A = Result Tree (ℕ × ResCause)} (Ok t) (Ok u) → t ≡ u
same_tree t u is = cc

made_is : (p q : Product) → product p ≡ product q → q ≡ p
made_is p q is = cc

pub solved : (p : Problem) (made : Product) → IsReadProblem p → list_all has_closure (clauses_of p.entries) ≡ true → May (satisfiability (clauses_of p.entries)) (product made)
    → ASolution made (λ atoms. IsModel atoms (sequents_of (clauses_of p.entries))) (IsRefuted (clauses_of p.entries))
solved p made read closed (inl m) =
    let cs = clauses_of p.entries in
    subst (λ q. ASolution q (λ atoms. IsModel atoms (sequents_of cs)) (IsRefuted cs)) (made_is made (model m.atoms) m.is) m.holds
solved p made read closed (inr (inl r)) =
    let cs = clauses_of p.entries in
    let each = read_clauses p read in
    let by = proof_of cs r.steps each (closures_formed cs each closed) r.refutes in
    let same : r.tree ≡ by.0 = same_tree r.tree by.0 (sym r.stands ∙ by.1) in
    let is : IsRefuted cs (map res_step r.steps) r.tree = record {
      steps = r.steps;
      are = refl;
      stands = r.stands;
      right = subst (λ u. IsProofOf u (closures cs)) (sym same) (record { valid = by.2; ends = by.3 });
    } in
    subst (λ q. ASolution q (λ atoms. IsModel atoms (sequents_of cs)) (IsRefuted cs)) (made_is made (refutation (map res_step r.steps) r.tree) r.is) is
solved p made read closed (inr (inr none)) = cc
