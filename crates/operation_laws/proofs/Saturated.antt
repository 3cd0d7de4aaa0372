-- What a refutation that rounds of resolution reach makes, and clauses that they end with.
use Rattle.std.proofs.Common.{◌≡◌, ℕ, Bool, true, false, cond, List, Ok, sym, ap, ◌∙◌, subst, inl, inr}
use Rattle.std.specs.List.{list_all}
use Rattle.lk_rules.specs.declared.sequent.Sequent.{Sequent}
use Rattle.proof_trees.specs.Trees.{Tree}
use Rattle.refutations.specs.declared.clause.Clause.{Clause}
use Rattle.refutations.specs.Clauses.{closures}
use Rattle.refutations.proofs.Refuting.{valid_refutation, end_of_refutation}
use Rattle.ground_laws.specs.Steps.{sequents_of}
use Rattle.clause_laws.specs.Saturation.{IsSaturation}
use Rattle.tptp_problem.specs.declared.problems.Problem.{Problem}
use Rattle.tptp_problem.specs.ProblemClauses.{clauses_of, IsReadProblem}
use Rattle.operation_laws.specs.declared.refusals.Failure.TheVariants.{Rounds}
use Rattle.operation_laws.specs.Answers.{Product, derivation, saturated, failed, lacking, product, Asked, one, saturation, IsRefutedIn, IsSaturatedIn, May}
use Rattle.operation_laws.specs.Given.{Found, missing, wanting, found}
use Rattle.operation_laws.specs.Running.{has_closure, saturates, to_saturate}
use Rattle.operation_laws.specs.Claims.{IsProofOf, ASaturation, IsRefutedBy}
use Rattle.operation_laws.proofs.Making.{read_clauses, closures_formed}

-- what asks for a saturation is no product
saturates_by : (cs : List Clause) (n : ℕ) (made : Product) (b : Bool) → cond b (saturation cs n) (one lacking) ≡ one (product made) → ⊥
saturates_by cs n made true is = cc
saturates_by cs n made false is = cc

pub saturates_unanswered : (n : ℕ) (f : Found Problem) (made : Product) → to_saturate n f ≡ one (product made) → ⊥
saturates_unanswered n (missing r) made is = cc
saturates_unanswered n wanting made is = cc
saturates_unanswered n (found p) made is = saturates_by (clauses_of p.entries) n made (list_all has_closure (clauses_of p.entries)) is

-- a refutation and saturated clauses are what is claimed of them
made_is : (p q : Product) → product p ≡ product q → q ≡ p
made_is p q is = cc

pub ended : (p : Problem) (n : ℕ) (made : Product) → IsReadProblem p → list_all has_closure (clauses_of p.entries) ≡ true → May (saturation (clauses_of p.entries) n) (product made)
    → ASaturation made (IsSaturation (sequents_of (clauses_of p.entries)) n) (IsRefutedBy (clauses_of p.entries) n)
ended p n made read closed (inl r) =
    let cs = clauses_of p.entries in
    let each = read_clauses p read in
    let is : IsRefutedBy cs n r.steps r.tree = record {
      reached = r.reached;
      stands = r.stands;
      right = record {
        valid = valid_refutation cs r.steps r.tree each (closures_formed cs each closed) r.formed r.stands;
        ends = end_of_refutation cs r.steps r.tree each r.formed r.stands;
      };
    } in
    subst (λ q. ASaturation q (IsSaturation (sequents_of cs) n) (IsRefutedBy cs n)) (made_is made (derivation r.steps r.tree) r.is) is
ended p n made read closed (inr (inl k)) =
    let cs = clauses_of p.entries in
    subst (λ q. ASaturation q (IsSaturation (sequents_of cs) n) (IsRefutedBy cs n)) (made_is made (saturated k.clauses) k.is) k.holds
ended p n made read closed (inr (inr (inl u))) = absurd (no_product u.is)
  where
    no_product : product made ≡ failed Rounds → ⊥
    no_product is = cc
ended p n made read closed (inr (inr (inr none))) = cc
