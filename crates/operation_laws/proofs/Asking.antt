-- Which operation asks for what, and over which values.
use Rattle.std.proofs.Common.{◌≡◌, ℕ, Bool, true, false, cond, List, Option, Some, None, refl, sym, subst}
use Rattle.std.specs.List.{list_all}
use Rattle.proof_trees.specs.Trees.{Tree}
use Rattle.refutations.specs.declared.clause.Clause.{Clause}
use Rattle.tptp_problem.specs.declared.problems.Problem.{Problem}
use Rattle.tptp_problem.specs.ProblemClauses.{clauses_of}
use Rattle.job_lang.specs.declared.jobs.Op.{Op}
use Rattle.job_lang.specs.declared.jobs.Op.TheVariants as ops
use Rattle.operation_laws.specs.Values.{Value}
use Rattle.operation_laws.specs.Answers.{lacking, Asked, one, elimination, satisfiability, saturation}
use Rattle.operation_laws.specs.Given.{Found, missing, wanting, found, proof_given, problem_given, first_of}
use Rattle.operation_laws.specs.Running.{has_closure, first_open, solves_ground, to_solve, to_saturate, to_eliminate, run}
use Rattle.operation_laws.proofs.Solved.{AreClausesOf}

-- the clauses of the problem that is named
abbrev pub AreGiven : List ℕ → List (Option Value) → List Clause → Type 0
AreGiven of vs cs = (p : Problem) × (problem_given of (first_of vs) ≡ found p) × AreClausesOf p cs

-- each request with several answers is one operation's
abbrev pub IsAskedBy : Op → List (Option Value) → Asked → Type 0
IsAskedBy op vs (one a) = Unit {0}
IsAskedBy op vs (elimination t) = (of : List ℕ) × (op ≡ ops.Eliminate of) × (proof_given of (first_of vs) ≡ found t)
IsAskedBy op vs (satisfiability cs) = (of : List ℕ) × (op ≡ ops.Sat of) × AreGiven of vs cs
IsAskedBy op vs (saturation cs n) = (of : List ℕ) × (op ≡ ops.Prove of n) × AreGiven of vs cs

by_eliminate : (of : List ℕ) (vs : List (Option Value)) (f : Found Tree) → proof_given of (first_of vs) ≡ f → IsAskedBy (ops.Eliminate of) vs (to_eliminate f)
by_eliminate of vs (missing r) is = tt
by_eliminate of vs wanting is = tt
by_eliminate of vs (found t) is = (of, refl, is)

module _ (of : List ℕ) (vs : List (Option Value)) (p : Problem) (is : problem_given of (first_of vs) ≡ found p) where
  given_closed : list_all has_closure (clauses_of p.entries) ≡ true → AreGiven of vs (clauses_of p.entries)
  given_closed closed = (p, is, record { are = refl; closed = closed })

  by_ground : (o : Option ℕ) (b : Bool) → list_all has_closure (clauses_of p.entries) ≡ b → IsAskedBy (ops.Sat of) vs (solves_ground o (clauses_of p.entries))
  by_ground (Some i) b closed = tt
  by_ground None true closed =
      subst (λ c. IsAskedBy (ops.Sat of) vs (cond c (satisfiability (clauses_of p.entries)) (one lacking))) (sym closed) (of, refl, given_closed closed)
  by_ground None false closed =
      subst (λ c. IsAskedBy (ops.Sat of) vs (cond c (satisfiability (clauses_of p.entries)) (one lacking))) (sym closed) tt

  by_rounds : (n : ℕ) (b : Bool) → list_all has_closure (clauses_of p.entries) ≡ b
      → IsAskedBy (ops.Prove of n) vs (cond (list_all has_closure (clauses_of p.entries)) (saturation (clauses_of p.entries) n) (one lacking))
  by_rounds n true closed =
      subst (λ c. IsAskedBy (ops.Prove of n) vs (cond c (saturation (clauses_of p.entries) n) (one lacking))) (sym closed) (of, refl, given_closed closed)
  by_rounds n false closed =
      subst (λ c. IsAskedBy (ops.Prove of n) vs (cond c (saturation (clauses_of p.entries) n) (one lacking))) (sym closed) tt

by_sat : (of : List ℕ) (vs : List (Option Value)) (f : Found Problem) → problem_given of (first_of vs) ≡ f → IsAskedBy (ops.Sat of) vs (to_solve f)
by_sat of vs (missing r) is = tt
by_sat of vs wanting is = tt
by_sat of vs (found p) is = by_ground of vs p is (first_open (clauses_of p.entries)) (list_all has_closure (clauses_of p.entries)) refl

by_prove : (of : List ℕ) (n : ℕ) (vs : List (Option Value)) (f : Found Problem) → problem_given of (first_of vs) ≡ f → IsAskedBy (ops.Prove of n) vs (to_saturate n f)
by_prove of n vs (missing r) is = tt
by_prove of n vs wanting is = tt
by_prove of n vs (found p) is = by_rounds of vs p is n (list_all has_closure (clauses_of p.entries)) refl

pub asked_by : (op : Op) (vs : List (Option Value)) → IsAskedBy op vs (run op vs)
asked_by (ops.Lk list using) vs = tt
asked_by (ops.Problem p) vs = tt
asked_by (ops.Proves of goal) vs = tt
asked_by (ops.Show of) vs = tt
asked_by (ops.Measure of) vs = tt
asked_by (ops.Subst of m) vs = tt
asked_by (ops.Cutelim of n) vs = tt
asked_by (ops.Eliminate of) vs = by_eliminate of vs (proof_given of (first_of vs)) refl
asked_by (ops.Define symbol vars body using) vs = tt
asked_by (ops.Unfold of) vs = tt
asked_by (ops.Sat of) vs = by_sat of vs (problem_given of (first_of vs)) refl
asked_by (ops.Prove of n) vs = by_prove of n vs (problem_given of (first_of vs)) refl
asked_by (ops.Resolution of list) vs = tt
asked_by (ops.Tautology s n) vs = tt
asked_by (ops.Expansion flat n) vs = tt
asked_by (ops.Expand of n) vs = tt
asked_by (ops.Fromexp of n) vs = tt
asked_by (ops.Interpolate of first second n) vs = tt
asked_by (ops.Herbrand of n) vs = tt
asked_by (ops.Cutintro of width n) vs = tt
