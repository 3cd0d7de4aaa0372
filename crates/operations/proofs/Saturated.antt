-- What rounds of resolution answer decides what the operation comes to.
use Rattle.std.proofs.Common.{◌≡◌, ℕ, Bool, true, false, cond, ◌||◌, List, refl, sym, ap, ◌∙◌, subst, inl, inr}
use Rattle.std.specs.Prelude.{Ok}
use Rattle.std.specs.List.{All, list_all}
use Rattle.std.specs.FinMap as fin
use Rattle.std.proofs.lemmas.List.Elements.{All-map, All-weaker}
use Rattle.fol.specs.declared.symbols.Var.{Var}
use Rattle.fol.specs.Syntax.{Term, Formula}
use Rattle.finite.specs.Finite as set
use Rattle.lk_rules.specs.declared.sequent.Sequent.{Sequent}
use Rattle.lk_rules.specs.declared.sequent.Side.TheVariants.{Left, Right}
use Rattle.lk_rules.specs.Sequents.{empty}
use Rattle.proof_trees.specs.FormulaSets.{is_atom}
use Rattle.proof_trees.proofs.Booleans.{or_first, or_second}
use Rattle.proof_trees.specs.Trees.{Tree, IsValid}
use Rattle.proof_graph.specs.declared.graph.Graph.{Graph}
use Rattle.refutations.specs.declared.clause.Clause.{Clause}
use Rattle.refutations.specs.declared.step.ResStep.{ResStep}
use Rattle.refutations.specs.declared.step.ResStep.TheVariants.{Input, Subst, Resolve}
use Rattle.refutations.specs.Clauses.{literals_of, IsClauseOf}
use Rattle.refutations.specs.Refutations.{refutation as refutation_of}
use Rattle.ground_laws.specs.Steps.{sequents_of}
use Rattle.ground_laws.proofs.Literals.{each_literal}
use Rattle.clause_laws.specs.Subsumption.{IsClause}
use Rattle.clause_laws.specs.Rounds.{IsClosed, Level}
use Rattle.clause_laws.specs.Saturation.{IsSaturation}
use Rattle.res_prover.specs.Answers.{IsRefuted}
use Rattle.refutations.proofs.Refuting.{valid_refutation}
use Rattle.tptp_problem.specs.ProblemClauses.{clauses_of, IsReadProblem}
use Rattle.held_values.specs.declared.refutation.Refutation.{Refutation}
use Rattle.held_values.specs.Means.{proof_of, Stands}
use Rattle.job_words.specs.Refutations.{IsFormedBinding, HasFormedParts, HaveFormedParts}
use Rattle.reply_lines.specs.Shown.{IsShownBinding, IsShownStep, IsShownClause}
use Rattle.operation_laws.specs.declared.refusals.Failure.TheVariants.{Rounds}
use Rattle.operation_laws.specs.Answers.{failed, lacking, product, derivation, saturated, one, saturation, IsRefutedIn, IsSaturatedIn, IsUnfinished}
use Rattle.operation_laws.specs.Running.{has_closure, saturates}
use Rattle.operations.specs.declared.answers.Ran.{Ran}
use Rattle.operations.specs.declared.answers.Ran.TheVariants as ran
use Rattle.operations.specs.declared.answers.Made.TheVariants as made
use Rattle.operation_laws.proofs.Making.{closures_formed}
use Rattle.operations.specs.Means.{ComesTo}
use Rattle.operations.proofs.Satisfied.{is_ok}

-- the literals of a clause are a clause of resolution

abbrev AnyFormula : Formula → Type 0
AnyFormula f = Unit {0}

atom_in : (c : Clause) → IsClauseOf c → (f : Formula) → (set.has (literals_of c.matrix).left f || set.has (literals_of c.matrix).right f) ≡ true → is_atom f ≡ true
atom_in c known f stands =
    each_literal AnyFormula (λ g. is_atom g ≡ true) (λ g h whole. (tt, tt)) (λ g shape whole. shape) (λ g whole. tt) c.matrix f known.shape tt stands

clause_of_literals : (c : Clause) → IsClauseOf c → IsClause (literals_of c.matrix)
clause_of_literals c known Left f stands = atom_in c known f (or_first (set.has (literals_of c.matrix).left f) (set.has (literals_of c.matrix).right f) stands)
clause_of_literals c known Right f stands = atom_in c known f (or_second (set.has (literals_of c.matrix).left f) (set.has (literals_of c.matrix).right f) stands)

pub are_clauses : (cs : List Clause) → All IsClauseOf cs → All IsClause (sequents_of cs)
are_clauses cs known =
    All-map IsClause (λ (c : Clause). literals_of c.matrix) cs (All-weaker IsClauseOf (λ (c : Clause). IsClause (literals_of c.matrix)) clause_of_literals cs known)

-- steps that a line can tell have well-formed parts

binding_formed : (b : Var × Term) → IsShownBinding b → IsFormedBinding b
binding_formed b shown = (shown.0.0, shown.1.0)

parts_formed : (step : ResStep) → IsShownStep step → HasFormedParts step
parts_formed (Input i) shown = tt
parts_formed (Subst k m) shown = All-weaker IsShownBinding IsFormedBinding binding_formed (fin.entries m) shown.1
parts_formed (Resolve p n a) shown = shown.2.1

pub have_formed_parts : (steps : List ResStep) → All IsShownStep steps → HaveFormedParts steps
have_formed_parts steps shown = All-weaker IsShownStep HasFormedParts parts_formed steps shown

-- a refutation, which stands for its proof
pub derivation_comes : (g : Graph) (cs : List Clause) (n : ℕ) (r : Refutation) → All IsClauseOf cs → list_all has_closure cs ≡ true → IsRefuted (sequents_of cs) n r.steps
    → IsReadProblem r.problem → cs ≡ clauses_of r.problem.entries → All IsShownStep r.steps → ComesTo g (ran.Done (made.Derivation r)) (saturation cs n)
derivation_comes g cs n r known closed refuted read same shown =
    let by = refuted.refutation.refutes cs refl in
    let here : refutation_of (clauses_of r.problem.entries) r.steps ≡ Ok by.0 = ap (λ (ds : List Clause). refutation_of ds r.steps) (sym same) ∙ by.1 in
    let ok = is_ok (refutation_of (clauses_of r.problem.entries) r.steps) by.0 here in
    let formed = refuted.refutation.formed in
    let stands : Stands r = record {
      read = read;
      formed = formed;
      refutes = ok.0;
      valid = subst IsValid (sym ok.1) (valid_refutation cs r.steps by.0 known (closures_formed cs known closed) formed by.1);
    } in
    let met : IsRefutedIn cs n (product (derivation r.steps (proof_of r))) = record {
      reached = refuted.reached;
      steps = r.steps;
      formed = formed;
      tree = proof_of r;
      stands = by.1 ∙ ap (λ (t : Tree). Ok t) (sym ok.1);
      shown = shown;
      is = refl;
    } in
    (product (derivation r.steps (proof_of r)), inl met, (refl, stands))

-- the clauses that rounds end with
pub saturation_comes : (g : Graph) (cs : List Clause) (n : ℕ) (ks js : List Sequent) → IsSaturation (sequents_of cs) n js → ks ≡ js → All IsShownClause ks
    → ComesTo g (ran.Done (made.Saturated ks)) (saturation cs n)
saturation_comes g cs n ks js holds same shown =
    let met : IsSaturatedIn cs n (product (saturated ks)) = record {
      clauses = ks;
      holds = subst (λ ls. IsSaturation (sequents_of cs) n ls) (sym same) holds;
      shown = shown;
      is = refl;
    } in
    (product (saturated ks), inr (inl met), (refl, tt))

-- rounds that end with neither
pub unfinished_comes : (g : Graph) (cs : List Clause) (ss : List Sequent) (n : ℕ) → ss ≡ sequents_of cs → (Level ss n empty → ⊥) × (IsClosed (Level ss n) → ⊥)
    → ComesTo g (ran.Failed Rounds) (saturation cs n)
unfinished_comes g cs ss n same is =
    let here = subst (λ ts. (Level ts n empty → ⊥) × (IsClosed (Level ts n) → ⊥)) same is in
    let met : IsUnfinished cs n (failed Rounds) = record { not_empty = here.0; not_closed = here.1; is = refl } in
    (failed Rounds, inr (inr (inl met)), refl)

-- want of memory may always be answered

pub saturation_lacks : (g : Graph) (cs : List Clause) (n : ℕ) → ComesTo g ran.Lacking (saturation cs n)
saturation_lacks g cs n = (lacking, inr (inr (inr refl)), tt)

pub saturates_lacks : (g : Graph) (cs : List Clause) (n : ℕ) → ComesTo g ran.Lacking (saturates cs n)
saturates_lacks g cs n =
    elim (list_all has_closure cs) as (λ (b : Bool). ComesTo g ran.Lacking (cond b (saturation cs n) (one lacking))) [ true ↦ saturation_lacks g cs n | false ↦ tt ]

-- the clauses of a problem
pub closed_comes : (g : Graph) (r : Ran) (cs ds : List Clause) (n : ℕ) → cs ≡ ds → list_all has_closure cs ≡ true → ComesTo g r (saturation cs n) → ComesTo g r (saturates ds n)
closed_comes g r cs ds n same closed comes =
    subst (λ (es : List Clause). ComesTo g r (saturates es n)) same
    (subst (λ (b : Bool). ComesTo g r (cond b (saturation cs n) (one lacking))) (sym closed) comes)
