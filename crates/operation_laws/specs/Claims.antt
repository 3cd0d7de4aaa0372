-- What each operation claims of what it makes.
--     IsProofOf, IsCutFreeProofOf      a valid proof of a sequent, and one without cuts
--     IsFoundAnd      something holds of what a field is given
--     GivenProof, GivenProblem, GivenExpansion, GivenBoth, GivenDefinitions      something holds of what the operation is given
--     Lists      the product is how a given value is shown
--     AProof, AReducedProof, AnExpansion, AnInterpolant, AHerbrandSequent, AnIntroduction, ADefinition, ASolution, ASaturation      something holds of what the operation
--     makes
--     Claims      one line an operation
use Rattle.std.specs.Prelude.{◌≡◌, ℕ, ◌<◌, ◌≤◌, ◌-◌, ◌^◌, Bool, true, false, List, [], ◌∷◌, length, map, Option, Ok}
use Rattle.std.specs.FinMap as fin
use Rattle.fol.specs.declared.symbols.Sym.{Sym}
use Rattle.fol.specs.declared.symbols.Var.{Var}
use Rattle.fol.specs.Syntax.{Pred, pred, defined, Formula, all}
use Rattle.fol.specs.Formed.{IsFormedPred}
use Rattle.free_variables.specs.Occurrence.{is_free_in, is_pred_in}
use Rattle.substitution.specs.Closing.{closed_over}
use Rattle.lk_rules.specs.declared.sequent.Sequent.{Sequent}
use Rattle.lk_rules.specs.declared.sequent.Side.TheVariants.{Left, Right}
use Rattle.lk_rules.specs.Sequents.{is_subsequent, image_sequent, adds_to, union_sequent, is_free_in_sequent, empty}
use Rattle.proof_trees.specs.Trees.{Tree, concl, cuts, quants, IsValid, IsCutFree}
use Rattle.proof_trees.specs.Occurrence.{is_pred_in_sequent}
use Rattle.cut_laws.specs.Elimination.{Reaches}
use Rattle.def_laws.specs.Flat.{flat, flat_sequent}
use Rattle.def_laws.specs.Nodes.{nodes_of}
use Rattle.def_laws.specs.Defining.{max_nodes}
use Rattle.def_laws.specs.Unfolded.{HasNoBody}
use Rattle.proof_trees.specs.Conclusions.{EachNode}
use Rattle.lk_rules.specs.Formulas.{FormulaSet}
use Rattle.refutations.specs.declared.clause.Clause.{Clause}
use Rattle.refutations.specs.declared.step.ResStep.{ResStep}
use Rattle.refutations.specs.Clauses.{closures}
use Rattle.refutations.specs.Refutations.{refutation as refutation_of}
use Rattle.ground_laws.specs.declared.step.SatStep.{SatStep}
use Rattle.ground_laws.specs.Models.{IsModel}
use Rattle.ground_laws.specs.Steps.{res_step, sequents_of}
use Rattle.clause_laws.specs.Rounds.{Level}
use Rattle.clause_laws.specs.Saturation.{IsSaturation}
use Rattle.search_laws.specs.Truth.{IsPropositional, IsTautology}
use Rattle.expansion_laws.specs.Dependency.{Expansion}
use Rattle.expansion_laws.specs.Proofs.{shallow_sequent, IsExpansionProof}
use Rattle.extraction_laws.specs.Extraction.{extracted}
use Rattle.herbrand_laws.specs.Herbrand.{items_of, herbrand_sequent}
use Rattle.herbrand_laws.specs.Counted.{counted}
use Rattle.exp_tree.specs.declared.flat.FlatExp.{FlatExp}
use Rattle.exp_tree.specs.Roots.{expansion_over}
use Rattle.exp_tree.specs.Writing.{flat_of}
use Rattle.step_laws.specs.Checking.{last_end}
use Rattle.step_laws.specs.Places.{steps_of}
use Rattle.tptp_problem.specs.declared.problems.Problem.{Problem}
use Rattle.tptp_problem.specs.ProblemClauses.{clauses_of}
use Rattle.job_lang.specs.declared.jobs.Op.{Op}
use Rattle.job_lang.specs.declared.jobs.Op.TheVariants as ops
use Rattle.operation_laws.specs.Values.{Value}
use Rattle.operation_laws.specs.Answers.{Product, proof, reduced, problem, proves, steps, expansion, nodes, interpolant, herbrand, introduced, definition, model, refutation, derivation, saturated, capped}
use Rattle.operation_laws.specs.Given.{Found, missing, wanting, found, proof_given, problem_given, expansion_given, ToShow, of_proof, of_expansion, shown_given, definitions_given}
use Rattle.operation_laws.specs.Running.{sizes_of, steps_with, formula_with}

-- the tree is a valid proof of the sequent
pub record IsProofOf (t : Tree) (s : Sequent) : Type 0 where
  pub valid : IsValid t
  pub ends : concl t ≡ s

-- a field is given what it takes, of which this holds
abbrev pub IsFoundAnd : {A : Type 0} → Found A → (A → Type 0) → Type 0
IsFoundAnd (missing r) holds = ⊥
IsFoundAnd wanting holds = ⊥
IsFoundAnd (found a) holds = holds a

-- the operation is given one value, in which its name stands for a proof, of which this holds
abbrev pub GivenProof : List ℕ → List (Option Value) → (Tree → Type 0) → Type 0
GivenProof of (v ∷ []) holds = IsFoundAnd (proof_given of v) holds
GivenProof of vs holds = ⊥

-- it is given one value, a problem, of which this holds
abbrev pub GivenProblem : List ℕ → List (Option Value) → (Problem → Type 0) → Type 0
GivenProblem goal (v ∷ []) holds = IsFoundAnd (problem_given goal v) holds
GivenProblem goal vs holds = ⊥

-- it is given one value, expansion trees, of which this holds
abbrev pub GivenExpansion : List ℕ → List (Option Value) → (Expansion → Type 0) → Type 0
GivenExpansion of (v ∷ []) holds = IsFoundAnd (expansion_given of v) holds
GivenExpansion of vs holds = ⊥

-- it is given two values, a proof by its name and a problem, of which this holds
abbrev pub GivenBoth : List ℕ → List ℕ → List (Option Value) → (Tree → Problem → Type 0) → Type 0
GivenBoth of goal (v ∷ w ∷ []) holds = IsFoundAnd (proof_given of v) (λ t. IsFoundAnd (problem_given goal w) (holds t))
GivenBoth of goal vs holds = ⊥

-- it is given values in which the names of a list stand for definitions, of which this holds
abbrev pub GivenDefinitions : List (List ℕ) → List (Option Value) → (List Pred → Type 0) → Type 0
GivenDefinitions using vs holds = IsFoundAnd (definitions_given using vs) holds

-- the product has the canonical steps of a proof, or the flat list of expansion trees
abbrev pub IsListOf : Product → ToShow → Type 0
IsListOf made (of_proof t) = made ≡ steps (steps_of t)
IsListOf made (of_expansion x) = made ≡ nodes (flat_of x)

-- the operation is given one value, in which its name stands for what the product is a list of
abbrev pub Lists : List ℕ → List (Option Value) → Product → Type 0
Lists of (v ∷ []) made = IsFoundAnd (shown_given of v) (IsListOf made)
Lists of vs made = ⊥

-- the product is a proof of which this holds
abbrev pub AProof : Product → (Tree → Type 0) → Type 0
AProof (proof t) holds = holds t
AProof p holds = ⊥

-- it is a proof that was met after a number of replacements, of which this holds
abbrev pub AReducedProof : Product → (Tree → ℕ → Type 0) → Type 0
AReducedProof (reduced t n) holds = holds t n
AReducedProof p holds = ⊥

-- it is expansion trees of which this holds
abbrev pub AnExpansion : Product → (Expansion → Type 0) → Type 0
AnExpansion (expansion x) holds = holds x
AnExpansion p holds = ⊥

-- it is an interpolant with two proofs, of which this holds
abbrev pub AnInterpolant : Product → (Formula → Tree → Tree → Type 0) → Type 0
AnInterpolant (interpolant f t u) holds = holds f t u
AnInterpolant p holds = ⊥

-- the tree is a proof without cuts of the same sequent as t, reached from t in just k replacements, which are at most n
pub record IsEliminated (t : Tree) (n : ℕ) (u : Tree) (k : ℕ) : Type 0 where
  pub right : IsProofOf u (concl t)
  pub cut_free : IsCutFree u
  pub reached : Reaches t k u
  pub within : k ≤ n

-- the tree is a proof without cuts of the same sequent as t, reached from t in just k replacements, unless k is the largest number of 64 bits
pub record IsFreed (t u : Tree) (k : ℕ) : Type 0 where
  pub right : IsProofOf u (concl t)
  pub cut_free : IsCutFree u
  pub reached : k < 2 ^ 64 - 1 → Reaches t k u

-- it is a Herbrand sequent with a number of tuples, of which this holds
abbrev pub AHerbrandSequent : Product → (ℕ → Sequent → Type 0) → Type 0
AHerbrandSequent (herbrand k s) holds = holds k s
AHerbrandSequent p holds = ⊥

-- it is a proof that is shorter or not, of which this holds
abbrev pub AnIntroduction : Product → (Tree → Bool → Type 0) → Type 0
AnIntroduction (introduced t b) holds = holds t b
AnIntroduction p holds = ⊥

-- it is a symbol with the formula that it stands for, of which this holds
abbrev pub ADefinition : Product → (Sym → Formula → Type 0) → Type 0
ADefinition (definition s f) holds = holds s f
ADefinition p holds = ⊥

-- a model was made, of which the one holds, or a refutation, of which the other does
abbrev pub ASolution : Product → (FormulaSet → Type 0) → (List ResStep → Tree → Type 0) → Type 0
ASolution (model atoms) holds refutes = holds atoms
ASolution (refutation list t) holds refutes = refutes list t
ASolution p holds refutes = ⊥

-- a refutation was made, of which the one holds, or clauses that rounds of resolution end with, of which the other does
abbrev pub ASaturation : Product → (List Sequent → Type 0) → (List ResStep → Tree → Type 0) → Type 0
ASaturation (derivation list t) holds refutes = refutes list t
ASaturation (saturated ks) holds refutes = holds ks
ASaturation p holds refutes = ⊥

-- the tree is a valid proof without cuts of the sequent
pub record IsCutFreeProofOf (t : Tree) (s : Sequent) : Type 0 where
  pub right : IsProofOf t s
  pub cut_free : IsCutFree t

-- the trees are those of the roots of a flat list, and an expansion proof of the sequent of their formulas
pub record IsExpansionOf (flat : FlatExp) (x : Expansion) : Type 0 where
  pub trees : x ≡ expansion_over flat
  pub right : IsExpansionProof x (shallow_sequent x)

-- The two parts make up the end sequent of the tree t. Without cuts u proves the first part with the formula on the right, and v the second
-- part with it on the left. Each predicate symbol and each free variable of the formula is one of both parts.
pub record IsInterpolated (t : Tree) (one two : Sequent) (f : Formula) (u v : Tree) : Type 0 where
  pub parts : union_sequent one two ≡ concl t
  pub first : IsCutFreeProofOf u (adds_to one Right f)
  pub second : IsCutFreeProofOf v (adds_to two Left f)
  pub predicates : (q : Pred) → is_pred_in q f ≡ true → (is_pred_in_sequent q one ≡ true) × (is_pred_in_sequent q two ≡ true)
  pub variables : (x : Var) → is_free_in x f ≡ true → (is_free_in_sequent x one ≡ true) × (is_free_in_sequent x two ≡ true)

-- the sequent is the Herbrand sequent of what is extracted from the tree t, where quantified formulas have k tuples, and a tautology
pub record IsHerbrandOf (t : Tree) (k : ℕ) (s : Sequent) : Type 0 where
  pub sequent : s ≡ herbrand_sequent (items_of (extracted t))
  pub count : k ≡ capped (counted (items_of (extracted t)))
  pub propositional : IsPropositional s
  pub tautology : IsTautology s

-- the tree u proves the same sequent as t; it is shorter, with one cut and fewer quantifier inferences, or it is t
pub record IsIntroduced (t u : Tree) (shorter : Bool) : Type 0 where
  pub right : IsProofOf u (concl t)
  pub shortened : shorter ≡ true → (cuts u ≡ 1) × (quants u < quants t)
  pub same : shorter ≡ false → u ≡ t

-- The symbol has the name and an argument for each variable, and stands for f closed over these, in which nothing else is free. It is well
-- formed, and f isn't large with all defined symbols unfolded.
pub record IsDefinition (name : List ℕ) (vs : List Var) (f : Formula) (s : Sym) (g : Formula) : Type 0 where
  pub symbol : s ≡ record { name = name; arity = length vs }
  pub body : g ≡ closed_over all vs f
  pub formed : IsFormedPred (pred s (defined g))
  pub small : nodes_of (flat f) ≤ max_nodes

-- The tree proves the sequent of t with all defined symbols unfolded, by as many cuts and quantifier inferences, and no symbol in it stands
-- for a formula.
pub record IsUnfolded (t u : Tree) : Type 0 where
  pub right : IsProofOf u (flat_sequent (concl t))
  pub cuts : cuts u ≡ cuts t
  pub quants : quants u ≡ quants t
  pub primitive : EachNode HasNoBody u

-- The steps take clauses and resolve alone. They have no fault, and stand for the tree, which is a valid proof of the closures of the clauses on
-- the left.
pub record IsRefuted (cs : List Clause) (list : List ResStep) (t : Tree) : Type 0 where
  pub steps : List SatStep
  pub are : list ≡ map res_step steps
  pub stands : refutation_of cs list ≡ Ok t
  pub right : IsProofOf t (closures cs)

-- So many rounds of resolution reach the empty clause, and the steps have no fault, and stand for the tree, which is a valid proof of the closures
-- of the clauses on the left.
pub record IsRefutedBy (cs : List Clause) (n : ℕ) (list : List ResStep) (t : Tree) : Type 0 where
  pub reached : Level (sequents_of cs) n empty
  pub stands : refutation_of cs list ≡ Ok t
  pub right : IsProofOf t (closures cs)

-- What an operation claims of its product: of `lk` a valid proof of the last step's sequent, with the definitions that it uses, of `subst` one of the image of the given
-- proof's sequent, of `cutelim` one without cuts of that sequent itself, reached within the budget, of `eliminate` the same without one, of
-- `define` a symbol that stands for the formula, of `unfold` a valid proof of the given one's sequent unfolded, of `resolution` one of the
-- closures of the problem's clauses, on the left, of `sat` a model of these, or a refutation with such a proof, of `prove` a
-- refutation of them with such a proof, or clauses that rounds of resolution over them end with, of `tautology` one without cuts of the sequent itself, of `expansion` an
-- expansion proof, of `expand` one of the given proof's sequent, of `fromexp` a valid proof without cuts of the sequent of the given
-- trees' formulas, of `interpolate` an interpolant of two parts of the given proof's sequent, with its two proofs, of `herbrand` the Herbrand
-- sequent of the given proof, a tautology, and of `cutintro` a valid proof of the given one's sequent, shorter by a cut, or that proof.
abbrev pub Claims : Op → List (Option Value) → Product → Type 0
Claims (ops.Lk list using) vs made = GivenDefinitions using vs (λ ds. AProof made (λ t. IsProofOf t (last_end (steps_with using ds list))))
Claims (ops.Problem p) vs made = made ≡ problem p
Claims (ops.Proves of goal) vs made = GivenBoth of goal vs (λ t p. made ≡ proves (is_subsequent (concl t) p.sequent))
Claims (ops.Show of) vs made = Lists of vs made
Claims (ops.Measure of) vs made = GivenProof of vs (λ t. made ≡ sizes_of t)
Claims (ops.Subst of m) vs made = GivenProof of vs (λ t. AProof made (λ u. IsProofOf u (image_sequent (fin.get m) (concl t))))
Claims (ops.Cutelim of n) vs made = GivenProof of vs (λ t. AReducedProof made (λ u k. IsEliminated t n u k))
Claims (ops.Eliminate of) vs made = GivenProof of vs (λ t. AReducedProof made (IsFreed t))
Claims (ops.Define symbol vars body using) vs made = GivenDefinitions using vs (λ ds. ADefinition made (IsDefinition symbol vars (formula_with using ds body)))
Claims (ops.Unfold of) vs made = GivenProof of vs (λ t. AProof made (IsUnfolded t))
Claims (ops.Sat of) vs made =
    GivenProblem of vs (λ p. ASolution made (λ atoms. IsModel atoms (sequents_of (clauses_of p.entries))) (IsRefuted (clauses_of p.entries)))
Claims (ops.Prove of n) vs made =
    GivenProblem of vs (λ p. ASaturation made (IsSaturation (sequents_of (clauses_of p.entries)) n) (IsRefutedBy (clauses_of p.entries) n))
Claims (ops.Resolution of list) vs made = GivenProblem of vs (λ p. AProof made (λ t. IsProofOf t (closures (clauses_of p.entries))))
Claims (ops.Tautology s n) vs made = AProof made (λ t. IsCutFreeProofOf t s)
Claims (ops.Expansion flat n) vs made = AnExpansion made (IsExpansionOf flat)
Claims (ops.Expand of n) vs made = GivenProof of vs (λ t. AnExpansion made (λ x. IsExpansionProof x (concl t)))
Claims (ops.Fromexp of n) vs made = GivenExpansion of vs (λ x. AProof made (λ t. IsCutFreeProofOf t (shallow_sequent x)))
Claims (ops.Interpolate of one two n) vs made = GivenProof of vs (λ t. AnInterpolant made (IsInterpolated t one two))
Claims (ops.Herbrand of n) vs made = GivenProof of vs (λ t. AHerbrandSequent made (IsHerbrandOf t))
Claims (ops.Cutintro of width n) vs made = GivenProof of vs (λ t. AnIntroduction made (IsIntroduced t))
