-- What each operation comes to, over the values that its names of jobs stand for.
use Rattle.std.specs.Prelude.{ℕ, suc, ◌^◌, nat_lt, ◌&&◌, length, Bool, true, false, if◌then◌else◌, List, [], ◌∷◌, map, find, slice_get, Option, Some, None, option_map, option_and_then, Result, Ok, Err}
use Rattle.std.specs.List.{list_all}
use Rattle.fol.specs.declared.symbols.Var.{Var}
use Rattle.fol.specs.Syntax.{Pred, Formula, all}
use Rattle.fol.specs.Facts.{is_open}
use Rattle.fol.specs.Formed.{is_formed, is_formed_pred}
use Rattle.finite.specs.Finite as set
use Rattle.lk_rules.specs.Formulas.{FormulaSet}
use Rattle.lk_rules.specs.declared.sequent.Sequent.{Sequent}
use Rattle.lk_rules.specs.declared.sequent.Side.{Side}
use Rattle.lk_rules.specs.declared.sequent.Side.TheVariants.{Left, Right}
use Rattle.lk_rules.specs.Sequents.{is_subsequent}
use Rattle.substitution.specs.Closing.{closed_over}
use Rattle.lk_rules.specs.declared.rule.Step.{Step as ProofStep}
use Rattle.lk_rules.specs.Rules.{is_formed_rule}
use Rattle.proof_trees.specs.Trees.{Tree, node, Trees, none, more, concl, size, cuts, quants}
use Rattle.proof_trees.specs.Substitution.{sub}
use Rattle.cut_laws.specs.Elimination.{elimination}
use Rattle.def_laws.specs.declared.fault.DefFault.{DefFault}
use Rattle.def_laws.specs.declared.fault.DefFault.TheVariants as defining_faults
use Rattle.def_laws.specs.Unfolded.{unfolded}
use Rattle.def_laws.specs.Marking.{first_like, marked, marked_step}
use Rattle.def_laws.specs.Defining.{defining}
use Rattle.refutations.specs.declared.clause.Clause.{Clause}
use Rattle.refutations.specs.declared.step.ResStep.{ResStep}
use Rattle.refutations.specs.declared.step.ResCause.{ResCause}
use Rattle.refutations.specs.declared.step.ResCause.TheVariants as refutation_causes
use Rattle.refutations.specs.Refutations.{refutation}
use Rattle.search_laws.specs.Truth.{has_quantifier}
use Rattle.search_laws.specs.Search.{walk}
use Rattle.search_laws.specs.declared.fault.SearchFault.{SearchFault}
use Rattle.search_laws.specs.declared.fault.SearchFault.TheVariants as search
use Rattle.search_laws.specs.Budgets.{found as found_within}
use Rattle.expansion_laws.specs.Dependency.{Expansion}
use Rattle.exp_tree.specs.declared.flat.NodesFault.{NodesFault}
use Rattle.exp_tree.specs.declared.flat.NodesFault.TheVariants as reading_faults
use Rattle.exp_tree.specs.FlatReading.{reading}
use Rattle.exp_tree.specs.Writing.{flat_of}
use Rattle.expansion_laws.specs.declared.fault.ExpFault.{ExpFault}
use Rattle.expansion_laws.specs.declared.fault.ExpFault.TheVariants as checks
use Rattle.expansion_laws.specs.Checking.{checking}
use Rattle.extraction_laws.specs.declared.fault.ExtractFault.{ExtractFault}
use Rattle.extraction_laws.specs.declared.fault.ExtractFault.TheVariants as extraction
use Rattle.extraction_laws.specs.Extracting.{extracting}
use Rattle.building_laws.specs.declared.fault.BuildFault.{BuildFault}
use Rattle.building_laws.specs.declared.fault.BuildFault.TheVariants as construction
use Rattle.building_laws.specs.Budgets.{building, has_formed_trees}
use Rattle.herbrand_laws.specs.Herbrand.{Item, herbrand_sequent}
use Rattle.herbrand_laws.specs.Counted.{counted}
use Rattle.introduction_laws.specs.declared.fault.HerbrandFault.{HerbrandFault}
use Rattle.introduction_laws.specs.declared.fault.HerbrandFault.TheVariants as instances
use Rattle.introduction_laws.specs.declared.fault.IntroFault.{IntroFault}
use Rattle.introduction_laws.specs.declared.fault.IntroFault.TheVariants as introduction
use Rattle.introduction_laws.specs.Instancing.{instancing}
use Rattle.introduction_laws.specs.Introducing.{Answer as Introduction, shorter, same, introducing, has_formed_instances}
use Rattle.interp_laws.specs.Interpolation.{Interpolation}
use Rattle.interp_laws.specs.declared.fault.InterpFault.{InterpFault}
use Rattle.interp_laws.specs.declared.fault.InterpFault.TheVariants as interpolation
use Rattle.interp_laws.specs.Interpolating.{interpolating}
use Rattle.step_laws.specs.declared.fault.StepCause.{StepCause}
use Rattle.step_laws.specs.declared.fault.StepCause.TheVariants as causes
use Rattle.step_laws.specs.declared.fault.AdmitFault.{AdmitFault}
use Rattle.step_laws.specs.declared.fault.AdmitFault.TheVariants as admission
use Rattle.step_laws.specs.Admission.{admission as admission_of}
use Rattle.step_laws.specs.Places.{steps_of}
use Rattle.tptp_problem.specs.declared.problems.Problem.{Problem}
use Rattle.tptp_problem.specs.ProblemClauses.{clauses_of}
use Rattle.job_lang.specs.declared.jobs.Op.{Op}
use Rattle.job_lang.specs.declared.jobs.Op.TheVariants as ops
use Rattle.reply_lines.specs.declared.replies.StepShown.{StepShown}
use Rattle.reply_lines.specs.declared.replies.StepShown.TheVariants.{Reference, Rule}
use Rattle.reply_lines.specs.declared.replies.RefutationShown.{RefutationShown}
use Rattle.reply_lines.specs.declared.replies.RefutationShown.TheVariants as refutation_shows
use Rattle.operation_laws.specs.declared.refusals.Refusal.TheVariants.{Empty, Step}
use Rattle.operation_laws.specs.declared.refusals.Failure.TheVariants.{Budget, Unproved, Refutation, Quantified, Falsified, Node, Root, EigenTwice, EigenFree, Cycle, Cut, Defined, Partition, NotPrenex, TooMany, DefTwice, DefFree, DefLarge, NotGround}
use Rattle.operation_laws.specs.Values.{Value}
use Rattle.operation_laws.specs.Answers.{Product, proof, reduced, problem, proves, steps, sizes, expansion, nodes, interpolant, herbrand, introduced, definition, Answer, refused, failed, lacking, product, capped, Asked, one, elimination as reached_from, satisfiability, saturation}
use Rattle.operation_laws.specs.Given.{or_else, Found, missing, wanting, found, proof_given, problem_given, expansion_given, ToShow, of_proof, of_expansion, shown_given, definitions_given, first_of, second_of}

-- what is done with what a field is given
abbrev pub over : {A : Type 0} → Found A → (A → Answer) → Answer
over (missing r) k = refused r
over wanting k = lacking
over (found a) k = k a

-- What is done with what two fields are given: the first that is refused is refused, and want of memory comes after both.
abbrev pub over_both : {A B : Type 0} → Found A → Found B → (A → B → Answer) → Answer
over_both (missing r) second k = refused r
over_both wanting second k = over second (λ b. lacking)
over_both (found a) second k = over second (k a)

abbrev pub step_shown : StepCause → StepShown
step_shown causes.Reference = Reference
step_shown (causes.Rule f) = Rule f

-- a list of steps: the proof of its last step
abbrev pub admits : Result Tree AdmitFault → Answer
admits (Ok t) = product (proof t)
admits (Err admission.Empty) = refused Empty
admits (Err (admission.Step i cause)) = refused (Step i (step_shown cause))
admits (Err admission.Memory) = lacking

-- The same of steps into which definitions were put. That takes memory, so what is found of the steps is found by work.
abbrev pub admits_behind : List (List ℕ) → Result Tree AdmitFault → Answer
admits_behind [] r = admits r
admits_behind (text ∷ texts) (Ok t) = product (proof t)
admits_behind (text ∷ texts) (Err admission.Empty) = failed (Unproved Empty)
admits_behind (text ∷ texts) (Err (admission.Step i cause)) = failed (Unproved (Step i (step_shown cause)))
admits_behind (text ∷ texts) (Err admission.Memory) = lacking

-- the first name of a list whose definition is of the symbol of an earlier one
abbrev pub repeated : List (List ℕ) → List Pred → Option (List ℕ)
repeated texts ds = option_and_then (slice_get texts) (first_like [] ds)

-- what is done with definitions, where no two are of one symbol
abbrev pub unless_twice : Option (List ℕ) → Answer → Answer
unless_twice None a = a
unless_twice (Some text) a = failed (DefTwice text)

-- the steps with definitions put into them, and a formula; without any they are as they are written
abbrev pub steps_with : List (List ℕ) → List Pred → List ProofStep → List ProofStep
steps_with [] ds list = list
steps_with (text ∷ texts) ds list = map (marked_step ds) list

abbrev pub formula_with : List (List ℕ) → List Pred → Formula → Formula
formula_with [] ds f = f
formula_with (text ∷ texts) ds f = marked ds f

-- a list of steps with definitions: the proof of its last step
abbrev pub proves_with : List (List ℕ) → List ProofStep → List Pred → Answer
proves_with using list ds = unless_twice (repeated using ds) (admits_behind using (admission_of (steps_with using ds list)))

-- A symbol that stands for a formula with variables for its arguments, or why it doesn't, which is found by work. The symbol is well formed
-- unless 2^32 or more quantifiers would stand inside one another in what it stands for, which no index would count and no memory holds.
abbrev pub defines : List ℕ → List Var → Formula → Result Pred DefFault → Answer
defines name vs f (Ok p) = if is_formed_pred p then product (definition (record { name = name; arity = length vs }) (closed_over all vs f)) else lacking
defines name vs f (Err (defining_faults.Free v)) = failed (DefFree v)
defines name vs f (Err defining_faults.Large) = failed DefLarge
defines name vs f (Err defining_faults.Memory) = lacking

abbrev pub defines_with : List ℕ → List Var → Formula → List (List ℕ) → List Pred → Answer
defines_with name vs f using ds =
    unless_twice (repeated using ds) (defines name vs (formula_with using ds f) (defining name vs (formula_with using ds f)))

-- whether each rule in a tree names what is well formed
abbrev mutual
  pub has_formed_rules : Tree → Bool
  has_formed_rules (node r s ts) = is_formed_rule r && have_formed_rules ts

  pub have_formed_rules : Trees → Bool
  have_formed_rules none = true
  have_formed_rules (more t ts) = has_formed_rules t && have_formed_rules ts

-- whether the formulas of a sequent are well formed
abbrev pub is_formed_sequent : Sequent → Bool
is_formed_sequent s = list_all is_formed (set.listing s.left) && list_all is_formed (set.listing s.right)

-- A proof with all defined symbols unfolded. Whatever a job's proof names is well formed, and so is what is unfolded unless 2^32 or more
-- quantifiers would stand inside one another in it; no memory holds what isn't, and no proof is made of it.
abbrev pub unfolds : Tree → Answer
unfolds t = if is_formed_sequent (concl t) && has_formed_rules (unfolded t) then product (proof (unfolded t)) else lacking

-- a proof without cuts is asked for, where a proof is given
abbrev pub to_eliminate : Found Tree → Asked
to_eliminate (missing r) = one (refused r)
to_eliminate wanting = one lacking
to_eliminate (found t) = reached_from t

-- whether a proof proves a problem: its end sequent is a subsequent of the problem's
abbrev pub compares : Tree → Problem → Answer
compares t p = product (proves (is_subsequent (concl t) p.sequent))

-- the sizes of a proof
abbrev pub sizes_of : Tree → Product
sizes_of t = sizes (capped (cuts t)) (length (steps_of t)) (capped (quants t)) (capped (size t))

-- an elimination of cuts that found no end within its budget has worked, so it may lack memory
abbrev pub eliminates : Option (Tree × ℕ) → Answer
eliminates None = failed Budget
eliminates (Some p) = product (reduced p.0 p.1)

-- A clause with fewer variables has a closure, each of whose indices fits 32 bits. A line is too short for a clause with more.
abbrev pub has_closure : Clause → Bool
has_closure c = nat_lt (length c.vars) (2 ^ 32)

abbrev pub refutation_shown : ResCause → RefutationShown
refutation_shown refutation_causes.Reference = refutation_shows.Reference
refutation_shown refutation_causes.AtomMissing = refutation_shows.AtomMissing
refutation_shown refutation_causes.NotEmpty = refutation_shows.NotEmpty

-- a faulty step of a refutation is found by work
abbrev pub refuted : Result Tree (ℕ × ResCause) → Answer
refuted (Ok t) = product (proof t)
refuted (Err (i, cause)) = failed (Refutation i (refutation_shown cause))

-- the steps as a refutation of the clauses of a problem
abbrev pub refutes_clauses : List Clause → List ResStep → Answer
refutes_clauses cs list = if list_all has_closure cs then refuted (refutation cs list) else lacking

abbrev pub refutes : List ResStep → Problem → Answer
refutes list p = refutes_clauses (clauses_of p.entries) list

-- the first clause in which a variable stands
abbrev pub first_open : List Clause → Option ℕ
first_open [] = None
first_open (c ∷ cs) = if is_open c.matrix then Some 0 else option_map suc (first_open cs)

-- A model or a refutation of clauses is asked for, where no variable stands in them. A clause with a variable is found by work.
abbrev pub solves_ground : Option ℕ → List Clause → Asked
solves_ground (Some i) cs = one (failed (NotGround i))
solves_ground None cs = if list_all has_closure cs then satisfiability cs else one lacking

abbrev pub to_solve : Found Problem → Asked
to_solve (missing r) = one (refused r)
to_solve wanting = one lacking
to_solve (found p) = solves_ground (first_open (clauses_of p.entries)) (clauses_of p.entries)

-- A refutation of clauses, or clauses that so many rounds end with, are asked for.
abbrev pub saturates : List Clause → ℕ → Asked
saturates cs n = if list_all has_closure cs then saturation cs n else one lacking

abbrev pub to_saturate : ℕ → Found Problem → Asked
to_saturate n (missing r) = one (refused r)
to_saturate n wanting = one lacking
to_saturate n (found p) = saturates (clauses_of p.entries) n

-- the first formula of a side that has a quantifier
abbrev pub quantified_on : Side → FormulaSet → Option (Formula × Side)
quantified_on side fs = option_map (λ f. (f, side)) (find has_quantifier (set.listing fs))

-- the first formula of a sequent that has a quantifier, the left side before the right one
abbrev pub quantified_in : Sequent → Option (Formula × Side)
quantified_in s = or_else (quantified_on Left s.left) (quantified_on Right s.right)

-- what a search comes to within its budget
abbrev pub searched : Result Tree SearchFault → Answer
searched (Ok t) = product (proof t)
searched (Err (search.Falsified atoms)) = failed (Falsified atoms)
searched (Err search.Budget) = failed Budget
searched (Err search.Memory) = lacking

-- a sequent with no formula that has a quantifier: the proof that a search finds within a budget
abbrev pub searches : Option (Formula × Side) → Sequent → ℕ → Answer
searches (Some q) s n = failed (Quantified q.0 q.1)
searches None s n = searched (found_within n (walk s))

-- the check of expansion trees
abbrev pub checked : Result Expansion ExpFault → Answer
checked (Ok x) = product (expansion x)
checked (Err (checks.EigenTwice v)) = failed (EigenTwice v)
checked (Err (checks.EigenFree v)) = failed (EigenFree v)
checked (Err (checks.Cycle vs)) = failed (Cycle vs)
checked (Err (checks.Falsified atoms)) = failed (Falsified atoms)
checked (Err checks.Budget) = failed Budget
checked (Err checks.Memory) = lacking

-- the check of the expansion trees that are read of a flat list
abbrev pub reads : Result Expansion NodesFault → ℕ → Answer
reads (Ok x) n = checked (checking x n)
reads (Err (reading_faults.Node i cause)) n = failed (Node i cause)
reads (Err (reading_faults.Root i cause)) n = failed (Root i cause)
reads (Err reading_faults.Budget) n = failed Budget
reads (Err reading_faults.Memory) n = lacking

-- the expansion of a proof, or why there is none, which is found by work
abbrev pub extracted : Result Expansion ExtractFault → Answer
extracted (Ok x) = product (expansion x)
extracted (Err (extraction.Cut step)) = failed (Cut step)
extracted (Err (extraction.Defined f side)) = failed (Defined f side)
extracted (Err extraction.Budget) = failed Budget
extracted (Err extraction.Memory) = lacking

-- the proof of an expansion proof within its budget
abbrev pub built : Result Tree BuildFault → Answer
built (Ok t) = product (proof t)
built (Err construction.Budget) = failed Budget
built (Err construction.Memory) = lacking

-- The proof that is built of trees. Whatever a job's trees name is well formed; no memory holds what isn't, and no proof is built of it.
abbrev pub builds : Expansion → ℕ → Answer
builds x n = if has_formed_trees x then built (building x n) else lacking

-- An interpolation, or why there is none, which is found by work. An interpolant is well formed unless 2^32 or more quantifiers stand inside
-- one another in it, which no index would count and no memory holds.
abbrev pub interpolated : Result Interpolation InterpFault → Answer
interpolated (Ok i) = if is_formed i.formula then product (interpolant i.formula i.first i.second) else lacking
interpolated (Err (interpolation.Cut step)) = failed (Cut step)
interpolated (Err (interpolation.Defined f side)) = failed (Defined f side)
interpolated (Err (interpolation.Partition f side)) = failed (Partition f side)
interpolated (Err interpolation.Budget) = failed Budget
interpolated (Err interpolation.Memory) = lacking

-- the Herbrand sequent of instances, or why there are none, which is found by work
abbrev pub instanced : Result (List Item) HerbrandFault → Answer
instanced (Ok items) = product (herbrand (capped (counted items)) (herbrand_sequent items))
instanced (Err (instances.Cut step)) = failed (Cut step)
instanced (Err (instances.NotPrenex f side)) = failed (NotPrenex f side)
instanced (Err instances.Budget) = failed Budget
instanced (Err instances.Memory) = lacking

-- A shorter proof that takes the place of a proof, or that one, or why there is neither, which is found by work. Whatever a job's proof names
-- is well formed; no memory holds what isn't, and no cut is introduced into it.
abbrev pub shortened : Tree → Result Introduction IntroFault → Answer
shortened t (Ok (shorter u)) = if has_formed_instances t then product (introduced u true) else lacking
shortened t (Ok same) = product (introduced t false)
shortened t (Err (introduction.Cut step)) = failed (Cut step)
shortened t (Err (introduction.NotPrenex f side)) = failed (NotPrenex f side)
shortened t (Err introduction.Budget) = failed Budget
shortened t (Err (introduction.TooMany k)) = failed (TooMany k)
shortened t (Err introduction.Memory) = lacking

-- a proof as its canonical steps, and expansion trees as their flat list
abbrev pub lists : ToShow → Answer
lists (of_proof t) = product (steps (steps_of t))
lists (of_expansion x) = product (nodes (flat_of x))

-- an operation over the values that its names stand for, one for each, in their order
abbrev pub run : Op → List (Option Value) → Asked
run (ops.Lk list using) vs = one (over (definitions_given using vs) (proves_with using list))
run (ops.Problem p) vs = one (product (problem p))
run (ops.Proves of goal) vs = one (over_both (proof_given of (first_of vs)) (problem_given goal (second_of vs)) compares)
run (ops.Show of) vs = one (over (shown_given of (first_of vs)) lists)
run (ops.Measure of) vs = one (over (proof_given of (first_of vs)) (λ t. product (sizes_of t)))
run (ops.Subst of m) vs = one (over (proof_given of (first_of vs)) (λ t. product (proof (sub t m))))
run (ops.Cutelim of n) vs = one (over (proof_given of (first_of vs)) (λ t. eliminates (elimination t n)))
run (ops.Eliminate of) vs = to_eliminate (proof_given of (first_of vs))
run (ops.Define symbol vars body using) vs = one (over (definitions_given using vs) (defines_with symbol vars body using))
run (ops.Unfold of) vs = one (over (proof_given of (first_of vs)) unfolds)
run (ops.Sat of) vs = to_solve (problem_given of (first_of vs))
run (ops.Prove of n) vs = to_saturate n (problem_given of (first_of vs))
run (ops.Resolution of list) vs = one (over (problem_given of (first_of vs)) (refutes list))
run (ops.Tautology s n) vs = one (searches (quantified_in s) s n)
run (ops.Expansion flat n) vs = one (reads (reading flat n) n)
run (ops.Expand of n) vs = one (over (proof_given of (first_of vs)) (λ t. extracted (extracting t n)))
run (ops.Fromexp of n) vs = one (over (expansion_given of (first_of vs)) (λ x. builds x n))
run (ops.Interpolate of first second n) vs = one (over (proof_given of (first_of vs)) (λ t. interpolated (interpolating t first second n)))
run (ops.Herbrand of n) vs = one (over (proof_given of (first_of vs)) (λ t. instanced (instancing t n)))
run (ops.Cutintro of width n) vs = one (over (proof_given of (first_of vs)) (λ t. shortened t (introducing width t n)))

-- whether there is one answer to what an operation asks for, want of memory aside: a model, a refutation and clauses that rounds end with are
-- one of several
abbrev pub HasOneAnswer : Op → Type 0
HasOneAnswer (ops.Lk list using) = Unit {0}
HasOneAnswer (ops.Problem p) = Unit {0}
HasOneAnswer (ops.Proves of goal) = Unit {0}
HasOneAnswer (ops.Show of) = Unit {0}
HasOneAnswer (ops.Measure of) = Unit {0}
HasOneAnswer (ops.Subst of m) = Unit {0}
HasOneAnswer (ops.Cutelim of n) = Unit {0}
HasOneAnswer (ops.Eliminate of) = Unit {0}
HasOneAnswer (ops.Define symbol vars body using) = Unit {0}
HasOneAnswer (ops.Unfold of) = Unit {0}
HasOneAnswer (ops.Sat of) = ⊥
HasOneAnswer (ops.Prove of n) = ⊥
HasOneAnswer (ops.Resolution of list) = Unit {0}
HasOneAnswer (ops.Tautology s n) = Unit {0}
HasOneAnswer (ops.Expansion flat n) = Unit {0}
HasOneAnswer (ops.Expand of n) = Unit {0}
HasOneAnswer (ops.Fromexp of n) = Unit {0}
HasOneAnswer (ops.Interpolate of first second n) = Unit {0}
HasOneAnswer (ops.Herbrand of n) = Unit {0}
HasOneAnswer (ops.Cutintro of width n) = Unit {0}
