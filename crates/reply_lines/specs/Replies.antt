-- The replies to jobs: what each says, and its line. The members of an object stand in the order of their keys' bytes.
use Rattle.std.specs.Prelude.{ℕ, List, [], ◌∷◌, ◌++◌, map, codes, Option, Some, None, Result, Ok, Err, Bool, true, false, is_ok}
use Rattle.std.specs.FinMap as fin
use Rattle.finite.specs.Finite as set
use Rattle.fol.specs.declared.symbols.Var.{Var}
use Rattle.fol.specs.Syntax.{Term, free, app, nil, Formula}
use Rattle.substitution.specs.Maps.{Map}
use Rattle.lk_rules.specs.Formulas.{FormulaSet}
use Rattle.lk_rules.specs.declared.sequent.Sequent.{Sequent}
use Rattle.lk_rules.specs.declared.sequent.Side.{Side}
use Rattle.lk_rules.specs.declared.sequent.Side.TheVariants.{Left, Right}
use Rattle.lk_rules.specs.declared.inference.RuleFault.TheVariants.{Premises, Shape, MainMissing, EigenFree, Premise}
use Rattle.tptp_problem.specs.declared.errors.ProblemKind.{ProblemKind}
use Rattle.tptp_problem.specs.declared.errors.ProblemKind.TheVariants.{Text, Include, Language, NameTwice, Role, Clause}
use Rattle.tptp_tokens.specs.declared.tokens.TextKind.{TextKind}
use Rattle.tptp_tokens.specs.declared.tokens.TextKind.TheVariants.{Token, Expected, Deep, DefinedWord, Number, Distinct, OpenQuote, OpenComment}
use Rattle.lk_rules.specs.declared.rule.Step.{Step}
use Rattle.lk_rules.specs.RuleOrder.{formula_of, term_of, variable_of}
use Rattle.refutations.specs.declared.step.ResStep.{ResStep}
use Rattle.refutations.specs.declared.step.ResStep.TheVariants as res_steps
use Rattle.exp_tree.specs.declared.flat.ExpNode.{ExpNode}
use Rattle.exp_tree.specs.declared.flat.ExpNode.TheVariants as nodes
use Rattle.exp_tree.specs.declared.flat.FlatExp.{FlatExp}
use Rattle.exp_tree.specs.declared.flat.NodeCause.{NodeCause}
use Rattle.exp_tree.specs.declared.flat.NodeCause.TheVariants as node_causes
use Rattle.exp_tree.specs.declared.flat.RootCause.{RootCause}
use Rattle.exp_tree.specs.declared.flat.RootCause.TheVariants as root_causes
use Rattle.tptp_print.specs.Canonical.{canonical, canonical_term}
use Rattle.serde_json.specs.Data.{Data, null, boolean, number, unsigned, string, array, object, Members, member, no_members}
use Rattle.serde_json.specs.View.{items_of}
use Rattle.serde_json.specs.Written.{compact_text}
use Rattle.job_words.specs.declared.causes.JobCause.{JobCause}
use Rattle.job_words.specs.declared.causes.JobCause.TheVariants as causes
use Rattle.reply_lines.specs.declared.replies.Summary.{Summary}
use Rattle.reply_lines.specs.declared.replies.ExpSummary.{ExpSummary}
use Rattle.reply_lines.specs.declared.replies.StepShown.{StepShown}
use Rattle.reply_lines.specs.declared.replies.StepShown.TheVariants.{Reference, Rule}
use Rattle.reply_lines.specs.declared.replies.RefutationShown.{RefutationShown}
use Rattle.reply_lines.specs.declared.replies.RefutationShown.TheVariants as refutations
use Rattle.reply_lines.specs.declared.replies.Outcome.{Outcome}
use Rattle.reply_lines.specs.declared.replies.Outcome.TheVariants.{Proof, Reduced, Entries, Proves, Steps, Measure, Expansion, Nodes, Interpolant, Herbrand, Introduced, Definition, Satisfiable, Unsatisfiable, Saturated, Refuted, LineTooLong, Reading, NameTaken, UnknownName, Kind, Empty, Step as Faulty, Refutation, Quantified, Falsified, Node, Root, EigenTwice, EigenFree, Cycle, Cut, Defined, Partition, NotPrenex, TooMany, DefTwice, DefFree, DefLarge, NotGround, Rounds, Budget, Memory}
use Rattle.reply_lines.specs.declared.replies.Reply.{Reply}
use Rattle.reply_lines.specs.Maps.{by_key}
use Rattle.job_words.specs.RuleKinds.{kind_of, kind_name}
use Rattle.job_words.specs.declared.node_kinds.NodeKind.{NodeKind}
use Rattle.job_words.specs.declared.node_kinds.NodeKind.TheVariants as node_kinds
use Rattle.job_words.specs.NodeKinds.{node_name}

abbrev pub count_data : ℕ → Data
count_data n = number (unsigned n)

-- the canonical texts of a side in the order of its formulas
abbrev pub formulas_data : List Formula → Data
formulas_data fs = array (items_of (map (λ f. string (canonical f)) fs))

abbrev pub side_data : FormulaSet → Data
side_data side = formulas_data (set.listing side)

-- a proof in short: how many cuts and quantifier rules it has, and its end sequent
abbrev pub summary_data : Summary → Data
summary_data s = object (member (codes "cuts") (count_data s.cuts) (member (codes "left") (side_data s.end.left)
    (member (codes "quants") (count_data s.quants) (member (codes "right") (side_data s.end.right) no_members))))

-- a proof in short, and after how many reductions it was met
abbrev pub reduced_data : Summary → ℕ → Data
reduced_data s reductions = object (member (codes "cuts") (count_data s.cuts) (member (codes "left") (side_data s.end.left)
    (member (codes "quants") (count_data s.quants) (member (codes "reductions") (count_data reductions)
    (member (codes "right") (side_data s.end.right) no_members)))))

-- a problem in short: how many entries it has, and its sequent
abbrev pub entries_data : ℕ → Sequent → Data
entries_data n s = object (member (codes "entries") (count_data n) (member (codes "left") (side_data s.left)
    (member (codes "right") (side_data s.right) no_members)))

abbrev pub proves_data : Bool → Data
proves_data proves = object (member (codes "proves") (boolean proves) no_members)

abbrev pub measure_data : ℕ → ℕ → ℕ → ℕ → Data
measure_data cuts nodes quants size = object (member (codes "cuts") (count_data cuts) (member (codes "nodes") (count_data nodes)
    (member (codes "quants") (count_data quants) (member (codes "size") (count_data size) no_members))))

-- the canonical text of a term and of a variable
abbrev pub term_data : Term → Data
term_data t = string (canonical_term t)

abbrev pub variable_data : Var → Data
variable_data v = term_data (free v)

abbrev pub numbers_data : List ℕ → Data
numbers_data ns = array (items_of (map count_data ns))

-- A step: the sides of its conclusion, its main formula, if the rule has one, the places of its premises, the rule's name, and the term
-- or the eigenvariable, if the rule has one.
abbrev pub bare_step : Sequent → List ℕ → List ℕ → Data
bare_step end premises rule = object (member (codes "left") (side_data end.left) (member (codes "premises") (numbers_data premises)
    (member (codes "right") (side_data end.right) (member (codes "rule") (string rule) no_members))))

abbrev pub main_step : Sequent → List ℕ → List ℕ → Formula → Data
main_step end premises rule main = object (member (codes "left") (side_data end.left) (member (codes "main") (string (canonical main))
    (member (codes "premises") (numbers_data premises) (member (codes "right") (side_data end.right) (member (codes "rule") (string rule) no_members)))))

abbrev pub term_step : Sequent → List ℕ → List ℕ → Formula → Term → Data
term_step end premises rule main term = object (member (codes "left") (side_data end.left) (member (codes "main") (string (canonical main))
    (member (codes "premises") (numbers_data premises) (member (codes "right") (side_data end.right) (member (codes "rule") (string rule)
    (member (codes "term") (term_data term) no_members))))))

abbrev pub variable_step : Sequent → List ℕ → List ℕ → Formula → Var → Data
variable_step end premises rule main var = object (member (codes "left") (side_data end.left) (member (codes "main") (string (canonical main))
    (member (codes "premises") (numbers_data premises) (member (codes "right") (side_data end.right) (member (codes "rule") (string rule)
    (member (codes "var") (variable_data var) no_members))))))

abbrev pub step_by : Sequent → List ℕ → List ℕ → Option Formula → Option Term → Option Var → Data
step_by end premises rule None term var = bare_step end premises rule
step_by end premises rule (Some main) None None = main_step end premises rule main
step_by end premises rule (Some main) (Some term) var = term_step end premises rule main term
step_by end premises rule (Some main) None (Some var) = variable_step end premises rule main var

abbrev pub proof_step : Step → Data
proof_step step = step_by step.end step.premises (kind_name (kind_of step.rule)) (formula_of step.rule) (term_of step.rule) (variable_of step.rule)

abbrev pub steps_data : List Step → Data
steps_data steps = object (member (codes "steps") (array (items_of (map proof_step steps))) no_members)

-- expansion trees in short: how many instances and how many strong quantifiers they have, and the sequent of their formulas
abbrev pub expansion_data : ExpSummary → Data
expansion_data s = object (member (codes "instances") (count_data s.instances) (member (codes "left") (side_data s.end.left)
    (member (codes "right") (side_data s.end.right) (member (codes "strong") (count_data s.strong) no_members))))

-- A node of a flat list: its formula, if it names one, its instances, if it may have several, its kind, the places of its children, and
-- its variable, if it has one.
abbrev pub formula_node : NodeKind → Formula → Data
formula_node kind f = object (member (codes "formula") (string (canonical f)) (member (codes "kind") (string (node_name kind)) no_members))

abbrev pub not_node : ℕ → Data
not_node of = object (member (codes "kind") (string (node_name node_kinds.Not)) (member (codes "of") (count_data of) no_members))

abbrev pub pair_node : NodeKind → ℕ → ℕ → Data
pair_node kind first second = object (member (codes "kind") (string (node_name kind)) (member (codes "of") (numbers_data (first ∷ second ∷ [])) no_members))

-- an instance: the place of its node, and its term
abbrev pub instance_data : Term × ℕ → Data
instance_data i = object (member (codes "of") (count_data i.1) (member (codes "term") (term_data i.0) no_members))

abbrev pub instances_data : List (Term × ℕ) → Data
instances_data is = array (items_of (map instance_data is))

abbrev pub weak_node : Formula → List (Term × ℕ) → Data
weak_node f is = object (member (codes "formula") (string (canonical f)) (member (codes "instances") (instances_data is)
    (member (codes "kind") (string (node_name node_kinds.Weak)) no_members)))

abbrev pub strong_node : Formula → Var → ℕ → Data
strong_node f var of = object (member (codes "formula") (string (canonical f)) (member (codes "kind") (string (node_name node_kinds.Strong))
    (member (codes "of") (count_data of) (member (codes "var") (variable_data var) no_members))))

abbrev pub node_data : ExpNode → Data
node_data (nodes.Wk f) = formula_node node_kinds.Wk f
node_data (nodes.Leaf f) = formula_node node_kinds.Leaf f
node_data (nodes.Not m) = not_node m
node_data (nodes.And m n) = pair_node node_kinds.And m n
node_data (nodes.Or m n) = pair_node node_kinds.Or m n
node_data (nodes.Imp m n) = pair_node node_kinds.Imp m n
node_data (nodes.Weak f is) = weak_node f is
node_data (nodes.Strong f y m) = strong_node f y m

abbrev pub node_list : List ExpNode → Data
node_list ns = array (items_of (map node_data ns))

-- a flat list: its nodes, and the places of the roots on the left and on the right
abbrev pub nodes_data : FlatExp → Data
nodes_data flat = object (member (codes "left") (numbers_data flat.left) (member (codes "nodes") (node_list flat.nodes)
    (member (codes "right") (numbers_data flat.right) no_members)))

-- an interpolant, and in short the proof of the first part with it on the right and that of the second part with it on the left
abbrev pub interpolant_data : Summary → Formula → Summary → Data
interpolant_data first f second = object (member (codes "first") (summary_data first) (member (codes "formula") (string (canonical f))
    (member (codes "second") (summary_data second) no_members)))

-- the Herbrand sequent of a proof, and how many tuples its quantified formulas have
abbrev pub herbrand_data : ℕ → Sequent → Data
herbrand_data n s = object (member (codes "count") (count_data n) (member (codes "left") (side_data s.left)
    (member (codes "right") (side_data s.right) no_members)))

-- a proof in short, and whether it is shorter than the given one
abbrev pub introduced_data : Summary → Bool → Data
introduced_data s shorter = object (member (codes "cuts") (count_data s.cuts) (member (codes "left") (side_data s.end.left)
    (member (codes "quants") (count_data s.quants) (member (codes "right") (side_data s.end.right)
    (member (codes "shorter") (boolean shorter) no_members)))))

-- a symbol's name, as a constant of this name is written
abbrev pub symbol_data : List ℕ → Data
symbol_data name = term_data (app (record { name = name; arity = 0 }) nil)

-- a definition: how many arguments its symbol has, the formula that this stands for, and its name
abbrev pub definition_data : List ℕ → ℕ → Formula → Data
definition_data name n f = object (member (codes "arity") (count_data n) (member (codes "body") (string (canonical f))
    (member (codes "symbol") (symbol_data name) no_members)))

-- clauses that are true together: the atoms that are true, in their order
abbrev pub satisfiable_data : FormulaSet → Data
satisfiable_data atoms = object (member (codes "satisfiable") (boolean true) (member (codes "true") (side_data atoms) no_members))

-- a map from variables to terms: a member for each variable
abbrev pub bindings_data : List (Var × Term) → Members
bindings_data [] = no_members
bindings_data (b ∷ bs) = member (canonical_term (free b.0)) (term_data b.1) (bindings_data bs)

abbrev pub map_data : Map → Data
map_data m = object (bindings_data (by_key (fin.entries m)))

-- A step of a refutation, as a job has it: the place of an input clause; a map and the place of an earlier step; an atom and the places
-- of two earlier steps, that with the atom among its positive literals first.
abbrev pub input_data : ℕ → Data
input_data clause = object (member (codes "input") (count_data clause) no_members)

abbrev pub subst_data : ℕ → Map → Data
subst_data step m = object (member (codes "map") (map_data m) (member (codes "subst") (count_data step) no_members))

abbrev pub resolve_data : ℕ → ℕ → Formula → Data
resolve_data positive negative a = object (member (codes "atom") (string (canonical a))
    (member (codes "resolve") (numbers_data (positive ∷ negative ∷ [])) no_members))

abbrev pub res_step_data : ResStep → Data
res_step_data (res_steps.Input clause) = input_data clause
res_step_data (res_steps.Subst step m) = subst_data step m
res_step_data (res_steps.Resolve positive negative a) = resolve_data positive negative a

abbrev pub res_steps_data : List ResStep → Data
res_steps_data steps = array (items_of (map res_step_data steps))

-- clauses that are never true together: the steps of a refutation
abbrev pub unsatisfiable_data : List ResStep → Data
unsatisfiable_data steps = object (member (codes "satisfiable") (boolean false) (member (codes "steps") (res_steps_data steps) no_members))

-- a clause: its sides
abbrev pub clause_data : Sequent → Data
clause_data clause = object (member (codes "left") (side_data clause.left) (member (codes "right") (side_data clause.right) no_members))

abbrev pub clauses_data : List Sequent → Data
clauses_data clauses = array (items_of (map clause_data clauses))

-- no round adds a clause: the clauses that are kept
abbrev pub saturated_data : List Sequent → Data
saturated_data clauses = object (member (codes "clauses") (clauses_data clauses) (member (codes "saturated") (boolean true) no_members))

-- the rounds find the empty clause: the steps of a refutation
abbrev pub refuted_data : List ResStep → Data
refuted_data steps = object (member (codes "saturated") (boolean false) (member (codes "steps") (res_steps_data steps) no_members))

-- an error that says no more than its kind
abbrev pub plain : List ℕ → Data
plain kind = object (member (codes "kind") (string kind) no_members)

abbrev pub field_data : List ℕ → Data
field_data field = object (member (codes "field") (string field) (member (codes "kind") (string (codes "field")) no_members))

-- what is wrong with a text
abbrev pub text_kind : TextKind → List ℕ
text_kind Token = codes "token"
text_kind Expected = codes "expected"
text_kind Deep = codes "deep"
text_kind DefinedWord = codes "defined_word"
text_kind Number = codes "number"
text_kind Distinct = codes "distinct"
text_kind OpenQuote = codes "open_quote"
text_kind OpenComment = codes "open_comment"

-- a fault of the text in a field: its place in the text, counted from 0, and what is wrong there
abbrev pub formula_data : List ℕ → ℕ → List ℕ → Data
formula_data field place what = object (member (codes "at") (count_data place) (member (codes "field") (string field)
    (member (codes "kind") (string (codes "formula")) (member (codes "what") (string what) no_members))))

-- what is wrong with the text of a problem
abbrev pub problem_kind : ProblemKind → List ℕ
problem_kind (Text kind) = text_kind kind
problem_kind Include = codes "include"
problem_kind Language = codes "language"
problem_kind NameTwice = codes "name_twice"
problem_kind Role = codes "role"
problem_kind Clause = codes "clause"

-- a fault of the text of a problem: its place in the text, counted from 0, and what is wrong there
abbrev pub tptp_data : ℕ → List ℕ → Data
tptp_data place what = object (member (codes "at") (count_data place) (member (codes "kind") (string (codes "tptp"))
    (member (codes "what") (string what) no_members)))

abbrev pub reading_data : JobCause → Data
reading_data causes.Json = plain (codes "json")
reading_data (causes.Field field) = field_data field
reading_data causes.Op = plain (codes "op")
reading_data (causes.Formula field fault) = formula_data field fault.at (text_kind fault.kind)
reading_data (causes.Tptp place kind) = tptp_data place (problem_kind kind)

-- an error about a name as it is written in a field
abbrev pub named : List ℕ → List ℕ → Data
named kind name = object (member (codes "kind") (string kind) (member (codes "name") (string name) no_members))

-- a step's fault by its name
abbrev pub named_fault : List ℕ → ℕ → Data
named_fault cause step = object (member (codes "cause") (string cause) (member (codes "kind") (string (codes "step"))
    (member (codes "step") (count_data step) no_members)))

-- a fault of a premise, with the premise's place
abbrev pub premise_fault : ℕ → ℕ → Data
premise_fault premise step = object (member (codes "cause") (string (codes "premise")) (member (codes "kind") (string (codes "step"))
    (member (codes "premise") (count_data premise) (member (codes "step") (count_data step) no_members))))

abbrev pub step_data : ℕ → StepShown → Data
step_data step Reference = named_fault (codes "reference") step
step_data step (Rule Premises) = named_fault (codes "premises") step
step_data step (Rule Shape) = named_fault (codes "shape") step
step_data step (Rule MainMissing) = named_fault (codes "main_missing") step
step_data step (Rule EigenFree) = named_fault (codes "eigen_free") step
step_data step (Rule (Premise premise)) = premise_fault premise step

abbrev pub refutation_cause : RefutationShown → List ℕ
refutation_cause refutations.Reference = codes "reference"
refutation_cause refutations.AtomMissing = codes "atom_missing"
refutation_cause refutations.NotEmpty = codes "not_empty"

-- the fault of a step of a refutation
abbrev pub refutation_data : ℕ → RefutationShown → Data
refutation_data step cause = object (member (codes "cause") (string (refutation_cause cause)) (member (codes "kind") (string (codes "refutation"))
    (member (codes "step") (count_data step) no_members)))

abbrev pub side_name : Side → List ℕ
side_name Left = codes "left"
side_name Right = codes "right"

-- a formula of a sequent that may not stand there, and its side
abbrev pub side_fault : List ℕ → Formula → Side → Data
side_fault kind f side = object (member (codes "formula") (string (canonical f)) (member (codes "kind") (string kind)
    (member (codes "side") (string (side_name side)) no_members)))

-- the first cut of a proof, by the number of its step
abbrev pub cut_data : ℕ → Data
cut_data step = object (member (codes "kind") (string (codes "cut")) (member (codes "step") (count_data step) no_members))

-- there are more tuples than candidates for a cut are looked for
abbrev pub too_many_data : ℕ → Data
too_many_data n = object (member (codes "count") (count_data n) (member (codes "kind") (string (codes "too_many")) no_members))

-- the first clause with a variable, by its number, where none may have one
abbrev pub not_ground_data : ℕ → Data
not_ground_data clause = object (member (codes "clause") (count_data clause) (member (codes "kind") (string (codes "not_ground")) no_members))

-- the atoms that are true where a sequent is false
abbrev pub falsified_data : FormulaSet → Data
falsified_data atoms = object (member (codes "kind") (string (codes "falsified")) (member (codes "true") (side_data atoms) no_members))

-- the fault of a node or of a root of a flat list, with its number
abbrev pub place_fault : List ℕ → List ℕ → ℕ → Data
place_fault cause kind place = object (member (codes "cause") (string cause) (member (codes "kind") (string kind)
    (member kind (count_data place) no_members)))

abbrev pub node_cause : NodeCause → List ℕ
node_cause node_causes.Reference = codes "reference"
node_cause node_causes.Shape = codes "shape"
node_cause node_causes.Instance = codes "instance"
node_cause node_causes.Polarity = codes "polarity"

abbrev pub root_cause : RootCause → List ℕ
root_cause root_causes.Reference = codes "reference"
root_cause root_causes.Polarity = codes "polarity"
root_cause root_causes.Twice = codes "twice"

-- a fault of the variable of a strong quantifier
abbrev pub variable_fault : List ℕ → Var → Data
variable_fault kind var = object (member (codes "kind") (string kind) (member (codes "var") (variable_data var) no_members))

abbrev pub variables_data : List Var → Data
variables_data vars = array (items_of (map variable_data vars))

-- variables of strong quantifiers of which each has to be there before the next
abbrev pub cycle_data : List Var → Data
cycle_data vars = object (member (codes "cycle") (variables_data vars) (member (codes "kind") (string (codes "cycle")) no_members))

-- the job's name, where the reply has one
abbrev pub name_data : Option (List ℕ) → Data
name_data None = null
name_data (Some name) = string name

abbrev pub ok_data : Data → Data → ℕ → Data
ok_data answer name n = object (member (codes "job") name (member (codes "n") (count_data n) (member (codes "ok") answer no_members)))

abbrev pub error_data : Data → Data → ℕ → Data
error_data error name n = object (member (codes "error") error (member (codes "job") name (member (codes "n") (count_data n) no_members)))

-- what came of a job: the object of an Ok reply, or that of an error
abbrev pub answer_data : Outcome → Result Data Data
answer_data (Proof summary) = Ok (summary_data summary)
answer_data (Reduced summary reductions) = Ok (reduced_data summary reductions)
answer_data (Entries entries sequent) = Ok (entries_data entries sequent)
answer_data (Proves proves) = Ok (proves_data proves)
answer_data (Steps steps) = Ok (steps_data steps)
answer_data (Measure cuts nodes quants size) = Ok (measure_data cuts nodes quants size)
answer_data (Expansion summary) = Ok (expansion_data summary)
answer_data (Nodes flat) = Ok (nodes_data flat)
answer_data (Interpolant first f second) = Ok (interpolant_data first f second)
answer_data (Herbrand n s) = Ok (herbrand_data n s)
answer_data (Introduced summary shorter) = Ok (introduced_data summary shorter)
answer_data (Definition name n f) = Ok (definition_data name n f)
answer_data (Satisfiable atoms) = Ok (satisfiable_data atoms)
answer_data (Unsatisfiable steps) = Ok (unsatisfiable_data steps)
answer_data (Saturated clauses) = Ok (saturated_data clauses)
answer_data (Refuted steps) = Ok (refuted_data steps)
answer_data LineTooLong = Err (plain (codes "line_too_long"))
answer_data (Reading cause) = Err (reading_data cause)
answer_data NameTaken = Err (plain (codes "name_taken"))
answer_data (UnknownName name) = Err (named (codes "unknown_name") name)
answer_data (Kind name) = Err (named (codes "kind") name)
answer_data Empty = Err (plain (codes "empty"))
answer_data (Faulty step cause) = Err (step_data step cause)
answer_data (Refutation step cause) = Err (refutation_data step cause)
answer_data (Quantified f side) = Err (side_fault (codes "quantified") f side)
answer_data (Falsified atoms) = Err (falsified_data atoms)
answer_data (Node node cause) = Err (place_fault (node_cause cause) (codes "node") node)
answer_data (Root root cause) = Err (place_fault (root_cause cause) (codes "root") root)
answer_data (EigenTwice var) = Err (variable_fault (codes "eigen_twice") var)
answer_data (EigenFree var) = Err (variable_fault (codes "eigen_free") var)
answer_data (Cycle vars) = Err (cycle_data vars)
answer_data (Cut step) = Err (cut_data step)
answer_data (Defined f side) = Err (side_fault (codes "defined") f side)
answer_data (Partition f side) = Err (side_fault (codes "partition") f side)
answer_data (NotPrenex f side) = Err (side_fault (codes "not_prenex") f side)
answer_data (TooMany n) = Err (too_many_data n)
answer_data (DefTwice name) = Err (named (codes "def_twice") name)
answer_data (DefFree var) = Err (variable_fault (codes "def_free") var)
answer_data DefLarge = Err (plain (codes "def_large"))
answer_data (NotGround clause) = Err (not_ground_data clause)
answer_data Rounds = Err (plain (codes "rounds"))
answer_data Budget = Err (plain (codes "budget"))
answer_data Memory = Err (plain (codes "memory"))

-- whether the reply is no error
abbrev pub is_ok_outcome : Outcome → Bool
is_ok_outcome outcome = is_ok (answer_data outcome)

abbrev pub reply_by : Result Data Data → Data → ℕ → Data
reply_by (Ok answer) name n = ok_data answer name n
reply_by (Err error) name n = error_data error name n

abbrev pub reply_data : Reply → Data
reply_data reply = reply_by (answer_data reply.outcome) (name_data reply.name) reply.n

-- the line of a reply: its JSON text without white space, and a newline
unfoldable pub line_of : Reply → List ℕ
line_of reply = compact_text (reply_data reply) ++ 10 ∷ []
