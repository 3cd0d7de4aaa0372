-- What an operation is given: the values that its names of jobs stand for.
--     names_in      the names in an operation, as they are written
--     base_name      the name of the job that a written name is about
--     proof_given, problem_given, expansion_given, shown_given, definition_given      what a field is given
--     both, definitions_given      what two fields are given, and a list of names of definitions
use Rattle.std.specs.Prelude.{ℕ, ◌-◌, is_some, List, [], ◌∷◌, length, take, drop, codes, Option, Some, None, option_map, unwrap_or, if◌then◌else◌}
use Rattle.fol.specs.Syntax.{Pred}
use Rattle.proof_trees.specs.Trees.{Tree}
use Rattle.expansion_laws.specs.Dependency.{Expansion}
use Rattle.tptp_problem.specs.declared.problems.Problem.{Problem}
use Rattle.job_words.specs.RuleKinds.{is_text}
use Rattle.job_lang.specs.declared.jobs.Op.{Op}
use Rattle.job_lang.specs.declared.jobs.Op.TheVariants as ops
use Rattle.operation_laws.specs.declared.refusals.Refusal.{Refusal}
use Rattle.operation_laws.specs.declared.refusals.Refusal.TheVariants.{UnknownName, Kind}
use Rattle.operation_laws.specs.Values.{Value, nothing, refused, lacking, proof, pair, problem, expansion, definition}

-- the names of jobs in an operation, as they are written, in the order in which its fields are read
abbrev pub names_in : Op → List (List ℕ)
names_in (ops.Lk steps using) = using
names_in (ops.Problem p) = []
names_in (ops.Proves of goal) = of ∷ goal ∷ []
names_in (ops.Show of) = of ∷ []
names_in (ops.Measure of) = of ∷ []
names_in (ops.Subst of m) = of ∷ []
names_in (ops.Cutelim of n) = of ∷ []
names_in (ops.Eliminate of) = of ∷ []
names_in (ops.Define symbol vars body using) = using
names_in (ops.Unfold of) = of ∷ []
names_in (ops.Sat of) = of ∷ []
names_in (ops.Prove of n) = of ∷ []
names_in (ops.Resolution of steps) = of ∷ []
names_in (ops.Tautology s n) = []
names_in (ops.Expansion flat n) = []
names_in (ops.Expand of n) = of ∷ []
names_in (ops.Fromexp of n) = of ∷ []
names_in (ops.Interpolate of one two n) = of ∷ []
names_in (ops.Herbrand of n) = of ∷ []
names_in (ops.Cutintro of width n) = of ∷ []

-- the text without a suffix that it has
abbrev pub without : List ℕ → List ℕ → Option (List ℕ)
without suffix text =
    if is_text (drop (length text - length suffix) text) suffix then Some (take (length text - length suffix) text) else None

abbrev pub or_else : {A : Type 0} → Option A → Option A → Option A
or_else (Some a) other = Some a
or_else None other = other

-- A name with the suffix `.first` stands for the first proof of a pair, and one with `.second` for the second: the name of that pair.
abbrev pub first_name : List ℕ → Option (List ℕ)
first_name text = without (codes ".first") text

abbrev pub second_name : List ℕ → Option (List ℕ)
second_name text = without (codes ".second") text

-- the name of the pair, where a name has one of the suffixes
abbrev pub pair_name : List ℕ → Option (List ℕ)
pair_name text = or_else (first_name text) (second_name text)

-- the name of the job that a written name is about: that of the pair, where it has such a suffix
abbrev pub base_name : List ℕ → List ℕ
base_name text = unwrap_or (pair_name text) text

-- a field is given what it takes, or its job lacked memory, or it is refused
pub data Found (A : Type 0) : Type 0 where
  missing : Refusal → Found A
  wanting : Found A
  found : A → Found A

-- nothing of a value that is no pair has a name with a suffix
abbrev pub whole : {A : Type 0} → List ℕ → A → Found A
whole text a = if is_some (pair_name text) then missing (Kind text) else found a

-- the one or the other of a pair, as a name has the first suffix or the second; the pair's own name stands for neither
abbrev pub one_of : {A : Type 0} → List ℕ → A → A → Option A
one_of text a b = if is_some (first_name text) then Some a else (if is_some (second_name text) then Some b else None)

abbrev pub or_kind : {A : Type 0} → List ℕ → Option A → Found A
or_kind text None = missing (Kind text)
or_kind text (Some a) = found a

-- what a field for a proof is given, by what the job that its text is about holds
abbrev pub proof_given : List ℕ → Option Value → Found Tree
proof_given text None = missing (UnknownName text)
proof_given text (Some nothing) = missing (Kind text)
proof_given text (Some refused) = missing (Kind text)
proof_given text (Some lacking) = wanting
proof_given text (Some (proof t)) = whole text t
proof_given text (Some (pair t u)) = or_kind text (one_of text t u)
proof_given text (Some (problem p)) = missing (Kind text)
proof_given text (Some (expansion x)) = missing (Kind text)
proof_given text (Some (definition p)) = missing (Kind text)

-- the same of a field for a problem
abbrev pub problem_given : List ℕ → Option Value → Found Problem
problem_given text None = missing (UnknownName text)
problem_given text (Some nothing) = missing (Kind text)
problem_given text (Some refused) = missing (Kind text)
problem_given text (Some lacking) = wanting
problem_given text (Some (proof t)) = missing (Kind text)
problem_given text (Some (pair t u)) = missing (Kind text)
problem_given text (Some (problem p)) = whole text p
problem_given text (Some (expansion x)) = missing (Kind text)
problem_given text (Some (definition p)) = missing (Kind text)

-- the same of a field for expansion trees
abbrev pub expansion_given : List ℕ → Option Value → Found Expansion
expansion_given text None = missing (UnknownName text)
expansion_given text (Some nothing) = missing (Kind text)
expansion_given text (Some refused) = missing (Kind text)
expansion_given text (Some lacking) = wanting
expansion_given text (Some (proof t)) = missing (Kind text)
expansion_given text (Some (pair t u)) = missing (Kind text)
expansion_given text (Some (problem p)) = missing (Kind text)
expansion_given text (Some (expansion x)) = whole text x
expansion_given text (Some (definition p)) = missing (Kind text)

-- what can be shown: a proof, which may be one of a pair, or expansion trees
pub data ToShow : Type 0 where
  of_proof : Tree → ToShow
  of_expansion : Expansion → ToShow

-- the same of a field for either of these
abbrev pub shown_given : List ℕ → Option Value → Found ToShow
shown_given text None = missing (UnknownName text)
shown_given text (Some nothing) = missing (Kind text)
shown_given text (Some refused) = missing (Kind text)
shown_given text (Some lacking) = wanting
shown_given text (Some (proof t)) = whole text (of_proof t)
shown_given text (Some (pair t u)) = or_kind text (option_map of_proof (one_of text t u))
shown_given text (Some (problem p)) = missing (Kind text)
shown_given text (Some (expansion x)) = whole text (of_expansion x)
shown_given text (Some (definition p)) = missing (Kind text)

-- the same of a name for a definition
abbrev pub definition_given : List ℕ → Option Value → Found Pred
definition_given text None = missing (UnknownName text)
definition_given text (Some nothing) = missing (Kind text)
definition_given text (Some refused) = missing (Kind text)
definition_given text (Some lacking) = wanting
definition_given text (Some (proof t)) = missing (Kind text)
definition_given text (Some (pair t u)) = missing (Kind text)
definition_given text (Some (problem p)) = missing (Kind text)
definition_given text (Some (expansion x)) = missing (Kind text)
definition_given text (Some (definition p)) = whole text p

-- the value of the first name and that of the second; of a name that has none, as of one that no job has
abbrev pub first_of : List (Option Value) → Option Value
first_of [] = None
first_of (v ∷ vs) = v

abbrev pub second_of : List (Option Value) → Option Value
second_of [] = None
second_of (v ∷ vs) = first_of vs

-- the other values
abbrev pub rest_of : List (Option Value) → List (Option Value)
rest_of [] = []
rest_of (v ∷ vs) = vs

-- what two fields are given: the first that is refused is refused, and want of memory comes after both
abbrev pub both : {A B : Type 0} → Found A → Found B → Found (A × B)
both (missing r) second = missing r
both wanting (missing r) = missing r
both wanting wanting = wanting
both wanting (found b) = wanting
both (found a) (missing r) = missing r
both (found a) wanting = wanting
both (found a) (found b) = found (a, b)

abbrev pub in_front : {A : Type 0} → Found (A × List A) → Found (List A)
in_front (missing r) = missing r
in_front wanting = wanting
in_front (found p) = found (p.0 ∷ p.1)

-- what the names of a list are given, in their order
abbrev pub definitions_given : List (List ℕ) → List (Option Value) → Found (List Pred)
definitions_given [] vs = found []
definitions_given (text ∷ texts) vs = in_front (both (definition_given text (first_of vs)) (definitions_given texts (rest_of vs)))
