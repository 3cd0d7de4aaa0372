-- The formula of an entry in its problem's sequent, and that sequent.
use Rattle.std.specs.Prelude.{Bool, true, false, if◌then◌else◌, List, [], ◌∷◌, Option, Some, None, option_to_list}
use Rattle.fol.specs.Syntax.{Formula, and, all}
use Rattle.fol.specs.Formed.{IsFormed}
use Rattle.finite.specs.Finite as set
use Rattle.free_variables.specs.Occurrence.{var_list}
use Rattle.substitution.specs.Closing.{closed_over}
use Rattle.lk_rules.specs.declared.sequent.Sequent.{Sequent}
use Rattle.refutations.specs.Clauses.{first_occurrences}
use Rattle.tptp_problem.specs.declared.problems.Role.{Role}
use Rattle.tptp_problem.specs.declared.problems.Role.TheVariants.{Conjecture}
use Rattle.tptp_problem.specs.declared.problems.Entry.{Entry}

-- the universal closure of a formula: the variable that occurs first is the outermost
abbrev pub closure_of : Formula → Formula
closure_of f = closed_over all (first_occurrences (var_list f)) f

abbrev pub is_conjecture : Role → Bool
is_conjecture Conjecture = true
is_conjecture r = false

-- the closures of the entries that are no conjecture, and of those that are
abbrev pub hypotheses : List Entry → List Formula
hypotheses [] = []
hypotheses (e ∷ es) = if is_conjecture e.role then hypotheses es else closure_of e.formula ∷ hypotheses es

abbrev pub conjectures : List Entry → List Formula
conjectures [] = []
conjectures (e ∷ es) = if is_conjecture e.role then closure_of e.formula ∷ conjectures es else conjectures es

-- formulas joined by `&`, chained to the left
abbrev pub conjoined : Formula → List Formula → Formula
conjoined f [] = f
conjoined f (g ∷ gs) = conjoined (and f g) gs

abbrev pub conjunction : List Formula → Option Formula
conjunction [] = None
conjunction (f ∷ fs) = Some (conjoined f fs)

-- the sequent of a problem with these entries
abbrev pub problem_sequent : List Entry → Sequent
problem_sequent es = record {
  left = set.of_list (hypotheses es);
  right = set.of_list (option_to_list (conjunction (conjectures es)));
}

-- each entry's formula is well formed
abbrev pub AreFormedEntries : List Entry → Type 0
AreFormedEntries [] = Unit {0}
AreFormedEntries (e ∷ es) = IsFormed e.formula × AreFormedEntries es

-- the conjunction of what has been joined so far and of further formulas
abbrev pub joined_on : Option Formula → List Formula → Option Formula
joined_on None fs = conjunction fs
joined_on (Some f) fs = Some (conjoined f fs)
