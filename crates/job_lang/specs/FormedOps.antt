-- What is well formed in an operation that is read.
use Rattle.std.specs.Prelude.{◌≡◌, true}
use Rattle.std.specs.List.{All, list_all}
use Rattle.std.specs.FinMap as fin
use Rattle.finite.specs.Finite as set
use Rattle.fol.specs.Formed.{is_name, IsFormed, IsFormedVar}
use Rattle.substitution.specs.Image.{IsFormedMap}
use Rattle.lk_rules.specs.declared.sequent.Sequent.{Sequent}
use Rattle.lk_rules.specs.Rules.{IsFormedRule}
use Rattle.refutations.specs.Refutations.{AreFormedSteps}
use Rattle.exp_tree.specs.FlatLists.{is_formed_node}
use Rattle.tptp_problem.specs.ProblemClauses.{IsReadProblem}
use Rattle.job_lang.specs.declared.jobs.Op.{Op}
use Rattle.job_lang.specs.declared.jobs.Op.TheVariants.{Lk, Problem, Proves, Show, Measure, Subst, Cutelim, Eliminate, Define, Unfold, Sat, Prove, Resolution, Tautology, Expansion, Expand, Fromexp, Interpolate, Herbrand, Cutintro}

-- the formulas of both sides are well formed
abbrev pub AreFormedSides : Sequent → Type 0
AreFormedSides s = All IsFormed (set.listing s.left) × All IsFormed (set.listing s.right)

-- the formulas, terms and variables that rules name, the entries of a problem, the terms of maps, the symbol of a definition with its
-- variables and its formula, the atoms of a refutation, the formulas of sequents, what the nodes of expansion trees name
abbrev pub IsFormedOp : Op → Type 0
IsFormedOp (Lk steps using) = All (λ s. IsFormedRule s.rule) steps
IsFormedOp (Problem p) = IsReadProblem p
IsFormedOp (Proves of goal) = Unit {0}
IsFormedOp (Show of) = Unit {0}
IsFormedOp (Measure of) = Unit {0}
IsFormedOp (Subst of m) = IsFormedMap (fin.get m)
IsFormedOp (Cutelim of n) = Unit {0}
IsFormedOp (Eliminate of) = Unit {0}
IsFormedOp (Define symbol vars body using) = (is_name symbol ≡ true) × (All IsFormedVar vars × IsFormed body)
IsFormedOp (Unfold of) = Unit {0}
IsFormedOp (Sat of) = Unit {0}
IsFormedOp (Prove of n) = Unit {0}
IsFormedOp (Resolution of steps) = AreFormedSteps steps
IsFormedOp (Tautology s n) = AreFormedSides s
IsFormedOp (Expansion flat n) = list_all is_formed_node flat.nodes ≡ true
IsFormedOp (Expand of n) = Unit {0}
IsFormedOp (Fromexp of n) = Unit {0}
IsFormedOp (Interpolate of one two n) = AreFormedSides one × AreFormedSides two
IsFormedOp (Herbrand of n) = Unit {0}
IsFormedOp (Cutintro of width n) = Unit {0}
