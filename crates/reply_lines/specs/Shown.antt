-- What a reply may name so that its text tells it: canonical texts are read as what they were printed from.
--     IsShownFormula, IsShownTerm, IsShownBinding, IsShownStep, IsShownClause      such formulas, terms, variables with terms, steps of
--         refutations, and clauses
--     AreAlike      replies to one job have one line
use Rattle.std.specs.Prelude.{◌≡◌, ℕ, ◌^◌, ◌<◌, false, List, Option}
use Rattle.std.specs.List.{All}
use Rattle.std.specs.FinMap as fin
use Rattle.finite.specs.Finite as set
use Rattle.fol.specs.declared.symbols.Var.{Var}
use Rattle.fol.specs.Syntax.{Term, free, Formula}
use Rattle.fol.specs.Facts.{has_body}
use Rattle.fol.specs.Formed.{IsFormed, IsFormedTerm}
use Rattle.lk_rules.specs.declared.sequent.Sequent.{Sequent}
use Rattle.refutations.specs.declared.step.ResStep.{ResStep}
use Rattle.refutations.specs.declared.step.ResStep.TheVariants.{Input, Subst, Resolve}
use Rattle.reply_lines.specs.declared.replies.Outcome.{Outcome}
use Rattle.reply_lines.specs.Replies.{line_of}
use Rattle.tptp_round_trip.specs.Limits.{AreNumbersInRange, AreTermNumbersInRange}

-- a formula without defined predicate symbols, and a term, in whose text each numbered variable has a number below 2 ^ 64
abbrev pub IsShownFormula : Formula → Type 0
IsShownFormula f = (has_body f ≡ false) × IsFormed f × AreNumbersInRange f

abbrev pub IsShownTerm : Term → Type 0
IsShownTerm t = IsFormedTerm t × AreTermNumbersInRange t

-- a variable with its term
abbrev pub IsShownBinding : Var × Term → Type 0
IsShownBinding b = IsShownTerm (free b.0) × IsShownTerm b.1

-- the places, the map and the atom of a step of a refutation
abbrev pub IsShownStep : ResStep → Type 0
IsShownStep (Input i) = i < 2 ^ 64
IsShownStep (Subst k m) = (k < 2 ^ 64) × All IsShownBinding (fin.entries m)
IsShownStep (Resolve p n a) = (p < 2 ^ 64) × (n < 2 ^ 64) × IsShownFormula a

-- the formulas on both sides of a clause
abbrev pub IsShownClause : Sequent → Type 0
IsShownClause c = All IsShownFormula (set.listing c.left) × All IsShownFormula (set.listing c.right)

-- replies with these outcomes to one job, whatever its name and its number, have one line
pub record AreAlike (x y : Outcome) : Type 0 where
  pub name : Option (List ℕ)
  pub n : ℕ
  pub lines : line_of (record { name = name; n = n; outcome = x }) ≡ line_of (record { name = name; n = n; outcome = y })
