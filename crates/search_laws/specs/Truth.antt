-- Truth of formulas by their connectives, and sequents that are true under every assignment.
--     Assignment, value      which atoms and quantified formulas are true, and which formulas are then
--     has_quantifier, IsPropositional      formulas with a quantifier; sequents that have no such formula
--     falsifies, IsTautology      an assignment makes a sequent false; none does
use Rattle.std.specs.Prelude.{◌≡◌, Bool, true, false, ◌&&◌, ◌||◌, not as negated}
use Rattle.std.specs.List.{list_all, list_any}
use Rattle.fol.specs.Syntax.{Formula, atom, top, bot, not, and, or, imp, all, ex}
use Rattle.finite.specs.Finite as set
use Rattle.lk_rules.specs.declared.sequent.Sequent.{Sequent}
use Rattle.lk_rules.specs.Formulas.{FormulaSet}

-- a finite set of atoms and of formulas with an outermost quantifier, which are true; all others of these are false
abbrev pub Assignment : Type 0
Assignment = FormulaSet

-- the value of a formula, in which parts that begin with a quantifier count as atoms do
abbrev pub value : Assignment → Formula → Bool
value a (atom s ts) = set.has a (atom s ts)
value a top = true
value a bot = false
value a (not f) = negated (value a f)
value a (and f g) = value a f && value a g
value a (or f g) = value a f || value a g
value a (imp f g) = negated (value a f) || value a g
value a (all f) = set.has a (all f)
value a (ex f) = set.has a (ex f)

-- whether a formula has a quantifier
abbrev pub has_quantifier : Formula → Bool
has_quantifier (atom s ts) = false
has_quantifier top = false
has_quantifier bot = false
has_quantifier (not f) = has_quantifier f
has_quantifier (and f g) = has_quantifier f || has_quantifier g
has_quantifier (or f g) = has_quantifier f || has_quantifier g
has_quantifier (imp f g) = has_quantifier f || has_quantifier g
has_quantifier (all f) = true
has_quantifier (ex f) = true

-- no formula of the sequent has a quantifier
pub record IsPropositional (s : Sequent) : Type 0 where
  pub left : list_any has_quantifier (set.listing s.left) ≡ false
  pub right : list_any has_quantifier (set.listing s.right) ≡ false

-- whether the assignment makes each formula on the left true and each one on the right false
abbrev pub falsifies : Assignment → Sequent → Bool
falsifies a s = list_all (value a) (set.listing s.left) && list_all (λ f. negated (value a f)) (set.listing s.right)

-- each assignment makes some formula on the left false or some formula on the right true
abbrev pub IsTautology : Sequent → Type 0
IsTautology s = (a : Assignment) → falsifies a s ≡ false
