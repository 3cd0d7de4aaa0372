-- Unfolding of all defined predicate symbols, step by step as one does it by hand.
--     UnfoldsAll      a function on formulas that does so
use Rattle.std.specs.Prelude.{◌≡◌, false, Some}
use Rattle.fol.specs.declared.symbols.Sym.{Sym}
use Rattle.fol.specs.declared.symbols.Var.{Var}
use Rattle.fol.specs.Syntax.{free, Terms, plain, Formula, atom, top, bot, not, and, or, imp, all, ex}
use Rattle.fol.specs.Formed.{IsFormed}
use Rattle.free_variables.specs.Occurrence.{is_free_in}
use Rattle.substitution.specs.Instance.{inst, bind}
use Rattle.substitution.specs.Unfolding.{unf}

-- g leaves an atom whose symbol has no body, and goes from any other one to its unfolding. It goes into the parts of a formula, and under a
-- quantifier a variable that isn't free there stands for the bound one and is bound again
pub record UnfoldsAll (g : Formula → Formula) : Type 0 where
  pub undefined_atom : (s : Sym) (ts : Terms) → g (atom (plain s) ts) ≡ atom (plain s) ts
  pub defined_atom : (a f : Formula) → IsFormed a → unf a ≡ Some f → g a ≡ g f
  pub truth : g top ≡ top
  pub falsity : g bot ≡ bot
  pub negation : (a : Formula) → g (not a) ≡ not (g a)
  pub conjunction : (a b : Formula) → g (and a b) ≡ and (g a) (g b)
  pub disjunction : (a b : Formula) → g (or a b) ≡ or (g a) (g b)
  pub implication : (a b : Formula) → g (imp a b) ≡ imp (g a) (g b)
  pub universal : (a : Formula) (y : Var) → IsFormed (all a) → is_free_in y a ≡ false → g (all a) ≡ all (bind (g (inst a (free y))) y)
  pub existential : (a : Formula) (y : Var) → IsFormed (ex a) → is_free_in y a ≡ false → g (ex a) ≡ ex (bind (g (inst a (free y))) y)
