-- Finite sets of variables and of predicate symbols.
use Rattle.std.specs.Prelude.{◌≡◌, true}
use Rattle.std.specs.Coded.{Coded}
use Rattle.fol.specs.declared.symbols.Sym.{Sym}
use Rattle.fol.specs.declared.symbols.Var.{Var}
use Rattle.fol.specs.Syntax.{Pred}
use Rattle.fol.specs.Codes.{coded_by_back, var_code, var_back, var_law, sym_code, sym_of_code, sym_law}
use Rattle.fol.specs.Order.{var_cmp, pred_cmp}
use Rattle.fol.specs.Formed.{IsFormedVar, IsFormedPred}
use Rattle.finite.specs.Finite as set

-- finite sets of variables
abbrev pub VarSet : Type 0
VarSet = set.Finite var_cmp

-- finite sets of predicate symbols, with their bodies
abbrev pub SymSet : Type 0
SymSet = set.Finite pred_cmp

abbrev pub coded_var : Coded Var
coded_var = coded_by_back var_code var_back var_law

abbrev pub coded_sym : Coded Sym
coded_sym = coded_by_back sym_code sym_of_code sym_law

-- each member is well formed
abbrev pub AreFormedVars : VarSet → Type 0
AreFormedVars vs = (v : Var) → set.has vs v ≡ true → IsFormedVar v

abbrev pub AreFormedSyms : SymSet → Type 0
AreFormedSyms ss = (p : Pred) → set.has ss p ≡ true → IsFormedPred p
