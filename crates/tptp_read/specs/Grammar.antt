-- The grammar of formulas and terms, as a relation on lists of tokens. `IsUnit lim l ts f us` says that the tokens ts begin with a unit
-- that means f, in which at most l levels are open, and that us follow it; the others likewise.
use Rattle.std.specs.Prelude.{ℕ, suc, ◌≤◌, Bool, List, [], ◌∷◌}
use Rattle.fol.specs.declared.symbols.Var.{Var}
use Rattle.fol.specs.declared.symbols.Sym.{Sym}
use Rattle.fol.specs.Syntax.{Term, free, app, Terms, nil, cons, plain, Formula, atom, not}
use Rattle.tptp_tokens.specs.declared.tokens.Quantifier.{Quantifier}
use Rattle.tptp_tokens.specs.declared.tokens.ChainOperator.{ChainOperator}
use Rattle.tptp_tokens.specs.declared.tokens.BinaryOperator.{BinaryOperator}
use Rattle.tptp_tokens.specs.declared.tokens.Token.{Token}
use Rattle.tptp_tokens.specs.declared.tokens.Token.TheVariants.{Name, Variable, Truth, Equality, Negation, Quantifier as Quantifies, Chain, Binary, Open, Close, OpenSquare, CloseSquare, Comma, Colon}
use Rattle.tptp_read.specs.declared.state.Limits.{Limits}
use Rattle.tptp_read.specs.declared.state.Outcome.{Outcome}
use Rattle.tptp_read.specs.declared.state.Outcome.TheVariants.{Formula as FormulaRead, Term as TermRead}
use Rattle.tptp_read.specs.Meaning.{chained_by, joined_by, truth, equation, application, quantified}

mutual
  -- term = VAR | NAME args?
  pub data IsTerm (lim : Limits) : ℕ → List Token → Term → List Token → Type 0 where
    variable : (l : ℕ) (us : List Token) (v : Var) → IsTerm lim l (Variable v ∷ us) (free v) us
    constant : (l : ℕ) (us : List Token) (x : List ℕ) → IsTerm lim l (Name x ∷ us) (application x nil) us
    applied : (l : ℕ) (ts us : List Token) (x : List ℕ) (xs : Terms) → IsArguments lim l ts xs us → IsTerm lim (suc l) (Name x ∷ Open ∷ ts) (application x xs) us

  -- args = '(' term (',' term)* ')', from behind its parenthesis
  pub data IsArguments (lim : Limits) : ℕ → List Token → Terms → List Token → Type 0 where
    last_argument : (l : ℕ) (ts us : List Token) (t : Term) → IsTerm lim l ts t (Close ∷ us) → IsArguments lim l ts (cons t nil) us
    argument : (l : ℕ) (ts us vs : List Token) (t : Term) (xs : Terms) → IsTerm lim l ts t (Comma ∷ us) → IsArguments lim l us xs vs → IsArguments lim l ts (cons t xs) vs

-- VAR (',' VAR)* ']' ':', where n variables stand before; and the same from behind a variable
mutual
  pub data IsVariables (lim : Limits) : ℕ → List Token → List Var → List Token → Type 0 where
    next_variable : (n : ℕ) (ts us : List Token) (v : Var) (vs : List Var) → suc n ≤ lim.variables → IsBehindVariable lim (suc n) ts vs us → IsVariables lim n (Variable v ∷ ts) (v ∷ vs) us

  pub data IsBehindVariable (lim : Limits) : ℕ → List Token → List Var → List Token → Type 0 where
    all_variables : (n : ℕ) (us : List Token) → IsBehindVariable lim n (CloseSquare ∷ Colon ∷ us) [] us
    more_variables : (n : ℕ) (ts us : List Token) (vs : List Var) → IsVariables lim n ts vs us → IsBehindVariable lim n (Comma ∷ ts) vs us

mutual
  -- unit = '(' formula ')' | '~' unit | ('!' | '?') quantified | '$true' | '$false' | NAME args? | term '=' term | term '!=' term
  pub data IsUnit (lim : Limits) : ℕ → List Token → Formula → List Token → Type 0 where
    truth_value : (l : ℕ) (us : List Token) (b : Bool) → IsUnit lim l (Truth b ∷ us) (truth b) us
    predicate : (l : ℕ) (ts us : List Token) (s : Sym) (xs : Terms) → IsTerm lim l ts (app s xs) us → IsUnit lim l ts (atom (plain s) xs) us
    equality : (l : ℕ) (ts us vs : List Token) (sign : Bool) (s t : Term) → IsTerm lim l ts s (Equality sign ∷ us) → IsTerm lim l us t vs → IsUnit lim l ts (equation sign s t) vs
    negation : (l : ℕ) (ts us : List Token) (f : Formula) → IsUnit lim l ts f us → IsUnit lim (suc l) (Negation ∷ ts) (not f) us
    group : (l : ℕ) (ts us : List Token) (f : Formula) → IsFormula lim l ts f (Close ∷ us) → IsUnit lim (suc l) (Open ∷ ts) f us
    quantifier : (l : ℕ) (ts us : List Token) (q : Quantifier) (f : Formula) → IsQuantified lim q l ts f us → IsUnit lim (suc l) (Quantifies q ∷ ts) f us

  -- quantified = '[' VAR (',' VAR)* ']' ':' unit
  pub data IsQuantified (lim : Limits) : Quantifier → ℕ → List Token → Formula → List Token → Type 0 where
    body : (q : Quantifier) (l : ℕ) (ts us zs : List Token) (vs : List Var) (f : Formula) → IsVariables lim 0 ts vs us → IsUnit lim l us f zs → IsQuantified lim q l (OpenSquare ∷ ts) (quantified q vs f) zs

  -- formula = unit | unit BIN unit | unit ('&' unit)+ | unit ('|' unit)+
  pub data IsFormula (lim : Limits) : ℕ → List Token → Formula → List Token → Type 0 where
    alone : (l : ℕ) (ts us : List Token) (f : Formula) → IsUnit lim l ts f us → IsFormula lim l ts f us
    binary : (l : ℕ) (ts us vs : List Token) (b : BinaryOperator) (f g : Formula) → IsUnit lim l ts f (Binary b ∷ us) → IsUnit lim l us g vs → IsFormula lim l ts (joined_by b f g) vs
    chain : (l : ℕ) (ts us vs : List Token) (c : ChainOperator) (f g : Formula) → IsUnit lim l ts f (Chain c ∷ us) → IsMembers lim c l 1 f us g vs → IsFormula lim l ts g vs

  -- the members of a chain behind its n-th operator; f is what the members before it mean, read to the left
  pub data IsMembers (lim : Limits) : ChainOperator → ℕ → ℕ → Formula → List Token → Formula → List Token → Type 0 where
    last_member : (c : ChainOperator) (l n : ℕ) (f g : Formula) (ts us : List Token) → n ≤ lim.operators → IsUnit lim l ts g us → IsMembers lim c l n f ts (chained_by c f g) us
    member : (c : ChainOperator) (l n : ℕ) (f g h : Formula) (ts us vs : List Token) → n ≤ lim.operators → IsUnit lim l ts g (Chain c ∷ us) → IsMembers lim c l (suc n) (chained_by c f g) us h vs → IsMembers lim c l n f ts h vs

-- whether a text is to be a formula or a term
pub data Sort : Type 0 where
  formulas : Sort
  terms : Sort

-- the tokens are a whole text that means w
abbrev pub Reads : Limits → Sort → List Token → Outcome → Type 0
Reads lim formulas ts (FormulaRead f) = IsFormula lim lim.levels ts f []
Reads lim formulas ts (TermRead t) = ⊥
Reads lim terms ts (FormulaRead f) = ⊥
Reads lim terms ts (TermRead t) = IsTerm lim lim.levels ts t []

-- the grammar of formulas, or of terms
abbrev pub texts : Sort → Limits → List Token → Outcome → Type 0
texts sort lim ts w = Reads lim sort ts w
