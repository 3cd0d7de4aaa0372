-- The grammar of clauses, as a relation on lists of tokens. `IsClause lim l ts f us` says that the tokens ts begin with a clause that
-- means f, in which at most l levels are open, and that us follow it; the others likewise.
use Rattle.std.specs.Prelude.{ℕ, suc, ◌≤◌, true, false, List, ◌∷◌}
use Rattle.fol.specs.declared.symbols.Sym.{Sym}
use Rattle.fol.specs.Syntax.{Term, app, Terms, plain, Formula, atom, bot, not, or}
use Rattle.tptp_tokens.specs.declared.tokens.ChainOperator.TheVariants.{Or}
use Rattle.tptp_tokens.specs.declared.tokens.Token.{Token}
use Rattle.tptp_tokens.specs.declared.tokens.Token.TheVariants.{Truth, Equality, Negation, Chain, Open, Close}
use Rattle.tptp_read.specs.declared.state.Limits.{Limits}
use Rattle.tptp_read.specs.Meaning.{equation}
use Rattle.tptp_read.specs.Grammar.{IsTerm}

-- natom = NAME args? | term '=' term
pub data IsAtom (lim : Limits) : ℕ → List Token → Formula → List Token → Type 0 where
  predicate : (l : ℕ) (ts us : List Token) (s : Sym) (xs : Terms) → IsTerm lim l ts (app s xs) us → IsAtom lim l ts (atom (plain s) xs) us
  equality : (l : ℕ) (ts us vs : List Token) (s t : Term) → IsTerm lim l ts s (Equality true ∷ us) → IsTerm lim l us t vs → IsAtom lim l ts (equation true s t) vs

-- lit = '$false' | natom | '~' natom | '~' '(' natom ')' | term '!=' term
pub data IsLiteral (lim : Limits) : ℕ → List Token → Formula → List Token → Type 0 where
  falsity : (l : ℕ) (us : List Token) → IsLiteral lim l (Truth false ∷ us) bot us
  positive : (l : ℕ) (ts us : List Token) (f : Formula) → IsAtom lim l ts f us → IsLiteral lim l ts f us
  negative : (l : ℕ) (ts us : List Token) (f : Formula) → IsAtom lim l ts f us → IsLiteral lim (suc l) (Negation ∷ ts) (not f) us
  negative_group : (l : ℕ) (ts us : List Token) (f : Formula) → IsAtom lim l ts f (Close ∷ us) → IsLiteral lim (suc (suc l)) (Negation ∷ Open ∷ ts) (not f) us
  inequality : (l : ℕ) (ts us vs : List Token) (s t : Term) → IsTerm lim l ts s (Equality false ∷ us) → IsTerm lim l us t vs → IsLiteral lim l ts (equation false s t) vs

-- the literals behind the n-th `|` of a clause; f is what the literals before it mean, read to the left
pub data IsLiterals (lim : Limits) : ℕ → ℕ → Formula → List Token → Formula → List Token → Type 0 where
  last_literal : (l n : ℕ) (f g : Formula) (ts us : List Token) → n ≤ lim.operators → IsLiteral lim l ts g us → IsLiterals lim l n f ts (or f g) us
  literal : (l n : ℕ) (f g h : Formula) (ts us vs : List Token) → n ≤ lim.operators → IsLiteral lim l ts g (Chain Or ∷ us) → IsLiterals lim l (suc n) (or f g) us h vs → IsLiterals lim l n f ts h vs

-- clause = '(' clause ')' | lit ('|' lit)*
pub data IsClause (lim : Limits) : ℕ → List Token → Formula → List Token → Type 0 where
  group : (l : ℕ) (ts us : List Token) (f : Formula) → IsClause lim l ts f (Close ∷ us) → IsClause lim (suc l) (Open ∷ ts) f us
  alone : (l : ℕ) (ts us : List Token) (f : Formula) → IsLiteral lim l ts f us → IsClause lim l ts f us
  chain : (l : ℕ) (ts us vs : List Token) (f g : Formula) → IsLiteral lim l ts f (Chain Or ∷ us) → IsLiterals lim l 1 f us g vs → IsClause lim l ts g vs
