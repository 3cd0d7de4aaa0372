-- The tokens of a canonical text, in front of those that follow it.
--     names d      the number of the variable that is printed for the quantifier with d quantifiers around it
--     k      how many quantifiers stand around what is printed
use Rattle.std.proofs.Common.{ℕ, ◌+◌, ◌-◌, Bool, true, false, if◌then◌else◌, List, ◌∷◌}
use Rattle.fol.specs.declared.symbols.Sym.{Sym}
use Rattle.fol.specs.declared.symbols.Var.TheVariants.{Num}
use Rattle.fol.specs.Syntax.{Term, free, bound, app, Terms, nil, cons, pred_symbol, Formula, atom, top, bot, not, and, or, imp, all, ex}
use Rattle.tptp_tokens.specs.declared.tokens.Quantifier.{Quantifier}
use Rattle.tptp_tokens.specs.declared.tokens.Quantifier.TheVariants.{All, Ex}
use Rattle.tptp_tokens.specs.declared.tokens.ChainOperator.{ChainOperator}
use Rattle.tptp_tokens.specs.declared.tokens.ChainOperator.TheVariants.{And, Or}
use Rattle.tptp_tokens.specs.declared.tokens.BinaryOperator.TheVariants.{Implies}
use Rattle.tptp_tokens.specs.declared.tokens.Token.{Token}
use Rattle.tptp_tokens.specs.declared.tokens.Token.TheVariants.{Name, Variable, Truth, Equality, Negation, Quantifier as Quantifies, Chain, Binary, Open, Close, OpenSquare, CloseSquare, Comma, Colon}
use Rattle.tptp_round_trip.specs.Limits.{unit_levels, and_operators, or_operators}
use Rattle.tptp_print.specs.Canonical.{is_equality, is_binary, is_and, is_or}

abbrev mutual
  pub term_tokens : (ℕ → ℕ) → ℕ → Term → List Token → List Token
  term_tokens names k (free v) us = Variable v ∷ us
  term_tokens names k (bound i) us = Variable (Num (names (k - (i + 1)))) ∷ us
  term_tokens names k (app s ts) us = Name s.name ∷ args_tokens names k ts us

  pub args_tokens : (ℕ → ℕ) → ℕ → Terms → List Token → List Token
  args_tokens names k nil us = us
  args_tokens names k (cons t ts) us = Open ∷ term_tokens names k t (more_tokens names k ts us)

  pub more_tokens : (ℕ → ℕ) → ℕ → Terms → List Token → List Token
  more_tokens names k nil us = Close ∷ us
  more_tokens names k (cons t ts) us = Comma ∷ term_tokens names k t (more_tokens names k ts us)

-- the two sides of an equality or of its negation, by the sign, and any other atom
abbrev pub sides_tokens : (ℕ → ℕ) → ℕ → Bool → Terms → List Token → List Token
sides_tokens names k sign (cons t (cons u nil)) us = term_tokens names k t (Equality sign ∷ term_tokens names k u us)
sides_tokens names k sign ts us = us

abbrev pub atom_tokens : (ℕ → ℕ) → ℕ → Bool → Sym → Terms → List Token → List Token
atom_tokens names k sign s ts us = if is_equality s ts then sides_tokens names k sign ts us else term_tokens names k (app s ts) us

-- what stands in parentheses
abbrev pub enclosed : (List Token → List Token) → List Token → List Token
enclosed body us = Open ∷ body (Close ∷ us)

abbrev pub unit_tokens : Formula → (List Token → List Token) → List Token → List Token
unit_tokens f body us = if is_binary f then enclosed body us else body us

-- the left part of a chain, of the same operator or a unit
abbrev pub is_chain : ChainOperator → Formula → Bool
is_chain And f = is_and f
is_chain Or f = is_or f

abbrev pub left_tokens : ChainOperator → Formula → (List Token → List Token) → List Token → List Token
left_tokens c f body us = if is_chain c f then body us else unit_tokens f body us

abbrev pub negated_tokens : (ℕ → ℕ) → ℕ → Formula → (List Token → List Token) → List Token → List Token
negated_tokens names k (atom p ts) body us = if is_equality (pred_symbol p) ts then sides_tokens names k false ts us else Negation ∷ body us
negated_tokens names k f body us = Negation ∷ unit_tokens f body us

-- a quantifier with its one variable
abbrev pub head_tokens : Quantifier → ℕ → List Token → List Token
head_tokens q n us = Quantifies q ∷ OpenSquare ∷ Variable (Num n) ∷ CloseSquare ∷ Colon ∷ us

abbrev pub formula_tokens : (ℕ → ℕ) → ℕ → Formula → List Token → List Token
formula_tokens names k (atom p ts) us = atom_tokens names k true (pred_symbol p) ts us
formula_tokens names k top us = Truth true ∷ us
formula_tokens names k bot us = Truth false ∷ us
formula_tokens names k (not f) us = negated_tokens names k f (formula_tokens names k f) us
formula_tokens names k (and f g) us = left_tokens And f (formula_tokens names k f) (Chain And ∷ unit_tokens g (formula_tokens names k g) us)
formula_tokens names k (or f g) us = left_tokens Or f (formula_tokens names k f) (Chain Or ∷ unit_tokens g (formula_tokens names k g) us)
formula_tokens names k (imp f g) us = unit_tokens f (formula_tokens names k f) (Binary Implies ∷ unit_tokens g (formula_tokens names k g) us)
formula_tokens names k (all f) us = head_tokens All (names k) (unit_tokens f (formula_tokens names (k + 1) f) us)
formula_tokens names k (ex f) us = head_tokens Ex (names k) (unit_tokens f (formula_tokens names (k + 1) f) us)

-- the levels of the left part of a chain, and how many operators it has
abbrev pub left_levels : ChainOperator → Formula → ℕ → ℕ
left_levels c f n = if is_chain c f then n else unit_levels f n

abbrev pub chain_operators : ChainOperator → Formula → ℕ
chain_operators And f = and_operators f
chain_operators Or f = or_operators f

-- a fact of each operator of a chain
pub of_each : (P : ChainOperator → Type 0) → P And → P Or → (c : ChainOperator) → P c
of_each P first second And = first
of_each P first second Or = second
