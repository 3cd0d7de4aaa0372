-- What the parts of a text mean.
use Rattle.std.specs.Prelude.{ℕ, Bool, true, false, List, [], ◌∷◌, codes}
use Rattle.fol.specs.declared.symbols.Var.{Var}
use Rattle.fol.specs.declared.symbols.Sym.{Sym}
use Rattle.fol.specs.Syntax.{Term, app, Terms, nil, cons, plain, Formula, atom, top, bot, not, and, or, imp, all, ex}
use Rattle.fol.specs.Formed.{count_terms}
use Rattle.substitution.specs.Instance.{bind}
use Rattle.tptp_tokens.specs.declared.tokens.Quantifier.{Quantifier}
use Rattle.tptp_tokens.specs.declared.tokens.Quantifier.TheVariants.{All, Ex}
use Rattle.tptp_tokens.specs.declared.tokens.ChainOperator.{ChainOperator}
use Rattle.tptp_tokens.specs.declared.tokens.ChainOperator.TheVariants.{And, Or}
use Rattle.tptp_tokens.specs.declared.tokens.BinaryOperator.{BinaryOperator}
use Rattle.tptp_tokens.specs.declared.tokens.BinaryOperator.TheVariants.{Implies, ImpliedBy, Equivalent, Different, Nor, Nand}

-- one more member of a chain
abbrev pub chained_by : ChainOperator → Formula → Formula → Formula
chained_by And f g = and f g
chained_by Or f g = or f g

-- the connectives that join two parts
abbrev pub joined_by : BinaryOperator → Formula → Formula → Formula
joined_by Implies f g = imp f g
joined_by ImpliedBy f g = imp g f
joined_by Equivalent f g = and (imp f g) (imp g f)
joined_by Different f g = not (and (imp f g) (imp g f))
joined_by Nor f g = not (or f g)
joined_by Nand f g = not (and f g)

abbrev pub truth : Bool → Formula
truth true = top
truth false = bot

-- the symbol `=` with two arguments
abbrev pub equality_sym : Sym
equality_sym = record { name = codes "="; arity = 2 }

-- `s = t`, or `s != t` where the sign is false
abbrev pub equation : Bool → Term → Term → Formula
equation true s t = atom (plain equality_sym) (cons s (cons t nil))
equation false s t = not (atom (plain equality_sym) (cons s (cons t nil)))

-- a name with these arguments; its arity is their number
abbrev pub symbol_of : List ℕ → Terms → Sym
symbol_of x ts = record { name = x; arity = count_terms ts }

abbrev pub application : List ℕ → Terms → Term
application x ts = app (symbol_of x ts) ts

-- one variable quantified in a formula where it is free
abbrev pub quantified_by : Quantifier → Var → Formula → Formula
quantified_by All v f = all (bind f v)
quantified_by Ex v f = ex (bind f v)

-- the first variable is the outermost
abbrev pub quantified : Quantifier → List Var → Formula → Formula
quantified q [] f = f
quantified q (v ∷ vs) f = quantified_by q v (quantified q vs f)
