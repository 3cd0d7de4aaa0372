-- Definitions of predicate symbols.
--     definition      a symbol that stands for a formula, with variables for its arguments
--     given      the terms of a list for the variables of a list
use Rattle.std.specs.Prelude.{ℕ, if◌then◌else◌, List, [], ◌∷◌, length, Option, Some, None}
use Rattle.std.specs.Option.{option_or}
use Rattle.std.specs.Ordering.{eq_by_cmp}
use Rattle.fol.specs.declared.symbols.Var.{Var}
use Rattle.fol.specs.Syntax.{Term, Terms, nil, cons, Pred, pred, defined, Formula, all}
use Rattle.fol.specs.Order.{var_cmp}
use Rattle.substitution.specs.Closing.{closed_over}

-- the symbol of this name that stands for f, with an argument for each variable: its body is f under their universal quantifiers, the first
-- one outermost
abbrev pub definition : List ℕ → List Var → Formula → Pred
definition name vs f = pred (record { name = name; arity = length vs }) (defined (closed_over all vs f))

-- for each variable of a list the term at its place; of equal variables the last one counts
abbrev pub given : List Var → Terms → Var → Option Term
given [] ts w = None
given (v ∷ vs) nil w = None
given (v ∷ vs) (cons t ts) w = option_or (given vs ts w) (if eq_by_cmp var_cmp v w then Some t else None)
