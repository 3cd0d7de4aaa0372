-- Which tokens a clause has where. What a place takes is wide: the reader of formulas refuses what no formula has.
use Rattle.std.specs.Prelude.{ℕ, zero, suc, true, false, Option, Some, None}
use Rattle.tptp_tokens.specs.declared.tokens.ChainOperator.TheVariants.{Or}
use Rattle.tptp_tokens.specs.declared.tokens.Token.{Token}
use Rattle.tptp_tokens.specs.declared.tokens.Token.TheVariants.{Name, Variable, Truth, Equality, Negation as Tilde, Chain, Open, Close}
use Rattle.tptp_problem.specs.declared.clause_places.AtomPlace.{AtomPlace}
use Rattle.tptp_problem.specs.declared.clause_places.AtomPlace.TheVariants.{Positive, Negative, Grouped}
use Rattle.tptp_problem.specs.declared.clause_places.ClausePlace.{ClausePlace}
use Rattle.tptp_problem.specs.declared.clause_places.ClausePlace.TheVariants.{Clause, Literal, Negation, NegatedGroup, Atom, BehindLiteral, BehindGroup}

abbrev pub begin_atom : AtomPlace → Token → Option ClausePlace
begin_atom a (Name x) = Some (Atom a 0)
begin_atom a (Variable v) = Some (Atom a 0)
begin_atom a t = None

abbrev pub behind_negation : Token → Option ClausePlace
behind_negation Open = Some NegatedGroup
behind_negation t = begin_atom Negative t

abbrev pub begin_literal : Token → Option ClausePlace
begin_literal Tilde = Some Negation
begin_literal (Truth false) = Some BehindLiteral
begin_literal t = begin_atom Positive t

abbrev pub begin_clause : Token → Option ClausePlace
begin_clause Open = Some Clause
begin_clause t = begin_literal t

abbrev pub behind_group : Token → Option ClausePlace
behind_group Close = Some BehindGroup
behind_group t = None

abbrev pub behind_literal : Token → Option ClausePlace
behind_literal (Chain Or) = Some Literal
behind_literal t = behind_group t

-- in an atom, with no parenthesis of arguments open
abbrev pub outside_arguments : AtomPlace → Token → Option ClausePlace
outside_arguments a Open = Some (Atom a 1)
outside_arguments a (Name x) = Some (Atom a 0)
outside_arguments a (Variable v) = Some (Atom a 0)
outside_arguments a (Equality true) = Some (Atom a 0)
outside_arguments Positive (Equality false) = Some (Atom Positive 0)
outside_arguments Grouped Close = Some BehindLiteral
outside_arguments Grouped t = None
outside_arguments a t = behind_literal t

-- in an atom, with this many open
abbrev pub inside_arguments : AtomPlace → ℕ → Token → Option ClausePlace
inside_arguments a n Open = Some (Atom a (suc n))
inside_arguments a (suc n) Close = Some (Atom a n)
inside_arguments a n t = Some (Atom a n)

abbrev pub place_behind : ClausePlace → Token → Option ClausePlace
place_behind Clause t = begin_clause t
place_behind Literal t = begin_literal t
place_behind Negation t = behind_negation t
place_behind NegatedGroup t = begin_atom Grouped t
place_behind (Atom a zero) t = outside_arguments a t
place_behind (Atom a (suc n)) t = inside_arguments a (suc n) t
place_behind BehindLiteral t = behind_literal t
place_behind BehindGroup t = behind_group t
