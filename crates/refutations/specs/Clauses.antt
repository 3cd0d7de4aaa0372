-- Clauses as sequents: a clause says what the sequent with its negative atoms on the left and its positive ones on the right says.
--     is_clause      a formula is a disjunction of literals
--     literals_of      its literals as a sequent
--     IsClauseOf      a clause with its variables
--     closure_of, closures      the universal closure of a clause, and those of all, on the left of a sequent
use Rattle.std.specs.Prelude.{◌≡◌, Bool, true, ◌&&◌, not as negated, List, [], ◌∷◌, map, filter}
use Rattle.std.specs.Ordering.{eq_by_cmp}
use Rattle.fol.specs.declared.symbols.Var.{Var}
use Rattle.fol.specs.Syntax.{Formula, bot, not, or, all}
use Rattle.fol.specs.Order.{var_cmp}
use Rattle.fol.specs.Formed.{IsFormed}
use Rattle.finite.specs.Finite as set
use Rattle.free_variables.specs.Occurrence.{var_list}
use Rattle.substitution.specs.Closing.{closed_over}
use Rattle.lk_rules.specs.declared.sequent.Sequent.{Sequent}
use Rattle.lk_rules.specs.declared.sequent.Side.TheVariants.{Left, Right}
use Rattle.lk_rules.specs.Sequents.{empty, adds_to, union_sequent}
use Rattle.proof_trees.specs.FormulaSets.{is_atom}
use Rattle.refutations.specs.declared.clause.Clause.{Clause}

-- a literal is an atom, the negation of one, or falsity, which is no alternative
abbrev pub is_clause : Formula → Bool
is_clause (or f g) = is_clause f && is_clause g
is_clause (not f) = is_atom f
is_clause bot = true
is_clause f = is_atom f

-- the negative atoms on the left, the positive ones on the right
abbrev pub literals_of : Formula → Sequent
literals_of (or f g) = union_sequent (literals_of f) (literals_of g)
literals_of (not f) = adds_to empty Left f
literals_of bot = empty
literals_of f = adds_to empty Right f

-- the members of a list without repeats, in the order in which each occurs first
abbrev pub first_occurrences : List Var → List Var
first_occurrences [] = []
first_occurrences (v ∷ vs) = v ∷ filter (λ w. negated (eq_by_cmp var_cmp v w)) (first_occurrences vs)

-- the matrix is a well-formed disjunction of literals, and the variables are its own
pub record IsClauseOf (c : Clause) : Type 0 where
  pub shape : is_clause c.matrix ≡ true
  pub formed : IsFormed c.matrix
  pub vars : c.vars ≡ first_occurrences (var_list c.matrix)

-- a formula as a clause, with its own variables
abbrev pub clause_of : Formula → Clause
clause_of f = record { matrix = f; vars = first_occurrences (var_list f) }

-- the universal closure: the variable that occurs first is the outermost
abbrev pub closure_of : Clause → Formula
closure_of c = closed_over all c.vars c.matrix

-- the closures of all clauses on the left, and nothing on the right
abbrev pub closures : List Clause → Sequent
closures cs = record { left = set.of_list (map closure_of cs); right = set.empty }
