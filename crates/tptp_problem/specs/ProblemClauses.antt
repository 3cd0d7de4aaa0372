-- The clauses of a problem, and what its entries are when it was read.
use Rattle.std.specs.Prelude.{◌≡◌, Bool, true, false, if◌then◌else◌, List, [], ◌∷◌}
use Rattle.std.specs.List.{All}
use Rattle.fol.specs.Formed.{IsFormed}
use Rattle.refutations.specs.declared.clause.Clause.{Clause}
use Rattle.refutations.specs.Clauses.{is_clause, clause_of}
use Rattle.tptp_problem.specs.declared.problems.Language.{Language}
use Rattle.tptp_problem.specs.declared.problems.Language.TheVariants.{Fof, Cnf}
use Rattle.tptp_problem.specs.declared.problems.Entry.{Entry}
use Rattle.tptp_problem.specs.declared.problems.Problem.{Problem}

-- whether an entry is a clause
abbrev pub is_cnf : Language → Bool
is_cnf Fof = false
is_cnf Cnf = true

-- the clauses among the entries, in order
abbrev pub clauses_of : List Entry → List Clause
clauses_of [] = []
clauses_of (e ∷ es) = if is_cnf e.language then clause_of e.formula ∷ clauses_of es else clauses_of es

-- the formula of an entry is well formed, and that of a `cnf` entry is a disjunction of literals
pub record IsReadEntry (e : Entry) : Type 0 where
  pub formed : IsFormed e.formula
  pub clause : e.language ≡ Cnf → is_clause e.formula ≡ true

-- the entries are such as are read
pub record IsReadProblem (p : Problem) : Type 0 where
  pub entries : All IsReadEntry p.entries
