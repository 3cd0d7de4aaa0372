-- Clauses as sequents.
--     clause_of, clauses_of      the negative atoms are on the left, the positive ones on the right
use Rattle.std.specs.Prelude.{List, map}
use Rattle.lk_rules.specs.declared.sequent.Sequent.{Sequent}
use Rattle.res_prover.specs.declared.answer.Lits.{Lits}

-- the sequent that a clause means
abbrev pub clause_of : Lits → Sequent
clause_of c = record { left = c.negative; right = c.positive }

-- those of a list
abbrev pub clauses_of : List Lits → List Sequent
clauses_of cs = map clause_of cs
