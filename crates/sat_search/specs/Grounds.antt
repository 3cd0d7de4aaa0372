-- Ground clauses as sequents.
--     clause_of, clauses_of      the negative atoms are on the left, the positive ones on the right
use Rattle.std.specs.Prelude.{List, map}
use Rattle.lk_rules.specs.declared.sequent.Sequent.{Sequent}
use Rattle.sat_search.specs.declared.ground.Ground.{Ground}

-- the sequent that a clause means
abbrev pub clause_of : Ground → Sequent
clause_of g = record { left = g.negative; right = g.positive }

-- those of a list
abbrev pub clauses_of : List Ground → List Sequent
clauses_of gs = map clause_of gs
