-- The ledger is that of the blank.
use Rattle.proof_tests.proofs.eliminations.assert_elimination.Given as goal

abbrev pub ghosts-assert_on_desk : goal.ghosts-assert_on_desk
ghosts-assert_on_desk g a = record { name = a.ledger.name; parts = a.ledger.parts }
