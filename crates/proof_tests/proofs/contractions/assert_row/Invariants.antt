-- The ledger is that of the blank.
use Rattle.proof_tests.proofs.contractions.assert_row.Given as goal

abbrev pub ghosts-assert_contraction : goal.ghosts-assert_contraction
ghosts-assert_contraction g a = record { name = a.ledger.name; parts = a.ledger.parts }
