-- The ledger is that of the blank.
use Rattle.proof_tests.proofs.definitions.assert_defined_cut.Given as goal

abbrev pub ghosts-assert_eliminated : goal.ghosts-assert_eliminated
ghosts-assert_eliminated g a = record { name = a.ledger.name; parts = a.ledger.parts }
