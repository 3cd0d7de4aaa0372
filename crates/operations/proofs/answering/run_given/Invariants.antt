-- The ledgers are those of the blanks.
use Rattle.operations.proofs.answering.run_given.Given as goal

abbrev pub ghosts-eliminate_in : goal.ghosts-eliminate_in
ghosts-eliminate_in g a = record { name = a.ledger.name; parts = a.ledger.parts }

abbrev pub ghosts-eliminate_all_in : goal.ghosts-eliminate_all_in
ghosts-eliminate_all_in g a = record { name = a.ledger.name; parts = a.ledger.parts }
