-- The ledger is that of the blank.
use Rattle.cut_elim.proofs.eliminating.eliminate_number.Given as goal

abbrev pub ghosts-eliminate_forked : goal.ghosts-eliminate_forked
ghosts-eliminate_forked g a = record { name = a.ledger.name; parts = a.ledger.parts }
