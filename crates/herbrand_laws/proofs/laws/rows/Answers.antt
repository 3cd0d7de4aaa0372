-- The laws are lemmas.
use Rattle.herbrand_laws.proofs.RowForms.{row_gives, row_counted, row_formed}
use Rattle.herbrand_laws.proofs.Different.{delta_different, no_row, has_no_row}
use Rattle.herbrand_laws.proofs.laws.rows.Goals as goal

pub returns-clause-gives_back : goal.returns-clause-gives_back
returns-clause-gives_back c = row_gives

pub returns-clause-counted : goal.returns-clause-counted
returns-clause-counted c = row_counted

pub returns-clause-formed : goal.returns-clause-formed
returns-clause-formed c = row_formed

pub returns-clause-different : goal.returns-clause-different
returns-clause-different c us uss r f d e = delta_different us uss f d r e

pub returns-clause-no_row : goal.returns-clause-no_row
returns-clause-no_row c us uss f = (no_row us uss f, has_no_row us uss)
