-- The laws are lemmas.
use Rattle.std.proofs.Common.{sym, subst}
use Rattle.extraction_laws.specs.States.{Includes}
use Rattle.extraction_laws.specs.Extraction.{walked}
use Rattle.extraction_laws.proofs.Again.{walked_again}
use Rattle.extraction_laws.proofs.Contexts.{walked_agrees}
use Rattle.extraction_laws.proofs.Growing.{includes-walked}
use Rattle.extraction_laws.proofs.Marks.{itself}
use Rattle.extraction_laws.proofs.laws.again.Goals as goal

pub returns-clause-again : goal.returns-clause-again
returns-clause-again c vs t m d x = walked_again vs t m d x (walked vs t m d x) (itself (walked vs t m d x))

pub returns-clause-later : goal.returns-clause-later
returns-clause-later c vs t m d x y same h = walked_again vs t m d x y (subst (λ z. Includes z y) (sym same) h)

pub returns-clause-stay : goal.returns-clause-stay
returns-clause-stay c = includes-walked

pub returns-clause-addresses : goal.returns-clause-addresses
returns-clause-addresses c = walked_agrees
