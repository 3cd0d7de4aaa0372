-- The laws are lemmas.
use Rattle.fol.specs.Syntax.{app, cons, free}
use Rattle.std.proofs.Common.{ap, sym, ◌∙◌}
use Rattle.substitution.specs.Image.{image_term}
use Rattle.unify_laws.specs.Equations.{replaced}
use Rattle.unify_laws.proofs.EachSide.{unifies-solves}
use Rattle.unify_laws.proofs.Images.{image-put, no_part, own_put, solves_replaced, solves_back}
use Rattle.unify_laws.proofs.laws.single_equations.Goals as goal

pub returns-clause-arguments : goal.returns-clause-arguments
returns-clause-arguments c h f ts us = (λ e. cc, λ e. ap (app f) e)

pub returns-clause-first_and_rest : goal.returns-clause-first_and_rest
returns-clause-first_and_rest c h t u ts us = (λ e. (cc, cc), λ both. λ i. cons (both.0 i) (both.1 i))

pub returns-clause-lengths : goal.returns-clause-lengths
returns-clause-lengths c h t ts e = cc

pub returns-clause-symbols : goal.returns-clause-symbols
returns-clause-symbols c h f g ts us apart e = apart cc

pub returns-clause-kinds : goal.returns-clause-kinds
returns-clause-kinds c h i f ts e = cc

pub returns-clause-indices : goal.returns-clause-indices
returns-clause-indices c h i j apart e = apart cc

pub returns-clause-variable : goal.returns-clause-variable
returns-clause-variable c h x s = (image-put h x s, λ all. sym (all (free x)) ∙ ap (image_term h) (own_put x s))

pub returns-clause-replaced : goal.returns-clause-replaced
returns-clause-replaced c h x s same es = (
  λ all. (unifies-solves h (replaced x s es)).1 (solves_replaced h x s same es ((unifies-solves h es).0 all)),
  λ all. (unifies-solves h es).1 (solves_back h x s same es ((unifies-solves h (replaced x s es)).0 all)),
)

pub returns-clause-proper_part : goal.returns-clause-proper_part
returns-clause-proper_part c = no_part
