-- The laws are lemmas.
use Rattle.std.proofs.Common.{◌∙◌}
use Rattle.building_laws.specs.Lists.{start}
use Rattle.building_laws.proofs.Buildables.{first_buildable, first_conclusion, is_built, proves}
use Rattle.building_laws.proofs.laws.proofs.Goals as goal

pub returns-clause-built : goal.returns-clause-built
returns-clause-built c x s h g = let k = is_built (start x) (first_buildable x s h g) in (k.0, k.1)

pub returns-clause-end : goal.returns-clause-end
returns-clause-end c x s t h g e = (proves x s t h g e).end ∙ first_conclusion x s h

pub returns-clause-valid : goal.returns-clause-valid
returns-clause-valid c x s t h g e = (proves x s t h g e).valid

pub returns-clause-cut_free : goal.returns-clause-cut_free
returns-clause-cut_free c x s t h g e = (proves x s t h g e).without_cuts
