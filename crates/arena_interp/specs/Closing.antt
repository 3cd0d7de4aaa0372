-- Interpolants in which the variables are quantified that aren't free in their part.
--     closed_once      one variable, unless it is free there
--     closed_outside      those of a list that aren't, the first one outermost
use Rattle.std.specs.Prelude.{List, filter, not as negated, if◌then◌else◌}
use Rattle.fol.specs.declared.symbols.Var.{Var}
use Rattle.lk_rules.specs.declared.sequent.Sequent.{Sequent}
use Rattle.lk_rules.specs.declared.sequent.Side.{Side}
use Rattle.lk_rules.specs.Sequents.{is_free_in_sequent}
use Rattle.interp_laws.specs.Interpolation.{Interpolation, part, quantified, closed_by}

abbrev pub closed_once : Side → Sequent → Sequent → Var → Interpolation → Interpolation
closed_once m one two x i = if is_free_in_sequent x (part one two m) then i else quantified m one two x i

abbrev pub closed_outside : Side → Sequent → Sequent → List Var → Interpolation → Interpolation
closed_outside m one two xs i = closed_by m one two (filter (λ x. negated (is_free_in_sequent x (part one two m))) xs) i
