-- A term without a free variable has none of the set.
use Rattle.std.proofs.Common.{sym, ap, ◌∙◌}
use Rattle.std.specs.List.{list_any}
use Rattle.finite.specs.Finite as set
use Rattle.free_variables.proofs.ShutLaws.{list-shut_term}
use Rattle.arena_building.proofs.instances.+meets.Goals as goal

pub meets-returns-then-not-has_free : goal.meets-returns-then-not-has_free
meets-returns-then-not-has_free t c =
    sym (ap (list_any (set.has c.args.vars.now)) (list-shut_term c.args.term.now (sym c.has_free.ensures ∙ c.if-not-has_free.true)))
