-- The sequent that the trees for a sequent stand for.
use Rattle.std.specs.Prelude.{map}
use Rattle.finite.specs.Finite as set
use Rattle.lk_rules.specs.declared.sequent.Sequent.{Sequent}
use Rattle.lk_rules.specs.declared.sequent.Side.TheVariants.{Left, Right}
use Rattle.expansion_laws.specs.Expansions.{deep}
use Rattle.expansion_laws.specs.Dependency.{Expansion}

-- what the trees stand for, each on its side
abbrev pub deep_sequent : Expansion → Sequent
deep_sequent x = record { left = set.of_list (map (deep Left) x.left); right = set.of_list (map (deep Right) x.right) }
