-- No more quantifiers stand inside one another in a formula than in it with all unfolded, and fewer than it has nodes.
use Rattle.std.proofs.Common.{◌+◌, ◌≤◌, arith}
use Rattle.fol.specs.Syntax.{Formula, atom, top, bot, not, and, or, imp, all, ex}
use Rattle.substitution.specs.Instance.{nesting}
use Rattle.def_laws.specs.Flat.{flat}
use Rattle.def_laws.specs.Nodes.{nodes_of}

pub nesting_kept : (f : Formula) → nesting f ≤ nesting (flat f)
nesting_kept (atom p ts) = omega arith
nesting_kept top = omega arith
nesting_kept bot = omega arith
nesting_kept (not f) = nesting_kept f
nesting_kept (and f g) = omega (arith, nesting_kept f, nesting_kept g)
nesting_kept (or f g) = omega (arith, nesting_kept f, nesting_kept g)
nesting_kept (imp f g) = omega (arith, nesting_kept f, nesting_kept g)
nesting_kept (all f) = omega (arith, nesting_kept f)
nesting_kept (ex f) = omega (arith, nesting_kept f)

pub nesting_below_nodes : (f : Formula) → nesting f + 1 ≤ nodes_of f
nesting_below_nodes (atom p ts) = omega arith
nesting_below_nodes top = omega arith
nesting_below_nodes bot = omega arith
nesting_below_nodes (not f) = omega (arith, nesting_below_nodes f)
nesting_below_nodes (and f g) = omega (arith, nesting_below_nodes f, nesting_below_nodes g)
nesting_below_nodes (or f g) = omega (arith, nesting_below_nodes f, nesting_below_nodes g)
nesting_below_nodes (imp f g) = omega (arith, nesting_below_nodes f, nesting_below_nodes g)
nesting_below_nodes (all f) = omega (arith, nesting_below_nodes f)
nesting_below_nodes (ex f) = omega (arith, nesting_below_nodes f)
