-- The copied list has the same fingerprint.
use Rattle.std.proofs.Common.{◌≡◌, sym, subst, arith}
use Rattle.std.proofs.lemmas.Grind.{common_steps}
use Rattle.delta_rows.specs.ValueOrder.{IsPrinted}
use Rattle.delta_rows.proofs.values.Values.copy.Goals as goal

pub invariant_of-result : goal.invariant_of-result
invariant_of-result c =
    let same : c.loop-term.items.items ≡ c.self.inside.items.items = grind (arith, common_steps) in
    subst (IsPrinted c.self.inside.fingerprint) (sym same) c.self.invariant
