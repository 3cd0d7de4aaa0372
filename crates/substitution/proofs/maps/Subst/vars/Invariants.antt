-- The variables so far are listed.
use Rattle.std.proofs.Common.{◌≡◌, map, take}
use Rattle.substitution.proofs.maps.Subst.vars.Given as goal

abbrev pub invariant-loop-var : goal.invariant-loop-var
invariant-loop-var l = l.list.items ≡ map (λ b. b.0) (take l.var-index l.var-items)
