use Rattle.std.proofs.Common.{◌≡◌, map, take, get_or}
use Rattle.fol.specs.declared.symbols.Var.{Var}
use Rattle.exp_check.proofs.checking.named.Given as goal

abbrev pub invariant-loop-number : goal.invariant-loop-number
invariant-loop-number l = (d : Var) → l.list.items ≡ map (λ i. get_or l.vars i d) (take l.number-index l.numbers)
