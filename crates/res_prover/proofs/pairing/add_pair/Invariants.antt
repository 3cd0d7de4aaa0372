-- The round has gone on over the choices so far.
use Rattle.std.proofs.Common.{Bool, List, take}
use Rattle.std.specs.Prelude.{Contains}
use Rattle.lk_rules.specs.declared.sequent.Sequent.{Sequent}
use Rattle.res_prover.specs.Lists.{lists_of}
use Rattle.res_prover.specs.Working.{ByAtoms, IsWork, GoesOver, FromOne}
use Rattle.res_prover.proofs.pairing.add_pair.Given as goal

abbrev pub invariant-loop-place : goal.invariant-loop-place
invariant-loop-place l =
    (ks : List Sequent) (b : Bool) → Contains ks l.first.clause → Contains ks l.second.clause → IsWork ks b l.fn.work
    → GoesOver ks b l.fn.work l.work (FromOne (λ fs. FromOne (λ gs. ByAtoms l.first.first l.second.second fs gs) (lists_of l.second.lefts.items)) (take l.place (lists_of l.first.rights.items)))
