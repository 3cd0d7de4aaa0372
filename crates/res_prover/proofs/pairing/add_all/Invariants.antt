-- The round has gone on over the clauses so far.
use Rattle.std.proofs.Common.{Bool, List, take}
use Rattle.std.specs.Prelude.{Contains}
use Rattle.lk_rules.specs.declared.sequent.Sequent.{Sequent}
use Rattle.res_prover.specs.Partners.{partner_clauses}
use Rattle.res_prover.specs.Working.{IsWork, GoesOver, FromOne, ByNew}
use Rattle.res_prover.proofs.pairing.add_all.Given as goal

abbrev pub invariant-loop-place : goal.invariant-loop-place
invariant-loop-place l =
    (ks : List Sequent) (b : Bool) → ((c : Sequent) → Contains (partner_clauses l.partners) c → Contains ks c) → IsWork ks b l.fn.work
    → GoesOver ks b l.fn.work l.work (FromOne (λ p. FromOne (ByNew p) l.partners) (take l.place l.partners))
