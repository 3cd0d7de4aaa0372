-- The first literal is sent to one of the atoms.
use Rattle.std.proofs.Common.{ap, refl, sym, ◌∙◌}
use Rattle.std.specs.List.{list_any}
use Rattle.clause_laws.specs.Searching.{match_atom, goes_on}
use Rattle.res_prover.specs.Bindings.{map_of}
use Rattle.res_prover.specs.Sending.{sends_literals}
use Rattle.res_prover.proofs.Fronts.{front_rest}
use Rattle.res_prover.proofs.MarkedLaws.{not_sent}
use Rattle.res_prover.proofs.subsumption.+sends.Goals as goal

pub sends_all-loop-place-init : goal.sends_all-loop-place-init
sends_all-loop-place-init t c =
    let d = c.args.other.now in
    let m = map_of c.args.bindings.now.items in
    record {
      sent =
          ap (λ ls. sends_literals ls d m) (sym (front_rest c.args.literals.now c.first-item.result c.in-len1-up.len_at_least c.first-item.is))
          ∙ ap (list_any (λ g. goes_on (sends_literals _ d) (match_atom c.first-item.result.atom.now g m))) (sym c.side-others.ensures);
      back = refl;
    }

pub sends_first-returns-then-not-is_within-clause-sent : goal.sends_first-returns-then-not-is_within-clause-sent
sends_first-returns-then-not-is_within-clause-sent t c =
    sym (ap (goes_on (sends_literals c.args.rest.now c.args.other.now)) (not_sent c.args.first.now.atom.now c.args.target.now (map_of c.args.bindings.now.items) (sym c.is_within.ensures ∙ c.if-not-is_within.true)))
