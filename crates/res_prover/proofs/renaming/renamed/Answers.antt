-- The map does to the variables of the clause what the renaming does.
use Rattle.std.proofs.Common.{ap, ◌∙◌}
use Rattle.free_variables.specs.Fresh.{is_among}
use Rattle.res_prover.specs.Reached.{apart_by}
use Rattle.res_prover.proofs.Renamed.{named_image}
use Rattle.res_prover.proofs.renaming.renamed.Goals as goal

pub returns : goal.returns
returns c =
    let listed = c.as_slice.ensures.value ∙ c.in_ok-vars.ensures in
    c.in_ok-image.ensures
    ∙ named_image c.in_ok-map.map (apart_by c.args.is_second) c.args.clause.now (λ v e. c.in_ok-map.ensures.names v (ap (is_among v) listed ∙ e))
