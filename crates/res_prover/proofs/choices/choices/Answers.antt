-- At first there are no lists.
use Rattle.std.proofs.Common.{subst}
use Rattle.res_prover.specs.Lists.{lists_of}
use Rattle.res_prover.specs.Choosing.{AddsChoices}
use Rattle.res_prover.proofs.Extensions.{all_choices}
use Rattle.res_prover.proofs.choices.choices.Goals as goal

pub returns : goal.returns
returns c =
    all_choices c.args.atoms.now (lists_of c.push_choices.new.lists.items)
    (subst (λ vs. AddsChoices c.args.atoms.now (lists_of vs) (lists_of c.push_choices.new.lists.items)) c.new-lists.ensures.items c.in_ok-push_choices.ensures)
