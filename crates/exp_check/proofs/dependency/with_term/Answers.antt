-- What is in the union.
use Rattle.std.proofs.Common.{◌||◌, ap, ◌∙◌}
use Rattle.finite.specs.Finite as set
use Rattle.exp_check.proofs.EdgeWalk.{has_union}
use Rattle.exp_check.proofs.dependency.with_term.Goals as goal

pub returns : goal.returns
returns c y =
    ap (λ s. set.has s y) c.in_ok-more.ensures ∙ has_union c.args.above.now c.in_ok-term_vars.field-0 y ∙ ap (λ b. set.has c.args.above.now y || b) (c.in_ok-term_vars.ensures.members y)
