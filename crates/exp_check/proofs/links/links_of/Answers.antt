-- One more edge, and the list in order.
use Rattle.std.proofs.Common.{◌∷◌, [], ◌++◌, take, sym, ap, subst, ◌∙◌, arith}
use Rattle.std.proofs.lemmas.List.{take_more, take_all}
use Rattle.finite.specs.Finite as set
use Rattle.exp_check.specs.Links.{AreLinks}
use Rattle.exp_check.proofs.Numbering.{linked_sorted}
use Rattle.exp_check.proofs.links.links_of.Goals as goal

pub loop-edge-preserved : goal.loop-edge-preserved
loop-edge-preserved c =
    let vs = set.listing c.args.vars.now in
    let es = c.args.edges.now in
    let i = c.loop-edge.edge-index in
    subst (λ fs. AreLinks vs fs c.push_link.new.links.items)
    (ap (λ e. take i es ++ e ∷ []) c.edge-item.is ∙ sym (take_more es i c.edge-item.result c.loop-edge-test.true))
    (c.in_ok-push_link.ensures (take i es) c.loop-edge.invariant)

pub returns : goal.returns
returns c =
    let vs = set.listing c.args.vars.now in
    let es = c.args.edges.now in
    linked_sorted vs es c.loop-edge.links.items c.sort_unstable.new.self.items c.sort_unstable.ensures.permutation
    (subst (λ fs. AreLinks vs fs c.loop-edge.links.items) (take_all c.loop-edge.edge-index es (omega (arith, c.loop-edge-test.false))) c.loop-edge.invariant)
