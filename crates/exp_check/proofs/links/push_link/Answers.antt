-- Both variables have numbers, or there is no link.
use Rattle.std.proofs.Common.{[], ◌∷◌, ◌++◌, sym, subst}
use Rattle.finite.specs.Finite as set
use Rattle.exp_check.specs.Links.{IsNumber, AreLinks}
use Rattle.exp_check.proofs.Numbering.{linked_more, after_outside}
use Rattle.exp_check.proofs.links.push_link.Goals as goal

pub returns-in_default-number_of : goal.returns-in_default-number_of
returns-in_default-number_of c =
    let vs = set.listing c.args.vars.now in
    λ es. after_outside vs es c.args.links.now.items c.args.edge.now (subst (IsNumber vs c.args.edge.now.after) c.in_default-number_of.is c.number_of-2.ensures)

pub returns : goal.returns
returns c =
    let vs = set.listing c.args.vars.now in
    λ es h.
    subst (AreLinks vs (es ++ c.args.edge.now ∷ [])) (sym c.in_ok-push.ensures.items)
    (linked_more vs es c.args.links.now.items c.args.edge.now c.in-Some.before c.in-Some-number_of.after
    (subst (IsNumber vs c.args.edge.now.before) c.in-Some.is c.number_of.ensures)
    (subst (IsNumber vs c.args.edge.now.after) c.in-Some-number_of.is c.number_of-2.ensures) h)
