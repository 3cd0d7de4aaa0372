-- The members of the set are those of the list.
use Rattle.std.proofs.Common.{◌≡◌, ap, ◌∙◌}
use Rattle.std.proofs.lemmas.List.{take_all}
use Rattle.finite.specs.Finite as set
use Rattle.fol.specs.Order.{var_cmp}
use Rattle.def_symbols.proofs.Searches.{listed_members}
use Rattle.def_symbols.proofs.defining.set_of.Goals as goal

pub returns : goal.returns
returns c v =
    let all : c.loop-var.list.items ≡ c.args.vars.now = c.loop-var.invariant ∙ take_all c.loop-var.var-index c.args.vars.now c.loop-var-test.false in
    ap (λ s. set.has s v) c.from_vec.ensures ∙ ap (λ vs. set.has (set.adds_each (set.empty {R = var_cmp}) vs) v) all ∙ listed_members c.args.vars.now v
