-- The list rises.
use Rattle.std.proofs.Common.{sym, subst, ap, ◌∙◌}
use Rattle.std.specs.Result.{result_ok}
use Rattle.finite.specs.Finite as set
use Rattle.finite.specs.Place.{place}
use Rattle.finite.proofs.Finite.{listing_rises}
use Rattle.fol.specs.Order.{var_cmp}
use Rattle.exp_check.specs.Links.{IsNumber}
use Rattle.exp_check.proofs.Numbering.{number_by_place}
use Rattle.exp_check.proofs.links.number_of.Goals as goal

pub search-requires : goal.search-requires
search-requires c = subst (set.IsRising var_cmp) (sym c.as_slice.ensures) (listing_rises c.args.vars.now)

pub returns : goal.returns
returns c =
    let vs = set.listing c.args.vars.now in
    subst (IsNumber vs c.args.var.now)
    (sym (c.ok.ensures.value ∙ ap result_ok c.search.ensures ∙ ap (λ us. result_ok (place var_cmp c.args.var.now us)) c.as_slice.ensures))
    (number_by_place c.args.var.now vs (listing_rises c.args.vars.now))
