-- A rising list is the listing of the set that it shows.
use Rattle.std.proofs.lemmas.List.Sums.{list_all-from_AllPass}
use Rattle.fol.specs.Order.{formula_cmp}
use Rattle.fol.specs.Formed.{is_formed}
use Rattle.finite.proofs.Finite.{listing-of_rising}
use Rattle.lk_rules.proofs.formulas.Formulas.from_rising.Goals as goal

pub invariant_of-result : goal.invariant_of-result
invariant_of-result c =
    rw c.in_ok-items.ensures (record {
      rises = c.requires.rises;
      formed = list_all-from_AllPass is_formed c.args.items.items c.requires.formed;
    })

pub returns : goal.returns
returns c = rw c.in_ok-items.ensures (listing-of_rising formula_cmp c.args.items.items c.requires.rises)
