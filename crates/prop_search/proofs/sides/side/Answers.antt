use Rattle.std.proofs.Common.{filter, sym, subst, ap, ◌∙◌}
use Rattle.std.specs.List.{All}
use Rattle.std.proofs.lemmas.List.Elements.{All-filter}
use Rattle.fol.specs.Formed.{IsFormed}
use Rattle.finite.specs.Finite as set
use Rattle.prop_search.specs.Bits.{has_number}
use Rattle.prop_search.specs.Formulas.{number_of}
use Rattle.prop_search.proofs.Picked.{picked_side}
use Rattle.prop_search.proofs.sides.side.Goals as goal

pub from_vec-requires : goal.from_vec-requires
from_vec-requires c =
    subst (All IsFormed) (sym c.in_ok-picked.ensures)
    (All-filter (λ f. has_number c.args.words.now (number_of c.formulas.result.now f)) IsFormed c.formulas.result.now c.formulas.ensures.formed)

pub returns : goal.returns
returns c =
    c.in_ok-side.ensures
    ∙ ap set.of_list c.in_ok-picked.ensures
    ∙ ap (λ fs. set.of_list (filter (λ f. has_number c.args.words.now (number_of fs f)) fs)) c.formulas.ensures.formulas
    ∙ picked_side c.args.numbering.now (has_number c.args.words.now) c.known.ensures
