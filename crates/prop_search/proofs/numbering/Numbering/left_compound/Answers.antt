use Rattle.std.proofs.Common.{take, ◌∙◌}
use Rattle.search_laws.specs.Search.{is_compound}
use Rattle.prop_search.specs.Bits.{has_number}
use Rattle.prop_search.proofs.LeastFormulas.{IsLeastFormula, least_left}
use Rattle.prop_search.proofs.numbering.Numbering.left_compound.Goals as goal

least : (c : goal.After-first_common) → IsLeastFormula c.args.self.now is_compound (has_number c.args.sequent.now) c.first_common.result
least c =
    let at = c.split_at.ensures in
    let width = c.width-width.ensures.width in
    let words = c.words.ensures in
    let h = c.first_common.ensures in
    least_left c.args.self.now c.known.ensures c.args.sequent.now c.requires c.compounds.result.now is_compound c.compounds.ensures c.split_at.result.0.now c.first_common.result
    (at.front ∙ (λ i. take (width i) (words i))) (at.front_len ∙ width)
    (record { within = h.within; found = h.found; least = h.least; none = h.none })

pub returns-clause-within : goal.returns-clause-within
returns-clause-within c = (least c).within

pub returns-clause-compound : goal.returns-clause-compound
returns-clause-compound c = (least c).passes

pub returns-clause-least : goal.returns-clause-least
returns-clause-least c = (least c).least
