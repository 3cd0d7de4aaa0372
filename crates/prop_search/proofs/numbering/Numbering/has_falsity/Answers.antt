use Rattle.std.proofs.Common.{sym, ap, ◌∙◌}
use Rattle.finite.specs.Finite as set
use Rattle.prop_search.specs.Bits.{has_number}
use Rattle.prop_search.specs.Formulas.{side_of}
use Rattle.prop_search.proofs.SideMembers.{has-side_at}
use Rattle.prop_search.proofs.numbering.Numbering.has_falsity.Goals as goal

pub returns : goal.returns
returns c =
    let fs = c.args.self.now in
    let falsity = c.bot.ensures in
    c.has.ensures ∙ (λ i. has_number (c.words.ensures i) (c.place-place.ensures i))
    ∙ sym (has-side_at fs c.known.ensures (has_number c.args.sequent.now) c.bot.result falsity.0)
    ∙ ap (set.has (side_of fs (has_number c.args.sequent.now))) falsity.1
