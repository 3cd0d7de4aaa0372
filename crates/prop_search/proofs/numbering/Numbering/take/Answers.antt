use Rattle.std.proofs.Common.{not, ◌&&◌, eqb, ap, ◌∙◌}
use Rattle.prop_search.specs.Bits.{has_number}
use Rattle.prop_search.proofs.SequentsOf.{fit_less, sequent_less}
use Rattle.prop_search.proofs.numbering.Numbering.take.Goals as goal

pub returns-clause-fit : goal.returns-clause-fit
returns-clause-fit c =
    fit_less c.args.self.now c.known.ensures c.args.sequent.now c.remove.new.self c.requires.fit c.args.number c.requires.within c.remove.ensures.room c.args.side
    (λ n. c.remove.ensures.numbers n ∙ ap (λ k. not (eqb n k) && has_number c.args.sequent.now n) c.place-place.ensures)

pub returns-clause-sequent : goal.returns-clause-sequent
returns-clause-sequent c =
    sequent_less c.args.self.now c.known.ensures c.args.sequent.now c.remove.new.self c.requires.fit c.args.number c.requires.within c.remove.ensures.room c.args.side
    (λ n. c.remove.ensures.numbers n ∙ ap (λ k. not (eqb n k) && has_number c.args.sequent.now n) c.place-place.ensures)
