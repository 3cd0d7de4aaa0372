use Rattle.std.proofs.Common.{◌||◌, eqb, ap, ◌∙◌}
use Rattle.prop_search.specs.Bits.{has_number}
use Rattle.prop_search.proofs.SequentsOf.{fit_more, sequent_more}
use Rattle.prop_search.proofs.numbering.Numbering.add.Goals as goal

pub returns-clause-fit : goal.returns-clause-fit
returns-clause-fit c =
    fit_more c.args.self.now c.known.ensures c.args.sequent.now c.insert.new.self c.requires.fit c.args.part.number c.requires.within c.insert.ensures.room c.args.part.side
    (λ n. c.insert.ensures.numbers n ∙ ap (λ k. eqb n k || has_number c.args.sequent.now n) c.place-place.ensures)

pub returns-clause-sequent : goal.returns-clause-sequent
returns-clause-sequent c =
    sequent_more c.args.self.now c.known.ensures c.args.sequent.now c.insert.new.self c.requires.fit c.args.part.number c.requires.within c.insert.ensures.room c.args.part.side
    (λ n. c.insert.ensures.numbers n ∙ ap (λ k. eqb n k || has_number c.args.sequent.now n) c.place-place.ensures)
