-- Two lists with a first term become equal where their parts do.
use Rattle.fol_unify.proofs.Decomposed.{fronts_level}
use Rattle.fol_unify.proofs.shapes.decide.Goals as goal

pub returns-in-Front-Front : goal.returns-in-Front-Front
returns-in-Front-Front c =
    fronts_level c.args.cells.now c.args.first c.args.other c.in-Front-Front.term c.in-Front-Front.terms c.in-Front-Front.next c.in-Front-Front.others c.requires.first c.requires.other c.in-Front-Front.ensures c.in-Front-Front.ensures'
