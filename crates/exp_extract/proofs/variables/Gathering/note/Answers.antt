-- One more proof whose variables are there.
use Rattle.std.proofs.Common.{sym, subst}
use Rattle.proof_graph.specs.References.{Reference}
use Rattle.exp_extract.specs.Gathering.{IsGathered}
use Rattle.exp_extract.proofs.Gathered.{gathered_more}
use Rattle.exp_extract.proofs.variables.Gathering.note.Goals as goal

pub returns-clause-gathering : goal.returns-clause-gathering
returns-clause-gathering c =
    gathered_more c.args.graph.now c.args.self.now.vars c.args.self.now.seen c.insert.new.self c.number.result c.in_ok-keep.field-0 c.requires.gathering c.in_ok-insert.ensures.updates
    (subst (λ (r : Reference). IsGathered c.args.graph.now c.args.self.now.vars r) (sym c.in_ok-keep.ensures) (record { of = c.requires.of; vars = c.requires.known }))
