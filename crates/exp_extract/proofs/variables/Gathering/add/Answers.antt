-- The table stays right.
use Rattle.exp_extract.proofs.Gathered.{gathering_stays}
use Rattle.exp_extract.proofs.variables.Gathering.add.Goals as goal

pub returns-clause-gathering : goal.returns-clause-gathering
returns-clause-gathering c = gathering_stays c.args.graph.now c.args.self.now.seen c.args.self.now.vars c.add_each.new.known c.add_each.ensures.kept c.requires
