-- By the entry of the number.
use Rattle.std.proofs.Common.{length, ap, arith}
use Rattle.exp_extract.proofs.MoreEntries.{length_of}
use Rattle.exp_extract.proofs.Entered.{read_entry}
use Rattle.exp_extract.proofs.places.Places.vias.Goals as goal

pub index-requires : goal.index-requires
index-requires c = omega (arith, ap length c.self.view_is, length_of c.self.inside.entries.items, c.self.inside.entries.ok.0)

pub returns-clause-places : goal.returns-clause-places
returns-clause-places c = (read_entry c.self.inside.entries.items c.args.self.now c.args.place c.index.result.now c.self.view_is c.self.invariant c.requires c.index.ensures).vias

pub returns-clause-formed : goal.returns-clause-formed
returns-clause-formed c = (read_entry c.self.inside.entries.items c.args.self.now c.args.place c.index.result.now c.self.view_is c.self.invariant c.requires c.index.ensures).terms
