-- By the entry of the number.
use Rattle.std.proofs.Common.{length, sym, ap, subst, arith}
use Rattle.extraction_laws.specs.Addresses.{part}
use Rattle.exp_extract.specs.Marked.{address_in}
use Rattle.exp_extract.specs.Entries.{FindsChild}
use Rattle.exp_extract.proofs.MoreEntries.{length_of}
use Rattle.exp_extract.proofs.Entered.{read_entry}
use Rattle.exp_extract.proofs.places.Places.part.Goals as goal

pub index-requires : goal.index-requires
index-requires c = omega (arith, c.requires.place, ap length c.self.view_is, length_of c.self.inside.entries.items, c.self.inside.entries.ok.0)

pub returns : goal.returns
returns c =
    subst (FindsChild c.args.self.now (part (address_in c.args.self.now c.args.place) c.args.number)) (sym c.part.ensures)
    ((read_entry c.self.inside.entries.items c.args.self.now c.args.place c.index.result.now c.self.view_is c.self.invariant c.requires.place c.index.ensures).parts c.args.number c.requires.number)
