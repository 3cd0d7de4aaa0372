-- What the map of the instances finds.
use Rattle.std.proofs.Common.{sym, ◌∙◌, subst}
use Rattle.extraction_laws.specs.Addresses.{via}
use Rattle.exp_extract.specs.Marked.{address_in}
use Rattle.exp_extract.specs.Entries.{FindsChild}
use Rattle.exp_extract.proofs.places.Places.via.Goals as goal

pub returns : goal.returns
returns c = subst (FindsChild c.args.self.now (via (address_in c.args.self.now c.args.place) c.args.term.now)) (sym (c.copied.ensures ∙ c.get.ensures.value)) (c.vias.ensures.places c.args.term.now)
