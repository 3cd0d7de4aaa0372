-- The number is that of the main formula's address.
use Rattle.std.proofs.Common.{List, sym, subst}
use Rattle.extraction_laws.specs.Addresses.{Address}
use Rattle.exp_extract.specs.Entries.{IsChild}
use Rattle.exp_extract.specs.Sides.{context_in}
use Rattle.exp_extract.proofs.NumberedFormulas.{context_child}
use Rattle.exp_extract.proofs.inferences.open_main.Goals as goal

pub open-requires : goal.open-requires
open-requires c = (context_child c.args.marks.now.addresses c.args.end.now c.args.sides.now c.requires c.args.side c.args.main.now c.in_ok-place.place c.in_ok-place.ensures).0

pub returns-clause-place : goal.returns-clause-place
returns-clause-place c =
    let bs = c.args.marks.now.addresses in
    subst (λ (cs : List Address). IsChild cs (context_in bs c.args.end.now c.args.sides.now c.args.side c.args.main.now) c.in_ok-place.place) (sym c.open.ensures.addresses)
    (context_child bs c.args.end.now c.args.sides.now c.requires c.args.side c.args.main.now c.in_ok-place.place c.in_ok-place.ensures)
