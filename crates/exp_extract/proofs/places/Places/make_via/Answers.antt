-- The number that is found or entered.
use Rattle.std.proofs.Common.{sym}
use Rattle.extraction_laws.specs.Addresses.{via}
use Rattle.extraction_laws.proofs.Marks.{already_there}
use Rattle.exp_extract.specs.Marked.{address_in}
use Rattle.exp_extract.proofs.Entered.{child_listed, pushed_child}
use Rattle.exp_extract.proofs.places.Places.make_via.Goals as goal

pub returns-in-Some-clause-ok : goal.returns-in-Some-clause-ok
returns-in-Some-clause-ok c =
    let b = via (address_in c.args.self.now c.args.place) c.args.term.now in
    sym (already_there b c.args.self.now (child_listed c.args.self.now b c.in-Some.known c.in-Some.ensures))

pub returns-clause-child : goal.returns-clause-child
returns-clause-child c =
    pushed_child c.push_via.result c.args.self.now c.push_via.new.self (via (address_in c.args.self.now c.args.place) c.args.term.now) c.push_via.ensures.number c.push_via.ensures.ok
