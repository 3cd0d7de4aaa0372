-- With one more entry.
use Rattle.exp_extract.proofs.Entered.{root_entered}
use Rattle.exp_extract.proofs.places.Places.root.Goals as goal

pub invariant_of-self-2 : goal.invariant_of-self-2
invariant_of-self-2 c =
    (root_entered c.self.inside.entries.items c.args.self.now c.self.view_is c.self.invariant c.args.formula c.args.side c.new.result c.requires.formed c.new.ensures.empty
    c.push.new.self.items c.new.ensures.fields c.in_ok-push.ensures.items c.requires.absent).entries

pub returns-clause-ok : goal.returns-clause-ok
returns-clause-ok c =
    (root_entered c.self.inside.entries.items c.args.self.now c.self.view_is c.self.invariant c.args.formula c.args.side c.new.result c.requires.formed c.new.ensures.empty
    c.push.new.self.items c.new.ensures.fields c.in_ok-push.ensures.items c.requires.absent).addresses
