use Rattle.std.specs.BTreeSet.{contains}
use Rattle.fol.specs.Order.{var_cmp}
use Rattle.refutations.proofs.FirstOccurrences.{old_on, new_on}
use Rattle.refutations.proofs.variables.push_new.Goals as goal

pub returns-then-contains : goal.returns-then-contains
returns-then-contains c = old_on c.args.firsts.now.items (contains var_cmp c.args.seen.now) c.args.var.now c.contains.result c.contains.ensures c.if-contains.true

pub returns : goal.returns
returns c =
    new_on c.args.firsts.now.items c.push.new.self.items (contains var_cmp c.args.seen.now) (contains var_cmp c.insert.new.self) c.args.var.now c.in_ok-copy.field-0 c.in_ok-copy-2.field-0 c.contains.result
    c.contains.ensures c.if-contains.false c.in_ok-copy.ensures c.in_ok-copy-2.ensures c.in_ok-push.ensures.items c.in_ok-insert.ensures.updates.0
