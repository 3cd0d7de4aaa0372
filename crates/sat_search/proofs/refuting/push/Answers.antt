use Rattle.std.proofs.Common.{◌≡◌, length, rules}
use Rattle.sat_search.specs.Grounds.{clauses_of}
use Rattle.sat_search.proofs.Deriving.{one_more}
use Rattle.sat_search.proofs.refuting.push.Goals as goal

pub returns : goal.returns
returns c =
    let here : c.len-number.result ≡ length c.args.steps.now.items = search rules in
    rw c.in_ok-push.ensures.items (one_more (clauses_of c.args.clauses.now) c.args.steps.now.items c.args.step (record { step = c.len-number.result; clause = c.args.clause }) c.requires.sound here c.requires.derives)
