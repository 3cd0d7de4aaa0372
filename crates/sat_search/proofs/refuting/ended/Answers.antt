use Rattle.std.proofs.Common.{refl, ◌∙◌}
use Rattle.sat_search.specs.Grounds.{clauses_of}
use Rattle.sat_search.proofs.Deriving.{last_empty}
use Rattle.sat_search.proofs.refuting.ended.Goals as goal

pub returns : goal.returns
returns c =
    let last = c.args.last.now in
    rw (c.from_vec.ensures, c.truncate.ensures.items) (last_empty (clauses_of c.args.clauses.now) c.args.steps.items last c.requires.sound c.requires.derived (c.if-not-is_empty.ensures.same.0 refl ∙ c.empty.ensures))
