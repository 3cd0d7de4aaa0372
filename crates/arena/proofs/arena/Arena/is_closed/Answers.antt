-- What is kept tells whether the formula is closed.
use Rattle.std.specs.Cmp.{unsigned_Decides}
use Rattle.arena.proofs.OpenLaws.{closed_known}
use Rattle.arena.proofs.arena.Arena.is_closed.Goals as goal

pub returns-in-Some-Some : goal.returns-in-Some-Some
returns-in-Some-Some c =
    closed_known c.args.self.now c.args.formula c.requires c.in-Some-Some.vars c.in-Some-Some.none _ c.known.ensures c.in-Some-Some.ensures c.in-Some-Some.ensures'
    (unsigned_Decides c.in-Some-Some.vars c.in-Some-Some.none)
