use Rattle.std.proofs.Common.{sym, subst}
use Rattle.cut_elim.specs.Desks.{IsDeskPassOf}
use Rattle.proof_server.proofs.Endings.{nothing_done}
use Rattle.proof_server.proofs.serving.serve_over.Goals as goal

pub returns-in-Err-clause-ends : goal.returns-in-Err-clause-ends
returns-in-Err-clause-ends g c = nothing_done _ _ _

pub serve_lines-ended-requires-clause-session : goal.serve_lines-ended-requires-clause-session
serve_lines-ended-requires-clause-session g c κs within =
    c.new-session.ensures c.args.desk.now (subst (IsDeskPassOf c.args.desk.now) (sym c.replace.ensures.value) c.split-spare.ensures.pass_stays)
