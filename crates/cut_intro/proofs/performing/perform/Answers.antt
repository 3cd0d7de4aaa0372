-- What is answered where one of the searches visits too many sequents.
use Rattle.std.proofs.lemmas.Result.{err_from_is_err_and}
use Rattle.search_laws.specs.Search.{walk}
use Rattle.cut_intro.proofs.Performed.{short_first, short_second}
use Rattle.cut_intro.proofs.performing.perform.Goals as goal

pub returns-in_err-check-clause-made : goal.returns-in_err-check-clause-made
returns-in_err-check-clause-made g c =
    let p = err_from_is_err_and c.from_residual.result c.from_residual.ensures.1 in
    rw (p.1, p.2) (short_second c.in_err-check.field-0.0 c.args.budget (walk c.args.cutting.left.searched) (walk c.args.cutting.right.searched) c.in_err-check.ensures.short)

pub returns-in_err-first-clause-made : goal.returns-in_err-first-clause-made
returns-in_err-first-clause-made g c =
    let p = err_from_is_err_and c.from_residual-in_err-first.result c.from_residual-in_err-first.ensures.1 in
    rw (p.1, p.2) (short_first c.in_err-first.field-0.0 c.args.budget (walk c.args.cutting.left.searched) (walk c.args.cutting.right.searched) c.in_err-first.ensures.short)

pub returns-clause-made : goal.returns-clause-made
returns-clause-made g c = (c.in_ok-first.ensures.within, c.in_ok-check.ensures.within, c.in_ok-proof.ensures.proof)
