-- The inferences are right over the proofs of what is searched.
use Rattle.cut_intro.proofs.Performed.{left_right, right_right, root_right, is_performed}
use Rattle.turn_log.proofs.Prefixes.{prefix_trans}
use Rattle.cut_intro.proofs.performing.finish.Goals as goal

pub over-requires-clause-right : goal.over-requires-clause-right
over-requires-clause-right g c = left_right c.args.end.now c.args.cutting c.requires.ready c.args.first.tree c.requires.first_found

pub over-requires-2-clause-right : goal.over-requires-2-clause-right
over-requires-2-clause-right g c = right_right c.args.end.now c.args.cutting c.requires.ready c.args.second.tree c.requires.second_found

pub intern-requires-clause-inference : goal.intern-requires-clause-inference
intern-requires-clause-inference g c =
    root_right c.args.end.now c.args.cutting c.requires.ready c.args.first.tree c.args.second.tree c.requires.first_found c.requires.second_found c.in_ok-end.end c.in_ok-first.first.tree c.in_ok-second.second.tree c.in_ok-end.ensures c.in_ok-first.ensures.made.1 c.in_ok-second.ensures.made.1

pub returns-clause-proof : goal.returns-clause-proof
returns-clause-proof g c =
    is_performed c.args.end.now c.args.cutting c.requires.ready c.args.first.tree c.args.second.tree c.requires.first_found c.requires.second_found c.in_ok-end.end c.in_ok-first.first.tree c.in_ok-second.second.tree c.in_ok-end.ensures c.in_ok-first.ensures.made.1 c.in_ok-second.ensures.made.1 c.in_ok-proof.proof.tree c.in_ok-proof.ensures.tree

pub returns-clause-extends : goal.returns-clause-extends
returns-clause-extends g c =
    (c.intern.ensures.pass_stays, prefix_trans _ _ _ c.over.ensures.extends.1 (prefix_trans _ _ _ c.over-2.ensures.extends.1 c.intern.ensures.grown))
