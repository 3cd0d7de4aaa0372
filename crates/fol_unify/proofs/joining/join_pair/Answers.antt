-- One step, by the lemmas on it.
use Rattle.std.proofs.Common.{rules, ◌<◌, ◌++◌, ◌∷◌, [], sym, subst, ◌∙◌}
use Rattle.fol_unify.specs.Classes.{Leads}
use Rattle.fol_unify.specs.Shapes.{IsDecision}
use Rattle.fol_unify.specs.Solving.{IsUnifying}
use Rattle.fol_unify.specs.Joining.{pairs_of, work_left}
use Rattle.fol_unify.proofs.Walks.{at_root}
use Rattle.fol_unify.proofs.Joined.{pair_is, root_kinds, clashes, dropped, after_joining}
use Rattle.fol_unify.proofs.Counted.{less_joined}
use Rattle.fol_unify.proofs.joining.join_pair.Goals as goal

pub returns-then-first-other-clause-unifying : goal.returns-then-first-other-clause-unifying
returns-then-first-other-clause-unifying c =
    dropped c.args.cells.now c.args.equations.now c.args.classes.now c.args.work.now.items c.args.pair.0 c.args.pair.1 c.requires c.root-first.result c.root-first.ensures.leads
    (subst (Leads c.args.classes.now c.args.pair.1) (sym c.if-first-other.true) c.root-other.ensures.leads)

pub decide-decision-requires-clause-kinds : goal.decide-decision-requires-clause-kinds
decide-decision-requires-clause-kinds c =
    (root_kinds c.args.cells.now c.args.equations.now c.args.classes.now c.args.work.now.items c.args.pair.0 c.args.pair.1 c.requires c.root-first.result c.root-other.result c.root-first.ensures.leads c.root-other.ensures.leads).0

pub decide-decision-requires-clause-known : goal.decide-decision-requires-clause-known
decide-decision-requires-clause-known c e =
    (pair_is c.args.cells.now c.args.equations.now c.args.classes.now c.args.work.now.items c.args.pair.0 c.args.pair.1 c.requires).known
    ((root_kinds c.args.cells.now c.args.equations.now c.args.classes.now c.args.work.now.items c.args.pair.0 c.args.pair.1 c.requires c.root-first.result c.root-other.result c.root-first.ensures.leads c.root-other.ensures.leads).1 ∙ e)

pub join_roots-requires-clause-first_root : goal.join_roots-requires-clause-first_root
join_roots-requires-clause-first_root c = at_root c.args.classes.now c.args.pair.0 c.root-first.result c.root-first.ensures.leads

pub join_roots-requires-clause-other_root : goal.join_roots-requires-clause-other_root
join_roots-requires-clause-other_root c = at_root c.args.classes.now c.args.pair.1 c.root-other.result c.root-other.ensures.leads

pub returns-in_err-join_roots-clause-none : goal.returns-in_err-join_roots-clause-none
returns-in_err-join_roots-clause-none c is =
    clashes c.args.cells.now c.args.equations.now c.args.classes.now c.args.work.now.items c.args.pair.0 c.args.pair.1 c.requires c.root-first.result c.root-other.result c.root-first.ensures.leads c.root-other.ensures.leads
    (subst (IsDecision c.args.cells.now c.root-first.result c.root-other.result) (c.join_roots.ensures.none (search rules)) c.decide-decision.ensures)

pub returns-clause-unifying : goal.returns-clause-unifying
returns-clause-unifying c =
    subst (IsUnifying c.args.cells.now c.args.equations.now c.join_roots.new.classes) (sym c.in_ok-push_pairs.ensures)
    (after_joining c.args.cells.now c.args.equations.now c.args.classes.now c.join_roots.new.classes c.args.work.now.items c.args.pair.0 c.args.pair.1 c.root-first.result c.root-other.result (pairs_of c.decide-decision.result) c.requires c.root-first.ensures.leads c.root-other.ensures.leads c.if-first-other.false c.in_ok-join_roots.ensures.joined)

pub returns-clause-smaller : goal.returns-clause-smaller
returns-clause-smaller c =
    let ls = c.args.classes.now in
    subst (λ ws. work_left c.join_roots.new.classes ws < work_left ls (c.args.work.now.items ++ c.args.pair ∷ [])) (sym c.in_ok-push_pairs.ensures)
    (less_joined c.args.cells.now ls c.join_roots.new.classes c.args.work.now.items c.args.pair c.decide-decision.result c.root-first.result c.root-other.result c.root-first.ensures.below c.root-other.ensures.below
    (at_root ls c.args.pair.0 c.root-first.result c.root-first.ensures.leads) (at_root ls c.args.pair.1 c.root-other.result c.root-other.ensures.leads) c.if-first-other.false c.in_ok-join_roots.ensures.joined)
