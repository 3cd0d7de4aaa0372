use Rattle.std.proofs.Common.{refl, sym, ap, ◌∙◌}
use Rattle.std.proofs.lemmas.Option.{slice_get_read}
use Rattle.std.proofs.lemmas.List.Folds.{list_all-map}
use Rattle.finite.specs.Finite as set
use Rattle.ground_laws.specs.Models.{satisfies, occurs}
use Rattle.sat_search.specs.Grounds.{clause_of, clauses_of}
use Rattle.sat_search.proofs.OwnAtoms.{own_positive, own_members}
use Rattle.sat_search.proofs.models.model.Goals as goal

pub loop-clause-preserved : goal.loop-clause-preserved
loop-clause-preserved c =
    let gs = c.args.clauses.now in
    let own = own_positive gs c.loop-clause.clause-index c.clause-item.result (slice_get_read gs _ c.loop-clause.clause-index c.clause-item.result refl c.loop-clause-test.true c.clause-item.is) in
    record {
      formed = c.in_ok-push_true.ensures.formed c.loop-clause.invariant.formed;
      own = c.in_ok-push_true.ensures.own (occurs (clauses_of gs)) own c.loop-clause.invariant.own;
    }

pub returns : goal.returns
returns c =
    let gs = c.args.clauses.now in
    record {
      own = λ f m. own_members gs c.loop-clause.atoms.items c.loop-clause.invariant.own f (sym (ap (λ s. set.has s f) c.in_ok-atoms.ensures) ∙ m);
      satisfied = list_all-map (satisfies c.in_ok-atoms.atoms) clause_of gs ∙ sym c.all_hold.ensures ∙ c.if-not-all_hold.false;
    }
