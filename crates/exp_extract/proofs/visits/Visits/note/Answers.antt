-- The proof is gone through, as are those of before.
use Rattle.std.proofs.Common.{sym, subst}
use Rattle.std.specs.Prelude.{Option, nat_eq, IfSome}
use Rattle.std.specs.Map.{lookup}
use Rattle.exp_extract.specs.declared.visits.Visit.{Visit}
use Rattle.exp_extract.specs.Visits.{IsVisit}
use Rattle.exp_extract.proofs.MarkedSets.{either_way}
use Rattle.exp_extract.proofs.Walks.{if_visit}
use Rattle.exp_extract.proofs.visits.Visits.note.Goals as goal

pub returns : goal.returns
returns c =
    let g = c.args.graph.now in
    let ms = c.args.maps.now in
    let m = c.args.marks.now in
    record {
      visits = λ q. either_way c.insert.result
          (λ u. subst (λ (o : Option Visit). IfSome o (IsVisit g ms m)) (sym (u.0 q)) (if_visit g ms m (nat_eq c.args.fingerprint q) _ _ c.requires.visit (c.requires.visits.visits q)))
          (λ e. subst (λ es. IfSome (lookup (nat_eq q) es) (IsVisit g ms m)) (sym e) (c.requires.visits.visits q))
          c.insert.ensures.updates c.insert.ensures.err;
    }
