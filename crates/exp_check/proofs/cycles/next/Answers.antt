-- A link leads on, or it doesn't.
use Rattle.std.proofs.Common.{Some, length, get_or, sym, ap, ◌∙◌}
use Rattle.exp_check.specs.declared.links.Link.{Link}
use Rattle.exp_check.proofs.WayLaws.{lesser, next_none, next_more, next_same}
use Rattle.exp_check.proofs.cycles.next.Goals as goal
use Rattle.exp_check.proofs.cycles.next.Goals.{then-is_way+in-Some, then-is_way+in-None, else-is_way}

pub loop-link-init : goal.loop-link-init
loop-link-init c = next_none c.args.number c.args.distance (length c.args.distances.now) c.args.distances.now

pub loop-link-preserved : goal.loop-link-preserved
loop-link-preserved c =
    let d : Link = record { before = 0; after = 0 } in
    let i = c.loop-link.link-index in
    let ls = c.args.links.now in
    let n = length c.args.distances.now in
    let after = (get_or ls i d).after in
    elim c.if-is_way.branch [
      | then-is_way+in-Some w ↦
          w.next-is ∙ ap Some w.min.ensures ∙ ap (λ o. Some (lesser after o)) (sym w.in-Some.is)
          ∙ next_more ls c.args.number c.args.distance c.args.distances.now i d n c.loop-link.next c.loop-link-test.true (c.requires i d c.loop-link-test.true).1 (sym c.is_way.ensures ∙ w.if-is_way.true) c.loop-link.invariant
      | then-is_way+in-None w ↦
          w.next-is ∙ ap (λ o. Some (lesser after o)) (sym w.in-None.is)
          ∙ next_more ls c.args.number c.args.distance c.args.distances.now i d n c.loop-link.next c.loop-link-test.true (c.requires i d c.loop-link-test.true).1 (sym c.is_way.ensures ∙ w.if-is_way.true) c.loop-link.invariant
      | else-is_way w ↦
          w.next-is
          ∙ next_same ls c.args.number c.args.distance c.args.distances.now i d n c.loop-link.next c.loop-link-test.true (sym c.is_way.ensures ∙ w.if-is_way.false) c.loop-link.invariant
    ]
