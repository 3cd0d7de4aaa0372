-- What the walk needs of the premises, and what it comes to.
use Rattle.std.proofs.Common.{◌≡◌, length, sym, ap, ◌∙◌, subst, arith}
use Rattle.std.specs.FinMap as fin
use Rattle.substitution.specs.Image.{IsFormedMap}
use Rattle.substitution.specs.Maps.{Map}
use Rattle.lk_rules.specs.declared.sequent.Sequent.{Sequent}
use Rattle.lk_rules.specs.Rules.{IsWithin}
use Rattle.proof_graph.specs.declared.node.Node.{Node}
use Rattle.proof_trees.specs.Trees.{more, none}
use Rattle.exp_extract.specs.Sides.{AreInner, IsKnownDistinct}
use Rattle.exp_extract.proofs.MarkedSets.{on_ok}
use Rattle.exp_extract.proofs.Walks.{visit_after, visits_stay, met_includes, premise_ready, premise_after}
use Rattle.exp_extract.proofs.AtRoots.{root_right, root_first, root_second, root_inner, root_one, root_later, root_two, first_after, one_tree, two_trees, home_at, first_smaller, second_smaller}
use Rattle.exp_extract.proofs.ToldApart.{premise_among}
use Rattle.exp_extract.proofs.walking.+walk.Goals as goal

pub visit-note-requires-clause-visit : goal.visit-note-requires-clause-visit
visit-note-requires-clause-visit t c =
    visit_after c.args.graph.now c.args.walk.now.maps c.visit_new.new.walk.maps c.args.walk.now.marks c.visit_new.new.walk.marks c.args.proof.now c.in_ok-proof.proof c.args.map c.args.sides c.in_ok-proof.ensures c.requires.of c.requires.ready c.in_ok-visit_new.ensures.after

pub visit_new-returns-in-empty-clause-visits : goal.visit_new-returns-in-empty-clause-visits
visit_new-returns-in-empty-clause-visits t c =
    let met = c.in_ok-inner.ensures in
    visits_stay c.args.graph.now c.args.walk.now.maps c.mark_inference.new.maps c.args.walk.now.marks c.mark_inference.new.marks met.grown met.outside (met_includes c.args.walk.now.marks c.mark_inference.new.marks c.args.walk.now.maps c.mark_inference.new.maps c.get-root.result.now.rule c.get-root.result.now.end c.args.sides.now c.args.map c.in_ok-inner.inner met) met.kept c.args.walk.now.visits c.requires.visits

pub visit_new-visit_premise-requires : goal.visit_new-visit_premise-requires
visit_new-visit_premise-requires t c =
    let rule = ap (λ (n : Node). n.rule) c.get-root.ensures in
    let end = ap (λ (n : Node). n.end) c.get-root.ensures in
    let formed = subst (λ (f : Map). IsFormedMap (fin.get f)) c.get-map.ensures.value c.get-map.ensures.formed in
    let met = c.in_ok-inner.ensures in
    let long : length c.premises.result.now ≡ 1 = omega (arith, c.in-len1.len_at_least, c.in-len1.len_below) in
    let tree = one_tree c.premises.result.now c.only-item.result long c.only-item.is ∙ c.premises.ensures.trees in
    let smaller = first_smaller c.args.proof.now.tree c.only-item.result.tree none tree in (
      omega (arith, c.decreases, smaller),
      (
        visits_stay c.args.graph.now c.args.walk.now.maps c.mark_inference.new.maps c.args.walk.now.marks c.mark_inference.new.marks met.grown met.outside (met_includes c.args.walk.now.marks c.mark_inference.new.marks c.args.walk.now.maps c.mark_inference.new.maps c.get-root.result.now.rule c.get-root.result.now.end c.args.sides.now c.args.map c.in_ok-inner.inner met) met.kept c.args.walk.now.visits c.requires.visits,
        (
          home_at c.args.proof.now.home c.premises.result.now c.only-item.result 0 c.premises.ensures.home (omega (arith, long)) c.only-item.is ∙ c.requires.of,
          (
            root_right c.args.proof.now.tree c.get-root.result.now.rule c.get-root.result.now.end rule end c.requires.ready.tree,
            (root_first c.args.proof.now.tree c.get-root.result.now.rule c.get-root.result.now.end rule end c.only-item.result.tree none tree c.requires.ready.tree, root_inner c.args.proof.now.tree c.get-root.result.now.rule c.get-root.result.now.end rule end c.args.walk.now.maps c.mark_inference.new.maps c.args.walk.now.marks c.mark_inference.new.marks c.args.sides.now c.args.map c.in_ok-inner.inner c.requires.ready formed met),
          ),
        ),
      ),
    )

pub visit_new-returns-in-len1-clause-after : goal.visit_new-returns-in-len1-clause-after
visit_new-returns-in-len1-clause-after t c =
    let rule = ap (λ (n : Node). n.rule) c.get-root.ensures in
    let end = ap (λ (n : Node). n.end) c.get-root.ensures in
    let formed = subst (λ (f : Map). IsFormedMap (fin.get f)) c.get-map.ensures.value c.get-map.ensures.formed in
    let met = c.in_ok-inner.ensures in
    let long : length c.premises.result.now ≡ 1 = omega (arith, c.in-len1.len_at_least, c.in-len1.len_below) in
    let tree = one_tree c.premises.result.now c.only-item.result long c.only-item.is ∙ c.premises.ensures.trees in
    root_one c.args.proof.now.tree c.get-root.result.now.rule c.get-root.result.now.end rule end c.args.walk.now.maps c.mark_inference.new.maps c.args.walk.now.marks c.mark_inference.new.marks c.args.sides.now c.args.map c.in_ok-inner.inner c.requires.ready formed c.visit_premise.result c.only-item.result.tree c.visit_premise.new.walk.maps c.visit_premise.new.walk.marks tree met c.visit_premise.ensures.after

pub visit_new-visit_premise-requires-in-len2 : goal.visit_new-visit_premise-requires-in-len2
visit_new-visit_premise-requires-in-len2 t c =
    let rule = ap (λ (n : Node). n.rule) c.get-root.ensures in
    let end = ap (λ (n : Node). n.end) c.get-root.ensures in
    let formed = subst (λ (f : Map). IsFormedMap (fin.get f)) c.get-map.ensures.value c.get-map.ensures.formed in
    let met = c.in_ok-inner.ensures in
    let long : length c.premises.result.now ≡ 2 = omega (arith, c.in-len2.len_at_least, c.in-len2.len_below) in
    let trees = two_trees c.premises.result.now c.first-item.result c.second-item.result long c.first-item.is c.second-item.is ∙ c.premises.ensures.trees in
    let smaller = first_smaller c.args.proof.now.tree c.first-item.result.tree (more c.second-item.result.tree none) trees in (
      omega (arith, c.decreases, smaller),
      (
        visits_stay c.args.graph.now c.args.walk.now.maps c.mark_inference.new.maps c.args.walk.now.marks c.mark_inference.new.marks met.grown met.outside (met_includes c.args.walk.now.marks c.mark_inference.new.marks c.args.walk.now.maps c.mark_inference.new.maps c.get-root.result.now.rule c.get-root.result.now.end c.args.sides.now c.args.map c.in_ok-inner.inner met) met.kept c.args.walk.now.visits c.requires.visits,
        (
          home_at c.args.proof.now.home c.premises.result.now c.first-item.result 0 c.premises.ensures.home (omega (arith, long)) c.first-item.is ∙ c.requires.of,
          (
            root_right c.args.proof.now.tree c.get-root.result.now.rule c.get-root.result.now.end rule end c.requires.ready.tree,
            (root_first c.args.proof.now.tree c.get-root.result.now.rule c.get-root.result.now.end rule end c.first-item.result.tree (more c.second-item.result.tree none) trees c.requires.ready.tree, root_inner c.args.proof.now.tree c.get-root.result.now.rule c.get-root.result.now.end rule end c.args.walk.now.maps c.mark_inference.new.maps c.args.walk.now.marks c.mark_inference.new.marks c.args.sides.now c.args.map c.in_ok-inner.inner c.requires.ready formed met),
          ),
        ),
      ),
    )

pub visit_new-visit_premise-requires-in-len2-2 : goal.visit_new-visit_premise-requires-in-len2-2
visit_new-visit_premise-requires-in-len2-2 t c =
    let rule = ap (λ (n : Node). n.rule) c.get-root.ensures in
    let end = ap (λ (n : Node). n.end) c.get-root.ensures in
    let formed = subst (λ (f : Map). IsFormedMap (fin.get f)) c.get-map.ensures.value c.get-map.ensures.formed in
    let met = c.in_ok-inner.ensures in
    let long : length c.premises.result.now ≡ 2 = omega (arith, c.in-len2.len_at_least, c.in-len2.len_below) in
    let trees = two_trees c.premises.result.now c.first-item.result c.second-item.result long c.first-item.is c.second-item.is ∙ c.premises.ensures.trees in
    let first = first_after c.args.proof.now.tree c.get-root.result.now.rule c.get-root.result.now.end rule end c.args.walk.now.maps c.mark_inference.new.maps c.args.walk.now.marks c.mark_inference.new.marks c.args.sides.now c.args.map c.in_ok-inner.inner c.requires.ready formed c.first-item.result.tree c.visit_premise-in-len2.new.walk.maps c.visit_premise-in-len2.new.walk.marks met c.in_ok-visit_premise-in-len2.ensures.after in
    let smaller = second_smaller c.args.proof.now.tree c.first-item.result.tree c.second-item.result.tree none trees in (
      omega (arith, c.decreases, smaller),
      (
        c.in_ok-visit_premise-in-len2.ensures.visits,
        (
          home_at c.args.proof.now.home c.premises.result.now c.second-item.result 1 c.premises.ensures.home (omega (arith, long)) c.second-item.is ∙ c.requires.of,
          (
            root_right c.args.proof.now.tree c.get-root.result.now.rule c.get-root.result.now.end rule end c.requires.ready.tree,
            (
              root_second c.args.proof.now.tree c.get-root.result.now.rule c.get-root.result.now.end rule end c.first-item.result.tree c.second-item.result.tree none trees c.requires.ready.tree,
              root_later c.args.proof.now.tree c.get-root.result.now.rule c.get-root.result.now.end rule end c.args.walk.now.maps c.mark_inference.new.maps c.args.walk.now.marks c.mark_inference.new.marks c.args.sides.now c.args.map c.in_ok-inner.inner c.requires.ready formed c.first-item.result.tree c.visit_premise-in-len2.new.walk.maps c.visit_premise-in-len2.new.walk.marks met first,
            ),
          ),
        ),
      ),
    )

pub visit_new-returns-in-len2-clause-after : goal.visit_new-returns-in-len2-clause-after
visit_new-returns-in-len2-clause-after t c =
    let rule = ap (λ (n : Node). n.rule) c.get-root.ensures in
    let end = ap (λ (n : Node). n.end) c.get-root.ensures in
    let formed = subst (λ (f : Map). IsFormedMap (fin.get f)) c.get-map.ensures.value c.get-map.ensures.formed in
    let met = c.in_ok-inner.ensures in
    let long : length c.premises.result.now ≡ 2 = omega (arith, c.in-len2.len_at_least, c.in-len2.len_below) in
    let trees = two_trees c.premises.result.now c.first-item.result c.second-item.result long c.first-item.is c.second-item.is ∙ c.premises.ensures.trees in
    let first = first_after c.args.proof.now.tree c.get-root.result.now.rule c.get-root.result.now.end rule end c.args.walk.now.maps c.mark_inference.new.maps c.args.walk.now.marks c.mark_inference.new.marks c.args.sides.now c.args.map c.in_ok-inner.inner c.requires.ready formed c.first-item.result.tree c.visit_premise-in-len2.new.walk.maps c.visit_premise-in-len2.new.walk.marks met c.in_ok-visit_premise-in-len2.ensures.after in
    root_two c.args.proof.now.tree c.get-root.result.now.rule c.get-root.result.now.end rule end c.args.walk.now.maps c.mark_inference.new.maps c.args.walk.now.marks c.mark_inference.new.marks c.args.sides.now c.args.map c.in_ok-inner.inner c.requires.ready formed c.first-item.result.tree c.visit_premise-in-len2.new.walk.maps c.visit_premise-in-len2.new.walk.marks met first
    c.visit_premise-in-len2-2.result c.second-item.result.tree c.visit_premise-in-len2-2.new.walk.maps c.visit_premise-in-len2-2.new.walk.marks trees c.visit_premise-in-len2-2.ensures.after

pub visit_premise-inner-requires-clause-among : goal.visit_premise-inner-requires-clause-among
visit_premise-inner-requires-clause-among t c side =
    let end = ap (λ (n : Node). n.end) c.get-root.ensures in
    premise_among c.args.rule.now c.args.end.now c.get-root.result.now.end c.in_ok-added.added c.args.place (subst (λ (e : Sequent). IsWithin c.args.rule.now c.args.end.now c.args.place e) (sym end) c.requires.premise.within) c.in_ok-added.ensures side

pub visit_premise-visit-requires : goal.visit_premise-visit-requires
visit_premise-visit-requires t c =
    let end = ap (λ (n : Node). n.end) c.get-root.ensures in
    let numbers = subst (λ (e : Sequent). AreInner c.args.end.now c.args.sides.now c.args.inner.now.auxiliary c.args.place e c.in_ok-inner_sides.inner_sides) end c.in_ok-inner_sides.ensures.inner in
    let distinct = subst (λ (e : Sequent). IsKnownDistinct e c.in_ok-inner_sides.inner_sides) end c.in_ok-inner_sides.ensures.distinct in
    let has = c.requires.inner in (
      omega (arith, c.decreases),
      (
        c.requires.visits,
        (c.requires.of, premise_ready c.args.walk.now.maps c.args.walk.now.marks c.args.rule.now c.args.end.now c.args.sides.now c.in_ok-inner_sides.inner_sides c.args.map c.args.place c.args.inner.now c.args.premise.now.tree has.context has.variable c.requires.right c.requires.premise has.is numbers distinct),
      ),
    )

pub visit_premise-returns-clause-after : goal.visit_premise-returns-clause-after
visit_premise-returns-clause-after t c =
    let end = ap (λ (n : Node). n.end) c.get-root.ensures in
    let numbers = subst (λ (e : Sequent). AreInner c.args.end.now c.args.sides.now c.args.inner.now.auxiliary c.args.place e c.in_ok-inner_sides.inner_sides) end c.in_ok-inner_sides.ensures.inner in
    let distinct = subst (λ (e : Sequent). IsKnownDistinct e c.in_ok-inner_sides.inner_sides) end c.in_ok-inner_sides.ensures.distinct in
    λ d v is. on_ok c.visit.result (premise_after c.args.walk.now.maps c.args.walk.now.marks c.args.rule.now c.args.end.now c.args.sides.now c.in_ok-inner_sides.inner_sides c.args.map c.args.place c.args.inner.now c.args.premise.now.tree d v c.requires.right c.requires.premise is numbers distinct c.visit.new.walk.maps c.visit.new.walk.marks) c.visit.ensures.after
