-- The walk starts at the formulas of the conclusion.
use Rattle.std.proofs.Common.{sym, ap, ◌∙◌, subst}
use Rattle.fol.specs.Order.{formula_cmp}
use Rattle.finite.specs.Finite as set
use Rattle.finite.proofs.Finite.{listing_rises}
use Rattle.lk_rules.specs.declared.sequent.Side.TheVariants.{Left, Right}
use Rattle.proof_graph.specs.declared.node.Node.{Node}
use Rattle.exp_extract.specs.Fingerprints.{HasDistinctSides}
use Rattle.exp_extract.proofs.RootLists.{all_within}
use Rattle.exp_extract.proofs.Starts.{plain_tree, first_roots, start_ready, end_state, end_roots}
use Rattle.exp_extract.proofs.marked_proof.mark_proof.Goals as goal

pub enter_roots-requires-clause-rises : goal.enter_roots-requires-clause-rises
enter_roots-requires-clause-rises c = subst (set.IsRising formula_cmp) (sym c.left.ensures.listing) (listing_rises c.get.result.now.end.left)

pub enter_roots-requires-2-clause-rises : goal.enter_roots-requires-2-clause-rises
enter_roots-requires-2-clause-rises c = subst (set.IsRising formula_cmp) (sym c.right.ensures.listing) (listing_rises c.get.result.now.end.right)

pub visit_new-requires-clause-ready : goal.visit_new-requires-clause-ready
visit_new-requires-clause-ready c =
    let roots = first_roots c.enter_roots.new.marks c.enter_roots-2.new.marks c.args.proof.now.tree c.get.result.now.end (record { left = c.in_ok-left.left; right = c.in_ok-right.right; distinct = c.has_distinct_sides.result }) c.left.result.now c.right.result.now c.in_ok-right.ensures.grown
    (ap (λ (n : Node). n.end) c.get.ensures) c.left.ensures.listing c.right.ensures.listing c.in_ok-left.ensures.addresses c.in_ok-left.ensures.within c.in_ok-right.ensures.addresses c.in_ok-right.ensures.within
    in
    start_ready c.in_ok-new.field-0 _ c.enter_roots-2.new.marks c.args.proof.now.tree (record { left = c.in_ok-left.left; right = c.in_ok-right.right; distinct = c.has_distinct_sides.result }) c.in_ok-new.ensures roots c.marks-2.view_is (plain_tree c.args.proof.now.tree c.known.ensures.valid c.requires.cut_free c.requires.bodies)
    (λ distinct. subst HasDistinctSides (ap (λ (n : Node). n.end) c.get.ensures) (c.has_distinct_sides.ensures distinct))

pub returns-clause-state : goal.returns-clause-state
returns-clause-state c =
    let roots = first_roots c.enter_roots.new.marks c.enter_roots-2.new.marks c.args.proof.now.tree c.get.result.now.end (record { left = c.in_ok-left.left; right = c.in_ok-right.right; distinct = c.has_distinct_sides.result }) c.left.result.now c.right.result.now c.in_ok-right.ensures.grown
    (ap (λ (n : Node). n.end) c.get.ensures) c.left.ensures.listing c.right.ensures.listing c.in_ok-left.ensures.addresses c.in_ok-left.ensures.within c.in_ok-right.ensures.addresses c.in_ok-right.ensures.within
    in
    end_state c.in_ok-new.field-0 _ c.enter_roots-2.new.marks c.args.proof.now.tree (record { left = c.in_ok-left.left; right = c.in_ok-right.right; distinct = c.has_distinct_sides.result }) c.in_ok-new.ensures roots c.marks-2.view_is c.visit_new.new.walk.maps c.visit_new.new.walk.marks c.in_ok-visit_new.ensures.after c.known.ensures.valid
    (c.in_ok-right.ensures.outside ∙ (c.in_ok-left.ensures.outside ∙ (c.in_ok-marks.ensures.outside ∙ c.requires.outside)))
    (c.in_ok-right.ensures.state ∙ (c.in_ok-left.ensures.state ∙ c.in_ok-marks.ensures.state))

pub returns-clause-left : goal.returns-clause-left
returns-clause-left c =
    let roots = first_roots c.enter_roots.new.marks c.enter_roots-2.new.marks c.args.proof.now.tree c.get.result.now.end (record { left = c.in_ok-left.left; right = c.in_ok-right.right; distinct = c.has_distinct_sides.result }) c.left.result.now c.right.result.now c.in_ok-right.ensures.grown
    (ap (λ (n : Node). n.end) c.get.ensures) c.left.ensures.listing c.right.ensures.listing c.in_ok-left.ensures.addresses c.in_ok-left.ensures.within c.in_ok-right.ensures.addresses c.in_ok-right.ensures.within
    in
    (end_roots c.in_ok-new.field-0 _ c.enter_roots-2.new.marks c.args.proof.now.tree (record { left = c.in_ok-left.left; right = c.in_ok-right.right; distinct = c.has_distinct_sides.result }) c.in_ok-new.ensures roots c.marks-2.view_is c.visit_new.new.walk.maps c.visit_new.new.walk.marks c.in_ok-visit_new.ensures.after).roots Left

pub returns-clause-right : goal.returns-clause-right
returns-clause-right c =
    let roots = first_roots c.enter_roots.new.marks c.enter_roots-2.new.marks c.args.proof.now.tree c.get.result.now.end (record { left = c.in_ok-left.left; right = c.in_ok-right.right; distinct = c.has_distinct_sides.result }) c.left.result.now c.right.result.now c.in_ok-right.ensures.grown
    (ap (λ (n : Node). n.end) c.get.ensures) c.left.ensures.listing c.right.ensures.listing c.in_ok-left.ensures.addresses c.in_ok-left.ensures.within c.in_ok-right.ensures.addresses c.in_ok-right.ensures.within
    in
    (end_roots c.in_ok-new.field-0 _ c.enter_roots-2.new.marks c.args.proof.now.tree (record { left = c.in_ok-left.left; right = c.in_ok-right.right; distinct = c.has_distinct_sides.result }) c.in_ok-new.ensures roots c.marks-2.view_is c.visit_new.new.walk.maps c.visit_new.new.walk.marks c.in_ok-visit_new.ensures.after).roots Right

pub returns-clause-left_places : goal.returns-clause-left_places
returns-clause-left_places c =
    let roots = first_roots c.enter_roots.new.marks c.enter_roots-2.new.marks c.args.proof.now.tree c.get.result.now.end (record { left = c.in_ok-left.left; right = c.in_ok-right.right; distinct = c.has_distinct_sides.result }) c.left.result.now c.right.result.now c.in_ok-right.ensures.grown
    (ap (λ (n : Node). n.end) c.get.ensures) c.left.ensures.listing c.right.ensures.listing c.in_ok-left.ensures.addresses c.in_ok-left.ensures.within c.in_ok-right.ensures.addresses c.in_ok-right.ensures.within
    in
    all_within c.visit_new.new.walk.marks.addresses c.in_ok-left.left.items ((end_roots c.in_ok-new.field-0 _ c.enter_roots-2.new.marks c.args.proof.now.tree (record { left = c.in_ok-left.left; right = c.in_ok-right.right; distinct = c.has_distinct_sides.result }) c.in_ok-new.ensures roots c.marks-2.view_is c.visit_new.new.walk.maps c.visit_new.new.walk.marks c.in_ok-visit_new.ensures.after).within Left)

pub returns-clause-right_places : goal.returns-clause-right_places
returns-clause-right_places c =
    let roots = first_roots c.enter_roots.new.marks c.enter_roots-2.new.marks c.args.proof.now.tree c.get.result.now.end (record { left = c.in_ok-left.left; right = c.in_ok-right.right; distinct = c.has_distinct_sides.result }) c.left.result.now c.right.result.now c.in_ok-right.ensures.grown
    (ap (λ (n : Node). n.end) c.get.ensures) c.left.ensures.listing c.right.ensures.listing c.in_ok-left.ensures.addresses c.in_ok-left.ensures.within c.in_ok-right.ensures.addresses c.in_ok-right.ensures.within
    in
    all_within c.visit_new.new.walk.marks.addresses c.in_ok-right.right.items ((end_roots c.in_ok-new.field-0 _ c.enter_roots-2.new.marks c.args.proof.now.tree (record { left = c.in_ok-left.left; right = c.in_ok-right.right; distinct = c.has_distinct_sides.result }) c.in_ok-new.ensures roots c.marks-2.view_is c.visit_new.new.walk.maps c.visit_new.new.walk.marks c.in_ok-visit_new.ensures.after).within Right)
