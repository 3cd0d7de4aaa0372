-- The inference is right over what its premises have become, and what is reached from it has the proof's end sequent.
use Rattle.std.proofs.Common.{◌≡◌, ◌+◌, ◌-◌, ◌≤◌, sym, ap, subst, ◌∙◌, arith}
use Rattle.lk_rules.specs.declared.sequent.Sequent.{Sequent}
use Rattle.proof_trees.specs.Trees.{Tree, node, none, more, rule_of, concl, IsValid}
use Rattle.proof_trees.specs.Conclusions.{IsFormedSequent}
use Rattle.proof_graph.specs.declared.node.Node.{Node}
use Rattle.arena_cells.specs.Standing.{tree_at}
use Rattle.arena_cells.proofs.Staying.{is_tree}
use Rattle.cut_elim.proofs.BothPremises.{tree_of_two, valid_over}
use Rattle.cut_elim.proofs.eliminating.eliminate_below.Goals as goal

pub eliminate_in-requires-clause-valid : goal.eliminate_in-requires-clause-valid
eliminate_in-requires-clause-valid g c =
    let a = c.args.arena.now in
    let n = c.args.budget in
    let b = c.args.both in
    let t = c.args.proof.now.tree in
    let l = c.args.left.now.tree in
    let r = c.args.right.now.tree in
    let u = tree_at a b.left.proof in
    let v = tree_at a b.right.proof in
    let root = c.get-root.result.now in
    let both = c.requires.both in
    let results = c.results.ensures in
    let whole : IsValid (node (rule_of t) (concl t) (more l (more r none))) = subst (λ (x : Tree). IsValid x) (tree_of_two t l r c.requires.premises) c.known.ensures.valid in
    let over : IsValid (node (rule_of t) (concl t) (more u (more v none))) = valid_over (rule_of t) (concl t) l r u v whole
    (results.end l u b.left.reductions n both.left) (results.end r v b.right.reductions n both.right)
    (results.valid l u b.left.reductions n whole.1.0 both.left) (results.valid r v b.right.reductions n whole.1.1.0 both.right) in
    let made : IsValid (node root.rule root.end (more u (more v none))) =
    subst (λ (k : Node). IsValid (node k.rule k.end (more u (more v none)))) (sym c.get-root.ensures) over in
    subst (λ (x : Tree). IsValid x) (sym (is_tree c.put_node.new.arena c.in-Ok.number (node root.rule root.end (more u (more v none))) c.in-Ok.ensures.tree)) made

pub overflow_add-result : goal.overflow_add-result
overflow_add-result g c =
    let above = c.args.both.left.reductions + c.args.both.right.reductions in
    let last = c.in-Ok-eliminate_in.last in
    let less : last.reductions ≤ c.args.budget - above = c.budgets.ensures.within (tree_at c.put_node.new.arena c.in-Ok.number) (tree_at c.eliminate_in.new.arena last.proof) last.reductions (c.args.budget - above) c.in-Ok-eliminate_in.ensures.ok in
    omega (arith, less, c.requires.both.within, c.ranges.budget.fits)

pub returns-in-Ok-eliminate_in-clause-formed : goal.returns-in-Ok-eliminate_in-clause-formed
returns-in-Ok-eliminate_in-clause-formed g c =
    let a = c.args.arena.now in
    let above = c.args.both.left.reductions + c.args.both.right.reductions in
    let made = node c.get-root.result.now.rule c.get-root.result.now.end (more (tree_at a c.args.both.left.proof) (more (tree_at a c.args.both.right.proof) none)) in
    let last = c.in-Ok-eliminate_in.last in
    let end : concl (tree_at c.eliminate_in.new.arena last.proof) ≡ c.get-root.result.now.end =
    c.results.ensures.end (tree_at c.put_node.new.arena c.in-Ok.number) (tree_at c.eliminate_in.new.arena last.proof) last.reductions (c.args.budget - above) c.in-Ok-eliminate_in.ensures.ok
    ∙ ap concl (is_tree c.put_node.new.arena c.in-Ok.number made c.in-Ok.ensures.tree) in
    subst (λ (s : Sequent). IsFormedSequent s) (sym end) c.see_formed.ensures

pub returns-in-Ok-eliminate_in-clause-grown : goal.returns-in-Ok-eliminate_in-clause-grown
returns-in-Ok-eliminate_in-clause-grown g c = λ n t h. c.eliminate_in.ensures.grown n t (c.put_node.ensures.grown n t h)

pub returns-clause-grown : goal.returns-clause-grown
returns-clause-grown g c = λ n t h. c.eliminate_in.ensures.grown n t (c.put_node.ensures.grown n t h)
