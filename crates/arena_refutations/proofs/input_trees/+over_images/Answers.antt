-- The proof over a closure has that over an instance above it.
use Rattle.std.proofs.Common.{◌≡◌, ℕ, map as each, sym, ap, ◌∙◌, arith}
use Rattle.std.specs.Prelude.{Some}
use Rattle.std.specs.FinMap as fin
use Rattle.fol.specs.declared.symbols.Var.{Var}
use Rattle.fol.specs.Syntax.{Term, free}
use Rattle.substitution.specs.Instance.{inst}
use Rattle.substitution.specs.Image.{image_term}
use Rattle.lk_rules.specs.declared.sequent.Side.TheVariants.{Left}
use Rattle.lk_rules.specs.declared.rule.Rule.TheVariants.{AllL}
use Rattle.lk_rules.specs.Sequents.{adds_to}
use Rattle.proof_trees.specs.Trees.{node, none, more}
use Rattle.arena_cells.specs.Items.{tree}
use Rattle.arena_cells.specs.Standing.{Extends, HasTree, map_at, sequent_at, formula_at, term_at, tree_at}
use Rattle.arena_cells.proofs.Staying.{is_term, is_formula, is_sequent, is_tree, sequent_stays, formula_stays, sequent_there, formula_there}
use Rattle.arena_cells.proofs.Reading.{if_ok}
use Rattle.arena_cells.proofs.Facts as facts
use Rattle.arena.proofs.Results.{map_stays, map_there}
use Rattle.refutations.specs.Refutations.{body_of}
use Rattle.image_laws.specs.Terms.{over_terms}
use Rattle.arena_refutations.proofs.input_trees.+over_images.Goals as goal

pub over_images-requires : goal.over_images-requires
over_images-requires t c =
    let e = c.sequent_with.new.self in
    let grown : Extends c.args.arena.now e = λ n x h. c.sequent_with.ensures.grown n x (c.instance.ensures.grown n x (c.image_of_term.ensures.grown n x (c.import_variable.ensures.grown n x h))) in (
      omega (arith, c.in-Some.ensures.cases.1),
      (
        facts.sequent_there e _ _ c.in_ok-above.ensures.sequent,
        (facts.formula_there e _ _ (c.sequent_with.ensures.grown _ _ c.in_ok-next.ensures.formula), map_there c.args.arena.now e grown c.args.map c.requires.map),
      ),
    )

pub returns-in_err-premise-clause-grown : goal.returns-in_err-premise-clause-grown
returns-in_err-premise-clause-grown t c = λ n x h. c.over_images.ensures.grown n x (c.sequent_with.ensures.grown n x (c.instance.ensures.grown n x (c.image_of_term.ensures.grown n x (c.import_variable.ensures.grown n x h))))

pub inference-requires-clause-rule : goal.inference-requires-clause-rule
inference-requires-clause-rule t c = (
  formula_there c.args.arena.now c.over_images.new.arena (λ n x h. c.over_images.ensures.grown n x (c.sequent_with.ensures.grown n x (c.instance.ensures.grown n x (c.image_of_term.ensures.grown n x (c.import_variable.ensures.grown n x h))))) c.args.formula c.requires.formula,
  facts.term_there c.over_images.new.arena _ _ (c.over_images.ensures.grown _ _ (c.sequent_with.ensures.grown _ _ (c.instance.ensures.grown _ _ c.in_ok-term.ensures.term))),
)

pub inference-requires-clause-end : goal.inference-requires-clause-end
inference-requires-clause-end t c =
    sequent_there c.args.arena.now c.over_images.new.arena (λ n x h. c.over_images.ensures.grown n x (c.sequent_with.ensures.grown n x (c.instance.ensures.grown n x (c.image_of_term.ensures.grown n x (c.import_variable.ensures.grown n x h))))) c.args.end c.requires.end

pub returns-clause-tree : goal.returns-clause-tree
returns-clause-tree t c =
    let a = c.args.arena.now in
    let b = c.image_of_term.new.self in
    let d = c.instance.new.self in
    let e = c.sequent_with.new.self in
    let f = c.over_images.new.arena in
    let s = sequent_at a c.args.end in
    let closure = formula_at a c.args.formula in
    let imaged : Var → Term = λ x. image_term (fin.get (map_at a c.args.map)) (free x) in
    let u = imaged c.in-Some.var.now in
    let rest = each imaged c.in-Some.rest.now in
    let next = inst (body_of closure) u in
    let imported : Extends a c.import_variable.new.self = c.import_variable.ensures.grown in
    let first : Extends a b = λ n i h. c.image_of_term.ensures.grown n i (imported n i h) in
    let until : Extends a d = λ n i h. c.instance.ensures.grown n i (first n i h) in
    let before : Extends a e = λ n i h. c.sequent_with.ensures.grown n i (until n i h) in
    let whole : Extends a f = λ n i h. c.over_images.ensures.grown n i (before n i h) in
    let image : term_at b c.in_ok-term.term ≡ u = is_term b _ _ c.in_ok-term.ensures.term
    ∙ (λ i. image_term (fin.get (map_stays a c.import_variable.new.self imported c.args.map c.requires.map i)) (is_term c.import_variable.new.self _ _ c.in_ok-var.ensures.variable i)) in
    let instance : formula_at d c.in_ok-next.next ≡ next = is_formula d _ _ c.in_ok-next.ensures.formula
    ∙ (λ i. inst ((is_formula b _ _ c.body_of.ensures ∙ ap body_of (formula_stays a b first c.args.formula c.requires.formula)) i) (image i)) in
    let above : sequent_at e c.in_ok-above.above ≡ adds_to s Left next = is_sequent e _ _ c.in_ok-above.ensures.sequent ∙ (λ i. adds_to (sequent_stays a d until c.args.end c.requires.end i) Left (instance i)) in
    let kept : formula_at e c.in_ok-next.next ≡ next = formula_stays d e c.sequent_with.ensures.grown _ (facts.formula_there d _ _ c.in_ok-next.ensures.formula) ∙ instance in
    let premise : tree_at f c.in_ok-premise.premise ≡ over_terms (adds_to s Left next) rest next = is_tree f _ _ c.in_ok-premise.ensures.tree
    ∙ (λ i. over_terms (above i) (each (λ (x : Var). image_term (fin.get (map_stays a e before c.args.map c.requires.map i)) (free x)) c.in-Some.rest.now) (kept i)) in
    let term : term_at f c.in_ok-term.term ≡ u = is_term f _ _ (c.over_images.ensures.grown _ _ (c.sequent_with.ensures.grown _ _ (c.instance.ensures.grown _ _ (facts.term_there b _ _ c.in_ok-term.ensures.term)))) ∙ image in
    let made = (λ i. node (AllL (formula_stays a f whole c.args.formula c.requires.formula i) (term i)) (sequent_stays a f whole c.args.end c.requires.end i) (more (premise i) none))
    ∙ ap (λ xs. over_terms s (each imaged xs) closure) (sym c.in-Some.ensures.cases.0) in
    if_ok c.inference.result _ (λ (n : ℕ). HasTree c.inference.new.arena n (over_terms s (each imaged c.args.vars.now) closure)) (λ n h. h ∙ ap (λ u. Some (tree u)) made) c.inference.ensures.tree

pub returns-clause-grown : goal.returns-clause-grown
returns-clause-grown t c = λ n x h. c.inference.ensures.grown n x (c.over_images.ensures.grown n x (c.sequent_with.ensures.grown n x (c.instance.ensures.grown n x (c.image_of_term.ensures.grown n x (c.import_variable.ensures.grown n x h)))))
