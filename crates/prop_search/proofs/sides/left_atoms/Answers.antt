use Rattle.std.proofs.Common.{take, ap, ◌∙◌}
use Rattle.prop_search.specs.Formulas.{sequent_of}
use Rattle.proof_trees.specs.FormulaSets.{without}
use Rattle.prop_search.proofs.LeastFormulas.{left_side}
use Rattle.prop_search.proofs.sides.left_atoms.Goals as goal

pub returns : goal.returns
returns c =
    let at = c.split_at.ensures in
    let fs = c.args.numbering.now in
    let rest = c.take.new.sequent in
    let left = at.front ∙ (λ i. take (c.width-width.ensures.width i) (c.words.ensures i)) in
    c.in_ok-atoms.ensures
    ∙ left_side fs c.known.ensures rest c.take.ensures.fit c.split_at.result.0.now left
    ∙ ap (λ s. s.left) c.take.ensures.sequent
    ∙ ap (without (sequent_of fs c.args.sequent).left) c.top.ensures.1
