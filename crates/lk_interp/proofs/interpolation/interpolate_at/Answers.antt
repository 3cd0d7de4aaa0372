-- The parts stand in the arena beside the proof.
use Rattle.std.proofs.Common.{◌<◌, ◌^◌, sym, subst, ◌∙◌, lit<}
use Rattle.fol.specs.Syntax.{Formula}
use Rattle.substitution.specs.Instance.{nesting}
use Rattle.interp_laws.specs.Interpolation.{itp}
use Rattle.interp_laws.specs.Parts.{HasParts}
use Rattle.arena_cells.proofs.Staying.{is_formula, is_sequent, is_tree}
use Rattle.arena_interp.proofs.Staying.{has_same}
use Rattle.lk_interp.proofs.Answered.{few_quantifiers}
use Rattle.lk_interp.proofs.interpolation.interpolate_at.Goals as goal

pub interpolate_in-requires-clause-parts : goal.interpolate_in-requires-clause-parts
interpolate_in-requires-clause-parts c =
    let e = c.import_sequent-2.new.self in
    let more = c.import_sequent-2.ensures.grown in
    let tree = is_tree e c.args.proof _ (more _ _ (c.import_sequent.ensures.grown _ _ c.requires.proof)) in
    let first = is_sequent e c.in_ok-first.first _ (more _ _ c.in_ok-first.ensures.sequent) in
    let second = is_sequent e c.in_ok-second.second _ c.in_ok-second.ensures.sequent in
    subst (λ (P : Type 0). P) (λ i. HasParts (sym tree i) (sym first i) (sym second i)) c.requires.parts

pub returns-clause-made : goal.returns-clause-made
returns-clause-made c =
    let e = c.import_sequent-2.new.self in
    let more = c.import_sequent-2.ensures.grown in
    let tree = is_tree e c.args.proof _ (more _ _ (c.import_sequent.ensures.grown _ _ c.requires.proof)) in
    let first = is_sequent e c.in_ok-first.first _ (more _ _ c.in_ok-first.ensures.sequent) in
    let second = is_sequent e c.in_ok-second.second _ c.in_ok-second.ensures.sequent in
    has_same c.interpolate_in.new.arena _ _ c.in_ok-made.made (λ i. itp (tree i) (first i) (second i)) c.in_ok-made.ensures.made

pub returns-clause-small : goal.returns-clause-small
returns-clause-small c =
    let same = c.formula.ensures ∙ is_formula c.interpolate_in.new.arena c.in_ok-made.made.formula _ (returns-clause-made c).formula in
    let above : 2 ^ 26 < 2 ^ 32 = lit< tt in
    subst (λ (f : Formula). nesting f < 2 ^ 32) same (few_quantifiers c.formula.result.now c.size-size.result (2 ^ 26) (2 ^ 32) c.size-size.ensures.size c.size-size.ensures.within above)
