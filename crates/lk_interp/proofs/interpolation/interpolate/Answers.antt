-- The laws of interpolation hold at the trees that the references mean.
use Rattle.std.proofs.Common.{◌≡◌, true, sym, subst, ◌∙◌}
use Rattle.fol.specs.Formed.{IsFormed}
use Rattle.free_variables.specs.Occurrence.{is_free_in, is_pred_in}
use Rattle.lk_rules.specs.declared.sequent.Side.TheVariants.{Left, Right}
use Rattle.lk_rules.specs.Sequents.{adds_to, is_free_in_sequent}
use Rattle.proof_trees.specs.Trees.{concl, IsValid, IsCutFree}
use Rattle.proof_trees.specs.Occurrence.{is_pred_in_sequent}
use Rattle.interp_laws.specs.Interpolation.{Interpolation, itp}
use Rattle.arena_interp.proofs.Staying.{interpolation_is, interpolation_there}
use Rattle.lk_interp.specs.Interpolating.{AreProofs}
use Rattle.lk_interp.proofs.Answered.{are_proofs}
use Rattle.lk_interp.proofs.interpolation.interpolate.Goals as goal

pub interpolate_tree-requires-clause-parts : goal.interpolate_tree-requires-clause-parts
interpolate_tree-requires-clause-parts g c =
    c.interpolations.ensures.parts c.args.proof.now.tree c.args.first.now c.args.second.now c.args.budget _ c.known.ensures.valid c.see_formed.ensures c.see_formed-2.ensures c.in_ok-check.ensures.ok

pub export-requires-clause-there : goal.export-requires-clause-there
export-requires-clause-there g c = interpolation_there c.interpolate_tree.new.pass.arena _ c.in_ok-made.made c.in_ok-made.ensures.made

pub export-requires-clause-valid : goal.export-requires-clause-valid
export-requires-clause-valid g c =
    let t = c.args.proof.now.tree in
    let one = c.args.first.now in
    let two = c.args.second.now in
    let parts = c.interpolations.ensures.parts c.args.proof.now.tree c.args.first.now c.args.second.now c.args.budget _ c.known.ensures.valid c.see_formed.ensures c.see_formed-2.ensures c.in_ok-check.ensures.ok in
    let formed = c.interpolants.ensures.formed t one two parts c.in_ok-made.ensures.small in
    subst (λ (x : Interpolation). AreProofs x) (sym (interpolation_is c.interpolate_tree.new.pass.arena _ c.in_ok-made.made c.in_ok-made.ensures.made))
    (are_proofs t one two (itp t one two) (c.proofs.ensures.valid t one two parts formed) (c.proofs.ensures.ends t one two parts) c.see_formed.ensures c.see_formed-2.ensures formed)

pub returns-clause-valid : goal.returns-clause-valid
returns-clause-valid g c =
    let t = c.args.proof.now.tree in
    let one = c.args.first.now in
    let two = c.args.second.now in
    let parts = c.interpolations.ensures.parts c.args.proof.now.tree c.args.first.now c.args.second.now c.args.budget _ c.known.ensures.valid c.see_formed.ensures c.see_formed-2.ensures c.in_ok-check.ensures.ok in
    let same = c.in_ok-export.ensures.interpolation ∙ interpolation_is c.interpolate_tree.new.pass.arena _ c.in_ok-made.made c.in_ok-made.ensures.made in
    subst (λ (x : Interpolation). IsValid x.first × IsValid x.second) (sym same) (c.proofs.ensures.valid t one two parts (c.interpolants.ensures.formed t one two parts c.in_ok-made.ensures.small))

pub returns-clause-cut_free : goal.returns-clause-cut_free
returns-clause-cut_free g c =
    let t = c.args.proof.now.tree in
    let same = c.in_ok-export.ensures.interpolation ∙ interpolation_is c.interpolate_tree.new.pass.arena _ c.in_ok-made.made c.in_ok-made.ensures.made in
    subst (λ (x : Interpolation). IsCutFree x.first × IsCutFree x.second) (sym same) (c.proofs.ensures.cut_free t c.args.first.now c.args.second.now (c.interpolations.ensures.parts c.args.proof.now.tree c.args.first.now c.args.second.now c.args.budget _ c.known.ensures.valid c.see_formed.ensures c.see_formed-2.ensures c.in_ok-check.ensures.ok))

pub returns-clause-ends : goal.returns-clause-ends
returns-clause-ends g c =
    let t = c.args.proof.now.tree in
    let one = c.args.first.now in
    let two = c.args.second.now in
    let same = c.in_ok-export.ensures.interpolation ∙ interpolation_is c.interpolate_tree.new.pass.arena _ c.in_ok-made.made c.in_ok-made.ensures.made in
    subst (λ (x : Interpolation). (concl x.first ≡ adds_to one Right x.formula) × (concl x.second ≡ adds_to two Left x.formula)) (sym same) (c.proofs.ensures.ends t one two (c.interpolations.ensures.parts c.args.proof.now.tree c.args.first.now c.args.second.now c.args.budget _ c.known.ensures.valid c.see_formed.ensures c.see_formed-2.ensures c.in_ok-check.ensures.ok))

pub returns-clause-predicates : goal.returns-clause-predicates
returns-clause-predicates g c = λ q.
    let t = c.args.proof.now.tree in
    let one = c.args.first.now in
    let two = c.args.second.now in
    let same = c.in_ok-export.ensures.interpolation ∙ interpolation_is c.interpolate_tree.new.pass.arena _ c.in_ok-made.made c.in_ok-made.ensures.made in
    subst (λ (x : Interpolation). is_pred_in q x.formula ≡ true → (is_pred_in_sequent q one ≡ true) × (is_pred_in_sequent q two ≡ true)) (sym same)
    (c.interpolants.ensures.predicates t one two (c.interpolations.ensures.parts c.args.proof.now.tree c.args.first.now c.args.second.now c.args.budget _ c.known.ensures.valid c.see_formed.ensures c.see_formed-2.ensures c.in_ok-check.ensures.ok) (c.interpolations.ensures.bodies t one two c.args.budget _ c.in_ok-check.ensures.ok) q)

pub returns-clause-variables : goal.returns-clause-variables
returns-clause-variables g c = λ v.
    let t = c.args.proof.now.tree in
    let one = c.args.first.now in
    let two = c.args.second.now in
    let same = c.in_ok-export.ensures.interpolation ∙ interpolation_is c.interpolate_tree.new.pass.arena _ c.in_ok-made.made c.in_ok-made.ensures.made in
    subst (λ (x : Interpolation). is_free_in v x.formula ≡ true → (is_free_in_sequent v one ≡ true) × (is_free_in_sequent v two ≡ true)) (sym same)
    (c.interpolants.ensures.variables t one two (c.interpolations.ensures.parts c.args.proof.now.tree c.args.first.now c.args.second.now c.args.budget _ c.known.ensures.valid c.see_formed.ensures c.see_formed-2.ensures c.in_ok-check.ensures.ok) v)

pub returns-clause-formed : goal.returns-clause-formed
returns-clause-formed g c =
    let same = c.in_ok-export.ensures.interpolation ∙ interpolation_is c.interpolate_tree.new.pass.arena _ c.in_ok-made.made c.in_ok-made.ensures.made in
    subst (λ (x : Interpolation). IsFormed x.formula) (sym same) (c.interpolants.ensures.formed c.args.proof.now.tree c.args.first.now c.args.second.now (c.interpolations.ensures.parts c.args.proof.now.tree c.args.first.now c.args.second.now c.args.budget _ c.known.ensures.valid c.see_formed.ensures c.see_formed-2.ensures c.in_ok-check.ensures.ok) c.in_ok-made.ensures.small)
