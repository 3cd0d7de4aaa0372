-- The main formula stands in the conclusion, so its address has its image.
use Rattle.std.proofs.Common.{◌≡◌, true, sym, ap, ◌∙◌, subst}
use Rattle.substitution.specs.Maps.{Map}
use Rattle.lk_rules.specs.declared.sequent.Side.TheVariants.{Left, Right}
use Rattle.lk_rules.specs.declared.rule.Rule.{Rule}
use Rattle.lk_rules.specs.declared.rule.Rule.TheVariants.{Ax, AllL, AllR, ExL, ExR}
use Rattle.lk_rules.specs.Rules.{main_stands}
use Rattle.search_laws.proofs.Searched.{alone_left, alone_right}
use Rattle.extraction_laws.specs.Images.{HasImage}
use Rattle.extraction_laws.proofs.Mains.{initial_left, initial_right}
use Rattle.exp_extract.specs.Sides.{context_in}
use Rattle.exp_extract.proofs.inferences.mark_inference.Goals as goal

pub mark_axiom-requires-clause-left : goal.mark_axiom-requires-clause-left
mark_axiom-requires-clause-left c =
    let stands : main_stands (Ax c.in-Ax.main) c.args.end.now ≡ true = ap (λ (r : Rule). main_stands r c.args.end.now) (sym c.in-Ax.is) ∙ c.requires.stands in
    subst (λ (f : Map). HasImage f (context_in c.args.marks.now.addresses c.args.end.now c.args.sides.now Left c.in-Ax.main) Left c.in-Ax.main) (sym c.get.ensures.value)
    (c.requires.images Left c.in-Ax.main (initial_left c.args.end.now c.in-Ax.main stands))

pub mark_axiom-requires-clause-right : goal.mark_axiom-requires-clause-right
mark_axiom-requires-clause-right c =
    let stands : main_stands (Ax c.in-Ax.main) c.args.end.now ≡ true = ap (λ (r : Rule). main_stands r c.args.end.now) (sym c.in-Ax.is) ∙ c.requires.stands in
    subst (λ (f : Map). HasImage f (context_in c.args.marks.now.addresses c.args.end.now c.args.sides.now Right c.in-Ax.main) Right c.in-Ax.main) (sym c.get.ensures.value)
    (c.requires.images Right c.in-Ax.main (initial_right c.args.end.now c.in-Ax.main stands))

pub mark_weak-requires-clause-image : goal.mark_weak-requires-clause-image
mark_weak-requires-clause-image c =
    let stands : main_stands (AllL c.in-AllL.main c.in-AllL.term) c.args.end.now ≡ true = ap (λ (r : Rule). main_stands r c.args.end.now) (sym c.in-AllL.is) ∙ c.requires.stands in
    c.requires.images Left c.in-AllL.main (alone_left _ stands)

pub mark_weak-requires-in-ExR-clause-image : goal.mark_weak-requires-in-ExR-clause-image
mark_weak-requires-in-ExR-clause-image c =
    let stands : main_stands (ExR c.in-ExR.main c.in-ExR.term) c.args.end.now ≡ true = ap (λ (r : Rule). main_stands r c.args.end.now) (sym c.in-ExR.is) ∙ c.requires.stands in
    c.requires.images Right c.in-ExR.main (alone_right _ stands)

pub mark_strong-requires-clause-image : goal.mark_strong-requires-clause-image
mark_strong-requires-clause-image c =
    let stands : main_stands (AllR c.in-AllR.main c.in-AllR.variable) c.args.end.now ≡ true = ap (λ (r : Rule). main_stands r c.args.end.now) (sym c.in-AllR.is) ∙ c.requires.stands in
    c.requires.images Right c.in-AllR.main (alone_right _ stands)

pub mark_strong-requires-in-ExL-clause-image : goal.mark_strong-requires-in-ExL-clause-image
mark_strong-requires-in-ExL-clause-image c =
    let stands : main_stands (ExL c.in-ExL.main c.in-ExL.variable) c.args.end.now ≡ true = ap (λ (r : Rule). main_stands r c.args.end.now) (sym c.in-ExL.is) ∙ c.requires.stands in
    c.requires.images Left c.in-ExL.main (alone_left _ stands)
