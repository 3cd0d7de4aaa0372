-- What is prepared of the next clause comes last.
use Rattle.std.proofs.Common.{◌≡◌, ◌++◌, ◌∷◌, [], take, sym, ap, subst, ◌∙◌}
use Rattle.std.specs.List.{All}
use Rattle.std.proofs.lemmas.List.{map-append}
use Rattle.std.proofs.lemmas.List.Elements.{All-push}
use Rattle.clause_laws.specs.Subsumption.{IsClause}
use Rattle.res_prover.specs.declared.kept.Kept.{Kept}
use Rattle.res_prover.specs.declared.partners.Partner.{Partner}
use Rattle.res_prover.specs.Partners.{Aged, kept_aged, partner_aged, IsPartner}
use Rattle.res_prover.proofs.Members.{next_taken, mapped_place}
use Rattle.res_prover.proofs.partners.prepare_all.Goals as goal

pub prepare-requires : goal.prepare-requires
prepare-requires c = mapped_place (λ (k : Kept). k.clause) IsClause c.args.kept.now c.loop-place.place c.index-kept-place.result c.requires c.loop-place-test.true c.index-kept-place.is

pub loop-place-preserved : goal.loop-place-preserved
loop-place-preserved c =
    let f : Partner → Aged = λ p. (p.clause, p.is_new) in
    let g : Kept → Aged = λ k. (k.clause, k.is_new) in
    let kept = c.args.kept.now in
    let n = c.loop-place.place in
    let k = c.index-kept-place.result in
    let one = c.in_ok-one.one in
    let old = c.loop-place.all.items in
    let pushed = c.in_ok-push.ensures.items in
    let alike : f one ≡ g k = λ i. (c.in_ok-one.ensures.clause i, c.in_ok-one.ensures.is_new i) in
    record {
      aged =
          ap partner_aged pushed
          ∙ map-append f old (one ∷ [])
          ∙ ap (λ ms. ms ++ f one ∷ []) c.loop-place.invariant.aged
          ∙ ap (λ m. kept_aged (take n kept) ++ m ∷ []) alike
          ∙ sym (ap kept_aged (next_taken kept n k c.loop-place-test.true c.index-kept-place.is) ∙ map-append g (take n kept) (k ∷ []));
      partners = subst (All IsPartner) (sym pushed) (All-push IsPartner old one c.loop-place.invariant.partners c.in_ok-one.ensures.partner);
    }
