-- A round begins with what is kept, and goes on over all pairs of which one is new, unless it is over before.
use Rattle.std.proofs.Common.{◌≡◌, refl, sym, ap, subst, ◌∙◌}
use Rattle.std.specs.Prelude.{Contains}
use Rattle.std.specs.List.{All}
use Rattle.std.proofs.lemmas.Bool.{both_ways}
use Rattle.res_prover.specs.Kept.{kept_clauses}
use Rattle.res_prover.specs.Partners.{partner_clauses, IsPartner}
use Rattle.res_prover.specs.declared.work.Work.{Work}
use Rattle.res_prover.specs.declared.work.Stage.TheVariants.{Covered}
use Rattle.res_prover.specs.Working.{is_over, GoesOver, FromOne, ByNew}
use Rattle.res_prover.proofs.RoundLaws.{aged_alone, begins, ends}
use Rattle.res_prover.proofs.rounds.round.Goals as goal

pub add_all-requires : goal.add_all-requires
add_all-requires c = subst (All IsPartner) (sym c.as_slice.ensures.value) c.in_ok-partners.ensures.partners

pub returns-then-is_over : goal.returns-then-is_over
returns-then-is_over c =
    let ks = kept_clauses c.args.kept.now in
    let b = c.args.stops in
    let start : Work = record { kept = c.in_ok-old.old; stops = c.args.stops; stage = Covered } in
    let begun = begins ks b start refl c.in_ok-old.ensures refl c.requires.reduced c.requires.normal c.requires.clauses in
    record {
      work = c.in_ok-work-2.ensures ks b (λ d m. m) (c.in_ok-work.ensures ks b (λ d m. m) begun);
      covers = λ not_over. absurd (both_ways (is_over c.in_ok-work-2.work) not_over (sym c.is_over.ensures ∙ c.if-is_over.true));
    }

pub returns : goal.returns
returns c =
    let kept = c.args.kept.now in
    let ks = kept_clauses kept in
    let ps = c.in_ok-partners.partners.items in
    let b = c.args.stops in
    let start : Work = record { kept = c.in_ok-old.old; stops = c.args.stops; stage = Covered } in
    let more = c.in_ok-work-2.work in
    let w = c.in_ok-added.added in
    let same : c.as_slice.result.now ≡ ps = c.as_slice.ensures.value in
    let aged = c.in_ok-partners.ensures.aged in
    let begun = begins ks b start refl c.in_ok-old.ensures refl c.requires.reduced c.requires.normal c.requires.clauses in
    let further = c.in_ok-work-2.ensures ks b (λ d m. m) (c.in_ok-work.ensures ks b (λ d m. m) begun) in
    let g = subst (λ qs. GoesOver ks b more w (FromOne (λ p. FromOne (ByNew p) qs) qs)) same
    (c.in_ok-added.ensures ks b (λ d m. subst (λ cs. Contains cs d) (ap partner_clauses same ∙ aged_alone ps kept aged) m) further) in
    record {
      work = g.work;
      covers = λ not_over. ends kept ps aged c.requires.resolved b more w g not_over;
    }
