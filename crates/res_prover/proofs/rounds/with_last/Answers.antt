-- The last clauses are some of those that are kept.
use Rattle.std.proofs.Common.{◌≡◌, ◌-◌, length, take, drop, sym, ap, subst, ◌∙◌}
use Rattle.std.specs.Prelude.{Contains}
use Rattle.std.specs.List.{All}
use Rattle.clause_laws.specs.Subsumption.{IsClause}
use Rattle.res_prover.specs.Partners.{partner_clauses, IsPartner}
use Rattle.res_prover.proofs.RoundLaws.{aged_alone, part_each, part_member}
use Rattle.res_prover.proofs.rounds.with_last.Goals as goal

pub prepare_all-requires : goal.prepare_all-requires
prepare_all-requires c =
    let kept = c.args.kept.now in
    let n = length kept - c.args.count in
    part_each IsClause (length kept - n) n kept c.requires

pub add_all-requires : goal.add_all-requires
add_all-requires c = subst (All IsPartner) (sym c.as_slice.ensures.value) c.in_ok-partners.ensures.partners

pub returns : goal.returns
returns c = λ ks b within at.
    let kept = c.args.kept.now in
    let n = length kept - c.args.count in
    let part = take (length kept - n) (drop n kept) in
    let ps = c.in_ok-partners.partners.items in
    let same : c.as_slice.result.now ≡ ps = c.as_slice.ensures.value in
    (c.in_ok-added.ensures ks b
    (λ d m. part_member ks (length kept - n) n kept within d (subst (λ cs. Contains cs d) (ap partner_clauses same ∙ aged_alone ps part c.in_ok-partners.ensures.aged) m))
    at).work
