-- What is prepared of the clauses so far.
use Rattle.std.proofs.Common.{◌≡◌, take}
use Rattle.std.specs.List.{All}
use Rattle.res_prover.specs.Partners.{kept_aged, partner_aged, IsPartner}
use Rattle.res_prover.proofs.partners.prepare_all.Given as goal

abbrev pub invariant-loop-place : goal.invariant-loop-place
invariant-loop-place l = record {
  aged : partner_aged l.all.items ≡ kept_aged (take l.place l.kept);
  partners : All IsPartner l.all.items;
}
