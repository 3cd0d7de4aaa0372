-- Fingerprints tell.
use Rattle.std.proofs.Common.{◌∙◌}
use Rattle.std.specs.Prelude.{nat_eq}
use Rattle.exp_extract.proofs.ToldApart.{told}
use Rattle.exp_extract.proofs.fingerprints.are_equal.Goals as goal

pub returns-then-told_apart : goal.returns-then-told_apart
returns-then-told_apart c =
    (λ i. nat_eq (c.fingerprint.ensures i) (c.fingerprint-then-told_apart.ensures i)) ∙ told c.args.first.now c.args.second.now (c.requires c.if-told_apart.true)
