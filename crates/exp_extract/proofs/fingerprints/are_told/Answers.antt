-- Formulas that are equal.
use Rattle.std.proofs.Common.{sym, ◌∙◌}
use Rattle.exp_extract.proofs.ToldApart.{equal_of}
use Rattle.exp_extract.proofs.fingerprints.are_told.Goals as goal

pub returns-else-fingerprint : goal.returns-else-fingerprint
returns-else-fingerprint c same prints = equal_of c.args.first.now c.args.second.now (sym c.eq.ensures ∙ same)
