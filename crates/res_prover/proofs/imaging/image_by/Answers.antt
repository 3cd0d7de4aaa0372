-- The map without terms changes nothing.
use Rattle.std.proofs.Common.{◌≡◌, sym, ap, ◌∙◌}
use Rattle.std.specs.FinMap as fin
use Rattle.lk_rules.specs.Sequents.{image_sequent}
use Rattle.res_prover.proofs.Alike.{image-none}
use Rattle.res_prover.proofs.imaging.image_by.Goals as goal

pub returns-then-is_empty : goal.returns-then-is_empty
returns-then-is_empty c =
    let clause = c.args.clause.now in
    let none : c.args.map.now ≡ fin.empty = c.is_empty.ensures.0 c.if-is_empty.true in
    c.in_ok-same.ensures ∙ sym (ap (λ m. image_sequent (fin.get m) clause) none ∙ image-none clause)
