-- The clause comes before those that remain.
use Rattle.std.proofs.Common.{◌∷◌, ap, ◌∙◌}
use Rattle.res_prover.proofs.keeping.in_front.Goals as goal

pub returns : goal.returns
returns c = λ clause. c.in_ok-insert.ensures.items ∙ ap (λ ks. c.args.one ∷ ks) (c.in_ok-kept.ensures clause)
