-- The clause is the same.
use Rattle.res_prover.proofs.kept.copied.Goals as goal

pub returns : goal.returns
returns c = λ i. record {
  clause = c.in_ok-copy.ensures i;
  is_new = c.args.kept.now.is_new;
  number = c.args.kept.now.number;
}
