-- No clause so far is empty.
use Rattle.std.proofs.Common.{◌≡◌, ℕ, ◌<◌, get_or}
use Rattle.lk_rules.specs.Sequents.{empty}
use Rattle.res_prover.specs.declared.kept.Kept.{Kept}
use Rattle.res_prover.proofs.rounds.has_empty.Given as goal

abbrev pub invariant-loop-place : goal.invariant-loop-place
invariant-loop-place l = (k : ℕ) (d : Kept) → k < l.place → (get_or l.kept k d).clause ≡ empty → ⊥
