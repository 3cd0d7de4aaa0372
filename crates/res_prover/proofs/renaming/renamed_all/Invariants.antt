-- The images so far.
use Rattle.std.proofs.Common.{◌≡◌, take, map}
use Rattle.lk_rules.specs.Sequents.{image_sequent}
use Rattle.res_prover.specs.Reached.{apart_by}
use Rattle.res_prover.proofs.renaming.renamed_all.Given as goal

abbrev pub invariant-loop-place : goal.invariant-loop-place
invariant-loop-place l = l.images.items ≡ map (image_sequent (apart_by l.is_second)) (take l.place l.clauses)
