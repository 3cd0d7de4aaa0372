-- No entry so far is a cut.
use Rattle.std.proofs.Common.{◌≡◌, ◌+◌, drop}
use Rattle.std.specs.List.{position_or_len}
use Rattle.proof_trees.specs.Trees.{rule_of, is_cut}
use Rattle.proof_steps.specs.declared.listing.Entry.{Entry}
use Rattle.proof_steps.proofs.listing.first_cut_entry.Given as goal

abbrev pub invariant-loop-place : goal.invariant-loop-place
invariant-loop-place l =
    position_or_len (λ (e : Entry). is_cut (rule_of e.proof.tree)) l.entries ≡ l.place + position_or_len (λ (e : Entry). is_cut (rule_of e.proof.tree)) (drop l.place l.entries)
