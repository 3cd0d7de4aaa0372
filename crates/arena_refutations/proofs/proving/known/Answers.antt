-- What the table has is the proof.
use Rattle.std.proofs.Common.{ℕ, sym, subst, ◌∙◌}
use Rattle.std.specs.Prelude.{Option, IfSome}
use Rattle.std.specs.BTreeMap as ordered
use Rattle.std.proofs.lemmas.Option.{IfSome_then}
use Rattle.arena_refutations.specs.Planning.{IsMade, pair_cmp}
use Rattle.arena_refutations.proofs.proving.known.Goals as goal

pub returns-clause-entry : goal.returns-clause-entry
returns-clause-entry c = c.copied.ensures ∙ c.get.ensures.value

pub returns-clause-made : goal.returns-clause-made
returns-clause-made c =
    subst (λ (o : Option ℕ). IfSome o (IsMade c.args.arena.now c.args.clauses.now c.args.steps.now c.args.place c.args.map)) (sym (c.copied.ensures ∙ c.get.ensures.value))
    (IfSome_then (ordered.get pair_cmp c.args.made.now (c.args.place, c.args.map)) (c.requires c.args.place c.args.map) (λ n k. k.1))
