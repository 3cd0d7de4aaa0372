-- One proof of a pair fits the graph as both do, and is what the name stands for.
use Rattle.std.proofs.Common.{Option, sym, ap, ◌∙◌, subst}
use Rattle.std.specs.Prelude.{option_map}
use Rattle.proof_trees.specs.Trees.{Tree}
use Rattle.operation_laws.specs.Given.{or_kind, of_proof, shown_given}
use Rattle.held_values.specs.declared.held.Held.{Held}
use Rattle.held_values.specs.Means.{sense, Fits}
use Rattle.operations.proofs.given.shown_given.Goals as goal

pub returns-in-Some-clause-fits : goal.returns-in-Some-clause-fits
returns-in-Some-clause-fits c = λ g fits. let both = subst (λ (v : Held). Fits g v) c.in-Pair.is fits in c.in-Some.ensures.fits g both.0 both.1

pub returns-in-Some-clause-found : goal.returns-in-Some-clause-found
returns-in-Some-clause-found c =
    ap (λ (v : Held). shown_given c.args.text.now (sense v)) c.in-Pair.is
    ∙ ap (λ (o : Option Tree). or_kind c.args.text.now (option_map of_proof o)) (sym c.in-Some.ensures.value)
