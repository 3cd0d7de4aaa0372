-- One proof of a pair fits the graph as both do, and is what the name stands for.
use Rattle.std.proofs.Common.{Option, sym, ap, ◌∙◌, subst}
use Rattle.proof_trees.specs.Trees.{Tree}
use Rattle.operation_laws.specs.Given.{or_kind, proof_given}
use Rattle.held_values.specs.declared.held.Held.{Held}
use Rattle.held_values.specs.Means.{sense, Fits}
use Rattle.operations.specs.Noted.{proof_in}
use Rattle.operations.proofs.given.proof_given.Goals as goal

pub returns-in-Some-clause-fits : goal.returns-in-Some-clause-fits
returns-in-Some-clause-fits c = λ g fits. let both = subst (λ (v : Held). Fits g v) c.in-Pair.is fits in c.in-Some.ensures.fits g both.0 both.1

pub returns-in-Some-clause-found : goal.returns-in-Some-clause-found
returns-in-Some-clause-found c =
    ap (λ (v : Held). proof_given c.args.text.now (sense v)) c.in-Pair.is ∙ ap (λ (o : Option Tree). or_kind c.args.text.now o) (sym c.in-Some.ensures.value)

pub returns-in-Some-clause-reference : goal.returns-in-Some-clause-reference
returns-in-Some-clause-reference c = ap (λ (v : Held). proof_in c.args.text.now v) c.in-Pair.is ∙ sym c.in-Some.ensures.reference
