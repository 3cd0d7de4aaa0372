-- A number above the top is that of no entry, and else the number is compared with each.
use Rattle.std.proofs.Common.{◌≡◌, ◌≢◌, ap, ◌∙◌, subst, sym}
use Rattle.std.specs.List.{All}
use Rattle.boxcar.specs.Table.{Shelves}
use Rattle.proof_graph.specs.References.{key_of}
use Rattle.proof_graph.specs.History.{Recorded, IsAbsent}
use Rattle.proof_graph.proofs.Entries.{above_top}
use Rattle.proof_graph.proofs.index.Index.see_new.Goals as goal

pub returns-then-number-self : goal.returns-then-number-self
returns-then-number-self c =
    subst (λ (v : Recorded). All (λ r. r.number ≢ c.args.made.now.number) v.history) c.self.view_is
    (above_top c.self.inside c.self.invariant c.args.made.now.number (rw (← c.number.ensures) c.if-number-self.true))

pub see_apart-requires-clause-home : goal.see_apart-requires-clause-home
see_apart-requires-clause-home c =
    rw c.deref.ensures.value (
    subst (λ (v : Shelves). All (λ r. r.home ≡ v) c.self.inside.refs.items) (ap (λ (v : Recorded). v.home) c.self.view_is ∙ c.requires.home) c.self.invariant.home)

pub see_apart-requires-clause-keys : goal.see_apart-requires-clause-keys
see_apart-requires-clause-keys c =
    rw c.deref.ensures.value (subst (λ (v : Recorded). IsAbsent v.history (key_of c.args.made.now)) (sym c.self.view_is) c.requires.absent)

pub returns : goal.returns
returns c =
    subst (λ (v : Recorded). All (λ r. r.number ≢ c.args.made.now.number) v.history) c.self.view_is (rw c.deref.ensures.value at c.see_apart.ensures)
