-- The references are those that a turn made.
use Rattle.std.proofs.Common.{◌≡◌, ℕ, map, sym, subst}
use Rattle.std.specs.Prelude.{Result, Ok, Err, OnErr}
use Rattle.std.specs.List.{All}
use Rattle.std.proofs.lemmas.List.Elements.{All-weaker}
use Rattle.proof_graph.specs.References.{Reference, key_of}
use Rattle.proof_graph.specs.History.{StandsAt}
use Rattle.proof_graph.specs.Inferences.{key_by}
use Rattle.proof_graph.specs.Graphs.{IsOf, history}
use Rattle.proof_graph.specs.Entered.{made_in}
use Rattle.proof_graph.proofs.Standing.{known_number}
use Rattle.proof_graph.proofs.Several.{made_home, stand_each, adds_none}
use Rattle.proof_graph.proofs.graph.Graph.intern_each.Goals as goal

pub returns-clause-of : goal.returns-clause-of
returns-clause-of g c =
    subst (All (IsOf c.args.self.now)) (sym c.settle_each.ensures.made)
    (made_home c.args.self.now.nodes c.in_ok-entered.entered.items c.in_ok-entered.ensures.entered)

pub returns-clause-stands : goal.returns-clause-stands
returns-clause-stands g c =
    let adds = c.in_ok-entered.ensures.adds in
    subst (All (λ (r : Reference). StandsAt (history c.add_each.new.pass) (key_of r) r.number)) (sym c.settle_each.ensures.made)
    (stand_each adds.0 (made_in c.in_ok-entered.entered.items) (history c.add_each.new.pass) adds.2)

pub returns-clause-known : goal.returns-clause-known
returns-clause-known g c =
    let old = history c.args.pass.now in
    let new = history c.add_each.new.pass in
    All-weaker (λ (r : Reference). StandsAt new (key_of r) r.number) (λ r. (n : ℕ) → StandsAt old (key_of r) n → r.number ≡ n)
    (λ r there n before. known_number old new (key_of r) r.number n c.add_each.new.pass.legal c.in_ok-entered.ensures.grown there before) c.settle_each.result.items
    (returns-clause-stands g c)

where_err : {T E P : Type 0} (r : Result T E) → P → OnErr r P
where_err (Ok x) p = tt
where_err (Err e) p = p

pub returns-in_err-entered-clause-err : goal.returns-in_err-entered-clause-err
returns-in_err-entered-clause-err g c =
    where_err c.from_residual-in_err-entered.result
    (adds_none (history c.args.pass.now) (map key_by c.args.inferences.items) (history c.add_each.new.pass) c.in_err-entered.ensures.grown)
