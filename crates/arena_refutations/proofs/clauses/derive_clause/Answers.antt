-- An image and a resolvent, from the earlier clauses that they name.
use Rattle.std.proofs.Common.{sym, subst, ◌∙◌}
use Rattle.std.specs.Prelude.{Some, Ok}
use Rattle.std.specs.FinMap as fin
use Rattle.lk_rules.specs.Sequents.{image_sequent}
use Rattle.arena_cells.specs.Items.{sequent}
use Rattle.arena_cells.specs.Standing.{sequent_at, IsSequentAt}
use Rattle.arena_cells.proofs.Staying.{is_map, sequent_stays}
use Rattle.refutations.specs.declared.step.ResStep.{ResStep}
use Rattle.refutations.specs.Refutations.{derives}
use Rattle.arena_refutations.specs.Importing.{FindsClause}
use Rattle.arena_refutations.proofs.ClauseLaws.{found, earlier, image_found, resolvent_found}
use Rattle.arena_refutations.proofs.clauses.derive_clause.Goals as goal

pub returns-in_ok-image_of_sequent-in-Subst-clause-value : goal.returns-in_ok-image_of_sequent-in-Subst-clause-value
returns-in_ok-image_of_sequent-in-Subst-clause-value c g ds same =
    let a = c.args.arena.now in
    let b = c.import_map.new.self in
    let k = c.in-Subst.number in
    let n = c.in-Some-get.from.now in
    let look = c.in-Some-get.ensures.lookup in
    let there : IsSequentAt a n = subst (IsSequentAt a) (sym look.1) (c.requires.derived k n look.3.0) in
    let image = c.in_ok-image_of_sequent-in-Subst.ensures.sequent
    ∙ (λ i. Some (sequent (image_sequent (fin.get (is_map b c.in_ok-map-in-Subst.map _ c.in_ok-map-in-Subst.ensures.map i)) (sequent_stays a b c.import_map.ensures.grown n there i)))) in
    subst (λ (s : ResStep). FindsClause c.image_of_sequent.new.self (Ok c.in_ok-image_of_sequent-in-Subst.field-0) (derives c.args.clauses.now g ds s)) (sym c.in-Subst.is)
    (image_found c.image_of_sequent.new.self c.args.clauses.now g ds (sequent_at a n) k _ _ (earlier (sequent_at a) c.args.derived.now ds k n same (found c.args.derived.now k n look.3.0 look.1)) image)

pub returns-in-Some-get-3-clause-value : goal.returns-in-Some-get-3-clause-value
returns-in-Some-get-3-clause-value c g ds same =
    let a = c.args.arena.now in
    let m = c.in-Some-get-2.first.now in
    let n = c.in-Some-get-3.second.now in
    let first = c.in-Some-get-2.ensures.lookup in
    let second = c.in-Some-get-3.ensures.lookup in
    subst (λ (s : ResStep). FindsClause c.resolve.new.arena c.resolve.result (derives c.args.clauses.now g ds s)) (sym c.in-Resolve.is)
    (resolvent_found c.resolve.new.arena c.args.clauses.now g ds (sequent_at a m) (sequent_at a n) c.in-Resolve.positive c.in-Resolve.negative _ c.resolve.result
    (earlier (sequent_at a) c.args.derived.now ds c.in-Resolve.positive m same (found c.args.derived.now c.in-Resolve.positive m first.3.0 first.1))
    (earlier (sequent_at a) c.args.derived.now ds c.in-Resolve.negative n same (found c.args.derived.now c.in-Resolve.negative n second.3.0 second.1))
    (λ p q. c.resolve.ensures.value g p q))
