-- The next number is that of no variable, of a root, or of a variable that is bound.
use Rattle.std.proofs.Common.{◌≡◌, ◌+◌, get_or, sym, ap, subst, ◌∙◌, arith}
use Rattle.std.specs.Prelude.{Some}
use Rattle.std.specs.FinMap as fin
use Rattle.std.proofs.lemmas.Option.{slice_get-get_or, get_or_from_slice_get}
use Rattle.fol.specs.Syntax.{free}
use Rattle.arena_cells.specs.Items.{term}
use Rattle.arena_cells.specs.Standing.{HasVariable, term_at}
use Rattle.arena_cells.specs.Meaning.{meaning}
use Rattle.arena_cells.proofs.Staying.{item_is, is_term}
use Rattle.fol_unify.specs.declared.values.Mark.TheVariants.{Done}
use Rattle.fol_unify.specs.Solving.{a_term, other, kind_of}
use Rattle.fol_unify.specs.Values.{IsDone, IsSolution}
use Rattle.fol_unify.proofs.ValueLaws.{value_term}
use Rattle.fol_unify.proofs.Bindings.{key_free, skipped, one_bound}
use Rattle.fol_unify.proofs.values.bind.Goals as goal

pub returns-in_default : goal.returns-in_default
returns-in_default c =
    skipped c.args.cells.now c.args.roots.now c.args.marks.now c.args.number c.args.map.now
    (λ x here moved. c.in_default.not-Free x (key_free c.args.cells.now c.key.result.now x (let same : Some (meaning c.args.cells.now c.key.result.now) ≡ Some (term (free x)) = sym c.key.ensures.stands ∙ here in cc)))
    c.requires.solution

pub returns-then-root-number : goal.returns-then-root-number
returns-then-root-number c =
    skipped c.args.cells.now c.args.roots.now c.args.marks.now c.args.number c.args.map.now (λ x here moved. moved c.if-root-number.true) c.requires.solution

pub term-requires : goal.term-requires
term-requires c =
    let a = c.args.cells.now in
    let n = c.args.number in
    let x = c.in-Free.variable in
    let here : HasVariable a n x = c.key.ensures.stands ∙ ap (λ k. Some (meaning a k)) c.in-Free.is in
    let under = c.requires.solved.within n c.requires.number in
    let done : IsDone c.args.marks.now (get_or c.args.roots.now n 0) c.in-Done.value =
    slice_get-get_or c.args.marks.now (get_or c.args.roots.now n 0) _ (omega (arith, under, c.requires.valued.so_many)) ∙ ap Some c.in-Done.is in
    value_term a c.args.equations.now c.args.roots.now c.args.marks.now c.requires.solved c.requires.valued n c.in-Done.value c.requires.number done
    (here ∙ ap (λ t. Some (term t)) (sym (is_term a n (free x) here)))

pub returns-in_ok-set : goal.returns-in_ok-set
returns-in_ok-set c =
    let a = c.args.cells.now in
    let n = c.args.number in
    let x = c.in-Free.variable in
    let here : HasVariable a n x = c.key.ensures.stands ∙ ap (λ k. Some (meaning a k)) c.in-Free.is in
    let under = c.requires.solved.within n c.requires.number in
    let done : IsDone c.args.marks.now (get_or c.args.roots.now n 0) c.in-Done.value =
    slice_get-get_or c.args.marks.now (get_or c.args.roots.now n 0) _ (omega (arith, under, c.requires.valued.so_many)) ∙ ap Some c.in-Done.is in
    let bound : c.in_ok-copy-2.field-0 ≡ term_at a c.in-Done.value = c.in_ok-copy-2.ensures ∙ c.term.ensures in
    subst (IsSolution a c.args.roots.now c.args.marks.now (n + 1))
    (sym (c.in_ok-set.ensures.ok ∙ ap (λ y. fin.insert c.args.map.now y c.in_ok-copy-2.field-0) c.in_ok-copy.ensures ∙ ap (fin.insert c.args.map.now x) bound))
    (one_bound a c.args.roots.now c.args.marks.now n c.known.ensures c.args.map.now x c.in-Done.value here c.if-root-number.false done c.requires.solution)

pub returns-in_default-marks : goal.returns-in_default-marks
returns-in_default-marks c =
    let a = c.args.cells.now in
    let n = c.args.number in
    let x = c.in-Free.variable in
    let here : HasVariable a n x = c.key.ensures.stands ∙ ap (λ k. Some (meaning a k)) c.in-Free.is in
    let made = c.requires.done n c.requires.number (λ d. let same : a_term ≡ other = sym (ap kind_of (item_is a n _ here)) ∙ d in cc) in
    absurd (c.in_default-marks.not-Done made.0 (get_or_from_slice_get c.args.marks.now (get_or c.args.roots.now n 0) (Done made.0) _ made.1))
