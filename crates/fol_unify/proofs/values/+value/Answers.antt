-- A class is opened, its parts get their values, and its own value is noted.
use Rattle.std.proofs.Common.{◌≡◌, ◌<◌, length, get_or, refl, sym, ap, ◌∙◌, arith}
use Rattle.std.specs.Prelude.{Some, slice_get}
use Rattle.arena_cells.proofs.Staying.{item_is}
use Rattle.fol_unify.specs.declared.values.Mark.TheVariants.{New, Open, Done}
use Rattle.fol_unify.specs.Solving.{a_list, other, kind_of}
use Rattle.fol_unify.proofs.Marks.{news_less, get_written, read_mark, marks_noted, marks_on}
use Rattle.fol_unify.proofs.Solved.{solved_stays}
use Rattle.fol_unify.proofs.ValueLaws.{values_opened, values_noted, values_stay, value_term, value_list}
use Rattle.fol_unify.proofs.Growing.{open_clash, opened_not_below, rest_above, not_below_stays, application_stays, front_stays}
use Rattle.fol_unify.proofs.Parts.{application_value, front_value}
use Rattle.fol_unify.proofs.values.+value.Goals as goal

pub value_of-root_value-requires : goal.value_of-root_value-requires
value_of-root_value-requires t c =
    let a = c.args.cells.now in
    let es = c.args.equations.now in
    let rs = c.args.roots.now in
    let ms = c.args.marks.now.items in
    let n = c.args.number in
    let r = get_or rs n 0 in
    let under : r < length rs = c.requires.solved.within n c.requires.number in
    let rb : r < length ms = omega (arith, under, c.requires.valued.so_many) in
    let new : slice_get ms r ≡ Some New = read_mark ms r c.index.result.now New rb c.index.ensures c.in-New.is in (
      omega (arith, c.decreases, news_less ms r new),
      (
        under,
        (
          λ e. c.requires.known (c.requires.solved.kinds n c.requires.number ∙ e),
          (
            c.requires.solved,
            (
              values_opened a es rs ms c.requires.solved c.requires.valued r new,
              opened_not_below a es rs c.requires.solved ms n c.requires.number rb c.requires.above,
            ),
          ),
        ),
      ),
    )

pub value_of-returns-in-Done-clause-value : goal.value_of-returns-in-Done-clause-value
value_of-returns-in-Done-clause-value t c =
    let under = c.requires.solved.within c.args.number c.requires.number in
    read_mark c.args.marks.now.items (get_or c.args.roots.now c.args.number 0) c.index.result.now (Done c.in-Done.value) (omega (arith, under, c.requires.valued.so_many)) c.index.ensures c.in-Done.is

pub value_of-returns-in-Open-clause-none : goal.value_of-returns-in-Open-clause-none
value_of-returns-in-Open-clause-none t c _ =
    let under = c.requires.solved.within c.args.number c.requires.number in
    open_clash c.args.cells.now c.args.equations.now c.args.roots.now c.requires.solved c.args.marks.now.items c.args.number c.requires.number c.requires.above
    (read_mark c.args.marks.now.items (get_or c.args.roots.now c.args.number 0) c.index.result.now Open (omega (arith, under, c.requires.valued.so_many)) c.index.ensures c.in-Open.is)

pub value_of-returns-in_ok-value-in-New-clause-value : goal.value_of-returns-in_ok-value-in-New-clause-value
value_of-returns-in_ok-value-in-New-clause-value t c =
    let under = c.requires.solved.within c.args.number c.requires.number in
    get_written c.root_value.new.marks.items (get_or c.args.roots.now c.args.number 0) (Done c.in_ok-value-in-New.value) (omega (arith, under, c.in_ok-value-in-New.ensures.valued.so_many))

pub value_of-returns-in_ok-value-in-New-clause-valued : goal.value_of-returns-in_ok-value-in-New-clause-valued
value_of-returns-in_ok-value-in-New-clause-valued t c =
    let a = c.args.cells.now in
    let es = c.args.equations.now in
    let rs = c.args.roots.now in
    let ms = c.args.marks.now.items in
    let r = get_or rs c.args.number 0 in
    let under : r < length rs = c.requires.solved.within c.args.number c.requires.number in
    let rb : r < length ms = omega (arith, under, c.requires.valued.so_many) in
    values_noted c.root_value.new.cells es rs c.root_value.new.marks.items (solved_stays a c.root_value.new.cells es rs c.in_ok-value-in-New.ensures.grown c.requires.solved) c.in_ok-value-in-New.ensures.valued r c.in_ok-value-in-New.value
    (c.in_ok-value-in-New.ensures.marks.stay_open r (get_written ms r Open rb)) c.in_ok-value-in-New.ensures.value

pub value_of-returns-in_ok-value-in-New-clause-marks : goal.value_of-returns-in_ok-value-in-New-clause-marks
value_of-returns-in_ok-value-in-New-clause-marks t c =
    let ms = c.args.marks.now.items in
    let r = get_or c.args.roots.now c.args.number 0 in
    let under = c.requires.solved.within c.args.number c.requires.number in
    let new : slice_get ms r ≡ Some New = read_mark ms r c.index.result.now New (omega (arith, under, c.requires.valued.so_many)) c.index.ensures c.in-New.is in
    marks_noted ms c.root_value.new.marks.items r c.in_ok-value-in-New.value new c.in_ok-value-in-New.ensures.marks

pub root_value-put-requires : goal.root_value-put-requires
root_value-put-requires t c =
    let a = c.args.cells.now in
    let b = c.value_of.new.cells in
    let es = c.args.equations.now in
    let rs = c.args.roots.now in
    let got = c.in_ok-terms-in-Application.ensures in
    let is = application_stays a b es rs got.grown c.requires.solved c.args.marks.now.items c.value_of.new.marks.items got.marks c.requires.valued.so_many c.args.root c.in-Application.symbol c.in-Application.terms c.requires.root c.in-Application.ensures in
    (is.symbol_there, value_list b es rs c.value_of.new.marks.items (solved_stays a b es rs got.grown c.requires.solved) got.valued c.in-Application.terms c.in_ok-terms-in-Application.terms (omega (arith, is.below, c.requires.root)) got.value is.arguments_there)

pub root_value-returns-in_ok-value-in-Application-clause-value : goal.root_value-returns-in_ok-value-in-Application-clause-value
root_value-returns-in_ok-value-in-Application-clause-value t c =
    let a = c.args.cells.now in
    let b = c.value_of.new.cells in
    let es = c.args.equations.now in
    let rs = c.args.roots.now in
    let got = c.in_ok-terms-in-Application.ensures in
    let is = application_stays a b es rs got.grown c.requires.solved c.args.marks.now.items c.value_of.new.marks.items got.marks c.requires.valued.so_many c.args.root c.in-Application.symbol c.in-Application.terms c.requires.root c.in-Application.ensures in
    application_value b c.put.new.self es rs c.value_of.new.marks.items c.in_ok-value-in-Application.ensures.grown (solved_stays a b es rs got.grown c.requires.solved) got.valued c.args.root c.in_ok-value-in-Application.value c.requires.root
    c.in-Application.symbol c.in-Application.terms c.in_ok-terms-in-Application.terms is got.value c.in_ok-value-in-Application.ensures.stands

pub root_value-returns-in_ok-value-in-Application-clause-valued : goal.root_value-returns-in_ok-value-in-Application-clause-valued
root_value-returns-in_ok-value-in-Application-clause-valued t c =
    let b = c.value_of.new.cells in
    let es = c.args.equations.now in
    let rs = c.args.roots.now in
    let got = c.in_ok-terms-in-Application.ensures in
    let ms = c.value_of.new.marks.items in
    values_stay b c.put.new.self es rs ms ms c.in_ok-value-in-Application.ensures.grown (solved_stays c.args.cells.now b es rs got.grown c.requires.solved) (λ r v d. d) refl (λ r v d. d) got.valued

pub root_value-value_of-requires-in-Front-2 : goal.root_value-value_of-requires-in-Front-2
root_value-value_of-requires-in-Front-2 t c =
    let a = c.args.cells.now in
    let b = c.value_of-in-Front.new.cells in
    let es = c.args.equations.now in
    let rs = c.args.roots.now in
    let ms = c.args.marks.now.items in
    let ns = c.value_of-in-Front.new.marks.items in
    let got = c.in_ok-term-in-Front.ensures in
    let solved = solved_stays a b es rs got.grown c.requires.solved in
    let is = front_stays a b es rs got.grown c.requires.solved ms ns got.marks c.requires.valued.so_many c.args.root c.in-Front.term c.in-Front.terms c.requires.root c.in-Front.ensures in (
      omega (arith, c.decreases, got.marks.fewer),
      (
        omega (arith, is.rest_below, c.requires.root),
        (
          λ e. let same : a_list ≡ other = sym (ap kind_of (item_is b c.in-Front.terms _ is.rest_there)) ∙ e in cc,
          (solved, (got.valued, rest_above b es rs solved ns c.args.root c.in-Front.term c.in-Front.terms is (not_below_stays a b es rs got.grown c.requires.solved ms ns got.marks c.requires.valued.so_many c.args.root c.requires.root c.requires.above))),
        ),
      ),
    )

pub root_value-put-requires-in-Front : goal.root_value-put-requires-in-Front
root_value-put-requires-in-Front t c =
    let a = c.args.cells.now in
    let b = c.value_of-in-Front-2.new.cells in
    let es = c.args.equations.now in
    let rs = c.args.roots.now in
    let ns = c.value_of-in-Front-2.new.marks.items in
    let first = c.in_ok-term-in-Front.ensures in
    let rest = c.in_ok-terms-in-Front.ensures in
    let marks = marks_on c.args.marks.now.items c.value_of-in-Front.new.marks.items ns first.marks rest.marks in
    let solved = solved_stays a b es rs (λ n t h. rest.grown n t (first.grown n t h)) c.requires.solved in
    let is = front_stays a b es rs (λ n t h. rest.grown n t (first.grown n t h)) c.requires.solved c.args.marks.now.items ns marks c.requires.valued.so_many c.args.root c.in-Front.term c.in-Front.terms c.requires.root c.in-Front.ensures in (
      value_term b es rs ns solved rest.valued c.in-Front.term c.in_ok-term-in-Front.term (omega (arith, is.first_below, c.requires.root)) (rest.marks.done (get_or rs c.in-Front.term 0) c.in_ok-term-in-Front.term first.value) is.first_there,
      value_list b es rs ns solved rest.valued c.in-Front.terms c.in_ok-terms-in-Front.terms (omega (arith, is.rest_below, c.requires.root)) rest.value is.rest_there,
    )

pub root_value-returns-in_ok-value-in-Front-clause-value : goal.root_value-returns-in_ok-value-in-Front-clause-value
root_value-returns-in_ok-value-in-Front-clause-value t c =
    let a = c.args.cells.now in
    let b = c.value_of-in-Front-2.new.cells in
    let es = c.args.equations.now in
    let rs = c.args.roots.now in
    let ns = c.value_of-in-Front-2.new.marks.items in
    let first = c.in_ok-term-in-Front.ensures in
    let rest = c.in_ok-terms-in-Front.ensures in
    let marks = marks_on c.args.marks.now.items c.value_of-in-Front.new.marks.items ns first.marks rest.marks in
    let solved = solved_stays a b es rs (λ n t h. rest.grown n t (first.grown n t h)) c.requires.solved in
    let is = front_stays a b es rs (λ n t h. rest.grown n t (first.grown n t h)) c.requires.solved c.args.marks.now.items ns marks c.requires.valued.so_many c.args.root c.in-Front.term c.in-Front.terms c.requires.root c.in-Front.ensures in
    front_value b c.put-in-Front.new.self es rs ns c.in_ok-value-in-Front.ensures.grown solved rest.valued c.args.root c.in_ok-value-in-Front.value c.requires.root
    c.in-Front.term c.in-Front.terms c.in_ok-term-in-Front.term c.in_ok-terms-in-Front.terms is (rest.marks.done (get_or rs c.in-Front.term 0) c.in_ok-term-in-Front.term first.value) rest.value c.in_ok-value-in-Front.ensures.stands

pub root_value-returns-in_ok-value-in-Front-clause-valued : goal.root_value-returns-in_ok-value-in-Front-clause-valued
root_value-returns-in_ok-value-in-Front-clause-valued t c =
    let b = c.value_of-in-Front-2.new.cells in
    let es = c.args.equations.now in
    let rs = c.args.roots.now in
    let ns = c.value_of-in-Front-2.new.marks.items in
    let first = c.in_ok-term-in-Front.ensures in
    let rest = c.in_ok-terms-in-Front.ensures in
    values_stay b c.put-in-Front.new.self es rs ns ns c.in_ok-value-in-Front.ensures.grown (solved_stays c.args.cells.now b es rs (λ n t h. rest.grown n t (first.grown n t h)) c.requires.solved) (λ r v d. d) refl (λ r v d. d) rest.valued
