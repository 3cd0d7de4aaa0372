-- An atom whose symbol has a body weighs what the body does under the sizes of its arguments.
use Rattle.std.proofs.Common.{rules, ◌≡◌, ◌+◌, length, sym, ap, ◌∙◌, arith}
use Rattle.fol.specs.Formed.{count_terms}
use Rattle.fol.specs.Shown.{body_of, formula_of}
use Rattle.fol.specs.Syntax.{Pred, pred, defined, atom}
use Rattle.def_laws.specs.Flat.{flat}
use Rattle.def_symbols.specs.Weights.{cut_sizes}
use Rattle.def_symbols.proofs.Bodies.{some_weight, formed_of_body, room_of_body, counted_body}
use Rattle.def_symbols.proofs.Cuts.{length-cut_sizes}
use Rattle.def_symbols.proofs.counting.+count.Goals as goal

pub returns-in_default : goal.returns-in_default
returns-in_default t c = omega (arith, some_weight c.args.sizes.now c.args.level (flat c.args.formula.now), c.in_default.ensures)

pub count-requires : goal.count-requires
count-requires t c =
    let whole : atom (pred c.predicate.inside.symbol (defined c.in-Some-body.body)) c.in-Atom.terms ≡ c.args.formula.now =
    ap (λ (p : Pred). atom p c.in-Atom.terms) (ap (λ o. pred c.predicate.inside.symbol (body_of o)) (sym c.in-Some-body.is) ∙ c.predicate.view_is)
    ∙ (ap formula_of (sym c.in-Atom.is) ∙ c.node.ensures) in
    let inner : c.deref.result.now ≡ cut_sizes c.args.sizes.now c.args.level c.in-Atom.terms = c.deref.ensures.value ∙ c.in_ok-sizes-in-Some-body.ensures in
    let counted : c.len.result ≡ count_terms c.in-Atom.terms =
    c.len.ensures ∙ sym c.deref.ensures.len ∙ ap length inner ∙ length-cut_sizes c.args.sizes.now c.args.level c.in-Atom.terms in (
      search rules,
      (
        formed_of_body c.args.formula.now c.in-Some-body.body c.matrix-matrix.result.now c.predicate.inside.symbol c.in-Atom.terms c.args.level c.len.result whole c.requires.formed counted c.matrix-matrix.ensures.value,
        (
          omega (arith, c.deref.ensures.len, c.len.ensures),
          (
            room_of_body c.args.formula.now c.in-Some-body.body c.matrix-matrix.result.now c.predicate.inside.symbol c.in-Atom.terms c.args.level c.len.result whole c.requires.room counted c.matrix-matrix.ensures.value,
            omega (arith, c.in-Some.ensures),
          ),
        ),
      ),
    )

pub returns-in_ok-sizes-in-Some-body : goal.returns-in_ok-sizes-in-Some-body
returns-in_ok-sizes-in-Some-body t c =
    let whole : atom (pred c.predicate.inside.symbol (defined c.in-Some-body.body)) c.in-Atom.terms ≡ c.args.formula.now =
    ap (λ (p : Pred). atom p c.in-Atom.terms) (ap (λ o. pred c.predicate.inside.symbol (body_of o)) (sym c.in-Some-body.is) ∙ c.predicate.view_is)
    ∙ (ap formula_of (sym c.in-Atom.is) ∙ c.node.ensures) in
    let inner : c.deref.result.now ≡ cut_sizes c.args.sizes.now c.args.level c.in-Atom.terms = c.deref.ensures.value ∙ c.in_ok-sizes-in-Some-body.ensures in
    let counted : c.len.result ≡ count_terms c.in-Atom.terms =
    c.len.ensures ∙ sym c.deref.ensures.len ∙ ap length inner ∙ length-cut_sizes c.args.sizes.now c.args.level c.in-Atom.terms in
    counted_body c.count.result c.args.formula.now c.in-Some-body.body c.matrix-matrix.result.now c.predicate.inside.symbol c.in-Atom.terms c.args.sizes.now c.deref.result.now c.args.level c.len.result c.args.left (c.in-Some.left + 1)
    whole c.requires.formed c.requires.within inner counted c.matrix-matrix.ensures.value c.requires.few (omega arith) c.count.ensures
