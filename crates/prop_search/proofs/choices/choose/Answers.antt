use Rattle.std.proofs.Common.{true, false, Some, None, refl, sym, ap, ◌∙◌}
use Rattle.std.specs.Prelude.{option_map}
use Rattle.prop_search.specs.Formulas.{formula_at, sequent_of}
use Rattle.prop_search.proofs.Choosing.{taken, left_first}
use Rattle.prop_search.proofs.choices.choose.Goals as goal

pub returns-in-Some : goal.returns-in-Some
returns-in-Some c =
    let fs = c.args.numbering.now in
    let f = formula_at fs c.in-Some.number in (
      c.in-Some.ensures.within,
      taken (sequent_of fs c.args.sequent.now) (Some f) _ _ _ _ (sym (ap (option_map (formula_at fs)) c.in-Some.is) ∙ c.axiom.ensures.least) refl refl refl refl,
    )

pub returns-then-has_truth : goal.returns-then-has_truth
returns-then-has_truth c =
    let fs = c.args.numbering.now in
    let none = sym (ap (option_map (formula_at fs)) c.in_default.is) ∙ c.axiom.ensures.least in
    (tt, taken (sequent_of fs c.args.sequent.now) None true _ _ _ none (sym c.if-has_truth.true ∙ c.has_truth.ensures) refl refl refl)

pub returns-then-has_falsity : goal.returns-then-has_falsity
returns-then-has_falsity c =
    let fs = c.args.numbering.now in
    let none = sym (ap (option_map (formula_at fs)) c.in_default.is) ∙ c.axiom.ensures.least in
    (tt, taken (sequent_of fs c.args.sequent.now) None false true _ _ none (sym c.if-has_truth.false ∙ c.has_truth.ensures) (sym c.if-has_falsity.true ∙ c.has_falsity.ensures) refl refl)

pub returns-in-Some-left_compound : goal.returns-in-Some-left_compound
returns-in-Some-left_compound c =
    let fs = c.args.numbering.now in
    let f = formula_at fs c.in-Some-left_compound.number in
    let none = sym (ap (option_map (formula_at fs)) c.in_default.is) ∙ c.axiom.ensures.least in
    let found = sym (ap (option_map (formula_at fs)) c.in-Some-left_compound.is) ∙ c.left_compound.ensures.least in (
      c.in-Some-left_compound.ensures.within,
      c.in-Some-left_compound.ensures.compound,
      taken (sequent_of fs c.args.sequent.now) None false false (Some f) _ none (sym c.if-has_truth.false ∙ c.has_truth.ensures) (sym c.if-has_falsity.false ∙ c.has_falsity.ensures) found refl
          ∙ left_first f _ c.in-Some-left_compound.ensures.compound,
    )

pub returns-in-Some-right_compound : goal.returns-in-Some-right_compound
returns-in-Some-right_compound c =
    let fs = c.args.numbering.now in
    let f = formula_at fs c.in-Some-right_compound.number in
    let none = sym (ap (option_map (formula_at fs)) c.in_default.is) ∙ c.axiom.ensures.least in
    let no_left = sym (ap (option_map (formula_at fs)) c.in_default-left_compound.is) ∙ c.left_compound.ensures.least in
    let found = sym (ap (option_map (formula_at fs)) c.in-Some-right_compound.is) ∙ c.right_compound.ensures.least in (
      c.in-Some-right_compound.ensures.within,
      c.in-Some-right_compound.ensures.compound,
      taken (sequent_of fs c.args.sequent.now) None false false None (Some f) none (sym c.if-has_truth.false ∙ c.has_truth.ensures) (sym c.if-has_falsity.false ∙ c.has_falsity.ensures) no_left found,
    )

pub returns-in-None : goal.returns-in-None
returns-in-None c =
    let fs = c.args.numbering.now in
    let none = sym (ap (option_map (formula_at fs)) c.in_default.is) ∙ c.axiom.ensures.least in
    let no_left = sym (ap (option_map (formula_at fs)) c.in_default-left_compound.is) ∙ c.left_compound.ensures.least in
    let no_right = sym (ap (option_map (formula_at fs)) c.in-None.is) ∙ c.right_compound.ensures.least in
    taken (sequent_of fs c.args.sequent.now) None false false None None none (sym c.if-has_truth.false ∙ c.has_truth.ensures) (sym c.if-has_falsity.false ∙ c.has_falsity.ensures) no_left no_right
