-- The formula of a cut, and its instances.
use Rattle.std.proofs.Common.{◌≡◌, ◌<◌, ◌^◌, true, false, not as negated, ◌&&◌, List, sym, ap, subst, ◌∙◌, arith}
use Rattle.std.specs.List.{All}
use Rattle.fol.specs.declared.symbols.Var.{Var}
use Rattle.fol.specs.Syntax.{Term, free, all}
use Rattle.fol.specs.Formed.{is_formed, is_formed_term, is_formed_var}
use Rattle.free_variables.specs.Occurrence.{is_free_in}
use Rattle.substitution.specs.Instance.{inst, bind}
use Rattle.substitution.proofs.BindLaws.{inst-bind_at, inst-bind_itself}
use Rattle.substitution.proofs.ClosedLaws.{closed_of}
use Rattle.substitution.proofs.FreeLaws.{free-bind_at}
use Rattle.substitution.proofs.ImageLaws.{itself}
use Rattle.substitution.proofs.InstanceFormed.{formed-bind}
use Rattle.lk_rules.specs.declared.sequent.Sequent.{Sequent}
use Rattle.lk_rules.specs.Sequents.{is_free_in_sequent}
use Rattle.search_laws.specs.Truth.{has_quantifier}
use Rattle.search_laws.proofs.Tests.{and-false}
use Rattle.herbrand_laws.specs.Herbrand.{Item}
use Rattle.herbrand_laws.specs.Patterns.{TermSet}
use Rattle.herbrand_laws.specs.Introduction.{instances_at, matrix_at}
use Rattle.herbrand_laws.proofs.CutMatrix.{IsItem, instances_at_are, plain_instances, formed_instances, plain_nesting, image-matrix_at}

module _ (y : Var) (s : Sequent) (formed_y : is_formed_var y ≡ true) (out : is_free_in_sequent y s ≡ false) (items : List Item) (are : All (IsItem y s) items) where
  -- with a well-formed term the matrix is well formed and has no quantifier
  module _ (width : _) (w : TermSet) where
    pub matrix_formed : (t : Term) → is_formed_term t ≡ true → is_formed (matrix_at width items w t) ≡ true
    matrix_formed t f = formed_instances s (instances_at width items w t) (instances_at_are y s formed_y width items are w t f)

    pub matrix_plain_at : (t : Term) → is_formed_term t ≡ true → has_quantifier (matrix_at width items w t) ≡ false
    matrix_plain_at t f = plain_instances s (instances_at width items w t) (instances_at_are y s formed_y width items are w t f)

    -- so is the formula of the cut, in which the variable isn't free
    pub cut_formed : is_formed (all (bind (matrix_at width items w (free y)) y)) ≡ true
    cut_formed =
        let c = matrix_at width items w (free y) in
        formed-bind c y (subst (λ n. n < 2 ^ 32) (sym (plain_nesting c (matrix_plain_at (free y) formed_y))) (omega arith)) (matrix_formed (free y) formed_y)

    pub cut_without : is_free_in y (all (bind (matrix_at width items w (free y)) y)) ≡ false
    cut_without =
        let c = matrix_at width items w (free y) in
        free-bind_at y y c 0 ∙ (ap (λ b. is_free_in y c && negated b) (itself y) ∙ sym (and-false (is_free_in y c)))

    -- its instance by the variable is the matrix with that, and its instance by a term the matrix with the term
    pub cut_opened : inst (bind (matrix_at width items w (free y)) y) (free y) ≡ matrix_at width items w (free y)
    cut_opened = inst-bind_itself (matrix_at width items w (free y)) y 0 (closed_of (matrix_at width items w (free y)) 0 (matrix_formed (free y) formed_y))

    pub cut_instance : (t : Term) → is_formed_term t ≡ true → inst (bind (matrix_at width items w (free y)) y) t ≡ matrix_at width items w t
    cut_instance t f =
        inst-bind_at t (matrix_at width items w (free y)) y 0 (closed_of (matrix_at width items w (free y)) 0 (matrix_formed (free y) formed_y))
        ∙ image-matrix_at y s formed_y out t f width w items are
