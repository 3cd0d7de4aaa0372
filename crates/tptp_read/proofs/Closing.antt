-- Variables quantified one after another, the innermost first, are those of the list turned round quantified all at once.
use Rattle.std.proofs.Common.{◌≡◌, List, [], ◌∷◌, ◌++◌, reverse, refl, ap, ◌∙◌}
use Rattle.std.proofs.lemmas.Grind.{reverse_onto}
use Rattle.fol.specs.declared.symbols.Var.{Var}
use Rattle.fol.specs.Syntax.{Formula, all, ex}
use Rattle.substitution.specs.Instance.{bind}
use Rattle.substitution.specs.Closing.{closed_over}
use Rattle.tptp_tokens.specs.declared.tokens.Quantifier.{Quantifier}
use Rattle.tptp_tokens.specs.declared.tokens.Quantifier.TheVariants.{All, Ex}
use Rattle.tptp_read.specs.Meaning.{quantified_by, quantified}
use Rattle.tptp_read.specs.Machine.{closed}

pub over_all : (vs : List Var) (f : Formula) → closed_over all vs f ≡ quantified All vs f
over_all [] f = refl
over_all (v ∷ vs) f = ap (λ g. all (bind g v)) (over_all vs f)

pub over_ex : (vs : List Var) (f : Formula) → closed_over ex vs f ≡ quantified Ex vs f
over_ex [] f = refl
over_ex (v ∷ vs) f = ap (λ g. ex (bind g v)) (over_ex vs f)

quantified-append : (q : Quantifier) (us vs : List Var) (f : Formula) → quantified q (us ++ vs) f ≡ quantified q us (quantified q vs f)
quantified-append q [] vs f = refl
quantified-append q (u ∷ us) vs f = ap (quantified_by q u) (quantified-append q us vs f)

pub closed_turned : (q : Quantifier) (vs : List Var) (f : Formula) → quantified q (reverse vs) f ≡ closed q vs f
closed_turned q [] f = refl
closed_turned q (v ∷ vs) f =
    ap (λ us. quantified q us f) (reverse_onto vs v []) ∙ (quantified-append q (reverse vs) (v ∷ []) f ∙ closed_turned q vs (quantified_by q v f))
