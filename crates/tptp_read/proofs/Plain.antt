-- What the grammar reads has no predicate symbol with a body.
use Rattle.std.proofs.Common.{◌≡◌, ℕ, Bool, true, false, ◌||◌, List, [], ◌∷◌, Ok, refl, ◌∙◌}
use Rattle.fol.specs.declared.symbols.Var.{Var}
use Rattle.fol.specs.Syntax.{Formula}
use Rattle.fol.specs.Facts.{has_body}
use Rattle.substitution.proofs.ShapeLaws.{body-bind_at}
use Rattle.tptp_tokens.specs.declared.tokens.Quantifier.{Quantifier}
use Rattle.tptp_tokens.specs.declared.tokens.Quantifier.TheVariants.{All, Ex}
use Rattle.tptp_tokens.specs.declared.tokens.ChainOperator.{ChainOperator}
use Rattle.tptp_tokens.specs.declared.tokens.ChainOperator.TheVariants.{And, Or}
use Rattle.tptp_tokens.specs.declared.tokens.BinaryOperator.{BinaryOperator}
use Rattle.tptp_tokens.specs.declared.tokens.BinaryOperator.TheVariants.{Implies, ImpliedBy, Equivalent, Different, Nor, Nand}
use Rattle.tptp_tokens.specs.declared.tokens.Token.{Token}
use Rattle.tptp_read.specs.declared.state.Limits.{Limits}
use Rattle.tptp_read.specs.declared.state.TheConstants.{LIMITS}
use Rattle.tptp_read.specs.Meaning.{chained_by, joined_by, truth, quantified, quantified_by}
use Rattle.tptp_read.specs.Grammar.{IsUnit, truth_value, predicate, equality, negation, group, quantifier, IsQuantified, body, IsFormula, alone, binary, chain, IsMembers, last_member, member}
use Rattle.tptp_read.specs.Texts.{IsFormulaText, formula_reading}
use Rattle.tptp_read.proofs.Whole.{exact_formula}

neither : (a b : Bool) → a ≡ false → b ≡ false → (a || b) ≡ false
neither a b p q = rw p q

chained_plain : (c : ChainOperator) (f g : Formula) → has_body f ≡ false → has_body g ≡ false → has_body (chained_by c f g) ≡ false
chained_plain And f g p q = neither _ _ p q
chained_plain Or f g p q = neither _ _ p q

joined_plain : (b : BinaryOperator) (f g : Formula) → has_body f ≡ false → has_body g ≡ false → has_body (joined_by b f g) ≡ false
joined_plain Implies f g p q = neither _ _ p q
joined_plain ImpliedBy f g p q = neither _ _ q p
joined_plain Equivalent f g p q = neither _ _ (neither _ _ p q) (neither _ _ q p)
joined_plain Different f g p q = neither _ _ (neither _ _ p q) (neither _ _ q p)
joined_plain Nor f g p q = neither _ _ p q
joined_plain Nand f g p q = neither _ _ p q

quantified_by_plain : (q : Quantifier) (v : Var) (f : Formula) → has_body f ≡ false → has_body (quantified_by q v f) ≡ false
quantified_by_plain All v f p = body-bind_at v f 0 ∙ p
quantified_by_plain Ex v f p = body-bind_at v f 0 ∙ p

quantified_plain : (q : Quantifier) (vs : List Var) (f : Formula) → has_body f ≡ false → has_body (quantified q vs f) ≡ false
quantified_plain q [] f p = p
quantified_plain q (v ∷ vs) f p = quantified_by_plain q v (quantified q vs f) (quantified_plain q vs f p)

truth_plain : (b : Bool) → has_body (truth b) ≡ false
truth_plain true = refl
truth_plain false = refl

module _ (lim : Limits) where
  mutual
    unit_plain : (l : ℕ) (ts us : List Token) (f : Formula) → IsUnit lim l ts f us → has_body f ≡ false
    unit_plain l ts us f (truth_value l' us' b) = truth_plain b
    unit_plain l ts us f (predicate l' ts' us' s xs t) = refl
    unit_plain l ts us f (equality l' ts' us' vs' true x y t u) = refl
    unit_plain l ts us f (equality l' ts' us' vs' false x y t u) = refl
    unit_plain l ts us f (negation l' ts' us' g u) = unit_plain l' ts' us' g u
    unit_plain l ts us f (group l' ts' us' g u) = formula_plain l' ts' _ g u
    unit_plain l ts us f (quantifier l' ts' us' q g u) = scope_plain q l' ts' us' g u

    scope_plain : (q : Quantifier) (l : ℕ) (ts us : List Token) (g : Formula) → IsQuantified lim q l ts g us → has_body g ≡ false
    scope_plain q l ts us g (body q' l' ts' us' zs' vs f list u) = quantified_plain q' vs f (unit_plain l' us' zs' f u)

    formula_plain : (l : ℕ) (ts us : List Token) (f : Formula) → IsFormula lim l ts f us → has_body f ≡ false
    formula_plain l ts us f (alone l' ts' us' g u) = unit_plain l' ts' us' g u
    formula_plain l ts us f (binary l' ts' us' vs' b g h u v) = joined_plain b g h (unit_plain l' ts' _ g u) (unit_plain l' us' vs' h v)
    formula_plain l ts us f (chain l' ts' us' vs' c g h u rest) = members_plain c l' 1 g h us' vs' rest (unit_plain l' ts' _ g u)

    members_plain : (c : ChainOperator) (l n : ℕ) (f h : Formula) (ts us : List Token) → IsMembers lim c l n f ts h us → has_body f ≡ false → has_body h ≡ false
    members_plain c l n f h ts us (last_member c' l' n' f' g' ts' us' fits u) p = chained_plain c' f' g' p (unit_plain l' ts' us' g' u)
    members_plain c l n f h ts us (member c' l' n' f' g' h' ts' us' vs' fits u rest) p =
        members_plain c' l' _ (chained_by c' f' g') h' us' vs' rest (chained_plain c' f' g' p (unit_plain l' ts' _ g' u))

-- the formula that a text is has none
pub text_plain : (bytes : List ℕ) (f : Formula) → IsFormulaText bytes f → has_body f ≡ false
text_plain bytes f text = formula_plain LIMITS LIMITS.levels text.tokens [] f text.reads

pub reading_plain : (text : List ℕ) (f : Formula) → formula_reading text ≡ Ok f → has_body f ≡ false
reading_plain text f is = text_plain text f ((exact_formula text (Ok f)).0 is)
