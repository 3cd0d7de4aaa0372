-- The rules that a search takes, and what the auxiliary formulas of their premises are: parts of the main formula.
use Rattle.std.proofs.Common.{◌≡◌, ℕ, zero, suc, Bool, true, false, not, ◌&&◌, refl, sym, ◌∙◌}
use Rattle.fol.specs.Syntax.{Formula, not as negation, and, or, imp}
use Rattle.fol.specs.Formed.{is_formed}
use Rattle.lk_rules.specs.declared.sequent.Sequent.{Sequent}
use Rattle.lk_rules.specs.declared.rule.Rule.{Rule}
use Rattle.lk_rules.specs.declared.rule.Rule.TheVariants.{Ax, TopR, BotL, NegL, NegR, AndL, AndR, OrL, OrR, ImpL, ImpR, AllR, ExL, Cut}
use Rattle.lk_rules.specs.Rules.{IsFormedRule, has_shape, main, aux, main_stands, eigen_free}
use Rattle.lk_rules.proofs.Subsequents.{and_left, and_right, and_both}
use Rattle.proof_trees.specs.Trees.{is_cut}
use Rattle.search_laws.specs.Truth.{has_quantifier}
use Rattle.search_laws.specs.Search.{without_main, premise_at}
use Rattle.search_laws.proofs.Tests.{not-or}
use Rattle.search_laws.proofs.Passing.{passes, lists_pass, passes-premise, passes-conclusion}

-- whether a search may take the rule: an axiom, one of truth and falsity, or one of a connective whose main formula has that connective
abbrev pub is_searched : Rule → Bool
is_searched (Ax f) = true
is_searched TopR = true
is_searched BotL = true
is_searched (NegL (negation f)) = true
is_searched (NegR (negation f)) = true
is_searched (AndL (and f g)) = true
is_searched (AndR (and f g)) = true
is_searched (OrL (or f g)) = true
is_searched (OrR (or f g)) = true
is_searched (ImpL (imp f g)) = true
is_searched (ImpR (imp f g)) = true
is_searched r = false

-- the rule is one that a search may take, and its main formula stands in the sequent
pub record Fits (r : Rule) (s : Sequent) : Type 0 where
  pub searched : is_searched r ≡ true
  pub stands : main_stands r s ≡ true

-- its main formula has the shape that it asks for
pub shape_searched : (r : Rule) → is_searched r ≡ true → has_shape r ≡ true
shape_searched (NegL (negation f)) e = refl
shape_searched (NegR (negation f)) e = refl
shape_searched (AndL (and f g)) e = refl
shape_searched (AndR (and f g)) e = refl
shape_searched (OrL (or f g)) e = refl
shape_searched (OrR (or f g)) e = refl
shape_searched (ImpL (imp f g)) e = refl
shape_searched (ImpR (imp f g)) e = refl
shape_searched r e = cc

-- it has no eigenvariable
pub eigen_searched : (r : Rule) (s : Sequent) → is_searched r ≡ true → eigen_free r s ≡ false
eigen_searched (AllR f y) s e = cc
eigen_searched (ExL f y) s e = cc
eigen_searched r s e = refl

-- it is no cut
pub cut_searched : (r : Rule) → is_searched r ≡ true → is_cut r ≡ false
cut_searched (Cut f) e = cc
cut_searched r e = refl

-- a test that a formula with a connective at its head passes where its parts do
pub record IsByParts (p : Formula → Bool) : Type 0 where
  pub of_negation : (f : Formula) → p (negation f) ≡ p f
  pub of_conjunction : (f g : Formula) → p (and f g) ≡ (p f && p g)
  pub of_disjunction : (f g : Formula) → p (or f g) ≡ (p f && p g)
  pub of_implication : (f g : Formula) → p (imp f g) ≡ (p f && p g)

-- well-formedness is such a test
pub formed_by_parts : IsByParts is_formed
formed_by_parts = record { of_negation = λ f. refl; of_conjunction = λ f g. refl; of_disjunction = λ f g. refl; of_implication = λ f g. refl }

-- whether a formula has no quantifier
abbrev pub is_propositional : Formula → Bool
is_propositional f = not (has_quantifier f)

-- and so is the lack of quantifiers
pub propositional_by_parts : IsByParts is_propositional
propositional_by_parts = record {
  of_negation = λ f. refl;
  of_conjunction = λ f g. not-or (has_quantifier f) (has_quantifier g);
  of_disjunction = λ f g. not-or (has_quantifier f) (has_quantifier g);
  of_implication = λ f g. not-or (has_quantifier f) (has_quantifier g);
}

-- one formula alone on the left, and on the right
pub alone_left : (b : Bool) → ((b && true) && true) ≡ true → b ≡ true
alone_left true e = refl
alone_left false e = e

pub alone_right : (b : Bool) → (true && (b && true)) ≡ true → b ≡ true
alone_right true e = refl
alone_right false e = e

module _ (p : Formula → Bool) (h : IsByParts p) where
  -- two formulas pass
  abbrev both_pass : Formula → Formula → Type 0
  both_pass f g = (p f ≡ true) × (p g ≡ true)

  -- from the test of both
  two : (f g : Formula) → (p f && p g) ≡ true → both_pass f g
  two f g e = (and_left _ _ e, and_right (p f) _ e)

  -- where the main formula passes, the auxiliary formulas of each premise do
  parts_pass : (r : Rule) (i : ℕ) → is_searched r ≡ true → lists_pass (λ side. p) (main r) ≡ true → lists_pass (λ side. p) (aux r i) ≡ true
  parts_pass (NegL (negation f)) zero e m = rw (sym (h.of_negation f) ∙ alone_left _ m) refl
  parts_pass (NegR (negation f)) zero e m = rw (sym (h.of_negation f) ∙ alone_right _ m) refl
  parts_pass (AndL (and f g)) zero e m = let both = two f g (sym (h.of_conjunction f g) ∙ alone_left _ m) in rw (both.0, both.1) refl
  parts_pass (AndR (and f g)) zero e m = rw ((two f g (sym (h.of_conjunction f g) ∙ alone_right _ m)).0) refl
  parts_pass (AndR (and f g)) (suc zero) e m = rw ((two f g (sym (h.of_conjunction f g) ∙ alone_right _ m)).1) refl
  parts_pass (OrL (or f g)) zero e m = rw ((two f g (sym (h.of_disjunction f g) ∙ alone_left _ m)).0) refl
  parts_pass (OrL (or f g)) (suc zero) e m = rw ((two f g (sym (h.of_disjunction f g) ∙ alone_left _ m)).1) refl
  parts_pass (OrR (or f g)) zero e m = let both = two f g (sym (h.of_disjunction f g) ∙ alone_right _ m) in rw (both.0, both.1) refl
  parts_pass (ImpL (imp f g)) zero e m = rw ((two f g (sym (h.of_implication f g) ∙ alone_left _ m)).0) refl
  parts_pass (ImpL (imp f g)) (suc zero) e m = rw ((two f g (sym (h.of_implication f g) ∙ alone_left _ m)).1) refl
  parts_pass (ImpR (imp f g)) zero e m = let both = two f g (sym (h.of_implication f g) ∙ alone_right _ m) in rw (both.0, both.1) refl
  parts_pass r i e m = cc

  -- what each formula of the conclusion passes, each formula of a premise passes
  pub premise_passes : (r : Rule) (s : Sequent) (i : ℕ) → Fits r s → passes (λ side. p) s ≡ true → passes (λ side. p) (premise_at r s i) ≡ true
  premise_passes r s i fits e =
      let both : (passes (λ side. p) (without_main r s) && lists_pass (λ side. p) (main r)) ≡ true = sym (passes-conclusion (λ side. p) r s fits.stands) ∙ e in
      passes-premise (λ side. p) r s i
      ∙ and_both _ _ (and_left _ _ both) (parts_pass r i fits.searched (and_right (passes (λ side. p) (without_main r s)) _ both))

-- the rule names a formula of the sequent, so where those are well formed, it is too
formed_main : (r : Rule) → is_searched r ≡ true → lists_pass (λ side. is_formed) (main r) ≡ true → IsFormedRule r
formed_main (Ax f) e m = and_left _ _ (and_left _ _ m)
formed_main (NegL f) e m = alone_left _ m
formed_main (NegR f) e m = alone_right _ m
formed_main (AndL f) e m = alone_left _ m
formed_main (AndR f) e m = alone_right _ m
formed_main (OrL f) e m = alone_left _ m
formed_main (OrR f) e m = alone_right _ m
formed_main (ImpL f) e m = alone_left _ m
formed_main (ImpR f) e m = alone_right _ m
formed_main r e m = cc

-- the same in a sequent that the rule fits
pub formed_rule : (r : Rule) (s : Sequent) → Fits r s → passes (λ side. is_formed) s ≡ true → IsFormedRule r
formed_rule r s fits e =
    formed_main r fits.searched
    (and_right (passes (λ side. is_formed) (without_main r s)) _ (sym (passes-conclusion (λ side. is_formed) r s fits.stands) ∙ e))
