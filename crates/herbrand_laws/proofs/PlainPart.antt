-- The part of a sequent without quantifiers.
use Rattle.std.proofs.Common.{◌≡◌, Bool, true, false, not as negated, List, sym, ap, ◌∙◌}
use Rattle.std.specs.List.{list_all, filter}
use Rattle.std.specs.Ordering.{eq_by_cmp}
use Rattle.std.proofs.lemmas.List.Elements.{All-filter, filter_passes}
use Rattle.std.proofs.lemmas.List.Sums.{AllPass-from_list_all, list_all-from_AllPass}
use Rattle.std.proofs.lemmas.Map.Views.{any-filter_same}
use Rattle.fol.specs.Syntax.{Formula}
use Rattle.fol.specs.Order.{formula_cmp}
use Rattle.fol.specs.Formed.{is_formed}
use Rattle.finite.specs.Finite as set
use Rattle.finite.proofs.Finite.{has-empty, has-listing}
use Rattle.lk_rules.specs.declared.sequent.Sequent.{Sequent}
use Rattle.lk_rules.specs.declared.sequent.Side.{Side}
use Rattle.lk_rules.specs.declared.sequent.Side.TheVariants.{Left, Right}
use Rattle.lk_rules.specs.Formulas.{FormulaSet}
use Rattle.lk_rules.specs.Sequents.{IsSubsequent}
use Rattle.lk_rules.proofs.Subsequents.{and_left, and_right, and_both}
use Rattle.proof_trees.proofs.FormulaSets.{equal}
use Rattle.search_laws.specs.Truth.{has_quantifier, IsPropositional}
use Rattle.search_laws.proofs.Found.{are_formed}
use Rattle.search_laws.proofs.Listed.{among, added, old_or_added}
use Rattle.search_laws.proofs.Tests.{split, clash, not_false}
use Rattle.expansion_laws.proofs.Lists.{all-set_of}
use Rattle.herbrand_laws.specs.Introduction.{plain_formulas, plain_part}
use Rattle.herbrand_laws.proofs.Herbrand.{listed_plain}
use Rattle.herbrand_laws.proofs.RulesOver.{Stands}

abbrev is_plain : Formula → Bool
is_plain f = negated (has_quantifier f)

-- a formula without quantifiers stays
stays : (s : FormulaSet) (f : Formula) → set.has s f ≡ true → has_quantifier f ≡ false → set.has (plain_formulas s) f ≡ true
stays s f m h =
    added set.empty (filter is_plain (set.listing s)) f
    (any-filter_same (eq_by_cmp formula_cmp f) is_plain true (λ g e. ap is_plain (sym (equal f g e)) ∙ not_false (has_quantifier f) h) (set.listing s)
    ∙ (sym (has-listing s f) ∙ m))

pub plain_stands : (s : Sequent) (side : Side) (f : Formula) → Stands s side f → has_quantifier f ≡ false → Stands (plain_part s) side f
plain_stands s Left f m h = stays s.left f m h
plain_stands s Right f m h = stays s.right f m h

-- no other formula is there
kept_among : (p : Formula → Bool) (fs : List Formula) (f : Formula) → among (filter p fs) f ≡ true → among fs f ≡ true
kept_among p fs f e =
    split (p f)
    (λ here. sym (any-filter_same (eq_by_cmp formula_cmp f) p true (λ g h. ap p (sym (equal f g h)) ∙ here) fs) ∙ e)
    (λ out. clash (among (filter p fs) f) e (any-filter_same (eq_by_cmp formula_cmp f) p false (λ g h. ap p (sym (equal f g h)) ∙ out) fs))

was : (s : FormulaSet) (f : Formula) → set.has (plain_formulas s) f ≡ true → set.has s f ≡ true
was s f m =
    old_or_added set.empty (filter is_plain (set.listing s)) f
    (λ old. clash (set.has (set.empty {R = formula_cmp}) f) old (has-empty formula_cmp f))
    (λ new. has-listing s f ∙ kept_among is_plain (set.listing s) f new)
    m

pub plain_within : (s : Sequent) → IsSubsequent (plain_part s) s
plain_within s = record { left = was s.left; right = was s.right }

-- it has no quantifier, and is well formed where the sequent is

pub plain_propositional : (s : Sequent) → IsPropositional (plain_part s)
plain_propositional s = record {
  left = listed_plain (filter is_plain (set.listing s.left)) (list_all-from_AllPass is_plain (filter is_plain (set.listing s.left)) (filter_passes is_plain (set.listing s.left)));
  right = listed_plain (filter is_plain (set.listing s.right)) (list_all-from_AllPass is_plain (filter is_plain (set.listing s.right)) (filter_passes is_plain (set.listing s.right)));
}

formed_side : (s : FormulaSet) → list_all is_formed (set.listing s) ≡ true → list_all is_formed (set.listing (plain_formulas s)) ≡ true
formed_side s h =
    all-set_of is_formed (filter is_plain (set.listing s))
    ∙ list_all-from_AllPass is_formed (filter is_plain (set.listing s)) (All-filter is_plain (λ f. is_formed f ≡ true) (set.listing s) (AllPass-from_list_all is_formed (set.listing s) h))

pub plain_formed : (s : Sequent) → are_formed s ≡ true → are_formed (plain_part s) ≡ true
plain_formed s h = and_both _ _ (formed_side s.left (and_left _ _ h)) (formed_side s.right (and_right (list_all is_formed (set.listing s.left)) _ h))
