-- What trees that are rightly built stand for has no quantifier.
use Rattle.std.proofs.Common.{◌≡◌, true, false, not as negated, ◌&&◌, List, [], ◌∷◌, map, refl, ◌∙◌}
use Rattle.std.specs.List.{All, list_all, list_any}
use Rattle.std.proofs.lemmas.List.Sums.{list_all-from_AllPass}
use Rattle.fol.specs.Syntax.{Formula, free, atom, top, bot, not, and, or, imp, all, ex}
use Rattle.fol.specs.Order.{formula_cmp}
use Rattle.finite.specs.Finite as set
use Rattle.lk_rules.specs.declared.sequent.Side.{Side}
use Rattle.lk_rules.specs.declared.sequent.Side.TheVariants.{Left, Right}
use Rattle.lk_rules.proofs.Subsequents.{and_left, and_right, and_both}
use Rattle.search_laws.specs.Truth.{has_quantifier, IsPropositional}
use Rattle.search_laws.proofs.Tests.{neither, not_true, not_false}
use Rattle.expansion_laws.specs.Expansions.{Exp, wk, leaf, neg, conj, disj, impl, weak, strong, Insts, none, more, shallow, turn, nothing_on, joined, deep, deep_first, deep_rest}
use Rattle.expansion_laws.specs.Building.{is_flat, is_instance, is_below, is_quantified, is_built, are_built}
use Rattle.expansion_laws.specs.Dependency.{Expansion}
use Rattle.expansion_laws.specs.Sequents.{deep_sequent}
use Rattle.expansion_laws.proofs.Lists.{all-set_of, not-any}

-- a formula that has no connective and no quantifier at its head has none at all
flat_plain : (f : Formula) → is_flat f ≡ true → has_quantifier f ≡ false
flat_plain (atom s ts) e = refl
flat_plain top e = refl
flat_plain bot e = refl
flat_plain (not f) e = cc
flat_plain (and f g) e = cc
flat_plain (or f g) e = cc
flat_plain (imp f g) e = cc
flat_plain (all f) e = cc
flat_plain (ex f) e = cc

-- what says nothing on a side has no quantifier
nothing_plain : (s : Side) → has_quantifier (nothing_on s) ≡ false
nothing_plain Left = refl
nothing_plain Right = refl

-- instances together have none where each has none
joined_plain : (s : Side) (f g : Formula) → has_quantifier f ≡ false → has_quantifier g ≡ false → has_quantifier (joined s f g) ≡ false
joined_plain Left f g p q = neither _ _ p q
joined_plain Right f g p q = neither _ _ p q

mutual
  -- what a tree that is rightly built stands for has no quantifier
  pub deep_plain : (s : Side) (e : Exp) → is_built e ≡ true → has_quantifier (deep s e) ≡ false
  deep_plain s (wk f) h = nothing_plain s
  deep_plain s (leaf f) h = flat_plain f h
  deep_plain s (neg e) h = deep_plain (turn s) e h
  deep_plain s (conj d e) h = neither _ _ (deep_plain s d (and_left _ _ h)) (deep_plain s e (and_right (is_built d) _ h))
  deep_plain s (disj d e) h = neither _ _ (deep_plain s d (and_left _ _ h)) (deep_plain s e (and_right (is_built d) _ h))
  deep_plain s (impl d e) h = neither _ _ (deep_plain (turn s) d (and_left _ _ h)) (deep_plain s e (and_right (is_built d) _ h))
  deep_plain s (weak f is) h = first_plain s f is (and_right (is_quantified f) _ h)
  deep_plain s (strong f y e) h = deep_plain s e (and_right (is_instance f (free y) (shallow e)) _ h)

  -- nor have the instances at a weak quantifier
  first_plain : (s : Side) (f : Formula) (is : Insts) → are_built f is ≡ true → has_quantifier (deep_first s is) ≡ false
  first_plain s f none h = nothing_plain s
  first_plain s f (more t e is) h =
      rest_plain s (deep s e) f is
      (deep_plain s e (and_right (is_instance f t (shallow e)) _ (and_left (is_instance f t (shallow e) && is_built e) _ h)))
      (and_right (is_below t is) _ (and_right (is_instance f t (shallow e) && is_built e) _ h))

  -- nor these joined to what is in front
  rest_plain : (s : Side) (front f : Formula) (is : Insts) → has_quantifier front ≡ false → are_built f is ≡ true → has_quantifier (deep_rest s front is) ≡ false
  rest_plain s front f none p h = p
  rest_plain s front f (more t e is) p h =
      rest_plain s (joined s front (deep s e)) f is
      (joined_plain s front (deep s e) p
      (deep_plain s e (and_right (is_instance f t (shallow e)) _ (and_left (is_instance f t (shallow e) && is_built e) _ h))))
      (and_right (is_below t is) _ (and_right (is_instance f t (shallow e) && is_built e) _ h))

-- nor has any formula that the trees of a list stand for
each_plain : (s : Side) (es : List Exp) → list_all is_built es ≡ true → list_all (λ f. negated (has_quantifier f)) (map (deep s) es) ≡ true
each_plain s [] h = refl
each_plain s (e ∷ es) h =
    and_both _ _
    (not_false _ (deep_plain s e (and_left _ _ h)))
    (each_plain s es (and_right (is_built e) _ h))

-- nor any formula of a side of the sequent
side_plain : (s : Side) (es : List Exp) → All (λ e. is_built e ≡ true) es → list_any has_quantifier (set.listing (set.adds_each (set.empty {R = formula_cmp}) (map (deep s) es))) ≡ false
side_plain s es h =
    not_true _
    (not-any has_quantifier (set.listing (set.adds_each (set.empty {R = formula_cmp}) (map (deep s) es)))
    ∙ (all-set_of (λ f. negated (has_quantifier f)) (map (deep s) es)
    ∙ each_plain s es (list_all-from_AllPass is_built es h)))

-- what trees that are rightly built stand for has no quantifier on either side
pub sequent_plain : (x : Expansion) → All (λ e. is_built e ≡ true) x.left → All (λ e. is_built e ≡ true) x.right → IsPropositional (deep_sequent x)
sequent_plain x left right = record { left = side_plain Left x.left left; right = side_plain Right x.right right }
