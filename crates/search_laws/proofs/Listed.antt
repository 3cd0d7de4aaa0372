-- Tests that each formula of a list or of a set passes: sets with the formulas of a list, and without them.
use Rattle.std.proofs.Common.{◌≡◌, Bool, true, not, ◌&&◌, List, [], ◌∷◌, filter, refl, sym, ap, ◌∙◌}
use Rattle.std.specs.List.{list_all, list_any}
use Rattle.std.specs.Ordering.{eq_by_cmp}
use Rattle.std.proofs.lemmas.Map.Views.{any-filter_same}
use Rattle.fol.specs.Syntax.{Formula}
use Rattle.fol.specs.Order.{formula_cmp}
use Rattle.fol.specs.OrderLaws.{formula_total}
use Rattle.finite.specs.Finite as set
use Rattle.finite.proofs.Finite.{has-listing, has-empty, has-adds_each}
use Rattle.lk_rules.specs.Formulas.{FormulaSet}
use Rattle.lk_rules.proofs.Listings.{equal_either_way}
use Rattle.lk_rules.proofs.Subsequents.{and_left, and_right, and_both}
use Rattle.proof_trees.proofs.Booleans.{or_first, or_second, either}
use Rattle.proof_trees.specs.FormulaSets.{without}
use Rattle.proof_trees.proofs.FormulaSets.{equal, tied, without_member}
use Rattle.search_laws.specs.Search.{without_each}
use Rattle.search_laws.proofs.Tests.{split, clash, same_truth}

-- whether a formula is in a list
abbrev pub among : List Formula → Formula → Bool
among fs f = list_any (eq_by_cmp formula_cmp f) fs

-- a formula is in a list that begins with it
pub among_first : (f : Formula) (fs : List Formula) → among (f ∷ fs) f ≡ true
among_first f fs = or_first (eq_by_cmp formula_cmp f f) (among fs f) (tied f f refl)

-- and in one with another before it
pub among_later : (f g : Formula) (fs : List Formula) → among fs f ≡ true → among (g ∷ fs) f ≡ true
among_later f g fs e = or_second (eq_by_cmp formula_cmp f g) (among fs f) e

-- what each formula of a list passes, one of them passes
pub passed : (p : Formula → Bool) (fs : List Formula) (f : Formula) → list_all p fs ≡ true → among fs f ≡ true → p f ≡ true
passed p [] f all m = cc
passed p (g ∷ gs) f all m =
    either (eq_by_cmp formula_cmp f g) (among gs f)
    (λ e. ap p (equal f g e) ∙ and_left _ _ all)
    (passed p gs f (and_right (p g) _ all))
    m

-- a list whose formulas pass one by one passes
pub all_pass : (p : Formula → Bool) (fs : List Formula) → ((f : Formula) → among fs f ≡ true → p f ≡ true) → list_all p fs ≡ true
all_pass p [] each = refl
all_pass p (f ∷ fs) each = and_both _ _ (each f (among_first f fs)) (all_pass p fs (λ g m. each g (among_later g f fs m)))

-- the same of the members of a set

-- each member passes
pub member_passes : (p : Formula → Bool) (s : FormulaSet) (f : Formula) → list_all p (set.listing s) ≡ true → set.has s f ≡ true → p f ≡ true
member_passes p s f all m = passed p (set.listing s) f all (sym (has-listing s f) ∙ m)

-- a set whose members pass one by one passes
pub members_pass : (p : Formula → Bool) (s : FormulaSet) → ((f : Formula) → set.has s f ≡ true → p f ≡ true) → list_all p (set.listing s) ≡ true
members_pass p s each = all_pass p (set.listing s) (λ f m. each f (has-listing s f ∙ m))

-- a set with the formulas of a list

-- the members stay
pub larger : (s : FormulaSet) (fs : List Formula) (f : Formula) → set.has s f ≡ true → set.has (set.adds_each s fs) f ≡ true
larger s fs f e = has-adds_each formula_total s fs f ∙ or_first (set.has s f) (among fs f) e

-- the formulas of the list are members
pub added : (s : FormulaSet) (fs : List Formula) (f : Formula) → among fs f ≡ true → set.has (set.adds_each s fs) f ≡ true
added s fs f e = has-adds_each formula_total s fs f ∙ or_second (set.has s f) (among fs f) e

-- a member is an old one or one of the list
pub old_or_added : {P : Type 0} (s : FormulaSet) (fs : List Formula) (f : Formula) → (set.has s f ≡ true → P) → (among fs f ≡ true → P) → set.has (set.adds_each s fs) f ≡ true → P
old_or_added s fs f old new e = either (set.has s f) (among fs f) old new (sym (has-adds_each formula_total s fs f) ∙ e)

-- a set with the formulas of a list passes where both do
pub all-adds_each : (p : Formula → Bool) (s : FormulaSet) (fs : List Formula) → list_all p (set.listing (set.adds_each s fs)) ≡ (list_all p (set.listing s) && list_all p fs)
all-adds_each p s fs =
    same_truth _ _
    (λ all. and_both _ _
    (members_pass p s (λ f m. member_passes p (set.adds_each s fs) f all (larger s fs f m)))
    (all_pass p fs (λ f m. member_passes p (set.adds_each s fs) f all (added s fs f m))))
    (λ both. members_pass p (set.adds_each s fs) (λ f.
    old_or_added s fs f
    (member_passes p s f (and_left _ _ both))
    (passed p fs f (and_right (list_all p (set.listing s)) _ both))))

-- a set without a formula, and without those of a list

-- what stays was a member, and is another formula
pub kept : (s : FormulaSet) (a f : Formula) → set.has (without s a) f ≡ true → (not (eq_by_cmp formula_cmp a f) && set.has s f) ≡ true
kept s a f m =
    old_or_added set.empty (filter (λ g. not (eq_by_cmp formula_cmp a g)) (set.listing s)) f
    (λ none. clash (set.has (set.empty {R = formula_cmp}) f) none (has-empty formula_cmp f))
    (λ some. ap (λ b. not (eq_by_cmp formula_cmp a f) && b) (has-listing s f) ∙ among_kept (set.listing s) some)
    m
  where
    among_kept : (fs : List Formula) → among (filter (λ g. not (eq_by_cmp formula_cmp a g)) fs) f ≡ true → (not (eq_by_cmp formula_cmp a f) && among fs f) ≡ true
    among_kept fs some =
        sym (any-filter_same (eq_by_cmp formula_cmp f) (λ g. not (eq_by_cmp formula_cmp a g)) (not (eq_by_cmp formula_cmp a f)) (λ g e. ap (λ h. not (eq_by_cmp formula_cmp a h)) (sym (equal f g e))) fs) ∙ some

-- so it was a member
pub within_without : (s : FormulaSet) (a f : Formula) → set.has (without s a) f ≡ true → set.has s f ≡ true
within_without s a f m = and_right (not (eq_by_cmp formula_cmp a f)) (set.has s f) (kept s a f m)

-- the same without each formula of a list
pub within_rest : (s : FormulaSet) (fs : List Formula) (f : Formula) → set.has (without_each s fs) f ≡ true → set.has s f ≡ true
within_rest s [] f m = m
within_rest s (g ∷ gs) f m = within_without s g f (within_rest (without s g) gs f m)

-- a member is one of the list or stays
pub among_or_rest : {P : Type 0} (s : FormulaSet) (fs : List Formula) (f : Formula) → (among fs f ≡ true → P) → (set.has (without_each s fs) f ≡ true → P) → set.has s f ≡ true → P
among_or_rest s [] f one rest m = rest m
among_or_rest s (g ∷ gs) f one rest m =
    split (eq_by_cmp formula_cmp f g)
    (λ e. one (or_first (eq_by_cmp formula_cmp f g) (among gs f) e))
    (λ e. among_or_rest (without s g) gs f (λ later. one (among_later f g gs later)) rest (without_member s g f m (equal_either_way g f ∙ e)))

-- where the formulas of the list are members, the set is what is left and these
pub all-rest : (p : Formula → Bool) (s : FormulaSet) (fs : List Formula) → list_all (set.has s) fs ≡ true
    → list_all p (set.listing s) ≡ (list_all p (set.listing (without_each s fs)) && list_all p fs)
all-rest p s fs stand =
    same_truth _ _
    (λ all. and_both _ _
    (members_pass p (without_each s fs) (λ f m. member_passes p s f all (within_rest s fs f m)))
    (all_pass p fs (λ f m. member_passes p s f all (passed (set.has s) fs f stand m))))
    (λ both. members_pass p s (λ f.
    among_or_rest s fs f
    (passed p fs f (and_right (list_all p (set.listing (without_each s fs))) _ both))
    (member_passes p (without_each s fs) f (and_left _ _ both))))
