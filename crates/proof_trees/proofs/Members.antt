-- Members of lists and sets of formulas, and those of their images.
use Rattle.std.proofs.Common.{◌≡◌, Bool, true, ◌||◌, List, [], ◌∷◌, map, Option, refl, sym, ap, ◌∙◌}
use Rattle.std.specs.List.{list_any}
use Rattle.std.specs.Ordering.{eq_by_cmp}
use Rattle.fol.specs.declared.symbols.Var.{Var}
use Rattle.fol.specs.Syntax.{Term, Formula}
use Rattle.fol.specs.Order.{formula_cmp}
use Rattle.fol.specs.OrderLaws.{formula_total}
use Rattle.fol.proofs.OrderTies.{formula_equality_same}
use Rattle.finite.specs.Finite as set
use Rattle.finite.proofs.Finite.{has-listing, has-empty, has-adds_each}
use Rattle.substitution.specs.Image.{image}
use Rattle.lk_rules.specs.Formulas.{FormulaSet, image_set}
use Rattle.proof_trees.proofs.Booleans.{or_first, or_second, either, or_more}

equal : (f g : Formula) → eq_by_cmp formula_cmp f g ≡ true → f ≡ g
equal f g = (formula_equality_same f g (eq_by_cmp formula_cmp f g) refl).0

tied : (f g : Formula) → f ≡ g → eq_by_cmp formula_cmp f g ≡ true
tied f g = (formula_equality_same f g (eq_by_cmp formula_cmp f g) refl).1

-- where some formula of a list passes, what follows from any that does
pub from_some : {P : Type 0} (p : Formula → Bool) (fs : List Formula) → ((f : Formula) → list_any (eq_by_cmp formula_cmp f) fs ≡ true → p f ≡ true → P) → list_any p fs ≡ true → P
from_some p [] use_it h = cc
from_some p (f ∷ fs) use_it h =
    either (p f) (list_any p fs)
    (use_it f (or_first (eq_by_cmp formula_cmp f f) (list_any (eq_by_cmp formula_cmp f) fs) (tied f f refl)))
    (from_some p fs (λ g m. use_it g (or_second (eq_by_cmp formula_cmp g f) (list_any (eq_by_cmp formula_cmp g) fs) m)))
    h

-- where a member passes, some formula of the list does
pub some_passes : (p : Formula → Bool) (fs : List Formula) (g : Formula) → list_any (eq_by_cmp formula_cmp g) fs ≡ true → p g ≡ true → list_any p fs ≡ true
some_passes p [] g m h = cc
some_passes p (f ∷ fs) g m h =
    either (eq_by_cmp formula_cmp g f) (list_any (eq_by_cmp formula_cmp g) fs)
    (λ e. or_first (p f) (list_any p fs) (sym (ap p (equal g f e)) ∙ h))
    (λ rest. or_second (p f) (list_any p fs) (some_passes p fs g rest h))
    m

-- images

mapped : (h : Formula → Formula) (fs : List Formula) (f : Formula) → list_any (eq_by_cmp formula_cmp f) fs ≡ true → list_any (eq_by_cmp formula_cmp (h f)) (map h fs) ≡ true
mapped h [] f m = cc
mapped h (g ∷ gs) f m =
    or_more (eq_by_cmp formula_cmp f g) (list_any (eq_by_cmp formula_cmp f) gs) (eq_by_cmp formula_cmp (h f) (h g)) (list_any (eq_by_cmp formula_cmp (h f)) (map h gs))
    (λ e. tied (h f) (h g) (ap h (equal f g e)))
    (mapped h gs f)
    m

from_mapped : {P : Type 0} (h : Formula → Formula) (fs : List Formula) (q : Formula) → ((f : Formula) → list_any (eq_by_cmp formula_cmp f) fs ≡ true → q ≡ h f → P)
    → list_any (eq_by_cmp formula_cmp q) (map h fs) ≡ true → P
from_mapped h [] q use_it m = cc
from_mapped h (g ∷ gs) q use_it m =
    either (eq_by_cmp formula_cmp q (h g)) (list_any (eq_by_cmp formula_cmp q) (map h gs))
    (λ e. use_it g (or_first (eq_by_cmp formula_cmp g g) (list_any (eq_by_cmp formula_cmp g) gs) (tied g g refl)) (equal q (h g) e))
    (from_mapped h gs q (λ f later. use_it f (or_second (eq_by_cmp formula_cmp f g) (list_any (eq_by_cmp formula_cmp f) gs) later)))
    m

has-image_set : (m : Var → Option Term) (s : FormulaSet) (q : Formula) → set.has (image_set m s) q ≡ list_any (eq_by_cmp formula_cmp q) (map (image m) (set.listing s))
has-image_set m s q =
    has-adds_each formula_total set.empty (map (image m) (set.listing s)) q
    ∙ ap (λ b. b || list_any (eq_by_cmp formula_cmp q) (map (image m) (set.listing s))) (has-empty formula_cmp q)

-- the image of a member is a member of the image
pub image_member : (m : Var → Option Term) (s : FormulaSet) (f : Formula) → set.has s f ≡ true → set.has (image_set m s) (image m f) ≡ true
image_member m s f e = has-image_set m s (image m f) ∙ mapped (image m) (set.listing s) f (sym (has-listing s f) ∙ e)

-- the image of a subset is a subset of the image
pub image_within : (m : Var → Option Term) (x s : FormulaSet) (fs : List Formula) → set.IsSubset x (set.adds_each s fs)
    → set.IsSubset (image_set m x) (set.adds_each (image_set m s) (map (image m) fs))
image_within m x s fs h q e =
    from_mapped (image m) (set.listing x) q
    (λ f member is.
    let in_both : (set.has s f || list_any (eq_by_cmp formula_cmp f) fs) ≡ true = sym (has-adds_each formula_total s fs f) ∙ h f (has-listing x f ∙ member) in
    ap (set.has (set.adds_each (image_set m s) (map (image m) fs))) is
    ∙ has-adds_each formula_total (image_set m s) (map (image m) fs) (image m f)
    ∙ or_more (set.has s f) (list_any (eq_by_cmp formula_cmp f) fs) (set.has (image_set m s) (image m f)) (list_any (eq_by_cmp formula_cmp (image m f)) (map (image m) fs))
    (image_member m s f)
    (mapped (image m) fs f)
    in_both)
    (sym (has-image_set m x q) ∙ e)
