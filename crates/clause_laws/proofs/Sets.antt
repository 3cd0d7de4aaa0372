-- Members of images of sets of formulas, and of sets without some.
use Rattle.std.proofs.Common.{◌≡◌, Bool, true, ◌||◌, ◌&&◌, List, [], ◌∷◌, map, filter, Option, None, refl, sym, ap, ◌∙◌}
use Rattle.std.specs.List.{list_any}
use Rattle.std.specs.Ordering.{eq_by_cmp}
use Rattle.std.proofs.lemmas.Map.Views.{any-filter_same}
use Rattle.fol.specs.declared.symbols.Var.{Var}
use Rattle.fol.specs.Syntax.{Term, Formula}
use Rattle.fol.specs.Order.{formula_cmp}
use Rattle.fol.specs.OrderLaws.{formula_total}
use Rattle.finite.specs.Finite as set
use Rattle.finite.proofs.Finite.{has-listing, has-empty, has-adds_each}
use Rattle.substitution.specs.Image.{image, after}
use Rattle.substitution.proofs.ImageLaws.{image-image}
use Rattle.lk_rules.specs.Formulas.{FormulaSet, image_set}
use Rattle.proof_trees.proofs.Booleans.{or_first, or_second, either}
use Rattle.proof_trees.proofs.Members.{image_member}
use Rattle.proof_trees.proofs.FormulaSets.{equal, tied, same_sets}

abbrev pub Replacing : Type 0
Replacing = Var → Option Term

-- the map that leaves all as it is
abbrev pub nothing : Replacing
nothing v = None

-- a member of a list
abbrev pub is_in : List Formula → Formula → Bool
is_in fs f = list_any (eq_by_cmp formula_cmp f) fs

from_mapped : {P : Type 0} (h : Formula → Formula) (fs : List Formula) (q : Formula) → ((f : Formula) → is_in fs f ≡ true → q ≡ h f → P) → is_in (map h fs) q ≡ true → P
from_mapped h [] q use_it m = cc
from_mapped h (g ∷ gs) q use_it m =
    either (eq_by_cmp formula_cmp q (h g)) (is_in (map h gs) q)
    (λ e. use_it g (or_first (eq_by_cmp formula_cmp g g) (is_in gs g) (tied g g refl)) (equal q (h g) e))
    (from_mapped h gs q (λ f later. use_it f (or_second (eq_by_cmp formula_cmp f g) (is_in gs f) later)))
    m

pub has-each : (fs : List Formula) (q : Formula) → set.has (set.adds_each (set.empty {R = formula_cmp}) fs) q ≡ is_in fs q
has-each fs q = has-adds_each formula_total set.empty fs q ∙ ap (λ b. b || is_in fs q) (has-empty formula_cmp q)

-- a member of an image is the image of a member
pub from_image : {P : Type 0} (m : Replacing) (s : FormulaSet) (q : Formula) → ((f : Formula) → set.has s f ≡ true → q ≡ image m f → P) → set.has (image_set m s) q ≡ true → P
from_image m s q use_it h = from_mapped (image m) (set.listing s) q (λ f e. use_it f (has-listing s f ∙ e)) (sym (has-each (map (image m) (set.listing s)) q) ∙ h)

-- the images of members are in a set
pub images_within : (m : Replacing) (s t : FormulaSet) → ((f : Formula) → set.has s f ≡ true → set.has t (image m f) ≡ true) → set.IsSubset (image_set m s) t
images_within m s t each q = from_image m s q (λ f e is. ap (set.has t) is ∙ each f e)

pub image_subset : (m : Replacing) (s t : FormulaSet) → set.IsSubset s t → set.IsSubset (image_set m s) (image_set m t)
image_subset m s t within = images_within m s (image_set m t) (λ f e. image_member m t f (within f e))

-- maps that do the same to each member have one image
pub same_images : (g h : Replacing) (s : FormulaSet) → ((f : Formula) → set.has s f ≡ true → image g f ≡ image h f) → image_set g s ≡ image_set h s
same_images g h s same =
    same_sets (image_set g s) (image_set h s)
    (images_within g s (image_set h s) (λ f e. ap (set.has (image_set h s)) (same f e) ∙ image_member h s f e))
    (images_within h s (image_set g s) (λ f e. ap (set.has (image_set g s)) (sym (same f e)) ∙ image_member g s f e))

-- the image of an image is that under both maps in a row
pub image-image_set : (g h : Replacing) (s : FormulaSet) → image_set h (image_set g s) ≡ image_set (after g h) s
image-image_set g h s =
    same_sets (image_set h (image_set g s)) (image_set (after g h) s)
    (images_within h (image_set g s) (image_set (after g h) s) (λ q. from_image g s q (λ f e is. ap (λ p. set.has (image_set (after g h) s) (image h p)) is ∙ ap (set.has (image_set (after g h) s)) (image-image g h f) ∙ image_member (after g h) s f e)))
    (images_within (after g h) s (image_set h (image_set g s)) (λ f e. ap (set.has (image_set h (image_set g s))) (sym (image-image g h f)) ∙ image_member h (image_set g s) (image g f) (image_member g s f e)))

-- the members that pass a test

pub in_filter : (p : Formula → Bool) (fs : List Formula) (q : Formula) → is_in (filter p fs) q ≡ (p q && is_in fs q)
in_filter p fs q = any-filter_same (eq_by_cmp formula_cmp q) p (p q) (λ k e. ap p (sym (equal q k e))) fs

abbrev pub passing : (Formula → Bool) → FormulaSet → FormulaSet
passing p s = set.of_list (filter p (set.listing s))

pub has-passing : (p : Formula → Bool) (s : FormulaSet) (q : Formula) → set.has (passing p s) q ≡ (p q && set.has s q)
has-passing p s q =
    has-each (filter p (set.listing s)) q
    ∙ in_filter p (set.listing s) q
    ∙ ap (λ b. p q && b) (sym (has-listing s q))
