-- Members of sequents, and what some formula of a sequent passes.
use Rattle.std.proofs.Common.{◌≡◌, Bool, true, false, ◌||◌, List, [], ◌∷◌, refl, sym, subst, ◌∙◌}
use Rattle.std.specs.List.{list_any}
use Rattle.std.specs.Ordering.{eq_by_cmp}
use Rattle.fol.specs.Syntax.{Formula}
use Rattle.fol.specs.Order.{formula_cmp}
use Rattle.finite.specs.Finite as set
use Rattle.finite.proofs.Finite.{has-listing}
use Rattle.lk_rules.specs.declared.sequent.Sequent.{Sequent}
use Rattle.lk_rules.specs.declared.sequent.Side.{Side}
use Rattle.lk_rules.specs.declared.sequent.Side.TheVariants.{Left, Right}
use Rattle.lk_rules.specs.Sequents.{side_of, adds_to, extended, union_sequent, IsSubsequent}
use Rattle.proof_trees.proofs.Booleans.{or_first, or_second, either}
use Rattle.proof_trees.proofs.Members.{from_some, some_passes}
use Rattle.cut_laws.proofs.Sides.{equal, tied, alone, clash, added, old_or_added, within_extended, extended_both}
use Rattle.proof_trees.proofs.FormulaSets.{in_first, in_second, in_either}

-- f stands in s on that side
abbrev pub Stands : Sequent → Side → Formula → Type 0
Stands s side f = set.has (side_of s side) f ≡ true

-- whether f is in a list
abbrev pub among : List Formula → Formula → Bool
among fs f = list_any (eq_by_cmp formula_cmp f) fs

-- a formula is in a list that begins with it
pub among_first : (f : Formula) (fs : List Formula) → among (f ∷ fs) f ≡ true
among_first f fs = or_first (eq_by_cmp formula_cmp f f) (among fs f) (tied f f refl)

-- and in one with another before it
pub among_second : (f g : Formula) → among (f ∷ g ∷ []) g ≡ true
among_second f g = or_second (eq_by_cmp formula_cmp g f) (among (g ∷ []) g) (among_first g [])

-- subsequents have members of each other

pub by_members : (s t : Sequent) → ((side : Side) (f : Formula) → Stands s side f → Stands t side f) → IsSubsequent s t
by_members s t h = record { left = h Left; right = h Right }

pub member : (s t : Sequent) → IsSubsequent s t → (side : Side) (f : Formula) → Stands s side f → Stands t side f
member s t h Left = h.left
member s t h Right = h.right

pub through : (s t u : Sequent) → IsSubsequent s t → IsSubsequent t u → IsSubsequent s u
through s t u h g = record { left = λ f m. g.left f (h.left f m); right = λ f m. g.right f (h.right f m) }

-- a sequent with one formula more

pub new_in : (side : Side) (s : Sequent) (g : Formula) → Stands (adds_to s side g) side g
new_in Left s g = added s.left (g ∷ []) g (among_first g [])
new_in Right s g = added s.right (g ∷ []) g (among_first g [])

pub from_added : (P : Side → Formula → Type 0) (side : Side) (s : Sequent) (g : Formula) → P side g → ((p : Side) (f : Formula) → Stands s p f → P p f)
    → (p : Side) (f : Formula) → Stands (adds_to s side g) p f → P p f
from_added P Left s g new old Left f = old_or_added s.left (g ∷ []) f (old Left f) (λ e. subst (P Left) (sym (equal f g (alone _ e))) new)
from_added P Left s g new old Right f = old Right f
from_added P Right s g new old Left f = old Left f
from_added P Right s g new old Right f = old_or_added s.right (g ∷ []) f (old Right f) (λ e. subst (P Right) (sym (equal f g (alone _ e))) new)

-- it is within what has that formula and the rest
pub with_new : (side : Side) (s t : Sequent) (g : Formula) → IsSubsequent s t → Stands t side g → IsSubsequent (adds_to s side g) t
with_new side s t g within stands = by_members (adds_to s side g) t (from_added (Stands t) side s g stands (member s t within))

-- a sequent with the formulas of lists

pub new_in_extended : (s : Sequent) (fs : Side → List Formula) (side : Side) (f : Formula) → among (fs side) f ≡ true → Stands (extended s fs) side f
new_in_extended s fs Left f = added s.left (fs Left) f
new_in_extended s fs Right f = added s.right (fs Right) f

pub from_extended : {P : Type 0} (s : Sequent) (fs : Side → List Formula) (side : Side) (f : Formula) → (Stands s side f → P) → (among (fs side) f ≡ true → P) → Stands (extended s fs) side f → P
from_extended s fs Left f = old_or_added s.left (fs Left) f
from_extended s fs Right f = old_or_added s.right (fs Right) f

-- a formula more and formulas of lists, in either order
pub placed : (side : Side) (s e : Sequent) (fs : Side → List Formula) (g : Formula) → IsSubsequent s e → Stands e side g → IsSubsequent (adds_to (extended s fs) side g) (extended e fs)
placed side s e fs g within stands =
    with_new side (extended s fs) (extended e fs) g (extended_both s e fs within) (member e (extended e fs) (within_extended e fs) side g stands)

-- unions

pub in_one : (one two : Sequent) → IsSubsequent one (union_sequent one two)
in_one one two = record { left = in_first one.left two.left; right = in_first one.right two.right }

pub in_two : (one two : Sequent) → IsSubsequent two (union_sequent one two)
in_two one two = record { left = in_second one.left two.left; right = in_second one.right two.right }

pub from_union : {P : Type 0} (one two : Sequent) (side : Side) (f : Formula) → (Stands one side f → P) → (Stands two side f → P) → Stands (union_sequent one two) side f → P
from_union one two Left f = in_either one.left two.left f
from_union one two Right f = in_either one.right two.right f

-- whether some formula of the sequent passes a test
abbrev pub has_some : (Formula → Bool) → Sequent → Bool
has_some p s = list_any p (set.listing s.left) || list_any p (set.listing s.right)

pub some_of : (p : Formula → Bool) (s : Sequent) (side : Side) (f : Formula) → Stands s side f → p f ≡ true → has_some p s ≡ true
some_of p s Left f m e = or_first (list_any p (set.listing s.left)) (list_any p (set.listing s.right)) (some_passes p (set.listing s.left) f (sym (has-listing s.left f) ∙ m) e)
some_of p s Right f m e = or_second (list_any p (set.listing s.left)) (list_any p (set.listing s.right)) (some_passes p (set.listing s.right) f (sym (has-listing s.right f) ∙ m) e)

pub from_has_some : {P : Type 0} (p : Formula → Bool) (s : Sequent) → ((side : Side) (f : Formula) → Stands s side f → p f ≡ true → P) → has_some p s ≡ true → P
from_has_some p s use_it =
    either (list_any p (set.listing s.left)) (list_any p (set.listing s.right))
    (from_some p (set.listing s.left) (λ f m e. use_it Left f (has-listing s.left f ∙ m) e))
    (from_some p (set.listing s.right) (λ f m e. use_it Right f (has-listing s.right f ∙ m) e))

-- then some formula of a larger sequent does
pub some_larger : (p : Formula → Bool) (s t : Sequent) → IsSubsequent s t → has_some p s ≡ true → has_some p t ≡ true
some_larger p s t within = from_has_some p s (λ side f m e. some_of p t side f (member s t within side f m) e)

-- and of a sequent with one formula more, that formula or one of the rest does
pub some_added : {P : Type 0} (p : Formula → Bool) (side : Side) (s : Sequent) (g : Formula) → (has_some p s ≡ true → P) → (p g ≡ true → P) → has_some p (adds_to s side g) ≡ true → P
some_added {P} p side s g old new =
    from_has_some p (adds_to s side g) (from_added (λ q f. p f ≡ true → P) side s g new (λ q f m e. old (some_of p s q f m e)))

-- what does not follow fails
pub unless : (a b : Bool) → (a ≡ true → b ≡ true) → b ≡ false → a ≡ false
unless true b f e = clash b (f refl) e
unless false b f e = refl
