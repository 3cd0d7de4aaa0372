-- Sets and sequents with all unfolded: their members, the variables free in them, and no predicate symbol with a body.
use Rattle.std.proofs.Common.{◌≡◌, ◌^◌, ◌≤◌, Bool, true, false, ◌||◌, ◌&&◌, List, [], ◌∷◌, map, refl, sym, ap, ◌∙◌}
use Rattle.std.specs.List.{list_any, list_all}
use Rattle.std.specs.Ordering.{eq_by_cmp}
use Rattle.fol.specs.declared.symbols.Var.{Var}
use Rattle.fol.specs.Syntax.{Formula}
use Rattle.fol.specs.Facts.{has_body}
use Rattle.fol.specs.Order.{formula_cmp}
use Rattle.fol.specs.OrderLaws.{formula_total}
use Rattle.fol.specs.Formed.{is_formed, IsFormed}
use Rattle.fol.proofs.OrderTies.{formula_ties}
use Rattle.finite.specs.Finite as set
use Rattle.finite.proofs.Finite.{has-listing, has-empty, has-adds_each, same_members, all_among}
use Rattle.free_variables.proofs.ShutLaws.{or_left, or_right}
use Rattle.free_variables.specs.Occurrence.{is_free_in}
use Rattle.substitution.proofs.Booleans.{and_left, and_right}
use Rattle.substitution.specs.Instance.{nesting}
use Rattle.lk_rules.specs.declared.sequent.Sequent.{Sequent}
use Rattle.lk_rules.specs.declared.sequent.Side.{Side}
use Rattle.lk_rules.specs.declared.sequent.Side.TheVariants.{Left, Right}
use Rattle.lk_rules.specs.Formulas.{FormulaSet}
use Rattle.lk_rules.specs.Sequents.{side_of, is_free_in_sequent}
use Rattle.lk_rules.proofs.Listings.{alike}
use Rattle.proof_trees.specs.Conclusions.{IsFormedSequent}
use Rattle.proof_trees.specs.Occurrence.{has_body_in_sequent}
use Rattle.proof_trees.proofs.Booleans.{or_first, or_second, either, or_more}
use Rattle.proof_trees.proofs.FormulaSets.{equal, tied}
use Rattle.proof_trees.proofs.Members.{from_some, some_passes}
use Rattle.def_laws.specs.Flat.{flat, flat_set, flat_sequent}
use Rattle.def_laws.proofs.Arguments.{neither}
use Rattle.def_laws.proofs.FlatFormed.{formed_flat}
use Rattle.def_laws.proofs.FlatShapes.{body-flat, flat-plain, free-flat}

-- the formulas of a list

pub mapped : (fs : List Formula) (f : Formula) → list_any (eq_by_cmp formula_cmp f) fs ≡ true → list_any (eq_by_cmp formula_cmp (flat f)) (map flat fs) ≡ true
mapped [] f m = cc
mapped (g ∷ gs) f m =
    or_more (eq_by_cmp formula_cmp f g) (list_any (eq_by_cmp formula_cmp f) gs) (eq_by_cmp formula_cmp (flat f) (flat g)) (list_any (eq_by_cmp formula_cmp (flat f)) (map flat gs))
    (λ e. tied (flat f) (flat g) (ap flat (equal f g e)))
    (mapped gs f)
    m

from_mapped : {P : Type 0} (fs : List Formula) (q : Formula) → ((f : Formula) → list_any (eq_by_cmp formula_cmp f) fs ≡ true → q ≡ flat f → P) → list_any (eq_by_cmp formula_cmp q) (map flat fs) ≡ true → P
from_mapped [] q use_it m = cc
from_mapped (g ∷ gs) q use_it m =
    either (eq_by_cmp formula_cmp q (flat g)) (list_any (eq_by_cmp formula_cmp q) (map flat gs))
    (λ e. use_it g (or_first (eq_by_cmp formula_cmp g g) (list_any (eq_by_cmp formula_cmp g) gs) (tied g g refl)) (equal q (flat g) e))
    (from_mapped gs q (λ f later. use_it f (or_second (eq_by_cmp formula_cmp f g) (list_any (eq_by_cmp formula_cmp f) gs) later)))
    m

member_passes : (p : Formula → Bool) (fs : List Formula) (f : Formula) → list_all p fs ≡ true → list_any (eq_by_cmp formula_cmp f) fs ≡ true → p f ≡ true
member_passes p [] f h m = cc
member_passes p (g ∷ gs) f h m =
    either (eq_by_cmp formula_cmp f g) (list_any (eq_by_cmp formula_cmp f) gs)
    (λ e. ap p (equal f g e) ∙ and_left _ _ h)
    (member_passes p gs f (and_right (p g) _ h))
    m

-- members

pub has-relisted : (fs : List Formula) (q : Formula) → set.has (set.adds_each (set.empty {R = formula_cmp}) fs) q ≡ list_any (eq_by_cmp formula_cmp q) fs
has-relisted fs q =
    has-adds_each formula_total set.empty fs q ∙ ap (λ b. b || list_any (eq_by_cmp formula_cmp q) fs) (has-empty formula_cmp q)

pub flat_member : (s : FormulaSet) (f : Formula) → set.has s f ≡ true → set.has (flat_set s) (flat f) ≡ true
flat_member s f e = has-relisted (map flat (set.listing s)) (flat f) ∙ mapped (set.listing s) f (sym (has-listing s f) ∙ e)

pub from_flat : {P : Type 0} (s : FormulaSet) (q : Formula) → ((f : Formula) → set.has s f ≡ true → q ≡ flat f → P) → set.has (flat_set s) q ≡ true → P
from_flat s q use_it e =
    from_mapped (set.listing s) q (λ f m. use_it f (has-listing s f ∙ m)) (sym (has-relisted (map flat (set.listing s)) q) ∙ e)

-- the subset of a set and of other formulas, all unfolded
pub flat_within : (x s : FormulaSet) (fs gs : List Formula) → set.IsSubset x (set.adds_each s fs)
    → ((f : Formula) → list_any (eq_by_cmp formula_cmp f) fs ≡ true → set.has (set.adds_each (flat_set s) gs) (flat f) ≡ true)
    → set.IsSubset (flat_set x) (set.adds_each (flat_set s) gs)
flat_within x s fs gs h others q =
    from_flat x q (λ f member is.
    ap (set.has (set.adds_each (flat_set s) gs)) is
    ∙ either (set.has s f) (list_any (eq_by_cmp formula_cmp f) fs)
    (λ e. has-adds_each formula_total (flat_set s) gs (flat f) ∙ or_first (set.has (flat_set s) (flat f)) _ (flat_member s f e))
    (others f)
    (sym (has-adds_each formula_total s fs f) ∙ h f member))

-- variables

free_in_flat : (v : Var) (s : FormulaSet) → list_all is_formed (set.listing s) ≡ true → list_any (is_free_in v) (set.listing (flat_set s)) ≡ true → list_any (is_free_in v) (set.listing s) ≡ true
free_in_flat v s formed =
    from_some (is_free_in v) (set.listing (flat_set s)) (λ q m free.
    from_flat s q
    (λ f member is.
    let listed : list_any (eq_by_cmp formula_cmp f) (set.listing s) ≡ true = sym (has-listing s f) ∙ member in
    some_passes (is_free_in v) (set.listing s) f listed (free-flat v f 0 (member_passes is_formed (set.listing s) f formed listed) (ap (is_free_in v) (sym is) ∙ free)))
    (has-listing (flat_set s) q ∙ m))

pub free_in_flat_sequent : (v : Var) (s : Sequent) → IsFormedSequent s → is_free_in_sequent v (flat_sequent s) ≡ true → is_free_in_sequent v s ≡ true
free_in_flat_sequent v s h = or_more _ _ _ _ (free_in_flat v s.left h.left) (free_in_flat v s.right h.right)

-- predicate symbols with a body

absent : (a : Bool) → (a ≡ true → false ≡ true) → a ≡ false
absent true f = sym (f refl)
absent false f = refl

no_body : (s : FormulaSet) → list_any has_body (set.listing (flat_set s)) ≡ false
no_body s =
    absent _ (
    from_some has_body (set.listing (flat_set s)) (λ q m body.
    from_flat s q (λ f member is. sym (body-flat f) ∙ ap has_body (sym is) ∙ body) (has-listing (flat_set s) q ∙ m)))

pub no_body_in_flat : (s : Sequent) → has_body_in_sequent (flat_sequent s) ≡ false
no_body_in_flat s = neither _ _ (no_body s.left) (no_body s.right)

-- a sequent without any is left as it is

list-plain : (fs : List Formula) → list_any has_body fs ≡ false → map flat fs ≡ fs
list-plain [] h = refl
list-plain (f ∷ fs) h = λ i. flat-plain f (or_left _ _ h) i ∷ list-plain fs (or_right (has_body f) _ h) i

set-plain : (s : FormulaSet) → list_any has_body (set.listing s) ≡ false → flat_set s ≡ s
set-plain s h =
    ap set.of_list (list-plain (set.listing s) h)
    ∙ same_members formula_total formula_ties (set.of_list (set.listing s)) s (λ q. has-relisted (set.listing s) q ∙ sym (has-listing s q))

pub flat-plain_sequent : (s : Sequent) → has_body_in_sequent s ≡ false → flat_sequent s ≡ s
flat-plain_sequent s h = λ i. record {
  left = set-plain s.left (or_left _ _ h) i;
  right = set-plain s.right (or_right (list_any has_body (set.listing s.left)) _ h) i;
}

-- well-formedness

each_of : (p : Formula → Bool) (fs : List Formula) → ((f : Formula) → list_any (eq_by_cmp formula_cmp f) fs ≡ true → p (flat f) ≡ true) → list_all p (map flat fs) ≡ true
each_of p [] h = refl
each_of p (f ∷ fs) h =
    (λ i. h f (or_first (eq_by_cmp formula_cmp f f) _ (tied f f refl)) i && list_all p (map flat fs))
    ∙ each_of p fs (λ g m. h g (or_second (eq_by_cmp formula_cmp g f) _ m))

formed_set : (s : FormulaSet) → ((f : Formula) → set.has s f ≡ true → IsFormed (flat f)) → list_all is_formed (set.listing (flat_set s)) ≡ true
formed_set s h =
    all_among formula_total is_formed (alike is_formed) (map flat (set.listing s)) (set.listing (flat_set s))
    (each_of is_formed (set.listing s) (λ f m. h f (has-listing s f ∙ m)))
    (λ q m. sym (has-relisted (map flat (set.listing s)) q) ∙ (has-listing (flat_set s) q ∙ m))

pub formed_flat_sequent : (s : Sequent) → IsFormedSequent s → ((side : Side) (f : Formula) → set.has (side_of s side) f ≡ true → nesting (flat f) ≤ 2 ^ 32) → IsFormedSequent (flat_sequent s)
formed_flat_sequent s h few = record {
  left = formed_set s.left (λ f m. formed_flat f (few Left f m) (member_passes is_formed (set.listing s.left) f h.left (sym (has-listing s.left f) ∙ m)));
  right = formed_set s.right (λ f m. formed_flat f (few Right f m) (member_passes is_formed (set.listing s.right) f h.right (sym (has-listing s.right f) ∙ m)));
}
