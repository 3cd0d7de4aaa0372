-- Clauses have atoms alone, and so have their images and resolvents; and a list of atoms as one of their set.
use Rattle.std.proofs.Common.{◌≡◌, ◌↔◌, ℕ, zero, suc, true, List, [], ◌∷◌, Some, None, refl, sym, ap, subst, ◌∙◌, inl, inr}
use Rattle.std.specs.FinMap as fin
use Rattle.std.specs.List.{All, AllByRecursion}
use Rattle.std.specs.Ordering.{eq_by_cmp}
use Rattle.std.proofs.lemmas.List.Elements.{All-from_recursion, recursion_from_All, All-contains}
use Rattle.fol.specs.Syntax.{Term, free, Formula, top}
use Rattle.fol.specs.Order.{formula_cmp}
use Rattle.finite.specs.Finite as set
use Rattle.substitution.specs.Image.{image_term, image, after}
use Rattle.substitution.specs.Maps.{Map}
use Rattle.substitution.proofs.ImageLaws.{image-image, agree}
use Rattle.lk_rules.specs.declared.sequent.Sequent.{Sequent}
use Rattle.lk_rules.specs.declared.sequent.Side.TheVariants.{Left, Right}
use Rattle.lk_rules.specs.Formulas.{FormulaSet, image_set}
use Rattle.lk_rules.specs.Sequents.{image_sequent}
use Rattle.proof_trees.specs.FormulaSets.{is_atom}
use Rattle.proof_trees.proofs.Booleans.{or_first, or_second, either}
use Rattle.proof_trees.proofs.FormulaSets.{equal, tied}
use Rattle.refutations.specs.Refutations.{resolvent}
use Rattle.clause_laws.specs.Subsumption.{IsClause, IsVariant}
use Rattle.clause_laws.specs.Unifiers.{set_of, MakesAll, MakesOne, unifier}
use Rattle.clause_laws.specs.Resolvents.{IsFullResolvent}
use Rattle.clause_laws.specs.Rounds.{VariantOf, WithResolvents, Level}
use Rattle.clause_laws.proofs.Sets.{Replacing, is_in, has-each, from_image}
use Rattle.clause_laws.proofs.Sequents.{from_left, from_right}
use Rattle.clause_laws.proofs.Subsuming.{variant_both, variant_back}
use Rattle.clause_laws.proofs.Unified.{IsUnifierOf, unifier_of, none_unifies}
use Rattle.clause_laws.proofs.Resolving.{atom-image}

abbrev AreAtoms : FormulaSet → Type 0
AreAtoms s = (f : Formula) → set.has s f ≡ true → is_atom f ≡ true

atoms_image : (m : Replacing) (s : FormulaSet) → AreAtoms s → AreAtoms (image_set m s)
atoms_image m s atoms q = from_image m s q (λ f e is. ap is_atom is ∙ atom-image m f ∙ atoms f e)

pub of_sides : (c : Sequent) → AreAtoms c.left → AreAtoms c.right → IsClause c
of_sides c left right Left = left
of_sides c left right Right = right

pub clause_image : (m : Replacing) (c : Sequent) → IsClause c → IsClause (image_sequent m c)
clause_image m c h = of_sides (image_sequent m c) (atoms_image m c.left (h Left)) (atoms_image m c.right (h Right))

pub clause_resolvent : (p n : Sequent) (a : Formula) → IsClause p → IsClause n → IsClause (resolvent p n a)
clause_resolvent p n a one two =
    of_sides (resolvent p n a)
    (λ q. from_left p n a q (one Left q) (λ e _. two Left q e))
    (λ q. from_right p n a q (λ e _. one Right q e) (two Right q))

pub clause_variant : (c d : Sequent) → IsVariant c d → IsClause c → IsClause d
clause_variant c d v h = subst IsClause v.is (clause_image v.there c h)

pub clause_full : (c d r : Sequent) → IsClause c → IsClause d → IsFullResolvent c d r → IsClause r
clause_full c d r one two h =
    subst IsClause (sym h.resolves.is)
    (clause_resolvent (image_sequent h.resolves.unifier h.first) (image_sequent h.resolves.unifier h.second) h.resolves.atom
    (clause_image h.resolves.unifier h.first (clause_variant c h.first h.first_variant one))
    (clause_image h.resolves.unifier h.second (clause_variant d h.second h.second_variant two)))

clause_among : (k : Sequent → Type 0) → ((c : Sequent) → k c → IsClause c) → (c : Sequent) → WithResolvents k c → IsClause c
clause_among k each c (inl m) = each c m
clause_among k each c (inr h) = clause_full h.first h.second c (each h.first h.is_first) (each h.second h.is_second) h.full

clause_round : (k : Sequent → Type 0) → ((c : Sequent) → k c → IsClause c) → (c : Sequent) → VariantOf (WithResolvents k) c → IsClause c
clause_round k each c v = clause_variant v.member c v.variant (clause_among k each v.member v.is_member)

-- a level has clauses alone
pub clause_level : (cs : List Sequent) → All IsClause cs → (n : ℕ) (c : Sequent) → Level cs n c → IsClause c
clause_level cs clauses zero c v = clause_variant v.member c v.variant (All-contains IsClause cs v.member clauses v.is_member)
clause_level cs clauses (suc n) c v = clause_round (Level cs n) (clause_level cs clauses n) c v

-- variants of the clauses have the same full resolvents
pub full_of_variants : (c d e f r : Sequent) → IsVariant c d → IsVariant e f → IsFullResolvent c e r → IsFullResolvent d f r
full_of_variants c d e f r one two h = record {
  first = h.first;
  second = h.second;
  first_variant = variant_both d c h.first (variant_back c d one) h.first_variant;
  second_variant = variant_both f e h.second (variant_back e f two) h.second_variant;
  apart = h.apart;
  resolves = h.resolves;
}

-- lists of atoms

all_in : (P : Formula → Type 0) (fs : List Formula) → ((f : Formula) → is_in fs f ≡ true → P f) → AllByRecursion P fs
all_in P [] each = tt
all_in P (f ∷ fs) each = (
  each f (or_first (eq_by_cmp formula_cmp f f) (is_in fs f) (tied f f refl)),
  all_in P fs (λ g later. each g (or_second (eq_by_cmp formula_cmp g f) (is_in fs g) later)),
)

in_all : (P : Formula → Type 0) (fs : List Formula) → AllByRecursion P fs → (f : Formula) → is_in fs f ≡ true → P f
in_all P [] all f e = cc
in_all P (g ∷ fs) all f e = either (eq_by_cmp formula_cmp f g) (is_in fs f) (λ here. subst P (sym (equal f g here)) all.0) (in_all P fs all.1 f) e

pub each_of_all : (P : Formula → Type 0) (fs : List Formula) → All P fs → (f : Formula) → is_in fs f ≡ true → P f
each_of_all P fs all = in_all P fs (recursion_from_All P fs all)

pub all_of_each : (P : Formula → Type 0) (fs : List Formula) → ((f : Formula) → is_in fs f ≡ true → P f) → All P fs
all_of_each P fs each = All-from_recursion P fs (all_in P fs each)

-- a list and the set of its formulas
pub makes-listed : (h : Replacing) (fs : List Formula) (b : Formula) → MakesAll h (set_of fs) b ↔ All (λ f. image h f ≡ b) fs
makes-listed h fs b = (
  λ each. all_of_each (λ f. image h f ≡ b) fs (λ f e. each f (has-each fs f ∙ e)),
  λ all. λ f e. each_of_all (λ f. image h f ≡ b) fs all f (sym (has-each fs f) ∙ e),
)

-- what a map does before and after another one, to formulas
pub onward : (m h : Replacing) → ((t : Term) → image_term h (image_term m t) ≡ image_term h t) → (f : Formula) → image h (image m f) ≡ image h f
onward m h same f = image-image m h f ∙ agree (after m h) h f (λ v e. same (free v))

one_through : (fs : List Formula) (m : Map) → IsUnifierOf fs m → (h : Replacing) → ((t : Term) → image_term h (image_term (fin.get m) t) ≡ image_term h t) → MakesOne h fs
one_through [] m right h same = (top, all_of_each (λ f. image h f ≡ top) [] (λ f e. cc))
one_through (f ∷ fs) m right h same = (
  image h f,
  all_of_each (λ g. image h g ≡ image h f) (f ∷ fs) (λ g e.
      sym (onward (fin.get m) h same g) ∙ ap (image h) (right.one g f e (or_first (eq_by_cmp formula_cmp f f) (is_in fs f) (tied f f refl))) ∙ onward (fin.get m) h same f),
)

pub unifies-general : (fs : List Formula) → All (λ f. is_atom f ≡ true) fs → (m : Map) → unifier fs ≡ Some m → (h : Replacing)
    → MakesOne h fs ↔ ((t : Term) → image_term h (image_term (fin.get m) t) ≡ image_term h t)
unifies-general fs atoms m is h =
    let right = unifier_of fs (each_of_all (λ f. is_atom f ≡ true) fs atoms) m is in (
      λ (b, all). right.general h b (each_of_all (λ f. image h f ≡ b) fs all),
      λ same. one_through fs m right h same,
    )

-- the unifier is one
made_one : (fs : List Formula) (m : Map) → IsUnifierOf fs m → MakesOne (fin.get m) fs
made_one [] m right = (top, all_of_each (λ f. image (fin.get m) f ≡ top) [] (λ f e. cc))
made_one (f ∷ fs) m right = (
  image (fin.get m) f,
  all_of_each (λ g. image (fin.get m) g ≡ image (fin.get m) f) (f ∷ fs) (λ g e. right.one g f e (or_first (eq_by_cmp formula_cmp f f) (is_in fs f) (tied f f refl))),
)

pub no_unifier : (fs : List Formula) → All (λ f. is_atom f ≡ true) fs → (unifier fs ≡ None) ↔ ((h : Replacing) → MakesOne h fs → ⊥)
no_unifier fs atoms =
    let each = each_of_all (λ f. is_atom f ≡ true) fs atoms in (
      λ is h (b, all). none_unifies fs each is h b (each_of_all (λ f. image h f ≡ b) fs all),
      λ none. elim (unifier fs) as (λ o. unifier fs ≡ o → o ≡ None) [
        | None ↦ λ _. refl
        | Some m ↦ λ is. absurd (none (fin.get m) (made_one fs m (unifier_of fs each m is)))
      ] refl,
    )
