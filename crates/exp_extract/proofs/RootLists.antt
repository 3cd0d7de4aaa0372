-- The addresses of a sequent's formulas.
use Rattle.std.proofs.Common.{◌≡◌, ℕ, zero, suc, ◌<◌, Bool, true, false, ◌||◌, List, [], ◌∷◌, ◌++◌, map, length, take, get_or, Some, refl, sym, ap, ◌∙◌, subst, arith}
use Rattle.std.specs.Prelude.{nat_eq, if◌then◌else◌}
use Rattle.std.specs.List.{All, list_any}
use Rattle.std.specs.Ordering.{eq_by_cmp, is_eq}
use Rattle.std.proofs.lemmas.Bool.{eq-eqb, eqb-true}
use Rattle.std.proofs.lemmas.List.{length-map}
use Rattle.std.proofs.lemmas.List.Folds.{list_any-append}
use Rattle.fol.specs.Syntax.{Formula}
use Rattle.fol.specs.Order.{formula_cmp}
use Rattle.fol.specs.OrderLaws.{formula_total}
use Rattle.fol.proofs.OrderTies.{formula_equality_same}
use Rattle.finite.specs.Finite as set
use Rattle.finite.proofs.Finite.{has-listing}
use Rattle.finite.proofs.Rising.{below_at, head_below, tail_rises, turned_less}
use Rattle.lk_rules.specs.declared.sequent.Sequent.{Sequent}
use Rattle.lk_rules.specs.declared.sequent.Side.{Side}
use Rattle.lk_rules.specs.declared.sequent.Side.TheVariants.{Left, Right}
use Rattle.lk_rules.specs.Sequents.{side_of}
use Rattle.proof_trees.proofs.Booleans.{or_first, or_second, either}
use Rattle.search_laws.proofs.Tests.{split, clash}
use Rattle.expansion_laws.specs.Expansions.{turn}
use Rattle.extraction_laws.specs.Addresses.{Address, root, is_listed}
use Rattle.exp_extract.specs.Marked.{address_in}
use Rattle.exp_extract.specs.Quantifiers.{AreWithin}
use Rattle.exp_extract.specs.declared.sides.Sides.{Sides}
use Rattle.exp_extract.specs.Sides.{number_in, address_or, numbers_of, context_in, HasCounts}
use Rattle.exp_extract.proofs.AddressLists.{apart, listed_more, stays_out}

equal_formulas : (f g : Formula) → eq_by_cmp formula_cmp f g ≡ true → f ≡ g
equal_formulas f g = (formula_equality_same f g (eq_by_cmp formula_cmp f g) refl).0

tied_formulas : (f g : Formula) → f ≡ g → eq_by_cmp formula_cmp f g ≡ true
tied_formulas f g = (formula_equality_same f g (eq_by_cmp formula_cmp f g) refl).1

-- no formula of a rising list stands before itself
pub not_before : (fs : List Formula) (i : ℕ) (d : Formula) → set.IsRising formula_cmp fs → i < length fs → list_any (eq_by_cmp formula_cmp (get_or fs i d)) (take i fs) ≡ false
not_before [] i d up l = absurd (omega arith)
not_before (f ∷ fs) zero d up l = refl
not_before (f ∷ fs) (suc i) d up l =
    let above = turned_less formula_cmp formula_total f (get_or fs i d) (below_at formula_cmp f fs (head_below formula_cmp f fs up) i d (omega arith)) in
    (λ j. is_eq (above j) || list_any (eq_by_cmp formula_cmp (get_or fs i d)) (take i fs)) ∙ not_before fs i d (tail_rises formula_cmp f fs up) (omega arith)

-- one more root
pub still_absent : (bs : List Address) (s : Side) (f g : Formula) (gs : List Formula) → (list_any (eq_by_cmp formula_cmp f) gs ≡ false → is_listed (root s f) bs ≡ false)
    → list_any (eq_by_cmp formula_cmp f) (gs ++ g ∷ []) ≡ false → is_listed (root s f) (bs ++ root s g ∷ []) ≡ false
still_absent bs s f g gs before h =
    let parts : (list_any (eq_by_cmp formula_cmp f) gs || (eq_by_cmp formula_cmp f g || false)) ≡ false = sym (list_any-append (eq_by_cmp formula_cmp f) gs (g ∷ [])) ∙ h in
    stays_out bs (root s g) (root s f) (before (first_false _ _ parts)) (λ e. let same : f ≡ g = cc in clash (eq_by_cmp formula_cmp f g) (tied_formulas f g same) (first_false _ false (second_false (list_any (eq_by_cmp formula_cmp f) gs) _ parts)))
  where
    first_false : (a b : Bool) → (a || b) ≡ false → a ≡ false
    first_false true b e = cc
    first_false false b e = refl

    second_false : (a b : Bool) → (a || b) ≡ false → b ≡ false
    second_false true b e = cc
    second_false false b e = e

pub other_side : (bs : List Address) (s : Side) (f g : Formula) → is_listed (root (turn s) f) (bs ++ root s g ∷ []) ≡ is_listed (root (turn s) f) bs
other_side bs s f g = listed_more bs (root s g) (root (turn s) f) ∙ (ap (λ b. is_listed (root (turn s) f) bs || b) (apart (root (turn s) f) (root s g) (λ e. turned s (let same : turn s ≡ s = cc in same))) ∙ or-false _)
  where
    turned : (s : Side) → turn s ≡ s → ⊥
    turned Left e = cc
    turned Right e = cc

    or-false : (a : Bool) → (a || false) ≡ a
    or-false true = refl
    or-false false = refl

-- the context of the roots
root_given : (bs : List Address) (s : Side) (gs : List Formula) (ms : List ℕ) (h : Formula) → map (address_in bs) ms ≡ map (root s) gs → list_any (eq_by_cmp formula_cmp h) gs ≡ true → address_or bs (number_in gs ms h) ≡ root s h
root_given bs s [] ms h same there = cc
root_given bs s (g ∷ gs) [] h same there = cc
root_given bs s (g ∷ gs) (m ∷ ms) h same there =
    let head : address_in bs m ≡ root s g = cc in
    let rest : map (address_in bs) ms ≡ map (root s) gs = cc in
    split (eq_by_cmp formula_cmp h g)
    (λ e. ap (λ b. address_or bs (if b then Some m else number_in gs ms h)) e ∙ (head ∙ ap (root s) (sym (equal_formulas h g e))))
    (λ e. ap (λ b. address_or bs (if b then Some m else number_in gs ms h)) e ∙ root_given bs s gs ms h rest (sym (ap (λ b. b || list_any (eq_by_cmp formula_cmp h) gs) e) ∙ there))

module _ (bs : List Address) (s : Sequent) (x : Sides) (roots : (side : Side) → map (address_in bs) (numbers_of x side) ≡ map (root side) (set.listing (side_of s side))) where
  pub root_context : (side : Side) (h : Formula) → set.has (side_of s side) h ≡ true → context_in bs s x side h ≡ root side h
  root_context side h there = root_given bs side (set.listing (side_of s side)) (numbers_of x side) h (roots side) (sym (has-listing (side_of s side) h) ∙ there)

  pub root_counts : HasCounts s x
  root_counts side = sym (length-map (numbers_of x side) (address_in bs)) ∙ (ap length (roots side) ∙ length-map (set.listing (side_of s side)) (root side))

-- numbers within
any_at : (ns : List ℕ) (k d : ℕ) → k < length ns → list_any (nat_eq (get_or ns k d)) ns ≡ true
any_at [] k d l = absurd (omega arith)
any_at (n ∷ ns) zero d l = or_first (nat_eq n n) _ (eq-eqb n n refl)
any_at (n ∷ ns) (suc k) d l = or_second (nat_eq (get_or ns k d) n) _ (any_at ns k d (omega arith))

pub all_within : (bs : List Address) (ns : List ℕ) → AreWithin bs ns → All (λ n. n < length bs) ns
all_within bs ns h k d l = h (get_or ns k d) (any_at ns k d l)

pub within_push : (bs : List Address) (ns : List ℕ) (n : ℕ) → n < length bs → AreWithin bs ns → AreWithin bs (ns ++ n ∷ [])
within_push bs ns n l h q e =
    either (list_any (nat_eq q) ns) (nat_eq q n || false) (h q)
    (λ s. subst (λ m. m < length bs) (sym (eqb-true q n (either (nat_eq q n) false (λ t. t) (λ f. cc) s))) l)
    (sym (list_any-append (nat_eq q) ns (n ∷ [])) ∙ e)
