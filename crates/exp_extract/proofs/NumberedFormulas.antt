-- The numbers of formulas in rising lists, and the addresses of a premise's formulas.
use Rattle.std.proofs.Common.{◌≡◌, ℕ, ◌+◌, ◌<◌, Bool, true, false, ◌||◌, List, [], ◌∷◌, ◌++◌, map, length, take, get_or, Option, Some, None, is_some, IfSome, Result, Ok, Err, refl, sym, ap, ◌∙◌, subst, arith}
use Rattle.std.specs.Prelude.{nat_eq, if◌then◌else◌}
use Rattle.std.specs.declared.cmp.Ordering.TheVariants.{Less, Equal, Greater}
use Rattle.std.specs.Cmp.{tied_back}
use Rattle.std.specs.Ordering.{eq_by_cmp, is_eq}
use Rattle.std.specs.List.{list_any}
use Rattle.std.proofs.lemmas.Bool.{eq-eqb, eqb-true}
use Rattle.std.proofs.lemmas.List.{length-map, map-append, take_more}
use Rattle.fol.specs.declared.symbols.Var.{Var}
use Rattle.fol.specs.Syntax.{Formula}
use Rattle.fol.specs.Order.{formula_cmp}
use Rattle.fol.specs.OrderLaws.{formula_total}
use Rattle.fol.proofs.OrderTies.{formula_equality_same}
use Rattle.finite.specs.Finite as set
use Rattle.finite.specs.Place.{place, place_by, later}
use Rattle.finite.proofs.Finite.{has-listing}
use Rattle.finite.proofs.Rising.{turned, turned_less, below_none, below_less, head_below, tail_rises}
use Rattle.substitution.specs.Maps.{Map}
use Rattle.lk_rules.specs.declared.sequent.Sequent.{Sequent}
use Rattle.lk_rules.specs.declared.sequent.Side.{Side}
use Rattle.lk_rules.specs.declared.rule.Rule.{Rule}
use Rattle.lk_rules.specs.Sequents.{side_of}
use Rattle.proof_trees.proofs.Booleans.{or_first, or_second}
use Rattle.search_laws.proofs.Tests.{split, clash}
use Rattle.extraction_laws.specs.Addresses.{Address}
use Rattle.extraction_laws.specs.Extraction.{Context, main_address, auxiliary_address, inner_context}
use Rattle.exp_extract.specs.Entries.{IsChild}
use Rattle.exp_extract.specs.Quantifiers.{Grows}
use Rattle.exp_extract.specs.declared.sides.Sides.{Sides}
use Rattle.exp_extract.specs.declared.sides.Auxiliary.{Auxiliary}
use Rattle.exp_extract.specs.Sides.{number_in, address_or, numbers_of, context_in, AreSides, IsKnownDistinct, auxiliary_place, AreAuxiliaries, or_else, inner_number, AreInner}

equal_formulas : (f g : Formula) → eq_by_cmp formula_cmp f g ≡ true → f ≡ g
equal_formulas f g = (formula_equality_same f g (eq_by_cmp formula_cmp f g) refl).0

-- by place

abbrev pub number_at : List ℕ → Result ℕ ℕ → Option ℕ
number_at ns (Ok i) = Some (get_or ns i 0)
number_at ns (Err i) = None

at_later : (n : ℕ) (ns : List ℕ) (r : Result ℕ ℕ) → number_at ns r ≡ number_at (n ∷ ns) (later r)
at_later n ns (Ok i) = refl
at_later n ns (Err i) = refl

pub number_none : (fs : List Formula) (ns : List ℕ) (h : Formula) → list_any (eq_by_cmp formula_cmp h) fs ≡ false → number_in fs ns h ≡ None
number_none [] ns h e = refl
number_none (f ∷ fs) [] h e = refl
number_none (f ∷ fs) (n ∷ ns) h e =
    elim (eq_by_cmp formula_cmp h f) as (λ b. (b || list_any (eq_by_cmp formula_cmp h) fs) ≡ false → (if b then Some n else number_in fs ns h) ≡ None) [
      | true ↦ λ x. absurd (cc)
      | false ↦ λ x. number_none fs ns h x
    ] e

pub number_by_place : (fs : List Formula) (ns : List ℕ) (h : Formula) → set.IsRising formula_cmp fs → length ns ≡ length fs → number_in fs ns h ≡ number_at ns (place formula_cmp h fs)
number_by_place [] ns h up long = refl
number_by_place (f ∷ fs) [] h up long = absurd (omega arith)
number_by_place (f ∷ fs) (n ∷ ns) h up long =
    elim (formula_cmp f h) as (λ r. formula_cmp f h ≡ r → (if eq_by_cmp formula_cmp h f then Some n else number_in fs ns h) ≡ number_at (n ∷ ns) (place_by r (place formula_cmp h fs))) [
      | Less ↦ λ e. ap (λ r. if is_eq r then Some n else number_in fs ns h) (turned_less formula_cmp formula_total f h e)
          ∙ (number_by_place fs ns h (tail_rises formula_cmp f fs up) (omega arith) ∙ at_later n ns (place formula_cmp h fs))
      | Equal ↦ λ e. ap (λ r. if is_eq r then Some n else number_in fs ns h) (tied_back formula_total f h e)
      | Greater ↦ λ e. ap (λ r. if is_eq r then Some n else number_in fs ns h) (turned formula_cmp formula_total f h e)
          ∙ number_none fs ns h (below_none formula_cmp h fs (below_less formula_cmp formula_total f h fs (turned formula_cmp formula_total f h e) (head_below formula_cmp f fs up)))
    ] refl

pub number_some : (fs : List Formula) (ns : List ℕ) (h : Formula) → length ns ≡ length fs → is_some (number_in fs ns h) ≡ list_any (eq_by_cmp formula_cmp h) fs
number_some [] ns h long = refl
number_some (f ∷ fs) [] h long = absurd (omega arith)
number_some (f ∷ fs) (n ∷ ns) h long =
    elim (eq_by_cmp formula_cmp h f) as (λ b. is_some (if b then Some n else number_in fs ns h) ≡ (b || list_any (eq_by_cmp formula_cmp h) fs)) [
      | true ↦ refl
      | false ↦ number_some fs ns h (omega arith)
    ]

-- a number that is found is one of the list
number_listed : (fs : List Formula) (ns : List ℕ) (h : Formula) (n : ℕ) → number_in fs ns h ≡ Some n → list_any (nat_eq n) ns ≡ true
number_listed [] ns h n e = absurd (cc)
number_listed (f ∷ fs) [] h n e = absurd (cc)
number_listed (f ∷ fs) (m ∷ ns) h n e =
    elim (eq_by_cmp formula_cmp h f) as (λ b. (if b then Some m else number_in fs ns h) ≡ Some n → (nat_eq n m || list_any (nat_eq n) ns) ≡ true) [
      | true ↦ λ x. let same : m ≡ n = cc in or_first (nat_eq n m) _ (eq-eqb n m (sym same))
      | false ↦ λ x. or_second (nat_eq n m) _ (number_listed fs ns h n x)
    ] e

-- numbers by a function of the formulas
module _ (F : Formula → Option ℕ) where
  -- each formula of the list has the number that the function gives
  number_given : (gs : List Formula) (ms : List ℕ) (h : Formula) → map Some ms ≡ map F gs → list_any (eq_by_cmp formula_cmp h) gs ≡ true → number_in gs ms h ≡ F h
  number_given [] ms h same there = cc
  number_given (g ∷ gs) [] h same there = cc
  number_given (g ∷ gs) (m ∷ ms) h same there =
      let head : Some m ≡ F g = cc in
      let rest : map Some ms ≡ map F gs = cc in
      split (eq_by_cmp formula_cmp h g)
      (λ e. ap (λ b. if b then Some m else number_in gs ms h) e ∙ (head ∙ ap F (sym (equal_formulas h g e))))
      (λ e. ap (λ b. if b then Some m else number_in gs ms h) e ∙ number_given gs ms h rest (sym (ap (λ b. b || list_any (eq_by_cmp formula_cmp h) gs) e) ∙ there))

  -- and each number is given for some formula
  given_for : (gs : List Formula) (ms : List ℕ) (q : ℕ) → map Some ms ≡ map F gs → list_any (nat_eq q) ms ≡ true → (g : Formula) × (F g ≡ Some q)
  given_for [] [] q same there = absurd (cc)
  given_for (g ∷ gs) [] q same there = absurd (cc)
  given_for [] (m ∷ ms) q same there = absurd (cc)
  given_for (g ∷ gs) (m ∷ ms) q same there =
      let head : Some m ≡ F g = cc in
      let rest : map Some ms ≡ map F gs = cc in
      split (nat_eq q m)
      (λ e. (g, sym head ∙ ap Some (sym (eqb-true q m e))))
      (λ e. given_for gs ms q rest (sym (ap (λ b. b || list_any (nat_eq q) ms) e) ∙ there))

-- the premise's numbers, where c gives the addresses of the conclusion's formulas
module _ (bs : List Address) (s e : Sequent) (x y : Sides) (a : Auxiliary) (i : ℕ) (small : i < 2) (r : Rule) (m : Map) (v : Var) (c : Context)
    (sides : AreSides bs s x) (agree : (side : Side) (f : Formula) → set.has (side_of s side) f ≡ true → context_in bs s x side f ≡ c side f)
    (inner : AreInner s x a i e y) (auxiliaries : AreAuxiliaries bs a r m v (main_address r c)) where
  abbrev F : Side → Formula → Option ℕ
  F side = inner_number (set.listing (side_of s side)) (numbers_of x side) a i side

  by_auxiliary : (side : Side) (g : Formula) (q : ℕ) → auxiliary_place a i side g ≡ Some q → IsChild bs (auxiliary_address r m v (main_address r c) i side g) q
  by_auxiliary side g q e = subst (λ (o : Option ℕ). IfSome o (IsChild bs (auxiliary_address r m v (main_address r c) i side g))) e (auxiliaries i side g small)

  number_within : (side : Side) (g : Formula) (q : ℕ) (o : Option ℕ) → number_in (set.listing (side_of s side)) (numbers_of x side) g ≡ o → or_else o (auxiliary_place a i side g) ≡ Some q → q < length bs
  number_within side g q (Some n) is found = let same : n ≡ q = cc in sides.within side q (number_listed _ _ g q (is ∙ ap Some same))
  number_within side g q None is found = (by_auxiliary side g q found).0

  pub inner_areSides : IsKnownDistinct e y → AreSides bs e y
  inner_areSides distinct = record {
    counts = λ side. sym (length-map (numbers_of y side) Some) ∙ (ap length (inner side) ∙ length-map (set.listing (side_of e side)) (F side));
    within = λ side q there. let one = given_for (F side) (set.listing (side_of e side)) (numbers_of y side) q (inner side) there in number_within side one.0 q _ refl one.1;
    distinct = distinct;
  }

  is_number : (side : Side) (h : Formula) → list_any (eq_by_cmp formula_cmp h) (set.listing (side_of e side)) ≡ true → number_in (set.listing (side_of e side)) (numbers_of y side) h ≡ F side h → is_some (F side h) ≡ true
  is_number side h listed given =
      ap is_some (sym given)
      ∙ (number_some (set.listing (side_of e side)) (numbers_of y side) h (sym (length-map (numbers_of y side) Some) ∙ (ap length (inner side) ∙ length-map (set.listing (side_of e side)) (F side))) ∙ listed)

  by_place : (side : Side) (h : Formula) (o : Option ℕ) → auxiliary_place a i side h ≡ o → is_some o ≡ true → address_or bs o ≡ auxiliary_address r m v (main_address r c) i side h
  by_place side h None at one = absurd (clash false one refl)
  by_place side h (Some q) at one = (by_auxiliary side h q at).1

  by_number : (side : Side) (h : Formula) (o : Option ℕ) → number_in (set.listing (side_of s side)) (numbers_of x side) h ≡ o → (b : Bool) → set.has (side_of s side) h ≡ b
      → is_some o ≡ b → is_some (or_else o (auxiliary_place a i side h)) ≡ true
      → address_or bs (or_else o (auxiliary_place a i side h)) ≡ (if b then c side h else auxiliary_address r m v (main_address r c) i side h)
  by_number side h (Some n) is true has some found = ap (address_or bs) (sym is) ∙ agree side h has
  by_number side h (Some n) is false has some found = absurd (clash true refl some)
  by_number side h None is true has some found = absurd (clash false some refl)
  by_number side h None is false has some found = by_place side h (auxiliary_place a i side h) refl found

  -- the address of a formula of the premise
  pub inner_addresses : (side : Side) (h : Formula) → set.has (side_of e side) h ≡ true → context_in bs e y side h ≡ inner_context r s m c v i side h
  inner_addresses side h there =
      let fs : List Formula = set.listing (side_of s side) in
      let ns : List ℕ = numbers_of x side in
      let listed : list_any (eq_by_cmp formula_cmp h) (set.listing (side_of e side)) ≡ true = sym (has-listing (side_of e side) h) ∙ there in
      let given : number_in (set.listing (side_of e side)) (numbers_of y side) h ≡ F side h = number_given (F side) (set.listing (side_of e side)) (numbers_of y side) h (inner side) listed in
      let some : is_some (number_in fs ns h) ≡ set.has (side_of s side) h = number_some fs ns h (sides.counts side) ∙ sym (has-listing (side_of s side) h) in
      ap (address_or bs) given ∙ by_number side h (number_in fs ns h) refl (set.has (side_of s side) h) refl some (is_number side h listed given)

-- while addresses grow
pub sides_grown : (bs cs : List Address) (s : Sequent) (x : Sides) → Grows bs cs → AreSides bs s x → AreSides cs s x
sides_grown bs cs s x g h = record { counts = h.counts; within = λ side q there. (g q (h.within side q there)).0; distinct = h.distinct }

pub context_grown : (bs cs : List Address) (s : Sequent) (x : Sides) → Grows bs cs → AreSides bs s x → (side : Side) (f : Formula) → context_in cs s x side f ≡ context_in bs s x side f
context_grown bs cs s x g h side f = by_number (number_in (set.listing (side_of s side)) (numbers_of x side) f) refl
  where
    by_number : (o : Option ℕ) → number_in (set.listing (side_of s side)) (numbers_of x side) f ≡ o → address_or cs (number_in (set.listing (side_of s side)) (numbers_of x side) f) ≡ address_or bs (number_in (set.listing (side_of s side)) (numbers_of x side) f)
    by_number None is = ap (address_or cs) is ∙ sym (ap (address_or bs) is)
    by_number (Some n) is = ap (address_or cs) is ∙ ((g n (h.within side n (number_listed _ _ f n is))).1 ∙ sym (ap (address_or bs) is))

-- the number of a formula of the sequent is that of its address
pub context_child : (bs : List Address) (s : Sequent) (x : Sides) → AreSides bs s x → (side : Side) (f : Formula) (n : ℕ) → number_in (set.listing (side_of s side)) (numbers_of x side) f ≡ Some n → IsChild bs (context_in bs s x side f) n
context_child bs s x h side f n is = (h.within side n (number_listed _ _ f n is), sym (ap (address_or bs) is))

-- one more number
pub numbers_more : (f : Formula → Option ℕ) (hs : List Formula) (k : ℕ) (h : Formula) (ns ms : List ℕ) (n : ℕ) → k < length hs → h ≡ get_or hs k h → ms ≡ ns ++ n ∷ [] → Some n ≡ f h → map Some ns ≡ map f (take k hs)
    → map Some ms ≡ map f (take (k + 1) hs)
numbers_more f hs k h ns ms n l at new number before =
    ap (map Some) new ∙ (map-append Some ns (n ∷ []) ∙ ((λ i. before i ++ number i ∷ [])
    ∙ (sym (map-append f (take k hs) (h ∷ [])) ∙ ap (map f) (ap (λ x. take k hs ++ x ∷ []) at ∙ sym (take_more hs k h l)))))
