-- The least of some formulas, by their numbers, and the first formula of a set that passes a test.
use Rattle.std.proofs.Common.{◌≡◌, ℕ, ◌+◌, ◌<◌, Bool, true, false, cond, T, List, [], ◌∷◌, ◌++◌, take, length, get_or, Option, Some, None, refl, sym, ap, subst, ◌∙◌, rules}
use Rattle.std.specs.Prelude.{find, IfSome}
use Rattle.std.specs.List.{list_any}
use Rattle.std.specs.Ordering.{nat_cmp, eq_by_cmp, is_eq, is_lt}
use Rattle.std.specs.Cmp.{tied_itself, nat_cmp_total}
use Rattle.std.specs.FinMap as fin
use Rattle.std.specs.declared.cmp.Ordering.{Ordering}
use Rattle.std.specs.declared.cmp.Ordering.TheVariants.{Less, Equal, Greater}
use Rattle.std.proofs.lemmas.List.{take_more}
use Rattle.std.proofs.lemmas.List.Elements.{All-weaker, All-push}
use Rattle.std.proofs.lemmas.List.Folds.{list_any-append}
use Rattle.fol.specs.Syntax.{Formula}
use Rattle.fol.specs.Order.{formula_cmp}
use Rattle.fol.specs.OrderLaws.{formula_total}
use Rattle.finite.specs.Finite as set
use Rattle.finite.proofs.Rising.{IsBelow, first, second, less, head_below, tail_rises}
use Rattle.proof_trees.proofs.Passing.{itself}
use Rattle.arena_cells.specs.Items.{Item}
use Rattle.arena_cells.specs.Standing.{formula_at, IsFormulaAt}
use Rattle.proof_trees.proofs.Booleans.{or_first, or_second, either}
use Rattle.proof_trees.proofs.FormulaSets.{equal}
use Rattle.arena_building.specs.Leaves.{is_number_in, lesser_by, lesser_of, IsLeastAt}

not_below_itself : (f : Formula) → formula_cmp f f ≡ Less → ⊥
not_below_itself f e = let tie : formula_cmp f f ≡ Equal = tied_itself formula_total f in cc

-- where the first is not greater, the second is not below it
not_below : (f g : Formula) (o : Ordering) → formula_cmp f g ≡ o → (o ≡ Greater → ⊥) → formula_cmp g f ≡ Less → ⊥
not_below f g o e least less =
    let turned = formula_total.antisymm f g in
    least (cc)

-- one number more
pub least_push : (a : List Item) (ns : List ℕ) (least : Option ℕ) (n : ℕ) → IsLeastAt a ns least → IsLeastAt a (ns ++ n ∷ []) (Some (lesser_of a least n))
least_push a ns None n h =
    subst (λ ms. IsLeastAt a (ms ++ n ∷ []) (Some n)) (sym h)
    (or_first (eq_by_cmp nat_cmp n n) false (itself nat_cmp_total fin.nat_cmp-IsAntisymmetric n), All-push (λ m. formula_cmp (formula_at a m) (formula_at a n) ≡ Less → ⊥) [] n (search rules) (not_below_itself (formula_at a n)))
least_push a ns (Some m) n h =
    elim (formula_cmp (formula_at a m) (formula_at a n)) as (λ o. formula_cmp (formula_at a m) (formula_at a n) ≡ o → IsLeastAt a (ns ++ n ∷ []) (Some (lesser_by o m n))) [
      | Less ↦ λ e. stays Less e (λ g. cc)
      | Equal ↦ λ e. stays Equal e (λ g. cc)
      | Greater ↦ λ e. (
        list_any-append (eq_by_cmp nat_cmp n) ns (n ∷ []) ∙ or_second (is_number_in ns n) _ (or_first (eq_by_cmp nat_cmp n n) false (itself nat_cmp_total fin.nat_cmp-IsAntisymmetric n)),
        All-push (λ k. formula_cmp (formula_at a k) (formula_at a n) ≡ Less → ⊥) ns n
            (All-weaker (λ k. formula_cmp (formula_at a k) (formula_at a m) ≡ Less → ⊥) (λ k. formula_cmp (formula_at a k) (formula_at a n) ≡ Less → ⊥)
            (λ k none less.
            let turned = formula_total.antisymm (formula_at a n) (formula_at a m) in
            none (formula_total.trans (formula_at a k) (formula_at a n) (formula_at a m) less (cc)))
            ns h.1)
            (not_below_itself (formula_at a n)),
      )
    ] refl
  where
    stays : (o : Ordering) → formula_cmp (formula_at a m) (formula_at a n) ≡ o → (o ≡ Greater → ⊥) → IsLeastAt a (ns ++ n ∷ []) (Some m)
    stays o e least = (
      list_any-append (eq_by_cmp nat_cmp m) ns (n ∷ []) ∙ or_first (is_number_in ns m) _ h.0,
      All-push (λ k. formula_cmp (formula_at a k) (formula_at a m) ≡ Less → ⊥) ns n h.1 (not_below (formula_at a m) (formula_at a n) o e least),
    )

pub least_more : (a : List Item) (ns : List ℕ) (i d : ℕ) (least : Option ℕ) → i < length ns → IsLeastAt a (take i ns) least → IsLeastAt a (take (i + 1) ns) (Some (lesser_of a least (get_or ns i d)))
least_more a ns i d least within h = rw (take_more ns i d within) (least_push a (take i ns) least (get_or ns i d) h)

lesser_at : (a : List Item) (o : Ordering) (m n : ℕ) → IsFormulaAt a m → IsFormulaAt a n → IsFormulaAt a (lesser_by o m n)
lesser_at a Less m n h k = h
lesser_at a Equal m n h k = h
lesser_at a Greater m n h k = k

pub lesser_there : (a : List Item) (least : Option ℕ) (n : ℕ) → IfSome least (IsFormulaAt a) → IsFormulaAt a n → IsFormulaAt a (lesser_of a least n)
lesser_there a None n h k = k
lesser_there a (Some m) n h k = lesser_at a (formula_cmp (formula_at a m) (formula_at a n)) m n h k

-- the first formula of a rising list that passes: none where none does, else the least that does
pub find_none : (p : Formula → Bool) (fs : List Formula) → ((f : Formula) → list_any (eq_by_cmp formula_cmp f) fs ≡ true → p f ≡ false) → find p fs ≡ None
find_none p [] none = refl
find_none p (f ∷ fs) none =
    ap (λ b. cond b (Some f) (find p fs)) (none f (or_first _ (list_any (eq_by_cmp formula_cmp f) fs) (ap is_eq (tied_itself formula_total f))))
    ∙ find_none p fs (λ g m. none g (or_second (eq_by_cmp formula_cmp g f) _ m))

below_member : (f g : Formula) (fs : List Formula) → IsBelow formula_cmp f fs → list_any (eq_by_cmp formula_cmp g) fs ≡ true → formula_cmp f g ≡ Less
below_member f g [] below m = cc
below_member f g (h ∷ fs) below m =
    let here : T (is_lt (formula_cmp f h)) = first _ _ below in
    let rest : IsBelow formula_cmp f fs = second _ _ below in
    either (eq_by_cmp formula_cmp g h) (list_any (eq_by_cmp formula_cmp g) fs)
    (λ same. ap (formula_cmp f) (equal g h same) ∙ less _ here)
    (λ later. below_member f g fs rest later)
    m

above : (f g : Formula) (fs : List Formula) → set.IsRising formula_cmp (f ∷ fs) → list_any (eq_by_cmp formula_cmp g) fs ≡ true → formula_cmp f g ≡ Less
above f g fs rises m = below_member f g fs (head_below formula_cmp f fs rises) m

pub find_least : (p : Formula → Bool) (fs : List Formula) (f : Formula) → set.IsRising formula_cmp fs → list_any (eq_by_cmp formula_cmp f) fs ≡ true → p f ≡ true
    → ((g : Formula) → list_any (eq_by_cmp formula_cmp g) fs ≡ true → p g ≡ true → formula_cmp g f ≡ Less → ⊥) → find p fs ≡ Some f
find_least p [] f rises there passes least = cc
find_least p (g ∷ fs) f rises there passes least =
    elim (p g) as (λ b. p g ≡ b → cond b (Some g) (find p fs) ≡ Some f) [
      | true ↦ λ e.
          either (eq_by_cmp formula_cmp f g) (list_any (eq_by_cmp formula_cmp f) fs)
          (λ same. ap Some (sym (equal f g same)))
          (λ later. absurd (least g (or_first _ (list_any (eq_by_cmp formula_cmp g) fs) (ap is_eq (tied_itself formula_total g))) e (above g f fs rises later)))
          there
      | false ↦ λ e.
          either (eq_by_cmp formula_cmp f g) (list_any (eq_by_cmp formula_cmp f) fs)
          (λ same. let clash : true ≡ false = sym passes ∙ (ap p (equal f g same) ∙ e) in cc)
          (λ later. find_least p fs f (tail_rises formula_cmp g fs rises) later passes (λ h m. least h (or_second (eq_by_cmp formula_cmp h g) _ m)))
          there
    ] refl
