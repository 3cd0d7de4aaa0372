-- One more address of a formula.
use Rattle.std.proofs.Common.{◌≡◌, ℕ, ◌<◌, ◌+◌, false, List, [], ◌∷◌, ◌++◌, map, length, take, get_or, sym, ap, ◌∙◌, subst, arith}
use Rattle.std.specs.List.{list_any}
use Rattle.std.specs.Ordering.{eq_by_cmp}
use Rattle.std.proofs.lemmas.List.{length_push, map-append, take_more}
use Rattle.fol.specs.Syntax.{Formula}
use Rattle.fol.specs.Order.{formula_cmp}
use Rattle.finite.specs.Finite as set
use Rattle.lk_rules.specs.declared.sequent.Side.{Side}
use Rattle.expansion_laws.specs.Expansions.{turn}
use Rattle.extraction_laws.specs.Addresses.{Address, root, is_listed}
use Rattle.exp_extract.specs.Marked.{address_in}
use Rattle.exp_extract.specs.Quantifiers.{Grows, AreWithin}
use Rattle.exp_extract.proofs.AddressLists.{at_end}
use Rattle.exp_extract.proofs.MarkedSets.{map_grown, within_grown, grows_push, grown_to}
use Rattle.exp_extract.proofs.RootLists.{not_before, still_absent, other_side, within_push}

module _ (bs cs : List Address) (s : Side) (fs : List Formula) (i : ℕ) (f d : Formula) (small : i < length fs) (at : f ≡ get_or fs i d) where
  -- the next formula has no address yet
  pub next_absent : set.IsRising formula_cmp fs → ((g : Formula) → list_any (eq_by_cmp formula_cmp g) (take i fs) ≡ false → is_listed (root s g) bs ≡ false) → is_listed (root s f) bs ≡ false
  next_absent up h = h f (subst (λ g. list_any (eq_by_cmp formula_cmp g) (take i fs) ≡ false) (sym at) (not_before fs i d up small))

  next_taken : take (i + 1) fs ≡ take i fs ++ f ∷ []
  next_taken = take_more fs i d small ∙ ap (λ g. take i fs ++ g ∷ []) (sym at)

  module _ (new : cs ≡ bs ++ root s f ∷ []) where
    pub next_grown : Grows bs cs
    next_grown = grown_to bs cs (bs ++ root s f ∷ []) new (grows_push bs (root s f))

    pub still_out : ((g : Formula) → list_any (eq_by_cmp formula_cmp g) (take i fs) ≡ false → is_listed (root s g) bs ≡ false)
        → (g : Formula) → list_any (eq_by_cmp formula_cmp g) (take (i + 1) fs) ≡ false → is_listed (root s g) cs ≡ false
    still_out h g out = ap (is_listed (root s g)) new ∙ still_absent bs s g f (take i fs) (h g) (sym (ap (list_any (eq_by_cmp formula_cmp g)) next_taken) ∙ out)

    pub next_others : (ds : List Address) → ((g : Formula) → is_listed (root (turn s) g) bs ≡ is_listed (root (turn s) g) ds) → (g : Formula) → is_listed (root (turn s) g) cs ≡ is_listed (root (turn s) g) ds
    next_others ds h g = ap (is_listed (root (turn s) g)) new ∙ (other_side bs s g f ∙ h g)

    module _ (ns ks : List ℕ) (n : ℕ) (number : n ≡ length bs) (pushed : ks ≡ ns ++ n ∷ []) (within : AreWithin bs ns) where
      last : address_in cs n ≡ root s f
      last = (λ j. address_in (new j) (number j)) ∙ at_end bs (root s f)

      pub next_addresses : map (address_in bs) ns ≡ map (root s) (take i fs) → map (address_in cs) ks ≡ map (root s) (take (i + 1) fs)
      next_addresses h =
          ap (map (address_in cs)) pushed
          ∙ (map-append (address_in cs) ns (n ∷ [])
          ∙ ((λ j. (map_grown bs cs next_grown ns within ∙ h) j ++ last j ∷ [])
          ∙ (sym (map-append (root s) (take i fs) (f ∷ []))
          ∙ ap (map (root s)) (sym next_taken))))

      pub next_within : AreWithin cs ks
      next_within =
          let there : n < length cs = let long : length cs ≡ length bs + 1 = ap length new ∙ length_push bs (root s f) in omega (arith, number, long) in
          subst (AreWithin cs) (sym pushed) (within_push cs ns n there (within_grown bs cs next_grown ns within))
