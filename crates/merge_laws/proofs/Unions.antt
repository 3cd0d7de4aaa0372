-- Unions of sets of addresses, and of marks.
use Rattle.std.proofs.Common.{◌≡◌, Bool, true, false, ◌||◌, refl, sym, ap, ◌∙◌}
use Rattle.std.specs.Cmp.{IsTotalOrder}
use Rattle.std.specs.FinMap as fin
use Rattle.std.specs.Set.{sorted_merge}
use Rattle.std.specs.declared.cmp.Ordering.{Ordering}
use Rattle.fol.specs.Syntax.{Term}
use Rattle.finite.specs.Finite as set
use Rattle.finite.proofs.Finite.{has-listing, listing_rises, of_rising-listing, listing-of_rising, has-adds, has-adds_each, same_members}
use Rattle.free_variables.specs.Union.{union_of}
use Rattle.free_variables.proofs.RisingLists.{merge_rises, shown_by_merge}
use Rattle.extraction_laws.specs.Addresses.{Address, via, AddressSet, address_total, same_address}
use Rattle.extraction_laws.specs.States.{State, opened, instantiated, Includes}
use Rattle.extraction_laws.proofs.Equal.{address_ties}
use Rattle.merge_laws.specs.United.{united}

-- tests

or_assoc : (a b c : Bool) → (a || (b || c)) ≡ ((a || b) || c)
or_assoc true b c = refl
or_assoc false b c = refl

or_comm : (a b : Bool) → (a || b) ≡ (b || a)
or_comm true true = refl
or_comm true false = refl
or_comm false true = refl
or_comm false false = refl

or_included : (a b : Bool) → (a ≡ true → b ≡ true) → (a || b) ≡ b
or_included true b f = sym (f refl)
or_included false b f = refl

-- sets

module _ {K : Type 0} {R : K → K → Ordering} (o : IsTotalOrder R) where
  pub has-union : (s t : set.Finite R) (q : K) → set.has (union_of s t) q ≡ (set.has s q || set.has t q)
  has-union s t q = has-adds_each o s (set.listing t) q ∙ ap (λ b. set.has s q || b) (sym (has-listing t q))

  module _ (ties : fin.IsAntisymmetric R) where
    -- the listing of a union is the merge of the listings
    pub listing-union : (s t : set.Finite R) → set.listing (union_of s t) ≡ sorted_merge R true (set.listing s) (set.listing t)
    listing-union s t =
        let shown = shown_by_merge o ties (set.listing s) (set.listing t) (listing_rises s) (listing_rises t) in
        ap set.listing (sym (shown ∙ λ i. union_of (of_rising-listing s i) (of_rising-listing t i)))
        ∙ listing-of_rising R (sorted_merge R true (set.listing s) (set.listing t)) (merge_rises o ties (set.listing s) (set.listing t) (listing_rises s) (listing_rises t))

same_sets : (s t : AddressSet) → ((a : Address) → set.has s a ≡ set.has t a) → s ≡ t
same_sets = same_members address_total address_ties

adds-union : (s t : AddressSet) (a : Address) → set.adds (union_of s t) a ≡ union_of (set.adds s a) t
adds-union s t a =
    same_sets (set.adds (union_of s t) a) (union_of (set.adds s a) t) (λ b.
    has-adds address_total (union_of s t) a b
    ∙ (ap (λ x. same_address b a || x) (has-union address_total s t b)
    ∙ (or_assoc (same_address b a) (set.has s b) (set.has t b)
    ∙ (ap (λ x. x || set.has t b) (sym (has-adds address_total s a b))
    ∙ sym (has-union address_total (set.adds s a) t b)))))

union_comm : (s t : AddressSet) → union_of s t ≡ union_of t s
union_comm s t = same_sets (union_of s t) (union_of t s) (λ a. has-union address_total s t a ∙ (or_comm (set.has s a) (set.has t a) ∙ sym (has-union address_total t s a)))

union_included : (s t : AddressSet) → set.IsSubset s t → union_of s t ≡ t
union_included s t h = same_sets (union_of s t) t (λ a. has-union address_total s t a ∙ or_included (set.has s a) (set.has t a) (h a))

-- marks that are added to a state that is united with another

pub opened-united : (a : Address) (x y : State) → opened a (united x y) ≡ united (opened a x) y
opened-united a x y = λ i. record { opened = adds-union x.opened y.opened a i; instances = union_of x.instances y.instances; names = x.names }

pub both-united : (l r : Address) (x y : State) → opened r (opened l (united x y)) ≡ united (opened r (opened l x)) y
both-united l r x y = ap (opened r) (opened-united l x y) ∙ opened-united r (opened l x) y

pub instantiated-united : (a : Address) (t : Term) (x y : State) → instantiated a t (united x y) ≡ united (instantiated a t x) y
instantiated-united a t x y = λ i. record { opened = union_of x.opened y.opened; instances = adds-union x.instances y.instances (via a t) i; names = x.names }

-- states with variables at the same addresses

pub united_comm : (x y : State) → x.names ≡ y.names → united x y ≡ united y x
united_comm x y e = λ i. record { opened = union_comm x.opened y.opened i; instances = union_comm x.instances y.instances i; names = e i }

-- what a state includes adds nothing to it
pub united_included : (x y : State) → Includes x y → x.names ≡ y.names → united x y ≡ y
united_included x y h e = λ i. record { opened = union_included x.opened y.opened h.used i; instances = union_included x.instances y.instances h.instances i; names = e i }
