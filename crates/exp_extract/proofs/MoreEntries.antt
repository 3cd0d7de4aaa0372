-- The table of addresses, with one more entry.
use Rattle.std.proofs.Common.{◌≡◌, ℕ, zero, suc, ◌+◌, ◌<◌, true, false, cond, List, [], ◌∷◌, ◌++◌, length, get_or, set, Option, Some, None, IfSome, refl, sym, ap, ◌∙◌, subst, arith, inl, inr}
use Rattle.std.proofs.lemmas.Bool.{cases_lt, eqb-true, eqb-false}
use Rattle.std.proofs.lemmas.List.{length_push, length-set, get_or-set_same, get_or-set_other}
use Rattle.std.proofs.Math.ListN.{get_or-append}
use Rattle.std.proofs.Math.Seq.{get_or-append_seam}
use Rattle.std.specs.Prelude.{nat_eq}
use Rattle.std.specs.BTreeMap.{BTreeMap, get, is_at, IsEmpty, IsUnchanged}
use Rattle.std.specs.Map.{lookup}
use Rattle.std.specs.Ordering.{eq_by_cmp}
use Rattle.fol.specs.Syntax.{Term, Formula}
use Rattle.fol.specs.Order.{term_cmp}
use Rattle.fol.specs.Formed.{IsFormed, IsFormedTerm}
use Rattle.lk_rules.specs.declared.sequent.Side.{Side}
use Rattle.search_laws.proofs.Tests.{split, clash}
use Rattle.proof_trees.proofs.Booleans.{either}
use Rattle.extraction_laws.specs.Addresses.{Address, root, part, via, same_address, is_listed, formula_at, side_at}
use Rattle.extraction_laws.proofs.Equal.{equal_addresses, equal_terms, tied_terms}
use Rattle.exp_extract.specs.Marked.{address_in}
use Rattle.exp_extract.specs.declared.places.Entry.{Entry}
use Rattle.exp_extract.specs.Entries.{origin_address, address_of, addresses_from, addresses_of, part_in, with_part, FindsChild, IsEntry, HasParent, AreEntries}
use Rattle.exp_extract.proofs.AddressLists.{listed_at, in_front, at_end, listed_more, stays_out, finds_more, new_child, parent_more, distinct_more, part_apart, via_apart}

-- addresses

pub length_from : (bs : List Address) (es : List Entry) → length (addresses_from bs es) ≡ length bs + length es
length_from bs [] = omega arith
length_from bs (e ∷ es) =
    let later = length_from (bs ++ address_of bs e ∷ []) es in
    let long = length_push bs (address_of bs e) in
    omega arith

pub length_of : (es : List Entry) → length (addresses_of es) ≡ length es
length_of es = let whole = length_from [] es in omega arith

pub from_push : (bs : List Address) (es : List Entry) (e : Entry) → addresses_from bs (es ++ e ∷ []) ≡ addresses_from bs es ++ address_of (addresses_from bs es) e ∷ []
from_push bs [] e = refl
from_push bs (x ∷ es) e = from_push (bs ++ address_of bs x ∷ []) es e

-- the entries have one address
pub record SameRoot (e f : Entry) : Type 0 where
  pub origin : f.origin ≡ e.origin
  pub formula : f.formula ≡ e.formula
  pub side : f.side ≡ e.side

pub from_set : (bs : List Address) (es : List Entry) (n : ℕ) (e f : Entry) → n < length es → e ≡ get_or es n e → SameRoot e f → addresses_from bs (set es n f) ≡ addresses_from bs es
from_set bs [] n e f l is same = absurd (omega arith)
from_set bs (x ∷ es) zero e f l is same =
    let address : address_of bs f ≡ address_of bs x = (λ i. origin_address bs (same.side i) (same.formula i) (same.origin i)) ∙ ap (address_of bs) is in
    ap (λ a. addresses_from (bs ++ a ∷ []) es) address
from_set bs (x ∷ es) (suc n) e f l is same = from_set (bs ++ address_of bs x ∷ []) es n e f (omega arith) is same

-- another entry

entry_more : (bs : List Address) (b a : Address) (e : Entry) → ((i : ℕ) → part a i ≡ b → ⊥) → ((t : Term) → via a t ≡ b → ⊥) → IsEntry bs a e → IsEntry (bs ++ b ∷ []) a e
entry_more bs b a e no_part no_via h = record {
  formula = h.formula;
  formed = h.formed;
  side = h.side;
  parts = λ i l. finds_more bs b (part a i) (part_in e i) (no_part i) (h.parts i l);
  vias = λ t. finds_more bs b (via a t) (get term_cmp e.vias t) (no_via t) (h.vias t);
  terms = h.terms;
}

-- the entry of a new address

pub record IsFresh (a : Address) (e : Entry) : Type 0 where
  pub formula : e.formula ≡ formula_at a
  pub formed : IsFormed e.formula
  pub side : e.side ≡ side_at a
  pub parts : (i : ℕ) → part_in e i ≡ None
  pub vias : IsEmpty e.vias

module _ (bs : List Address) (b : Address) (absent : is_listed b bs ≡ false) where
  -- nothing is a part or an instance of it
  outside : ((a : Address) → is_listed a bs ≡ true → HasParent bs a) → (x : Address) → (HasParent bs x → is_listed b bs ≡ true) → (x ≡ b → ⊥) → is_listed x (bs ++ b ∷ []) ≡ false
  outside closed x parent ne = stays_out bs b x (split (is_listed x bs) (λ there. clash (is_listed b bs) (parent (closed x there)) absent) (λ e. e)) ne

  fresh_entry : ((a : Address) → is_listed a bs ≡ true → HasParent bs a) → (e : Entry) → IsFresh b e → IsEntry (bs ++ b ∷ []) b e
  fresh_entry closed e h = record {
    formula = h.formula;
    formed = h.formed;
    side = h.side;
    parts = λ i l. subst (FindsChild (bs ++ b ∷ []) (part b i)) (sym (h.parts i)) (outside closed (part b i) (λ p. p) (part_apart b i));
    vias = λ t. subst (FindsChild (bs ++ b ∷ []) (via b t)) (sym (no_via t)) (outside closed (via b t) (λ p. p) (via_apart b t));
    terms = λ t. subst (λ (o : Option ℕ). IfSome o (λ _. IsFormedTerm t)) (sym (no_via t)) tt;
  }
    where
      no_via : (t : Term) → get term_cmp e.vias t ≡ None
      no_via t = ap (lookup (is_at (term_cmp t))) h.vias

  -- with the new entry, and its parent's entry changed
  pub pushed : (es fs : List Entry) → AreEntries es bs → HasParent bs b → length fs ≡ length bs
      → ((n : ℕ) (d : Entry) → n < length fs → IsEntry (bs ++ b ∷ []) (address_in bs n) (get_or fs n d)) → (e : Entry) → IsFresh b e → AreEntries (fs ++ e ∷ []) (bs ++ b ∷ [])
  pushed es fs h parent long others e fresh = record {
    entries = λ n d l. elim (cases_lt n (length fs)) [
      | inl before ↦
          let within : n < length bs = omega arith in
          subst (λ (a : Address). IsEntry (bs ++ b ∷ []) a (get_or (fs ++ e ∷ []) n d)) (sym (in_front bs (b ∷ []) n within))
          (subst (λ (x : Entry). IsEntry (bs ++ b ∷ []) (address_in bs n) x) (sym (get_or-append fs (e ∷ []) d n before)) (others n d before))
      | inr after ↦
          let last : n ≡ length fs = omega (arith, length_push fs e) in
          let entry : get_or (fs ++ e ∷ []) n d ≡ e = ap (λ k. get_or (fs ++ e ∷ []) k d) last ∙ get_or-append_seam fs e [] d in
          let address : address_in (bs ++ b ∷ []) n ≡ b = ap (address_in (bs ++ b ∷ [])) (last ∙ long) ∙ at_end bs b in
          subst (λ (a : Address). IsEntry (bs ++ b ∷ []) a (get_or (fs ++ e ∷ []) n d)) (sym address)
          (subst (λ (x : Entry). IsEntry (bs ++ b ∷ []) b x) (sym entry) (fresh_entry h.closed e fresh))
    ];
    distinct = distinct_more bs b h.distinct absent;
    closed = λ a there. either (is_listed a bs) (same_address a b)
        (λ old. parent_more bs b a (h.closed a old))
        (λ new. subst (HasParent (bs ++ b ∷ [])) (sym (equal_addresses a b new)) (parent_more bs b b parent))
        (sym (listed_more bs b a) ∙ there);
  }

-- a formula of the sequent: no entry changes
pub root_pushed : (es : List Entry) (bs : List Address) (s : Side) (f : Formula) → AreEntries es bs → length es ≡ length bs → is_listed (root s f) bs ≡ false → (e : Entry) → IsFresh (root s f) e → AreEntries (es ++ e ∷ []) (bs ++ root s f ∷ [])
root_pushed es bs s f h long absent e fresh =
    pushed bs (root s f) absent es es h tt long
    (λ n d l. entry_more bs (root s f) (address_in bs n) (get_or es n d) (λ i e. cc) (λ t e. cc) (h.entries n d l)) e fresh

-- the entry of the parent

own_part : (bs : List Address) (a : Address) (e : Entry) (i : ℕ) → i < 2 → IsEntry bs a e → IsEntry (bs ++ part a i ∷ []) a (with_part e i (length bs))
own_part bs a e zero small h = record {
  formula = h.formula;
  formed = h.formed;
  side = h.side;
  parts = first_or_second;
  vias = λ t. finds_more bs (part a 0) (via a t) (get term_cmp e.vias t) (λ e. cc) (h.vias t);
  terms = h.terms;
}
  where
    first_or_second : (j : ℕ) → j < 2 → FindsChild (bs ++ part a 0 ∷ []) (part a j) (part_in (with_part e 0 (length bs)) j)
    first_or_second zero k = new_child bs (part a 0)
    first_or_second (suc j) k = finds_more bs (part a 0) (part a (suc j)) e.second (λ same. let n : suc j ≡ 0 = cc in omega arith) (h.parts (suc j) k)
own_part bs a e (suc zero) small h = record {
  formula = h.formula;
  formed = h.formed;
  side = h.side;
  parts = first_or_second;
  vias = λ t. finds_more bs (part a 1) (via a t) (get term_cmp e.vias t) (λ e. cc) (h.vias t);
  terms = h.terms;
}
  where
    first_or_second : (j : ℕ) → j < 2 → FindsChild (bs ++ part a 1 ∷ []) (part a j) (part_in (with_part e 1 (length bs)) j)
    first_or_second zero k = finds_more bs (part a 1) (part a 0) e.first (λ same. let n : zero ≡ suc zero = cc in omega arith) (h.parts 0 k)
    first_or_second (suc zero) k = new_child bs (part a 1)
    first_or_second (suc (suc j)) k = absurd (omega arith)
own_part bs a e (suc (suc i)) small h = absurd (omega arith)

-- m finds the number n by the term t, and else what ms finds
abbrev pub HasNew : BTreeMap Term ℕ → BTreeMap Term ℕ → Term → ℕ → Type 0
HasNew ms m t n = (u : Term) → get term_cmp m u ≡ cond (eq_by_cmp term_cmp t u) (Some n) (get term_cmp ms u)

own_via : (bs : List Address) (a : Address) (e : Entry) (t : Term) (m : BTreeMap Term ℕ) → HasNew e.vias m t (length bs) → IsFormedTerm t → IsEntry bs a e → IsEntry (bs ++ via a t ∷ []) a (record e { vias = m })
own_via bs a e t m new formed h = record {
  formula = h.formula;
  formed = h.formed;
  side = h.side;
  parts = λ i k. finds_more bs (via a t) (part a i) (part_in e i) (λ e. cc) (h.parts i k);
  vias = λ u. subst (FindsChild (bs ++ via a t ∷ []) (via a u)) (sym (new u)) (by_term u);
  terms = λ u. subst (λ (o : Option ℕ). IfSome o (λ _. IsFormedTerm u)) (sym (new u)) (formed_by u);
}
  where
    by_term : (u : Term) → FindsChild (bs ++ via a t ∷ []) (via a u) (cond (eq_by_cmp term_cmp t u) (Some (length bs)) (get term_cmp e.vias u))
    by_term u =
        elim (eq_by_cmp term_cmp t u) as (λ q. eq_by_cmp term_cmp t u ≡ q → FindsChild (bs ++ via a t ∷ []) (via a u) (cond q (Some (length bs)) (get term_cmp e.vias u))) [
          | true ↦ λ same. subst (λ (v : Term). FindsChild (bs ++ via a t ∷ []) (via a v) (Some (length bs))) (equal_terms t u same) (new_child bs (via a t))
          | false ↦ λ differ. finds_more bs (via a t) (via a u) (get term_cmp e.vias u) (λ one. let terms : t ≡ u = cc in clash (eq_by_cmp term_cmp t u) (tied_terms t u terms) differ) (h.vias u)
        ] refl

    formed_by : (u : Term) → IfSome (cond (eq_by_cmp term_cmp t u) (Some (length bs)) (get term_cmp e.vias u)) (λ _. IsFormedTerm u)
    formed_by u =
        elim (eq_by_cmp term_cmp t u) as (λ q. eq_by_cmp term_cmp t u ≡ q → IfSome (cond q (Some (length bs)) (get term_cmp e.vias u)) (λ _. IsFormedTerm u)) [
          | true ↦ λ same. subst (λ (v : Term). IsFormedTerm v) (equal_terms t u same) formed
          | false ↦ λ differ. h.terms u
        ] refl

-- what holds of the other entries and of the new one at p holds of each
set_entries : (P : ℕ → Entry → Type 0) (es : List Entry) (p : ℕ) (x : Entry) → p < length es → P p x → ((n : ℕ) (d : Entry) → n < length es → (n ≡ p → ⊥) → P n (get_or es n d))
    → (n : ℕ) (d : Entry) → n < length (set es p x) → P n (get_or (set es p x) n d)
set_entries P es p x l own others n d k =
    split (nat_eq n p)
    (λ e. subst (λ (m : ℕ). P m (get_or (set es p x) m d)) (sym (eqb-true n p e)) (subst (P p) (sym (get_or-set_same es p x d l)) own))
    (λ e. subst (P n) (sym (get_or-set_other es p n x d (eqb-false n p e))) (others n d (omega (arith, length-set es p x)) (eqb-false n p e)))

-- a part or an instance of the address of number p, whose entry becomes x
module _ (es : List Entry) (bs : List Address) (h : AreEntries es bs) (long : length es ≡ length bs) (p : ℕ) (l : p < length es) where
  other_entries : (b : Address) (x : Entry) → IsEntry (bs ++ b ∷ []) (address_in bs p) x
      → ((n i : ℕ) → n < length bs → part (address_in bs n) i ≡ b → n ≡ p) → ((n : ℕ) (t : Term) → n < length bs → via (address_in bs n) t ≡ b → n ≡ p)
      → (n : ℕ) (d : Entry) → n < length (set es p x) → IsEntry (bs ++ b ∷ []) (address_in bs n) (get_or (set es p x) n d)
  other_entries b x own by_part by_via =
      set_entries (λ n y. IsEntry (bs ++ b ∷ []) (address_in bs n) y) es p x l own
      (λ n d k ne. entry_more bs b (address_in bs n) (get_or es n d) (λ i e. ne (by_part n i (omega arith) e)) (λ t e. ne (by_via n t (omega arith) e)) (h.entries n d k))

  pub part_pushed : (i : ℕ) (old : Entry) → i < 2 → old ≡ get_or es p old → is_listed (part (address_in bs p) i) bs ≡ false
      → (e : Entry) → IsFresh (part (address_in bs p) i) e → AreEntries (set es p (with_part old i (length bs)) ++ e ∷ []) (bs ++ part (address_in bs p) i ∷ [])
  part_pushed i old small is absent e fresh =
      let a : Address = address_in bs p in
      let within : p < length bs = omega arith in
      pushed bs (part a i) absent es (set es p (with_part old i (length bs))) h (listed_at bs p within) (length-set es p (with_part old i (length bs)) ∙ long)
      (other_entries (part a i) (with_part old i (length bs)) (own_part bs a old i small (subst (IsEntry bs a) (sym is) (h.entries p old l)))
      (λ n j k same. let one : address_in bs n ≡ a = cc in h.distinct n p k within one)
      (λ n t k same. absurd (cc)))
      e fresh

  pub via_pushed : (t : Term) (old : Entry) (m : BTreeMap Term ℕ) → HasNew old.vias m t (length bs) → IsFormedTerm t → old ≡ get_or es p old → is_listed (via (address_in bs p) t) bs ≡ false
      → (e : Entry) → IsFresh (via (address_in bs p) t) e → AreEntries (set es p (record old { vias = m }) ++ e ∷ []) (bs ++ via (address_in bs p) t ∷ [])
  via_pushed t old m new formed is absent e fresh =
      let a : Address = address_in bs p in
      let within : p < length bs = omega arith in
      let changed : Entry = record old { vias = m } in
      pushed bs (via a t) absent es (set es p changed) h (listed_at bs p within) (length-set es p changed ∙ long)
      (other_entries (via a t) changed (own_via bs a old t m new formed (subst (IsEntry bs a) (sym is) (h.entries p old l)))
      (λ n j k same. absurd (cc))
      (λ n u k same. let one : address_in bs n ≡ a = cc in h.distinct n p k within one))
      e fresh

  -- the map of the entry changes, and finds what it did
  pub same_pushed : (old : Entry) (m : BTreeMap Term ℕ) → IsUnchanged old.vias m → old ≡ get_or es p old → AreEntries (set es p (record old { vias = m })) bs
  same_pushed old m same is = record {
    entries = set_entries (λ n y. IsEntry bs (address_in bs n) y) es p (record old { vias = m }) l own (λ n d k ne. h.entries n d k);
    distinct = h.distinct;
    closed = h.closed;
  }
    where
      before : IsEntry bs (address_in bs p) old
      before = subst (IsEntry bs (address_in bs p)) (sym is) (h.entries p old l)

      found : (t : Term) → get term_cmp old.vias t ≡ get term_cmp m t
      found t = ap (lookup (is_at (term_cmp t))) (sym same)

      own : IsEntry bs (address_in bs p) (record old { vias = m })
      own = record {
        formula = before.formula;
        formed = before.formed;
        side = before.side;
        parts = before.parts;
        vias = λ t. subst (FindsChild bs (via (address_in bs p) t)) (found t) (before.vias t);
        terms = λ t. subst (λ (o : Option ℕ). IfSome o (λ _. IsFormedTerm t)) (found t) (before.terms t);
      }
