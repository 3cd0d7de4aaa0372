-- What the table of addresses says of an entry, and what it is after one more address is entered.
use Rattle.std.proofs.Common.{◌≡◌, ℕ, zero, suc, ◌<◌, true, false, List, [], ◌∷◌, ◌++◌, length, get_or, set, None, Result, Ok, Err, IfOk, OnOk, OnErr, refl, sym, ap, ◌∙◌, subst, arith}
use Rattle.std.specs.BTreeMap.{BTreeMap, IsEmpty, IsUnchanged}
use Rattle.fol.specs.Syntax.{Term, Formula}
use Rattle.fol.specs.Formed.{IsFormed, IsFormedTerm}
use Rattle.lk_rules.specs.declared.sequent.Side.{Side}
use Rattle.extraction_laws.specs.Addresses.{Address, root, part, via, is_listed, formula_at, side_at}
use Rattle.exp_extract.specs.Marked.{address_in}
use Rattle.exp_extract.specs.declared.places.Origin.{Origin}
use Rattle.exp_extract.specs.declared.places.Origin.TheVariants.{Root, Part, Via}
use Rattle.exp_extract.specs.declared.places.Entry.{Entry}
use Rattle.exp_extract.specs.Entries.{origin_address, address_of, addresses_of, part_in, with_part, IsChild, IsEntry, AreEntries}
use Rattle.exp_extract.proofs.AddressLists.{listed_at, new_child}
use Rattle.exp_extract.proofs.MoreEntries.{length_of, from_push, from_set, SameRoot, IsFresh, HasNew, root_pushed, part_pushed, via_pushed, same_pushed}

-- the entry of a number
pub read_entry : (es : List Entry) (bs : List Address) (n : ℕ) (e : Entry) → addresses_of es ≡ bs → AreEntries es (addresses_of es) → n < length bs → e ≡ get_or es n e → IsEntry bs (address_in bs n) e
read_entry es bs n e view h l is =
    let within : n < length es = omega (arith, ap length view, length_of es) in
    subst (λ (cs : List Address). IsEntry cs (address_in cs n) e) view
    (subst (λ (x : Entry). IsEntry (addresses_of es) (address_in (addresses_of es) n) x) (sym is) (h.entries n e within))

-- a new entry
abbrev pub fresh_entry : Origin → Formula → Side → BTreeMap Term ℕ → Entry
fresh_entry o f s m = record { origin = o; formula = f; side = s; first = None; second = None; vias = m }

no_part : (o : Origin) (f : Formula) (s : Side) (m : BTreeMap Term ℕ) (i : ℕ) → part_in (fresh_entry o f s m) i ≡ None
no_part o f s m zero = refl
no_part o f s m (suc i) = refl

-- the entries fs have one more address
pub record HasMore (bs : List Address) (fs : List Entry) (b : Address) : Type 0 where
  pub entries : AreEntries fs (addresses_of fs)
  pub addresses : addresses_of fs ≡ bs ++ b ∷ []

same_part : (e : Entry) (i p : ℕ) → SameRoot e (with_part e i p)
same_part e zero p = record { origin = refl; formula = refl; side = refl }
same_part e (suc i) p = record { origin = refl; formula = refl; side = refl }

-- entries that show the addresses bs, and a new entry e
module _ (es : List Entry) (bs : List Address) (view : addresses_of es ≡ bs) (h : AreEntries es (addresses_of es)) (f : Formula) (s : Side) (e : Entry) (formed : IsFormed f) (empty : IsEmpty e.vias) where
  known : AreEntries es bs
  known = subst (AreEntries es) view h

  long : length es ≡ length bs
  long = sym (length_of es) ∙ ap length view

  is_fresh : (o : Origin) (a : Address) → e ≡ fresh_entry o f s e.vias → f ≡ formula_at a → s ≡ side_at a → IsFresh a e
  is_fresh o a made formula side = subst (IsFresh a) (sym made) (record { formula = formula; formed = formed; side = side; parts = no_part o f s e.vias; vias = empty })

  has_more : (o : Origin) (gs fs : List Entry) → e ≡ fresh_entry o f s e.vias → addresses_of gs ≡ addresses_of es → fs ≡ gs ++ e ∷ [] → AreEntries (gs ++ e ∷ []) (bs ++ origin_address bs s f o ∷ []) → HasMore bs fs (origin_address bs s f o)
  has_more o gs fs made same is entries =
      let addresses : addresses_of fs ≡ bs ++ origin_address bs s f o ∷ [] = ap addresses_of is ∙ (from_push [] gs e ∙ (λ j. (same ∙ view) j ++ address_of ((same ∙ view) j) (made j) ∷ [])) in
      record {
        entries = subst (AreEntries fs) (sym addresses) (subst (λ (xs : List Entry). AreEntries xs (bs ++ origin_address bs s f o ∷ [])) (sym is) entries);
        addresses = addresses;
      }

  pub root_entered : (fs : List Entry) → e ≡ fresh_entry Root f s e.vias → fs ≡ es ++ e ∷ [] → is_listed (root s f) bs ≡ false → HasMore bs fs (root s f)
  root_entered fs made is absent = has_more Root es fs made refl is (root_pushed es bs s f known long absent e (is_fresh Root (root s f) made refl refl))

  module _ (p : ℕ) (old : Entry) (l : p < length bs) (at : old ≡ get_or es p old) (n : ℕ) (last : n ≡ length bs) where
    pub part_entered : (i : ℕ) (fs : List Entry) → i < 2 → e ≡ fresh_entry (Part p i) f s e.vias → fs ≡ set es p (with_part old i n) ++ e ∷ [] → is_listed (part (address_in bs p) i) bs ≡ false
        → f ≡ formula_at (part (address_in bs p) i) → s ≡ side_at (part (address_in bs p) i) → HasMore bs fs (part (address_in bs p) i)
    part_entered i fs small made is absent formula side =
        let within : p < length es = omega (arith, long) in
        has_more (Part p i) (set es p (with_part old i n)) fs made (from_set [] es p old (with_part old i n) within at (same_part old i n)) is
        (subst (λ (k : ℕ). AreEntries (set es p (with_part old i k) ++ e ∷ []) (bs ++ part (address_in bs p) i ∷ [])) (sym last)
        (part_pushed es bs known long p within i old small at absent e (is_fresh (Part p i) (part (address_in bs p) i) made formula side)))

    pub via_entered : (t : Term) (m : BTreeMap Term ℕ) (fs : List Entry) → HasNew old.vias m t n → IsFormedTerm t → e ≡ fresh_entry (Via p t) f s e.vias → fs ≡ set es p (record old { vias = m }) ++ e ∷ []
        → is_listed (via (address_in bs p) t) bs ≡ false → f ≡ formula_at (via (address_in bs p) t) → s ≡ side_at (via (address_in bs p) t) → HasMore bs fs (via (address_in bs p) t)
    via_entered t m fs new formed_term made is absent formula side =
        let within : p < length es = omega (arith, long) in
        has_more (Via p t) (set es p (record old { vias = m })) fs made (from_set [] es p old (record old { vias = m }) within at (record { origin = refl; formula = refl; side = refl })) is
        (via_pushed es bs known long p within t old m (subst (λ (k : ℕ). HasNew old.vias m t k) last new) formed_term at absent e (is_fresh (Via p t) (via (address_in bs p) t) made formula side))

-- the map of an entry changes, and finds what it did
pub same_entered : (es fs : List Entry) (bs : List Address) (p : ℕ) (old : Entry) (m : BTreeMap Term ℕ) → addresses_of es ≡ bs → AreEntries es (addresses_of es) → p < length bs → old ≡ get_or es p old → IsUnchanged old.vias m
    → fs ≡ set es p (record old { vias = m }) → AreEntries fs (addresses_of fs) × (addresses_of fs ≡ bs)
same_entered es fs bs p old m view h l at same is =
    let within : p < length es = omega (arith, ap length view, length_of es) in
    let addresses : addresses_of fs ≡ addresses_of es = ap addresses_of is ∙ from_set [] es p old (record old { vias = m }) within at (record { origin = refl; formula = refl; side = refl }) in (
      subst (AreEntries fs) (sym addresses) (subst (λ (xs : List Entry). AreEntries xs (addresses_of es)) (sym is) (same_pushed es (addresses_of es) h (sym (length_of es)) p within old m same at)),
      addresses ∙ view,
    )

pub child_listed : (bs : List Address) (b : Address) (n : ℕ) → IsChild bs b n → is_listed b bs ≡ true
child_listed bs b n h = ap (λ x. is_listed x bs) (sym h.1) ∙ listed_at bs n h.0

-- the number of an address that was entered
pub pushed_child : {E : Type 0} (r : Result ℕ E) (bs cs : List Address) (b : Address) → IfOk r (λ n. n ≡ length bs) → OnOk r (cs ≡ bs ++ b ∷ []) → IfOk r (IsChild cs b)
pushed_child (Ok n) bs cs b number ok =
    subst (λ (k : ℕ). IsChild cs b k) (sym number) (subst (λ (ds : List Address). IsChild ds b (length bs)) (sym ok) (new_child bs b))
pushed_child (Err e) bs cs b number ok = tt

pub on_err : {X E P : Type 0} (r : Result X E) → P → OnErr r P
on_err (Ok x) h = tt
on_err (Err e) h = h
