-- The table of addresses: an entry for each, by number.
--     origin_address, addresses_of      the addresses of the entries
--     IsChild, FindsChild      a number is that of an address; a look-up of the number of an address
--     IsEntry, AreEntries      what the entries keep
use Rattle.std.specs.Prelude.{◌≡◌, ℕ, zero, suc, ◌<◌, true, false, List, [], ◌∷◌, ◌++◌, length, slice_index_or, Option, Some, None, IfSome}
use Rattle.std.specs.BTreeMap.{get}
use Rattle.fol.specs.Syntax.{Term, Formula, all, ex}
use Rattle.fol.specs.Order.{term_cmp}
use Rattle.fol.specs.Formed.{IsFormed, IsFormedTerm}
use Rattle.lk_rules.specs.declared.sequent.Side.{Side}
use Rattle.extraction_laws.specs.Addresses.{Address, root, part, via, is_listed, formula_at, side_at}
use Rattle.exp_extract.specs.Marked.{address_in}
use Rattle.exp_extract.specs.declared.places.Origin.{Origin}
use Rattle.exp_extract.specs.declared.places.Origin.TheVariants.{Root, Part, Via}
use Rattle.exp_extract.specs.declared.places.Entry.{Entry}

-- the address of an entry, whose parent is one of the addresses before
abbrev pub origin_address : List Address → Side → Formula → Origin → Address
origin_address bs s f Root = root s f
origin_address bs s f (Part p i) = part (address_in bs p) i
origin_address bs s f (Via p t) = via (address_in bs p) t

abbrev pub address_of : List Address → Entry → Address
address_of bs e = origin_address bs e.side e.formula e.origin

-- the addresses, after those before
abbrev pub addresses_from : List Address → List Entry → List Address
addresses_from bs [] = bs
addresses_from bs (e ∷ es) = addresses_from (bs ++ address_of bs e ∷ []) es

abbrev pub addresses_of : List Entry → List Address
addresses_of = addresses_from []

-- the number of a part, and the entry with that
abbrev pub part_in : Entry → ℕ → Option ℕ
part_in e zero = e.first
part_in e (suc i) = e.second

abbrev pub with_part : Entry → ℕ → ℕ → Entry
with_part e zero p = record e { first = Some p }
with_part e (suc i) p = record e { second = Some p }

-- the number is that of the address
abbrev pub IsChild : List Address → Address → ℕ → Type 0
IsChild bs b n = (n < length bs) × (address_in bs n ≡ b)

-- the answer is the number of the address, where it has one
abbrev pub FindsChild : List Address → Address → Option ℕ → Type 0
FindsChild bs b None = is_listed b bs ≡ false
FindsChild bs b (Some n) = IsChild bs b n

-- the entry has the formula and the side of the address, and finds its parts and instances
pub record IsEntry (bs : List Address) (a : Address) (e : Entry) : Type 0 where
  pub formula : e.formula ≡ formula_at a
  pub formed : IsFormed e.formula
  pub side : e.side ≡ side_at a
  pub parts : (i : ℕ) → i < 2 → FindsChild bs (part a i) (part_in e i)
  pub vias : (t : Term) → FindsChild bs (via a t) (get term_cmp e.vias t)
  pub terms : (t : Term) → IfSome (get term_cmp e.vias t) (λ _. IsFormedTerm t)

-- no address stands twice
abbrev pub AreDistinct : List Address → Type 0
AreDistinct bs = (m n : ℕ) → m < length bs → n < length bs → address_in bs m ≡ address_in bs n → m ≡ n

-- the address of which this is a part or an instance is listed
abbrev pub HasParent : List Address → Address → Type 0
HasParent bs (root s f) = Unit {0}
HasParent bs (part a i) = is_listed a bs ≡ true
HasParent bs (via a t) = is_listed a bs ≡ true

pub record AreEntries (es : List Entry) (bs : List Address) : Type 0 where
  pub entries : (n : ℕ) (d : Entry) → n < length es → IsEntry bs (address_in bs n) (slice_index_or es n d)
  pub distinct : AreDistinct bs
  pub closed : (a : Address) → is_listed a bs ≡ true → HasParent bs a

-- a quantifier stands at the head of the formula
abbrev pub IsQuantified : Formula → Type 0
IsQuantified (all f) = Unit {0}
IsQuantified (ex f) = Unit {0}
IsQuantified f = ⊥
