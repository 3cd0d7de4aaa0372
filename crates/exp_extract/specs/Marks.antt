-- What the fields of marks show, and what they keep.
--     is_weak, is_strong      quantifiers that may have several instances, and those with one by a variable
--     set_at, instances_in, marked_of      the marks
--     Grows      addresses keep their numbers
use Rattle.std.specs.Prelude.{ℕ, List, map, filter}
use Rattle.finite.specs.Finite as set
use Rattle.extraction_laws.specs.Addresses.{Address, AddressSet}
use Rattle.exp_extract.specs.declared.marks.Marks.TheInside.{Inside}
use Rattle.exp_extract.specs.Marked.{Marked, address_in}
use Rattle.exp_extract.specs.Quantifiers.{is_instance, AreWithin}

-- the addresses of numbers
abbrev pub set_at : List Address → List ℕ → AddressSet
set_at bs ns = set.of_list (map (address_in bs) ns)

-- the instances at weak quantifiers: each of them that has a number is marked
abbrev pub instances_in : List Address → AddressSet
instances_in bs = set.of_list (filter is_instance bs)

abbrev pub marked_of : Inside → Marked
marked_of i = record {
  outside = i.names.outside;
  addresses = i.places;
  state = record {
    opened = set_at i.places i.used.keys;
    instances = instances_in i.places;
    names = map (address_in i.places) i.names.places;
  };
}

pub record AreMarks (i : Inside) : Type 0 where
  pub used : AreWithin i.places i.used.keys
  pub names : AreWithin i.places i.names.places
