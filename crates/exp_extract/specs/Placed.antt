-- What the fields of the table of addresses keep.
use Rattle.std.specs.Prelude.{List}
use Rattle.extraction_laws.specs.Addresses.{Address}
use Rattle.exp_extract.specs.declared.places.Places.TheInside.{Inside}
use Rattle.exp_extract.specs.Entries.{addresses_of, AreEntries}

abbrev pub placed : Inside → List Address
placed i = addresses_of i.entries.items

abbrev pub ArePlaces : Inside → Type 0
ArePlaces i = AreEntries i.entries.items (addresses_of i.entries.items)
