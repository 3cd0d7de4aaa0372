-- The data that a value stands for, in the words of the kit's JSON library.
use Rattle.std.specs.Prelude.{ℕ, List, [], ◌∷◌, map}
use Rattle.std.specs.Borrow.{Bor}
use Rattle.serde_json.specs.Data.{Num, unsigned, negative, float, Data, null, boolean, number, string, array, object, Items, Members, no_members, member, put}
use Rattle.serde_json.specs.View.{items_of}
use Rattle.line_values.specs.declared.numbers.Number.{Number}
use Rattle.line_values.specs.declared.numbers.Number.TheVariants.{Unsigned, Negative, Float}
use Rattle.line_values.specs.declared.values.Value.{Value, fold-Value}
use Rattle.line_values.specs.declared.values.Value.TheOpen.{Value-F}

abbrev pub number_view : Number → Num
number_view (Unsigned n) = unsigned n
number_view (Negative z) = negative z
number_view (Float x) = float x

-- members put one after another, so that the last value of a key stays
abbrev pub put_each : Members → List (Bor (List ℕ) × Data) → Members
put_each found [] = found
put_each found (m ∷ ms) = put_each (put m.0.now m.1 found) ms

-- one level, with each value inside already seen as its data
abbrev pub view_step : Value-F Data → Data
view_step Value-F.Null = null
view_step (Value-F.Bool b) = boolean b
view_step (Value-F.Number x) = number (number_view x)
view_step (Value-F.String s) = string s.now
view_step (Value-F.Array v) = array (items_of v.items)
view_step (Value-F.Object m) = object (put_each no_members m.items)

abbrev pub view : Value → Data
view = fold-Value Data view_step

abbrev pub items_view : List Value → Items
items_view vs = items_of (map view vs)

abbrev pub members_view : List (Bor (List ℕ) × Value) → Members
members_view ms = put_each no_members (map (λ m. (m.0, view m.1)) ms)

-- members that stand in order, each key once
abbrev pub ordered_of : List (Bor (List ℕ) × Data) → Members
ordered_of [] = no_members
ordered_of (m ∷ ms) = member m.0.now m.1 (ordered_of ms)

abbrev pub ordered_view : List (Bor (List ℕ) × Bor Value) → Members
ordered_view ms = ordered_of (map (λ m. (m.0, view m.1.now)) ms)
