-- Texts of JSON values tell the values apart, and what stands in a value.
use Rattle.std.proofs.Common.{◌≡◌, ℕ, max, List, [], ◌++◌, sym, ap, ◌∙◌, arith}
use Rattle.std.specs.Prelude.{Option, Some, None}
use Rattle.json.specs.Token.{Token}
use Rattle.json.specs.Lex.{tokens}
use Rattle.json.specs.Json.{Json, null, boolean, number, string, array, object, Items, no_items, item, Members, no_members, member, value}
use Rattle.json.specs.Tree.{json_tokens, depth, HasNumbers}
use Rattle.json.specs.Print.{print}
use Rattle.json.proofs.Printed.Tokens.{tokens-print}
use Rattle.json.proofs.Printed.Trees.{ArePrintable-json_tokens, value-json_tokens}
use Rattle.serde_json.specs.Data.{Data}
use Rattle.serde_json.specs.Written.{outline, compact_text}
use Rattle.serde_json.proofs.Texts.{print-outline}

-- the value that is read, where one is
abbrev value_read : Json → Option (Json × List Token) → Json
value_read j None = j
value_read j (Some p) = p.0

-- within a depth that suffices for both values, both are read from the same tokens
same_json : (j k : Json) → HasNumbers j → HasNumbers k → print (json_tokens j) ≡ print (json_tokens k) → j ≡ k
same_json j k h h' same =
    let d = max (depth j) (depth k) in
    let ts : json_tokens j ≡ json_tokens k =
    sym (tokens-print (json_tokens j) (ArePrintable-json_tokens j h)) ∙ (ap tokens same ∙ tokens-print (json_tokens k) (ArePrintable-json_tokens k h')) in
    ap (value_read j) (sym (value-json_tokens j d [] (omega arith)) ∙ (ap (λ us. value d (us ++ [])) ts ∙ value-json_tokens k d [] (omega arith)))

pub same_text : (d e : Data) → HasNumbers (outline d) → HasNumbers (outline e) → compact_text d ≡ compact_text e → outline d ≡ outline e
same_text d e h h' same = same_json (outline d) (outline e) h h' (print-outline d ∙ (same ∙ sym (print-outline e)))

-- the parts of a value
abbrev pub text_in : Json → List ℕ
text_in null = []
text_in (boolean b) = []
text_in (number s) = s
text_in (string s) = s
text_in (array js) = []
text_in (object ms) = []

abbrev pub items_in : Json → Items
items_in null = no_items
items_in (boolean b) = no_items
items_in (number s) = no_items
items_in (string s) = no_items
items_in (array js) = js
items_in (object ms) = no_items

abbrev pub members_in : Json → Members
members_in null = no_members
members_in (boolean b) = no_members
members_in (number s) = no_members
members_in (string s) = no_members
members_in (array js) = no_members
members_in (object ms) = ms

abbrev pub first_item : Items → Json
first_item no_items = null
first_item (item j js) = j

abbrev pub rest_items : Items → Items
rest_items no_items = no_items
rest_items (item j js) = js

abbrev pub first_key : Members → List ℕ
first_key no_members = []
first_key (member k j ms) = k

abbrev pub first_value : Members → Json
first_value no_members = null
first_value (member k j ms) = j

abbrev pub rest_members : Members → Members
rest_members no_members = no_members
rest_members (member k j ms) = ms
