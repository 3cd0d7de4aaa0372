-- Values whose texts are read back: their numbers fit 64 bits, the keys of each object rise, and they nest little.
use Rattle.std.proofs.Common.{◌≡◌, ℕ, ◌+◌, ◌^◌, ◌<◌, ◌≤◌, List, [], ◌∷◌, Option, Some, option_and_then, option_map, refl, sym, ap, ◌∙◌, arith, append-nil}
use Rattle.std.specs.List.{AllByRecursion}
use Rattle.json.specs.Lex.{tokens}
use Rattle.json.specs.Token.{Token}
use Rattle.json.specs.Json as json
use Rattle.json.specs.Tree as tree
use Rattle.json.specs.Tree.{json_tokens, HasNumbers, ItemsHaveNumbers, MembersHaveNumbers}
use Rattle.json.proofs.Printed.Decimals.{IsNumber-decimal}
use Rattle.json.proofs.Printed.Tokens.{tokens-print}
use Rattle.json.proofs.Printed.Trees.{value-json_tokens, ArePrintable-json_tokens}
use Rattle.serde_json.specs.Data.{Data, number, unsigned, string, array, object, item, Members, no_members, member, put}
use Rattle.serde_json.specs.Read.{of_json, of_items, of_members, max_depth, read}
use Rattle.serde_json.specs.View.{items_of}
use Rattle.serde_json.specs.Written.{outline, items_outline, members_outline, compact_text}
use Rattle.serde_json.proofs.Numbers.{number_of-decimal}
use Rattle.serde_json.proofs.Texts.{print-outline}

-- a value that is read back, and nests no deeper than this
pub record IsReadBack (most : ℕ) (d : Data) : Type 0 where
  pub reads : of_json (outline d) ≡ Some d
  pub numbers : HasNumbers (outline d)
  pub depth : tree.depth (outline d) ≤ most

-- the members go in one after another
abbrev pub puts : Members → Members → Members
puts no_members found = found
puts (member k d ms) found = puts ms (put k d found)

-- members of an object that are read back
pub record HaveReadBack (most : ℕ) (ms : Members) : Type 0 where
  pub reads : (found : Members) → of_members (members_outline ms) found ≡ Some (puts ms found)
  pub numbers : MembersHaveNumbers (members_outline ms)
  pub depth : tree.members_depth (members_outline ms) ≤ most

pub read_string : (most : ℕ) (s : List ℕ) → IsReadBack most (string s)
read_string most s = record { reads = refl; numbers = tt; depth = omega arith }

pub read_count : (most n : ℕ) → n < 2 ^ 64 → IsReadBack most (number (unsigned n))
read_count most n fits = record { reads = ap (option_map number) (number_of-decimal n fits); numbers = IsNumber-decimal n fits; depth = omega arith }

-- lists

-- values of a list that are read back
record AreReadBack (most : ℕ) (ds : List Data) : Type 0 where
  reads : of_items (items_outline (items_of ds)) ≡ Some (items_of ds)
  numbers : ItemsHaveNumbers (items_outline (items_of ds))
  depth : tree.items_depth (items_outline (items_of ds)) ≤ most

are_read : (most : ℕ) (ds : List Data) → AllByRecursion (IsReadBack most) ds → AreReadBack most ds
are_read most [] each = record { reads = refl; numbers = tt; depth = omega arith }
are_read most (d ∷ ds) each =
    let rest = are_read most ds each.1 in
    let later = of_items (items_outline (items_of ds)) in
    record {
      reads = ap (option_and_then (λ x. option_map (item x) later)) each.0.reads ∙ ap (option_map (item d)) rest.reads;
      numbers = (each.0.numbers, rest.numbers);
      depth = omega (arith, each.0.depth, rest.depth);
    }

pub read_list : (most : ℕ) (ds : List Data) → AllByRecursion (IsReadBack most) ds → IsReadBack (most + 1) (array (items_of ds))
read_list most ds each =
    let are = are_read most ds each in
    record { reads = ap (option_map array) are.reads; numbers = are.numbers; depth = omega (arith, are.depth) }

-- objects

pub read_no_member : (most : ℕ) → HaveReadBack most no_members
read_no_member most = record { reads = λ found. refl; numbers = tt; depth = omega arith }

pub read_member : {most : ℕ} (k : List ℕ) {d : Data} {ms : Members} → IsReadBack most d → HaveReadBack most ms → HaveReadBack most (member k d ms)
read_member {most = most} k {d = d} {ms = ms} first rest = record {
  reads = λ found. ap (option_and_then (λ x. of_members (members_outline ms) (put k x found))) first.reads ∙ rest.reads (put k d found);
  numbers = (first.numbers, rest.numbers);
  depth = omega (arith, first.depth, rest.depth);
}

-- an object whose keys rise: each member goes in behind those before it
pub read_object : {most : ℕ} {ms : Members} → HaveReadBack most ms → puts ms no_members ≡ ms → IsReadBack (most + 1) (object ms)
read_object {most = most} {ms = ms} h rise = record {
  reads = ap (option_map object) (h.reads no_members ∙ ap Some rise);
  numbers = h.numbers;
  depth = omega (arith, h.depth);
}

-- the value that these tokens are
abbrev value_of : List Token → Option Data
value_of ts = option_and_then of_json (option_and_then (λ p. json.if_last p.0 p.1) (json.value max_depth ts))

-- the text of such a value is read as the value
pub read_text : (most : ℕ) (d : Data) → most ≤ 127 → IsReadBack most d → read (compact_text d) ≡ Some d
read_text most d shallow h =
    let ts = json_tokens (outline d) in
    let lexed : tokens (compact_text d) ≡ ts = ap tokens (sym (print-outline d)) ∙ tokens-print ts (ArePrintable-json_tokens (outline d) h.numbers) in
    let parsed = value-json_tokens (outline d) max_depth [] (omega (arith, h.depth)) in
    ap value_of (lexed ∙ sym (append-nil ts)) ∙ ap (λ o. option_and_then of_json (option_and_then (λ p. json.if_last p.0 p.1) o)) parsed ∙ h.reads
