-- Values whose texts have no byte that JSON escapes: what stands in their JSON text, and how long it is at most.
use Rattle.std.proofs.Common.{◌≡◌, ℕ, zero, suc, ◌+◌, ◌/◌, ◌%◌, ◌≤◌, ◌<◌, nat_le, ◌==◌, ◌&&◌, not, Bool, true, false, cond, List, [], ◌∷◌, ◌++◌, length, refl, sym, ap₂, subst, arith, length-append}
use Rattle.std.specs.List.{All, list_all}
use Rattle.std.specs.Fmt.{digit_glyph, digits_onto, digits, decimal}
use Rattle.std.proofs.lemmas.Bool.{and_parts, and_from}
use Rattle.std.proofs.lemmas.Bool.Decides.{nat_tests}
use Rattle.std.proofs.lemmas.List.Elements.{All-nil, All-cons, All-append}
use Rattle.json.specs.Print.{escape_byte, escape, quoted}
use Rattle.serde_json.specs.Data.{Data, null, boolean, number, string, array, object, unsigned, negative, float, Items, no_items, item, Members, no_members, member}
use Rattle.serde_json.specs.Written.{comma_if, compact_text, items_text, members_text}

-- a printable byte that JSON doesn't escape
abbrev pub is_plain_byte : ℕ → Bool
is_plain_byte b = nat_le 32 b && (nat_le b 126 && (not (b == 34) && not (b == 92)))

abbrev mutual
  pub is_plain : Data → Bool
  is_plain null = true
  is_plain (boolean b) = true
  is_plain (number (unsigned n)) = true
  is_plain (number (negative z)) = false
  is_plain (number (float x)) = false
  is_plain (string s) = list_all is_plain_byte s
  is_plain (array ds) = are_plain ds
  is_plain (object ms) = have_plain ms

  pub are_plain : Items → Bool
  are_plain no_items = true
  are_plain (item d ds) = is_plain d && are_plain ds

  pub have_plain : Members → Bool
  have_plain no_members = true
  have_plain (member k d ms) = list_all is_plain_byte k && (is_plain d && have_plain ms)

-- how long the text is at most
abbrev mutual
  pub room : Data → ℕ
  room null = 4
  room (boolean b) = 5
  room (number (unsigned n)) = length (decimal n)
  room (number (negative z)) = 0
  room (number (float x)) = 0
  room (string s) = length s + 2
  room (array ds) = items_room ds + 1
  room (object ms) = members_room ms + 1

  -- with the closing bracket, and a comma before each
  pub items_room : Items → ℕ
  items_room no_items = 1
  items_room (item d ds) = room d + items_room ds + 1

  pub members_room : Members → ℕ
  members_room no_members = 1
  members_room (member k d ms) = length k + room d + members_room ms + 4

-- printable bytes, so many at most
pub record IsShort (bytes : List ℕ) (most : ℕ) : Type 0 where
  pub printable : All (λ b. (32 ≤ b) × (b ≤ 126)) bytes
  pub size : length bytes ≤ most

short_none : IsShort [] 0
short_none = record { printable = All-nil (λ b. (32 ≤ b) × (b ≤ 126)); size = omega arith }

short_more : (b n : ℕ) (bytes : List ℕ) → 32 ≤ b → b ≤ 126 → IsShort bytes n → IsShort (b ∷ bytes) (n + 1)
short_more b n bytes low high h = record {
  printable = All-cons (λ x. (32 ≤ x) × (x ≤ 126)) b bytes (low, high) h.printable;
  size = omega (arith, h.size);
}

short_both : (a b : List ℕ) (m n : ℕ) → IsShort a m → IsShort b n → IsShort (a ++ b) (m + n)
short_both a b m n first second = record {
  printable = All-append (λ x. (32 ≤ x) × (x ≤ 126)) a b first.printable second.printable;
  size = omega (arith, length-append a b, first.size, second.size);
}

short_le : {bytes : List ℕ} {m n : ℕ} → m ≤ n → IsShort bytes m → IsShort bytes n
short_le le h = record { printable = h.printable; size = omega (arith, le, h.size) }

-- a plain text is written as it is
escape_byte_plain : (b : ℕ) → is_plain_byte b ≡ true → escape_byte b ≡ b ∷ []
unfolding escape_byte
escape_byte_plain b h = grind (arith, nat_tests)

plain_is_printable : (b : ℕ) → is_plain_byte b ≡ true → (32 ≤ b) × (b ≤ 126)
plain_is_printable b h = (grind (arith, nat_tests), grind (arith, nat_tests))

plain_short : (s : List ℕ) → list_all is_plain_byte s ≡ true → IsShort s (length s)
plain_short [] h = short_none
plain_short (b ∷ s) h =
    let parts = and_parts (is_plain_byte b) (list_all is_plain_byte s) h in
    let range = plain_is_printable b parts.0 in
    short_le (omega arith) (short_more b (length s) s range.0 range.1 (plain_short s parts.1))

escape_plain : (s : List ℕ) → list_all is_plain_byte s ≡ true → escape s ≡ s
escape_plain [] h = refl
escape_plain (b ∷ s) h =
    let parts = and_parts (is_plain_byte b) (list_all is_plain_byte s) h in
    ap₂ (λ (x y : List ℕ). x ++ y) (escape_byte_plain b parts.0) (escape_plain s parts.1)

quoted_short : (s : List ℕ) → list_all is_plain_byte s ≡ true → IsShort (quoted s) (length s + 2)
quoted_short s h =
    let whole = short_more 34 (length s + 1) (s ++ 34 ∷ []) (omega arith) (omega arith)
    (short_both s (34 ∷ []) (length s) 1 (plain_short s h) (short_more 34 0 [] (omega arith) (omega arith) short_none)) in
    subst (λ bytes. IsShort (34 ∷ (bytes ++ 34 ∷ [])) (length s + 2)) (sym (escape_plain s h)) (short_le (omega arith) whole)

-- digits
glyph_plain : (d : ℕ) → d < 10 → is_plain_byte (digit_glyph false d) ≡ true
glyph_plain d h = grind (arith, nat_tests)

digits_plain : (k n : ℕ) (acc : List ℕ) → list_all is_plain_byte acc ≡ true → list_all is_plain_byte (digits_onto k 10 false n acc) ≡ true
digits_plain zero n acc h = h
digits_plain (suc k) n acc h =
    let more = and_from (is_plain_byte (digit_glyph false (n % 10))) (list_all is_plain_byte acc) (glyph_plain (n % 10) (omega arith)) h in
    elim (n / 10 == 0) as (λ (b : Bool). list_all is_plain_byte (cond b (digit_glyph false (n % 10) ∷ acc) (digits_onto k 10 false (n / 10) (digit_glyph false (n % 10) ∷ acc))) ≡ true) [
      | true ↦ more
      | false ↦ digits_plain k (n / 10) (digit_glyph false (n % 10) ∷ acc) more
    ]

digits_length : (k n : ℕ) (acc : List ℕ) → length (digits_onto k 10 false n acc) ≤ k + length acc
digits_length zero n acc = omega arith
digits_length (suc k) n acc =
    let rest = digits_length k (n / 10) (digit_glyph false (n % 10) ∷ acc) in
    elim (n / 10 == 0) as (λ (b : Bool). length (cond b (digit_glyph false (n % 10) ∷ acc) (digits_onto k 10 false (n / 10) (digit_glyph false (n % 10) ∷ acc))) ≤ suc k + length acc) [
      | true ↦ omega arith
      | false ↦ omega (arith, rest)
    ]

pub decimal_plain : (n : ℕ) → list_all is_plain_byte (decimal n) ≡ true
unfolding digits
decimal_plain n = digits_plain 64 n [] refl

pub length-decimal : (n : ℕ) → length (decimal n) ≤ 64
unfolding digits
length-decimal n = digits_length 64 n []

comma_short : (later : Bool) (rest : List ℕ) (n : ℕ) → IsShort rest n → IsShort (comma_if later ++ rest) (n + 1)
comma_short true rest n h = short_more 44 n rest (omega arith) (omega arith) h
comma_short false rest n h = short_le (omega arith) h

-- the text of a plain value is printable, and as long as that at most
mutual
  pub text_short : (d : Data) → is_plain d ≡ true → IsShort (compact_text d) (room d)
  text_short null h = plain_short (110 ∷ 117 ∷ 108 ∷ 108 ∷ []) refl
  text_short (boolean true) h = short_le (omega arith) (plain_short (116 ∷ 114 ∷ 117 ∷ 101 ∷ []) refl)
  text_short (boolean false) h = plain_short (102 ∷ 97 ∷ 108 ∷ 115 ∷ 101 ∷ []) refl
  text_short (number (unsigned n)) h = plain_short (decimal n) (decimal_plain n)
  text_short (number (negative z)) h = cc
  text_short (number (float x)) h = cc
  text_short (string s) h = quoted_short s h
  text_short (array ds) h = short_more 91 (items_room ds) (items_text false ds) (omega arith) (omega arith) (items_short false ds h)
  text_short (object ms) h = short_more 123 (members_room ms) (members_text false ms) (omega arith) (omega arith) (members_short false ms h)

  items_short : (later : Bool) (ds : Items) → are_plain ds ≡ true → IsShort (items_text later ds) (items_room ds)
  items_short later no_items h = plain_short (93 ∷ []) refl
  items_short later (item d ds) h =
      let parts = and_parts (is_plain d) (are_plain ds) h in
      comma_short later _ (room d + items_room ds) (short_both (compact_text d) (items_text true ds) (room d) (items_room ds) (text_short d parts.0) (items_short true ds parts.1))

  members_short : (later : Bool) (ms : Members) → have_plain ms ≡ true → IsShort (members_text later ms) (members_room ms)
  members_short later no_members h = plain_short (125 ∷ []) refl
  members_short later (member k d ms) h =
      let parts = and_parts (list_all is_plain_byte k) (is_plain d && have_plain ms) h in
      let rest = and_parts (is_plain d) (have_plain ms) parts.1 in
      let value = short_both (compact_text d) (members_text true ms) (room d) (members_room ms) (text_short d rest.0) (members_short true ms rest.1) in
      let colon = short_more 58 (room d + members_room ms) (compact_text d ++ members_text true ms) (omega arith) (omega arith) value in
      let whole = short_both (quoted k) (58 ∷ (compact_text d ++ members_text true ms)) (length k + 2) (room d + members_room ms + 1) (quoted_short k parts.0) colon in
      short_le (omega arith) (comma_short later (quoted k ++ 58 ∷ (compact_text d ++ members_text true ms)) (length k + 2 + (room d + members_room ms + 1)) whole)
