-- A JSON text without white space has no control character, so a reply line is one line.
use Rattle.std.proofs.Common.{◌≡◌, ℕ, zero, suc, ◌/◌, ◌%◌, ◌≤◌, nat_lt, eqb, Bool, true, false, cond, List, [], ◌∷◌, ◌++◌, refl, arith}
use Rattle.std.specs.List.{All}
use Rattle.std.specs.Char.{digit_char}
use Rattle.std.specs.Fmt.{digit_glyph, digits_onto, digits, decimal}
use Rattle.std.specs.Prelude.{pos, negsuc}
use Rattle.std.proofs.lemmas.Bool.Decides.{nat_tests}
use Rattle.std.proofs.lemmas.List.Elements.{All-nil, All-cons, All-append, All-weaker}
use Rattle.json.specs.Print.{escape_letter, escape_byte, escape, quoted}
use Rattle.serde_json.specs.Data.{Data, null, boolean, number, string, array, object, unsigned, negative, float, Items, no_items, item, Members, no_members, member}
use Rattle.serde_json.specs.Written.{comma_if, compact_text, items_text, members_text}
use Rattle.reply_lines.specs.declared.replies.Reply.{Reply}
use Rattle.reply_lines.specs.Replies.{reply_data, line_of}
use Rattle.reply_lines.specs.OneLine.{IsOneLine}

-- no byte is a control character
record ArePlain (bytes : List ℕ) : Type 0 where
  all : All (λ b. 32 ≤ b) bytes

none_plain : ArePlain []
none_plain = record { all = All-nil (λ b. 32 ≤ b) }

more_plain : (b : ℕ) (bytes : List ℕ) → 32 ≤ b → ArePlain bytes → ArePlain (b ∷ bytes)
more_plain b bytes first rest = record { all = All-cons (λ x. 32 ≤ x) b bytes first rest.all }

both_plain : (a b : List ℕ) → ArePlain a → ArePlain b → ArePlain (a ++ b)
both_plain a b first second = record { all = All-append (λ x. 32 ≤ x) a b first.all second.all }

one_plain : (b : ℕ) → 32 ≤ b → ArePlain (b ∷ [])
one_plain b h = more_plain b [] h none_plain

-- the letter of a short escape, where there is one
letter_plain : (x : ℕ) → nat_lt 0 (escape_letter x) ≡ true → 32 ≤ escape_letter x
letter_plain x some = grind (arith, nat_tests)

digit_plain : (d : ℕ) → 32 ≤ digit_char d
digit_plain d = grind (arith, nat_tests)

-- a byte in hexadecimal digits
hex_plain : (x : ℕ) → ArePlain (92 ∷ 117 ∷ 48 ∷ 48 ∷ digit_char (x / 16) ∷ digit_char (x % 16) ∷ [])
hex_plain x =
    let ends = more_plain (digit_char (x / 16)) (digit_char (x % 16) ∷ []) (digit_plain (x / 16)) (one_plain (digit_char (x % 16)) (digit_plain (x % 16))) in
    more_plain 92 _ (omega arith) (more_plain 117 _ (omega arith) (more_plain 48 _ (omega arith) (more_plain 48 _ (omega arith) ends)))

by_size : (x : ℕ) (b : Bool) → nat_lt x 32 ≡ b → ArePlain (cond b (92 ∷ 117 ∷ 48 ∷ 48 ∷ digit_char (x / 16) ∷ digit_char (x % 16) ∷ []) (x ∷ []))
by_size x true small = hex_plain x
by_size x false large = one_plain x (grind (arith, nat_tests))

by_letter : (x : ℕ) (b : Bool) → nat_lt 0 (escape_letter x) ≡ b
    → ArePlain (cond b (92 ∷ escape_letter x ∷ []) (cond (nat_lt x 32) (92 ∷ 117 ∷ 48 ∷ 48 ∷ digit_char (x / 16) ∷ digit_char (x % 16) ∷ []) (x ∷ [])))
by_letter x true some = more_plain 92 (escape_letter x ∷ []) (omega arith) (one_plain (escape_letter x) (letter_plain x some))
by_letter x false none = by_size x (nat_lt x 32) refl

byte_plain : (x : ℕ) → ArePlain (escape_byte x)
unfolding escape_byte
byte_plain x = by_letter x (nat_lt 0 (escape_letter x)) refl

escape_plain : (s : List ℕ) → ArePlain (escape s)
escape_plain [] = none_plain
escape_plain (x ∷ xs) = both_plain (escape_byte x) (escape xs) (byte_plain x) (escape_plain xs)

quoted_plain : (s : List ℕ) → ArePlain (quoted s)
quoted_plain s = more_plain 34 _ (omega arith) (both_plain (escape s) (34 ∷ []) (escape_plain s) (one_plain 34 (omega arith)))

-- digits
glyph_plain : (d : ℕ) → 32 ≤ digit_glyph false d
glyph_plain d = grind (arith, nat_tests)

digits_plain : (k n : ℕ) (acc : List ℕ) → ArePlain acc → ArePlain (digits_onto k 10 false n acc)
digits_plain zero n acc h = h
digits_plain (suc k) n acc h =
    let more = more_plain (digit_glyph false (n % 10)) acc (glyph_plain (n % 10)) h in
    elim (eqb (n / 10) 0) as (λ (b : Bool). ArePlain (cond b (digit_glyph false (n % 10) ∷ acc) (digits_onto k 10 false (n / 10) (digit_glyph false (n % 10) ∷ acc)))) [
      | true ↦ more
      | false ↦ digits_plain k (n / 10) (digit_glyph false (n % 10) ∷ acc) more
    ]

decimal_plain : (n : ℕ) → ArePlain (decimal n)
unfolding digits
decimal_plain n = digits_plain 64 n [] none_plain

comma_plain : (later : Bool) (rest : List ℕ) → ArePlain rest → ArePlain (comma_if later ++ rest)
comma_plain true rest h = more_plain 44 rest (omega arith) h
comma_plain false rest h = h

mutual
  text_plain : (d : Data) → ArePlain (compact_text d)
  text_plain null = more_plain 110 _ (omega arith) (more_plain 117 _ (omega arith) (more_plain 108 _ (omega arith) (one_plain 108 (omega arith))))
  text_plain (boolean true) = more_plain 116 _ (omega arith) (more_plain 114 _ (omega arith) (more_plain 117 _ (omega arith) (one_plain 101 (omega arith))))
  text_plain (boolean false) =
      more_plain 102 _ (omega arith) (more_plain 97 _ (omega arith) (more_plain 108 _ (omega arith) (more_plain 115 _ (omega arith) (one_plain 101 (omega arith)))))
  text_plain (number (unsigned n)) = decimal_plain n
  text_plain (number (negative (pos n))) = decimal_plain n
  text_plain (number (negative (negsuc n))) = more_plain 45 _ (omega arith) (decimal_plain (suc n))
  text_plain (number (float x)) = none_plain
  text_plain (string s) = quoted_plain s
  text_plain (array ds) = more_plain 91 _ (omega arith) (items_plain false ds)
  text_plain (object ms) = more_plain 123 _ (omega arith) (members_plain false ms)

  items_plain : (later : Bool) (ds : Items) → ArePlain (items_text later ds)
  items_plain later no_items = one_plain 93 (omega arith)
  items_plain later (item d ds) = comma_plain later _ (both_plain (compact_text d) (items_text true ds) (text_plain d) (items_plain true ds))

  members_plain : (later : Bool) (ms : Members) → ArePlain (members_text later ms)
  members_plain later no_members = one_plain 125 (omega arith)
  members_plain later (member k d ms) =
      comma_plain later _ (both_plain (quoted k) _ (quoted_plain k) (more_plain 58 _ (omega arith)
      (both_plain (compact_text d) (members_text true ms) (text_plain d) (members_plain true ms))))

no_newline : (b : ℕ) → 32 ≤ b → eqb b 10 ≡ false
no_newline b h = grind (arith, nat_tests)

pub line_is_one : (reply : Reply) → IsOneLine (line_of reply)
unfolding line_of
line_is_one reply = record {
  text = compact_text (reply_data reply);
  ends = refl;
  one = All-weaker (λ b. 32 ≤ b) (λ b. eqb b 10 ≡ false) no_newline (compact_text (reply_data reply)) (text_plain (reply_data reply)).all;
}
