-- Keys of a table.
--     has_only_numbers      whether a key has no symbol, no variable and no list
--     same_key      whether two keys are equal
--     key_fingerprint      a number in which unequal keys mostly differ
use Rattle.std.specs.Prelude.{ℕ, ◌+◌, ◌*◌, ◌^◌, Bool, true, false, List, [], ◌∷◌}
use Rattle.std.specs.Coded.{Coded}
use Rattle.fol.specs.Mixing.{mixed}
use Rattle.fol.specs.Facts.{sym_fingerprint, var_fingerprint}
use Rattle.number_hash.specs.Codes.{same_by}
use Rattle.arena_cells.specs.declared.key.RuleKey.{RuleKey}
use Rattle.arena_cells.specs.declared.key.RuleKey.TheVariants.{Ax, TopR, BotL, NegL, NegR, AndL, AndR, OrL, OrR, ImpL, ImpR, AllL, AllR, ExL, ExR, DefL, DefR, Cut, Weak}
use Rattle.arena_cells.specs.declared.key.Parts.{Parts}
use Rattle.arena_cells.specs.declared.key.Parts.TheVariants.{Zero, One, Two}
use Rattle.arena_cells.specs.declared.key.Key.{Key}
use Rattle.arena_cells.specs.declared.key.Key.TheVariants.{Symbol, Free, Bound, App, Nil, Cons, Atom, Defined, Top, Bot, Not, And, Or, Imp, All, Ex, Variables, Map, Side, Sequent, Tree}
use Rattle.arena_cells.specs.contracts.key.Key as row

abbrev pub coded_key : Coded Key
coded_key = row.the_row.coded

abbrev pub same_key : Key → Key → Bool
same_key = same_by coded_key

-- whether the key has nothing but numbers: no symbol, no variable and no list
abbrev pub has_only_numbers : Key → Bool
has_only_numbers (Symbol s) = false
has_only_numbers (Free v) = false
has_only_numbers (Variables ns) = false
has_only_numbers (Map vs ts) = false
has_only_numbers (Side ns) = false
has_only_numbers k = true

-- the fingerprint of a kind and at most two numbers
unfoldable pub short_fingerprint : ℕ → ℕ → ℕ → ℕ
short_fingerprint kind m n = mixed (mixed (mixed 0 kind) m) n

-- two numbers of 32 bits as one of 64
unfoldable pub paired : ℕ → ℕ → ℕ
paired high low = high * 2 ^ 32 + low

-- a fingerprint with the numbers of a list in it, two at a time
abbrev pub mixed_pairs : ℕ → List ℕ → ℕ
mixed_pairs p [] = p
mixed_pairs p (m ∷ []) = mixed p m
mixed_pairs p (m ∷ n ∷ ns) = mixed_pairs (mixed p (paired m n)) ns

unfoldable pub rule_fingerprint : RuleKey → ℕ
rule_fingerprint (Ax f) = short_fingerprint 0 f 0
rule_fingerprint TopR = short_fingerprint 1 0 0
rule_fingerprint BotL = short_fingerprint 2 0 0
rule_fingerprint (NegL f) = short_fingerprint 3 f 0
rule_fingerprint (NegR f) = short_fingerprint 4 f 0
rule_fingerprint (AndL f) = short_fingerprint 5 f 0
rule_fingerprint (AndR f) = short_fingerprint 6 f 0
rule_fingerprint (OrL f) = short_fingerprint 7 f 0
rule_fingerprint (OrR f) = short_fingerprint 8 f 0
rule_fingerprint (ImpL f) = short_fingerprint 9 f 0
rule_fingerprint (ImpR f) = short_fingerprint 10 f 0
rule_fingerprint (AllL f t) = short_fingerprint 11 f t
rule_fingerprint (AllR f y) = short_fingerprint 12 f y
rule_fingerprint (ExL f y) = short_fingerprint 13 f y
rule_fingerprint (ExR f t) = short_fingerprint 14 f t
rule_fingerprint (DefL f) = short_fingerprint 15 f 0
rule_fingerprint (DefR f) = short_fingerprint 16 f 0
rule_fingerprint (Cut f) = short_fingerprint 17 f 0
rule_fingerprint Weak = short_fingerprint 18 0 0

unfoldable pub parts_fingerprint : Parts → ℕ
parts_fingerprint Zero = 0
parts_fingerprint (One p) = short_fingerprint 1 p 0
parts_fingerprint (Two p q) = short_fingerprint 2 p q

unfoldable pub key_fingerprint : Key → ℕ
key_fingerprint (Symbol s) = sym_fingerprint s
key_fingerprint (Free v) = var_fingerprint v
key_fingerprint (Bound i) = short_fingerprint 2 i 0
key_fingerprint (App s ts) = short_fingerprint 3 s ts
key_fingerprint Nil = short_fingerprint 4 0 0
key_fingerprint (Cons t ts) = short_fingerprint 5 t ts
key_fingerprint (Atom s ts) = short_fingerprint 6 s ts
key_fingerprint (Defined s f ts) = mixed (short_fingerprint 19 s f) ts
key_fingerprint Top = short_fingerprint 7 0 0
key_fingerprint Bot = short_fingerprint 8 0 0
key_fingerprint (Not f) = short_fingerprint 9 f 0
key_fingerprint (And f g) = short_fingerprint 10 f g
key_fingerprint (Or f g) = short_fingerprint 11 f g
key_fingerprint (Imp f g) = short_fingerprint 12 f g
key_fingerprint (All f) = short_fingerprint 13 f 0
key_fingerprint (Ex f) = short_fingerprint 14 f 0
key_fingerprint (Variables ns) = mixed_pairs (mixed 0 15) ns
key_fingerprint (Map vs ts) = mixed_pairs (mixed_pairs (mixed 0 16) vs) ts
key_fingerprint (Side ns) = mixed_pairs (mixed 0 17) ns
key_fingerprint (Sequent l r) = short_fingerprint 18 l r
key_fingerprint (Tree r e ps) = mixed (mixed (rule_fingerprint r) e) (parts_fingerprint ps)
