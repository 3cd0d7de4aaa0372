-- Which variables, symbols, terms and formulas are well formed.
use Rattle.std.specs.Prelude.{◌≡◌, ℕ, ◌+◌, ◌^◌, Bool, true, false, not as negated, ◌==◌, ◌&&◌, ◌||◌, nat_lt, nat_le, is_none, List, [], ◌∷◌, length}
use Rattle.std.specs.List.{list_all}
use Rattle.std.specs.Char.{is_ascii_uppercase, is_ascii_alphanumeric}
use Rattle.std.specs.Int.{is_in_range}
use Rattle.fol.specs.declared.symbols.Sym.{Sym}
use Rattle.fol.specs.declared.symbols.Var.{Var}
use Rattle.fol.specs.declared.symbols.Var.TheVariants.{Word, Num}
use Rattle.fol.specs.Syntax.{Term, free, bound, app, Terms, nil, cons, Pred, pred, pred_symbol, Body, undefined, defined, Formula, atom, top, bot, not, and, or, imp, all, ex}
use Rattle.fol.specs.Facts.{is_open}
use Rattle.fol.specs.Numbered.{number_of_text}

-- a printable byte of ASCII, from the space to `~`
abbrev pub is_printable : ℕ → Bool
is_printable b = is_in_range 32 126 b

-- a name is one or more printable bytes
abbrev pub is_name : List ℕ → Bool
is_name x = nat_lt 0 (length x) && list_all is_printable x

-- a byte that a word may go on with: a letter, a digit or `_`
abbrev pub is_word_byte : ℕ → Bool
is_word_byte b = is_ascii_alphanumeric b || b == 95

-- a word is a capital letter with letters, digits and `_` after it, and isn't the text of a numbered variable
abbrev pub is_word : List ℕ → Bool
is_word [] = false
is_word (b ∷ bs) = is_ascii_uppercase b && list_all is_word_byte bs && is_none (number_of_text (b ∷ bs))

-- a variable is well formed if it is a numbered one or its word is a word
abbrev pub is_formed_var : Var → Bool
is_formed_var (Word x) = is_word x
is_formed_var (Num n) = true

-- a symbol is well formed if its name is a name
abbrev pub is_formed_sym : Sym → Bool
is_formed_sym s = is_name s.name

-- how many terms a list has
abbrev pub count_terms : Terms → ℕ
count_terms nil = 0
count_terms (cons t ts) = count_terms ts + 1

-- whether a term is well formed inside k quantifiers: each index is that of one of them (and below 2 ^ 32), each symbol and variable is
-- well formed, and each symbol has as many terms as its arity says
abbrev mutual
  pub is_formed_term_at : ℕ → Term → Bool
  is_formed_term_at k (free v) = is_formed_var v
  is_formed_term_at k (bound i) = nat_lt i k && nat_lt i (2 ^ 32)
  is_formed_term_at k (app s ts) = is_formed_sym s && count_terms ts == s.arity && are_formed_terms_at k ts

  pub are_formed_terms_at : ℕ → Terms → Bool
  are_formed_terms_at k nil = true
  are_formed_terms_at k (cons t ts) = is_formed_term_at k t && are_formed_terms_at k ts

-- with how many universal quantifiers a formula begins
abbrev pub leading_all : Formula → ℕ
leading_all (all f) = leading_all f + 1
leading_all f = 0

-- whether a formula is well formed inside k quantifiers, in the same way. The body of a predicate symbol is well formed by itself, no
-- variable is free in it, and it begins with at least as many universal quantifiers as the symbol has arguments
abbrev mutual
  pub is_formed_pred : Pred → Bool
  is_formed_pred (pred s b) = is_formed_body s.arity b && is_formed_sym s

  pub is_formed_body : ℕ → Body → Bool
  is_formed_body n undefined = true
  is_formed_body n (defined f) = is_formed_at 0 f && negated (is_open f) && nat_le n (leading_all f)

  pub is_formed_at : ℕ → Formula → Bool
  is_formed_at k (atom p ts) = is_formed_pred p && count_terms ts == (pred_symbol p).arity && are_formed_terms_at k ts
  is_formed_at k top = true
  is_formed_at k bot = true
  is_formed_at k (not f) = is_formed_at k f
  is_formed_at k (and f g) = is_formed_at k f && is_formed_at k g
  is_formed_at k (or f g) = is_formed_at k f && is_formed_at k g
  is_formed_at k (imp f g) = is_formed_at k f && is_formed_at k g
  is_formed_at k (all f) = is_formed_at (k + 1) f
  is_formed_at k (ex f) = is_formed_at (k + 1) f

-- whether a term is well formed outside quantifiers, where it has no index
abbrev pub is_formed_term : Term → Bool
is_formed_term = is_formed_term_at 0

-- whether a formula is well formed by itself
abbrev pub is_formed : Formula → Bool
is_formed = is_formed_at 0

-- the same as facts
abbrev pub IsFormedVar : Var → Type 0
IsFormedVar v = is_formed_var v ≡ true

abbrev pub IsFormedSym : Sym → Type 0
IsFormedSym s = is_formed_sym s ≡ true

abbrev pub IsFormedPred : Pred → Type 0
IsFormedPred p = is_formed_pred p ≡ true

abbrev pub IsFormedTerm : Term → Type 0
IsFormedTerm t = is_formed_term t ≡ true

abbrev pub IsFormed : Formula → Type 0
IsFormed f = is_formed f ≡ true
