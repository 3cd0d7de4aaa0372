-- The canonical text of a formula, a term and a side of a sequent, in TPTP syntax.
--     names d      the number of the variable that is printed for the quantifier with d quantifiers around it
--     k      how many quantifiers stand around what is printed
use Rattle.std.specs.Prelude.{ℕ, ◌+◌, ◌-◌, ◌==◌, ◌&&◌, ◌||◌, max, Bool, true, false, List, [], ◌∷◌, ◌++◌, codes, if◌then◌else◌}
use Rattle.std.specs.List.{list_all, flat_map}
use Rattle.std.specs.Char.{is_ascii_lowercase}
use Rattle.std.specs.Fmt.{decimal}
use Rattle.fol.specs.declared.symbols.Sym.{Sym}
use Rattle.fol.specs.declared.symbols.Var.{Var}
use Rattle.fol.specs.declared.symbols.Var.TheVariants.{Word, Num}
use Rattle.fol.specs.Syntax.{Term, free, bound, app, Terms, nil, cons, pred_symbol, Formula, atom, top, bot, not, and, or, imp, all, ex}
use Rattle.fol.specs.Formed.{is_word_byte}
use Rattle.finite.specs.Finite as set
use Rattle.free_variables.specs.Occurrence.{vars_formula}
use Rattle.tptp_print.specs.Choice.{numbers_of, outside}

-- a lower-case letter, then letters, digits and `_`: a name that needs no quotes
abbrev pub is_lower_word : List ℕ → Bool
is_lower_word [] = false
is_lower_word (b ∷ bs) = is_ascii_lowercase b && list_all is_word_byte bs

-- a quote or a backslash with a backslash before it, any other byte as it is
abbrev pub escaped : ℕ → List ℕ
escaped b = if b == 39 || b == 92 then 92 ∷ b ∷ [] else b ∷ []

abbrev pub quoted : List ℕ → List ℕ
quoted name = 39 ∷ (flat_map escaped name ++ 39 ∷ [])

-- a symbol's name, in quotes where it isn't a lower-case word
abbrev pub name_text : List ℕ → List ℕ
name_text name = if is_lower_word name then name else quoted name

abbrev pub numbered_text : ℕ → List ℕ
numbered_text n = 86 ∷ decimal n

abbrev pub variable_text : Var → List ℕ
variable_text (Word x) = x
variable_text (Num n) = numbered_text n

abbrev mutual
  pub term_text : (ℕ → ℕ) → ℕ → Term → List ℕ
  term_text names k (free v) = variable_text v
  term_text names k (bound i) = numbered_text (names (k - (i + 1)))
  term_text names k (app s ts) = name_text s.name ++ args_text names k ts

  -- arguments in parentheses; none are nothing
  pub args_text : (ℕ → ℕ) → ℕ → Terms → List ℕ
  args_text names k nil = []
  args_text names k (cons t ts) = 40 ∷ (term_text names k t ++ more_text names k ts)

  -- further arguments, each with a comma before it, and the closing parenthesis
  pub more_text : (ℕ → ℕ) → ℕ → Terms → List ℕ
  more_text names k nil = 41 ∷ []
  more_text names k (cons t ts) = 44 ∷ (term_text names k t ++ more_text names k ts)

-- the name `=`
abbrev pub is_equals : List ℕ → Bool
is_equals [] = false
is_equals (b ∷ []) = b == 61
is_equals (b ∷ c ∷ cs) = false

-- the two sides of an equality with what stands between, and any other atom as its symbol with its arguments
abbrev pub atom_text : (ℕ → ℕ) → ℕ → List ℕ → Sym → Terms → List ℕ
atom_text names k between s (cons t (cons u nil)) =
    if is_equals s.name then term_text names k t ++ between ++ term_text names k u else name_text s.name ++ args_text names k (cons t (cons u nil))
atom_text names k between s ts = name_text s.name ++ args_text names k ts

-- whether the symbol with these arguments is an equality
abbrev pub is_equality : Sym → Terms → Bool
is_equality s (cons t (cons u nil)) = is_equals s.name
is_equality s ts = false

abbrev pub is_binary : Formula → Bool
is_binary (and f g) = true
is_binary (or f g) = true
is_binary (imp f g) = true
is_binary f = false

abbrev pub is_and : Formula → Bool
is_and (and f g) = true
is_and f = false

abbrev pub is_or : Formula → Bool
is_or (or f g) = true
is_or f = false

-- how many quantifiers are nested in a formula at most
abbrev pub quantifier_depth : Formula → ℕ
quantifier_depth (atom s ts) = 0
quantifier_depth top = 0
quantifier_depth bot = 0
quantifier_depth (not f) = quantifier_depth f
quantifier_depth (and f g) = max (quantifier_depth f) (quantifier_depth g)
quantifier_depth (or f g) = max (quantifier_depth f) (quantifier_depth g)
quantifier_depth (imp f g) = max (quantifier_depth f) (quantifier_depth g)
quantifier_depth (all f) = quantifier_depth f + 1
quantifier_depth (ex f) = quantifier_depth f + 1

-- a formula's text in parentheses
abbrev pub enclosed : List ℕ → List ℕ
enclosed text = 40 ∷ (text ++ 41 ∷ [])

-- a formula's text where a unit has to stand: in parentheses where the formula is a conjunction, a disjunction or an implication
abbrev pub unit_of : Formula → List ℕ → List ℕ
unit_of f text = if is_binary f then enclosed text else text

-- the text of the left part of a conjunction and of a disjunction: a chain of the same connective needs no parentheses
abbrev pub left_of_and : Formula → List ℕ → List ℕ
left_of_and f text = if is_and f then text else unit_of f text

abbrev pub left_of_or : Formula → List ℕ → List ℕ
left_of_or f text = if is_or f then text else unit_of f text

-- a negation, from the text of what it negates
abbrev pub negated : (ℕ → ℕ) → ℕ → Formula → List ℕ → List ℕ
negated names k (atom p ts) text = if is_equality (pred_symbol p) ts then atom_text names k (codes " != ") (pred_symbol p) ts else 126 ∷ text
negated names k f text = 126 ∷ unit_of f text

-- the head of a quantified formula with its variable
abbrev pub head_text : ℕ → ℕ → List ℕ
head_text mark n = mark ∷ (91 ∷ (numbered_text n ++ codes "]: "))

-- a formula; a predicate symbol with a body is written as its name
abbrev pub formula_text : (ℕ → ℕ) → ℕ → Formula → List ℕ
formula_text names k (atom p ts) = atom_text names k (codes " = ") (pred_symbol p) ts
formula_text names k top = codes "$true"
formula_text names k bot = codes "$false"
formula_text names k (not f) = negated names k f (formula_text names k f)
formula_text names k (and f g) = left_of_and f (formula_text names k f) ++ codes " & " ++ unit_of g (formula_text names k g)
formula_text names k (or f g) = left_of_or f (formula_text names k f) ++ codes " | " ++ unit_of g (formula_text names k g)
formula_text names k (imp f g) = unit_of f (formula_text names k f) ++ codes " => " ++ unit_of g (formula_text names k g)
formula_text names k (all f) = head_text 33 (names k) ++ unit_of f (formula_text names (k + 1) f)
formula_text names k (ex f) = head_text 63 (names k) ++ unit_of f (formula_text names (k + 1) f)

-- the canonical text of a formula: its bound variables are printed as numbered variables that aren't free in it
unfoldable pub canonical : Formula → List ℕ
canonical f = formula_text (outside (numbers_of (vars_formula f set.empty))) 0 f

-- the canonical text of a term
unfoldable pub canonical_term : Term → List ℕ
canonical_term t = term_text (λ d. d) 0 t
