-- Formulas as fields, by the grammar of formula texts.
use Rattle.std.specs.Prelude.{ℕ, List, length, Option, Some, None, Result, Ok, Err}
use Rattle.fol.specs.declared.symbols.Var.{Var}
use Rattle.fol.specs.Syntax.{Formula, Term}
use Rattle.finite.specs.Finite as set
use Rattle.lk_rules.specs.Formulas.{FormulaSet}
use Rattle.tptp_tokens.specs.declared.tokens.TextFault.{TextFault}
use Rattle.tptp_tokens.specs.Lexer.{scanned, whole_variable}
use Rattle.tptp_read.specs.Texts.{formula_reading, term_reading}
use Rattle.serde_json.specs.Data.{Data}
use Rattle.serde_json.specs.Find.{as_str}
use Rattle.job_lang.specs.declared.places.Place.{Place}
use Rattle.job_words.specs.declared.causes.JobCause.TheVariants.{Field, Formula as FormulaCause}
use Rattle.job_lang.specs.Places.{path}
use Rattle.job_lang.specs.Fields.{Reading, ◌>>=◌, or_fault, text_at, list_at, each}

-- a text's fault, with the field in which the text stands
abbrev pub in_field : {A : Type 0} → List ℕ → Result A TextFault → Reading A
in_field field (Ok a) = Ok a
in_field field (Err e) = Err (FormulaCause field e)

-- the formula of a text
abbrev pub formula_text : Place → List ℕ → Option ℕ → List ℕ → Reading Formula
formula_text place key index text = in_field (path place key index) (formula_reading text)

-- a member that is a formula
abbrev pub formula_at : Place → List ℕ → Data → Reading Formula
formula_at place key d = text_at place key d >>= formula_text place key None

-- a member that is a term
abbrev pub term_at : Place → List ℕ → Data → Reading Term
term_at place key d = text_at place key d >>= λ text. in_field (path place key None) (term_reading text)

-- a member that is a variable, as one token with nothing before or behind it
abbrev pub variable_at : Place → List ℕ → Data → Reading Var
variable_at place key d = text_at place key d >>= λ text. or_fault (Field (path place key None)) (whole_variable (scanned text) (length text))

-- an element that is a formula
abbrev pub formula_of : Place → List ℕ → ℕ → Data → Reading Formula
formula_of place key i d = or_fault (Field (path place key (Some i))) (as_str d) >>= formula_text place key (Some i)

-- a list of formulas as the set of them, and a member that is one
abbrev pub side_of : Place → List ℕ → List Data → Reading FormulaSet
side_of place key ds = each (formula_of place key) 0 ds >>= λ fs. Ok (set.of_list fs)

abbrev pub side_at : Place → List ℕ → Data → Reading FormulaSet
side_at place key d = list_at place key d >>= side_of place key
