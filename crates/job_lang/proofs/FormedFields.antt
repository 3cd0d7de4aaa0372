-- What the reading of a field gives is well formed.
use Rattle.std.proofs.Common.{◌≡◌, ℕ, suc, Bool, true, false, ◌&&◌, if◌then◌else◌, List, [], ◌∷◌, length, Option, Some, None, Result, Ok, Err, refl, sym, ap, ◌∙◌, subst}
use Rattle.std.specs.List.{All, list_all}
use Rattle.std.proofs.lemmas.List.Elements.{All-nil, All-cons}
use Rattle.std.proofs.lemmas.List.Sums.{AllPass-from_list_all, list_all-from_AllPass}
use Rattle.finite.specs.Finite as set
use Rattle.finite.proofs.Finite.{of_rising-empty, listing-of_rising}
use Rattle.fol.specs.declared.symbols.Var.{Var}
use Rattle.fol.specs.Syntax.{Term, Formula}
use Rattle.fol.specs.Order.{formula_cmp}
use Rattle.fol.specs.Formed.{is_formed, IsFormed, IsFormedTerm, IsFormedVar}
use Rattle.lk_rules.specs.Formulas.{FormulaSet}
use Rattle.search_laws.proofs.Listed.{all-adds_each}
use Rattle.tptp_tokens.specs.declared.tokens.TextFault.{TextFault}
use Rattle.tptp_tokens.specs.Lexer.{scanned, whole_variable}
use Rattle.tptp_read.specs.Texts.{formula_reading, term_reading}
use Rattle.tptp_read.proofs.FormedValues.{formula_value, term_value, variable_value}
use Rattle.serde_json.specs.Data.{Data}
use Rattle.serde_json.specs.Find.{as_str}
use Rattle.job_lang.specs.declared.places.Place.{Place}
use Rattle.job_words.specs.declared.causes.JobCause.{JobCause}
use Rattle.job_words.specs.declared.causes.JobCause.TheVariants.{Field}
use Rattle.job_lang.specs.Places.{path}
use Rattle.job_lang.specs.Fields.{Reading, ◌>>=◌, or_fault, text_at, list_at, each}
use Rattle.job_lang.specs.Formulas.{in_field, formula_text, formula_at, term_at, variable_at, formula_of, side_of, side_at}

-- what a reading of two parts gives comes of both
pub both_read : {A B : Type 0} (r : Reading A) (f : A → Reading B) (y : B) → (r >>= f) ≡ Ok y → (x : A) × ((r ≡ Ok x) × (f x ≡ Ok y))
both_read (Ok x) f y is = (x, (refl, is))
both_read (Err c) f y is = cc

pub same_value : {A : Type 0} (x y : A) → ◌≡◌ {A = Reading A} (Ok x) (Ok y) → x ≡ y
same_value x y is = cc

pub there : {A : Type 0} (c : JobCause) (o : Option A) (x : A) → or_fault c o ≡ Ok x → o ≡ Some x
there c (Some a) x is = ap Some (same_value a x is)
there c None x is = cc

pub in_text : {A : Type 0} (field : List ℕ) (r : Result A TextFault) (x : A) → in_field field r ≡ Ok x → r ≡ Ok x
in_text field (Ok a) x is = ap Ok (same_value a x is)
in_text field (Err e) x is = cc

pub both_true : (a b : Bool) → a ≡ true → b ≡ true → (a && b) ≡ true
both_true true b p q = q
both_true false b p q = cc

module _ (place : Place) (d : Data) where
  pub formula_formed : (key : List ℕ) (f : Formula) → formula_at place key d ≡ Ok f → IsFormed f
  formula_formed key f is =
      let text = both_read (text_at place key d) (formula_text place key None) f is in
      formula_value text.0 f (in_text (path place key None) (formula_reading text.0) f text.1.1)

  pub term_formed : (key : List ℕ) (t : Term) → term_at place key d ≡ Ok t → IsFormedTerm t
  term_formed key t is =
      let text = both_read (text_at place key d) (λ x. in_field (path place key None) (term_reading x)) t is in
      term_value text.0 t (in_text (path place key None) (term_reading text.0) t text.1.1)

  pub variable_formed : (key : List ℕ) (v : Var) → variable_at place key d ≡ Ok v → IsFormedVar v
  variable_formed key v is =
      let text = both_read (text_at place key d) (λ x. or_fault (Field (path place key None)) (whole_variable (scanned x) (length x))) v is in
      variable_value text.0 v (there (Field (path place key None)) (whole_variable (scanned text.0) (length text.0)) v text.1.1)

-- what holds of each value that is read holds of all of a list
pub each_formed : {A : Type 0} (P : A → Type 0) (read : ℕ → Data → Reading A) → ((i : ℕ) (d : Data) (x : A) → read i d ≡ Ok x → P x)
    → (i : ℕ) (ds : List Data) (xs : List A) → each read i ds ≡ Ok xs → All P xs
each_formed P read formed i [] xs is = subst (All P) (same_value [] xs is) (All-nil P)
each_formed P read formed i (d ∷ ds) xs is =
    let first = both_read (read i d) _ xs is in
    let rest = both_read (each read (suc i) ds) _ xs first.1.1 in
    subst (All P) (same_value (first.0 ∷ rest.0) xs rest.1.1)
    (All-cons P first.0 rest.0 (formed i d first.0 first.1.0) (each_formed P read formed (suc i) ds rest.0 rest.1.0))

-- a choice between two
pub chosen : {A P : Type 0} (b : Bool) (x y z : A) → (x ≡ z → P) → (y ≡ z → P) → (if b then x else y) ≡ z → P
chosen true x y z f g is = f is
chosen false x y z f g is = g is

-- the formulas of a side

formula_of_formed : (place : Place) (key : List ℕ) (i : ℕ) (d : Data) (f : Formula) → formula_of place key i d ≡ Ok f → IsFormed f
formula_of_formed place key i d f is =
    let text = both_read (or_fault (Field (path place key (Some i))) (as_str d)) (formula_text place key (Some i)) f is in
    formula_value text.0 f (in_text (path place key (Some i)) (formula_reading text.0) f text.1.1)

set_formed : (fs : List Formula) → All IsFormed fs → All IsFormed (set.listing (set.adds_each (set.empty {R = formula_cmp}) fs))
set_formed fs formed =
    let nothing : set.listing (set.empty {R = formula_cmp}) ≡ [] = ap set.listing (sym (of_rising-empty formula_cmp)) ∙ listing-of_rising formula_cmp [] tt in
    AllPass-from_list_all is_formed (set.listing (set.of_list fs))
    (all-adds_each is_formed set.empty fs ∙ ap (λ (old : List Formula). list_all is_formed old && list_all is_formed fs) nothing ∙ list_all-from_AllPass is_formed fs formed)

pub side_formed : (place : Place) (key : List ℕ) (d : Data) (s : FormulaSet) → side_at place key d ≡ Ok s → All IsFormed (set.listing s)
side_formed place key d s is =
    let list = both_read (list_at place key d) (side_of place key) s is in
    let fs = both_read (each (formula_of place key) 0 list.0) _ s list.1.1 in
    subst (λ (x : FormulaSet). All IsFormed (set.listing x)) (same_value _ s fs.1.1)
    (set_formed fs.0 (each_formed IsFormed (formula_of place key) (formula_of_formed place key) 0 list.0 fs.0 fs.1.0))
