-- How a reader of entries goes on.
use Rattle.std.proofs.Common.{◌≡◌, ℕ, ◌+◌, ◌≤◌, Bool, true, false, ◌||◌, if◌then◌else◌, List, [], ◌∷◌, ◌++◌, length, Ok, Err, refl, sym, ◌∙◌, ap, arith}
use Rattle.std.specs.Ordering.{eq_by_cmp}
use Rattle.std.specs.List.{list_any}
use Rattle.std.specs.BTreeSet.{BTreeSet, contains}
use Rattle.std_collections.specs.BTreeMap.{is_at}
use Rattle.fol.specs.Order.{text_cmp}
use Rattle.fol.specs.Syntax.{Formula}
use Rattle.tptp_read.specs.Turns.{by_turn}
use Rattle.tptp_problem.specs.declared.errors.Fault.{Fault}
use Rattle.tptp_problem.specs.declared.problems.Entry.{Entry}
use Rattle.tptp_problem.specs.Readers.{passed}
use Rattle.tptp_problem.specs.Closures.{closure_of, is_conjecture, conjectures}
use Rattle.tptp_problem.specs.EntryReader.{entry_at, entry_behind, one_more, counted, entries_from}
use Rattle.tptp_problem.specs.Words.{is_named}
use Rattle.tptp_problem.proofs.EntryLaws.{EntryResult}
use Rattle.tptp_problem.proofs.ProblemLaws.{turns, turn_is}

-- what is known of the entries before
pub record Known (text rest : List ℕ) (names : BTreeSet (List ℕ)) (n : ℕ) (es : List Entry) : Type 0 where
  pub whole : entries_from es rest ≡ entries_from [] text
  pub named : (x : List ℕ) → contains text_cmp names x ≡ is_named es x
  pub counted : n ≡ length (conjectures es)

or_false : (b c : Bool) → (if b then true else c) ≡ (c || (b || false))
or_false true true = refl
or_false true false = refl
or_false false true = refl
or_false false false = refl

or_if : (a b c : Bool) → (a || (if b then true else c)) ≡ (if b then true else (a || c))
or_if true true c = refl
or_if true false c = refl
or_if false true c = refl
or_if false false c = refl

first : (b : Bool) (f : Formula) → length (if b then f ∷ [] else []) ≡ (if b then 0 + 1 else 0)
first true f = refl
first false f = refl

counts : (a b : Bool) (f g : Formula) (m n : List Formula) → length n ≡ (if b then length m + 1 else length m) → length (if a then f ∷ n else n) ≡ (if b then length (if a then f ∷ m else m) + 1 else length (if a then f ∷ m else m))
counts true true f g m n is = omega (arith, is)
counts true false f g m n is = omega (arith, is)
counts false b f g m n is = is

-- the names and the number of conjectures with one more entry
pub named_more : (es : List Entry) (e : Entry) (x : List ℕ) → is_named (es ++ e ∷ []) x ≡ (if eq_by_cmp text_cmp e.name x then true else is_named es x)
named_more [] e x = sym (or_false (eq_by_cmp text_cmp e.name x) false)
named_more (d ∷ es) e x = ap (λ (b : Bool). eq_by_cmp text_cmp d.name x || b) (named_more es e x) ∙ or_if (eq_by_cmp text_cmp d.name x) (eq_by_cmp text_cmp e.name x) (is_named es x)

pub counted_more : (es : List Entry) (e : Entry) → length (conjectures (es ++ e ∷ [])) ≡ counted e.role (length (conjectures es))
counted_more [] e = first (is_conjecture e.role) (closure_of e.formula)
counted_more (d ∷ es) e = counts (is_conjecture d.role) (is_conjecture e.role) (closure_of d.formula) (closure_of e.formula) (conjectures es) (conjectures (es ++ e ∷ [])) (counted_more es e)

pub entries_none : (text : List ℕ) (es : List Entry) (names : BTreeSet (List ℕ)) → es ≡ [] → names.keys ≡ [] → Known text text names 0 es
entries_none text es names none empty = record {
  whole = ap (λ (ds : List Entry). entries_from ds text) none;
  named = λ x. ap (λ (ks : List (List ℕ)). list_any (is_at (text_cmp x)) ks) empty ∙ ap (λ (ds : List Entry). is_named ds x) (sym none);
  counted = ap (λ (ds : List Entry). length (conjectures ds)) (sym none);
}

module _ (text rest front : List ℕ) (names : BTreeSet (List ℕ)) (n : ℕ) (es : List Entry) (known : Known text rest names n es) (at : front ≡ passed 0 rest) where
  entry_known : entry_at (contains text_cmp names) n front ≡ entry_behind es (passed 0 rest)
  entry_known = λ i. entry_at (λ x. known.named x i) (known.counted i) (at i)

  entry_made : (r : EntryResult) → 1 ≤ length front → entry_at (contains text_cmp names) n front ≡ r → entries_from [] text ≡ by_turn (λ c. entries_from c.0 c.1) (one_more es r)
  entry_made r some made =
      let bytes : 1 ≤ length (passed 0 rest) = omega (arith, ap length at) in sym known.whole ∙ (turns (es, rest) ∙ ap (by_turn (λ c. entries_from c.0 c.1)) (turn_is es rest r bytes (sym entry_known ∙ made)))

  -- one more entry, and a fault of one more
  pub entry_more : (behind : List ℕ) (names' : BTreeSet (List ℕ)) (n' : ℕ) (es' : List Entry) (e : Entry) → 1 ≤ length front → entry_at (contains text_cmp names) n front ≡ Ok (e, behind) → ((x : List ℕ) → contains text_cmp names' x ≡ (if eq_by_cmp text_cmp e.name x then true else contains text_cmp names x)) → n' ≡ counted e.role n → es' ≡ es ++ e ∷ [] → Known text behind names' n' es'
  entry_more behind names' n' es' e some made named number grown = record {
    whole = ap (λ (ds : List Entry). entries_from ds behind) grown ∙ sym (entry_made (Ok (e, behind)) some made);
    named = λ x. named x ∙ (ap (λ (b : Bool). if eq_by_cmp text_cmp e.name x then true else b) (known.named x) ∙ (sym (named_more es e x) ∙ ap (λ (ds : List Entry). is_named ds x) (sym grown)));
    counted = number ∙ (ap (λ (m : ℕ). counted e.role m) known.counted ∙ (sym (counted_more es e) ∙ ap (λ (ds : List Entry). length (conjectures ds)) (sym grown)));
  }

  pub entry_stops : (e : Fault) → 1 ≤ length front → entry_at (contains text_cmp names) n front ≡ Err e → entries_from [] text ≡ Err e
  entry_stops e some made = entry_made (Err e) some made
