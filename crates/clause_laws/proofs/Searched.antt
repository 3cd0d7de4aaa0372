-- The search for a map finds one exactly where a clause subsumes another one.
use Rattle.std.proofs.Common.{◌≡◌, ◌↔◌, Bool, true, false, if◌then◌else◌, List, [], ◌∷◌, Option, Some, None, unwrap_or, refl, sym, ap, ◌∙◌}
use Rattle.std.specs.Ordering.{eq_by_cmp}
use Rattle.std.specs.FinMap as fin
use Rattle.std.proofs.lemmas.Bool.{both_ways}
use Rattle.fol.specs.Syntax.{Term, free, app, pred_symbol, Formula, atom}
use Rattle.fol.specs.Order.{var_cmp, pred_cmp, formula_cmp}
use Rattle.fol.proofs.OrderTies.{pred_equality_same}
use Rattle.finite.specs.Finite as set
use Rattle.finite.proofs.Finite.{has-listing}
use Rattle.free_variables.specs.Occurrence.{is_free_in_term}
use Rattle.substitution.specs.Image.{image_term, image_terms, image}
use Rattle.substitution.specs.Maps.{Map}
use Rattle.lk_rules.specs.declared.sequent.Sequent.{Sequent}
use Rattle.lk_rules.specs.declared.sequent.Side.TheVariants.{Left, Right}
use Rattle.lk_rules.specs.Formulas.{FormulaSet, image_set}
use Rattle.proof_trees.specs.FormulaSets.{is_atom}
use Rattle.proof_trees.proofs.Booleans.{or_first, or_second, either}
use Rattle.proof_trees.proofs.Members.{from_some, some_passes, image_member}
use Rattle.proof_trees.proofs.FormulaSets.{equal, tied}
use Rattle.unify_laws.specs.Matching.{IsWithin, match_term}
use Rattle.unify_laws.proofs.Matched.{IsRight, match_term_right}
use Rattle.clause_laws.specs.Subsumption.{IsClause, Subsumes, IsTautology}
use Rattle.clause_laws.specs.Unifiers.{term_of, same_predicate}
use Rattle.clause_laws.specs.Searching.{match_atom, goes_on, sends_each, subsumes, is_tautology}
use Rattle.clause_laws.proofs.Unified.{same_pred}
use Rattle.clause_laws.proofs.Sets.{Replacing, is_in, images_within}

-- what is found for f at g: exactly the maps that do what m does and send f to g
abbrev pub Finds : Formula → Formula → Map → Option Map → Type 0
Finds f g m None = (h : Replacing) → IsWithin m h → image h f ≡ g → ⊥
Finds f g m (Some n) = (h : Replacing) → IsWithin n h ↔ (IsWithin m h × (image h f ≡ g))

-- an atom and the term of it are sent alike
becomes_term : (h : Replacing) (f g : Formula) → same_predicate f g ≡ true → image h f ≡ g → image_term h (term_of f) ≡ term_of g
becomes_term h (atom p ts) (atom q us) same e =
    let one : p ≡ q = cc in
    let arguments : image_terms h ts ≡ us = cc in
    λ i. app (pred_symbol (one i)) (arguments i)
becomes_term h (atom p ts) g same e = cc
becomes_term h f g same e = cc

becomes_atom : (h : Replacing) (f g : Formula) → same_predicate f g ≡ true → image_term h (term_of f) ≡ term_of g → image h f ≡ g
becomes_atom h (atom p ts) (atom q us) same e =
    let one : p ≡ q = same_pred p q same in
    let arguments : image_terms h ts ≡ us = cc in
    λ i. atom (one i) (arguments i)
becomes_atom h (atom p ts) g same e = cc
becomes_atom h f g same e = cc

one_predicate : (h : Replacing) (f g : Formula) → is_atom f ≡ true → image h f ≡ g → same_predicate f g ≡ true
one_predicate h (atom p ts) (atom q us) is e = let one : p ≡ q = cc in (pred_equality_same p q (eq_by_cmp pred_cmp p q) refl).1 one
one_predicate h (atom p ts) g is e = cc
one_predicate h f g is e = cc

of_terms : (f g : Formula) (m : Map) → same_predicate f g ≡ true → (o : Option Map) → IsRight (λ h. image_term h (term_of f) ≡ term_of g) (λ v. is_free_in_term v (term_of f)) m o → Finds f g m o
of_terms f g m same None right = λ h within e. right h within (becomes_term h f g same e)
of_terms f g m same (Some n) right = λ h. (
  λ within. let both = (right.matches h).0 within in (both.0, becomes_atom h f g same both.1),
  λ both. (right.matches h).1 (both.0, becomes_term h f g same both.1),
)

by_predicates : (f g : Formula) (m : Map) → is_atom f ≡ true → (b : Bool) → same_predicate f g ≡ b → Finds f g m (if b then match_term (term_of f) (term_of g) m else None)
by_predicates f g m is true same = of_terms f g m same (match_term (term_of f) (term_of g) m) (match_term_right (term_of f) (term_of g) m)
by_predicates f g m is false apart = λ h within e. both_ways (same_predicate f g) apart (one_predicate h f g is e)

pub finds_atom : (f g : Formula) (m : Map) → is_atom f ≡ true → Finds f g m (match_atom f g m)
finds_atom f g m is = by_predicates f g m is (same_predicate f g) refl

-- some map that does what m does is right
record IsFound (Right : Replacing → Type 0) (m : Map) : Type 0 where
  pub map : Replacing
  pub within : IsWithin m map
  pub right : Right map

-- the test says whether there is such a map
record Tells (test : Map → Bool) (Right : Replacing → Type 0) : Type 0 where
  pub sound : (m : Map) → test m ≡ true → IsFound Right m
  pub complete : (m : Map) (h : Replacing) → IsWithin m h → Right h → test m ≡ true

-- the map sends each formula of a list into another list
abbrev SendsEach : List Formula → List Formula → Replacing → Type 0
SendsEach [] gs h = Unit {0}
SendsEach (f ∷ fs) gs h = (is_in gs (image h f) ≡ true) × SendsEach fs gs h

module _ (gs : List Formula) (next : Map → Bool) (Next : Replacing → Type 0) where
  abbrev Whole : List Formula → Replacing → Type 0
  Whole fs h = SendsEach fs gs h × Next h

  module _ (f : Formula) (fs : List Formula) (later : Tells (sends_each fs gs next) (Whole fs)) (m : Map) where
    sound_at : (g : Formula) → is_in gs g ≡ true → (o : Option Map) → Finds f g m o → goes_on (sends_each fs gs next) o ≡ true → IsFound (Whole (f ∷ fs)) m
    sound_at g member None finds e = cc
    sound_at g member (Some n) finds e =
        let more = later.sound n e in
        let both = (finds more.map).0 more.within in
        record { map = more.map; within = both.0; right = ((ap (is_in gs) both.1 ∙ member, more.right.0), more.right.1) }

    complete_at : (h : Replacing) → IsWithin m h → Whole fs h → (o : Option Map) → Finds f (image h f) m o → goes_on (sends_each fs gs next) o ≡ true
    complete_at h within rest None finds = absurd (finds h within refl)
    complete_at h within rest (Some n) finds = later.complete n h ((finds h).1 (within, refl)) rest

  tells_each : Tells next Next → (fs : List Formula) → ((f : Formula) → is_in fs f ≡ true → is_atom f ≡ true) → Tells (sends_each fs gs next) (Whole fs)
  tells_each tells [] atoms = record {
    sound = λ m e. let more = tells.sound m e in record { map = more.map; within = more.within; right = (tt, more.right) };
    complete = λ m h within all. tells.complete m h within all.1;
  }
  tells_each tells (f ∷ fs) atoms =
      let later = tells_each tells fs (λ g e. atoms g (or_second (eq_by_cmp formula_cmp g f) (is_in fs g) e)) in
      let is = atoms f (or_first (eq_by_cmp formula_cmp f f) (is_in fs f) (tied f f refl)) in
      record {
        sound = λ m. from_some (λ g. goes_on (sends_each fs gs next) (match_atom f g m)) gs (λ g member. sound_at f fs later m g member (match_atom f g m) (finds_atom f g m is));
        complete = λ m h within all.
            some_passes (λ g. goes_on (sends_each fs gs next) (match_atom f g m)) gs (image h f) all.0.0
            (complete_at f fs later m h within (all.0.1, all.1) (match_atom f (image h f) m) (finds_atom f (image h f) m is));
      }

-- the end of the search
tells_end : Tells (λ m. true) (λ h. Unit {0})
tells_end = record { sound = λ m e. record { map = fin.get m; within = λ v s is. ap (λ o. unwrap_or o (free v)) is; right = tt }; complete = λ m h within all. refl }

-- lists and sets

sends_members : (fs gs : List Formula) (h : Replacing) → SendsEach fs gs h → (f : Formula) → is_in fs f ≡ true → is_in gs (image h f) ≡ true
sends_members [] gs h all f e = cc
sends_members (g ∷ fs) gs h all f e =
    either (eq_by_cmp formula_cmp f g) (is_in fs f)
    (λ here. ap (λ k. is_in gs (image h k)) (equal f g here) ∙ all.0)
    (sends_members fs gs h all.1 f)
    e

each_sent : (fs gs : List Formula) (h : Replacing) → ((f : Formula) → is_in fs f ≡ true → is_in gs (image h f) ≡ true) → SendsEach fs gs h
each_sent [] gs h each = tt
each_sent (f ∷ fs) gs h each = (
  each f (or_first (eq_by_cmp formula_cmp f f) (is_in fs f) (tied f f refl)),
  each_sent fs gs h (λ g e. each g (or_second (eq_by_cmp formula_cmp g f) (is_in fs g) e)),
)

sent_within : (s t : FormulaSet) (h : Replacing) → SendsEach (set.listing s) (set.listing t) h → set.IsSubset (image_set h s) t
sent_within s t h all = images_within h s t (λ f e. has-listing t (image h f) ∙ sends_members (set.listing s) (set.listing t) h all f (sym (has-listing s f) ∙ e))

within_sent : (s t : FormulaSet) (h : Replacing) → set.IsSubset (image_set h s) t → SendsEach (set.listing s) (set.listing t) h
within_sent s t h within =
    each_sent (set.listing s) (set.listing t) h
    (λ f e. sym (has-listing t (image h f)) ∙ within (image h f) (image_member h s f (has-listing s f ∙ e)))

some_apart : (s : Term) → ◌≡◌ {A = Option Term} None (Some s) → ⊥
some_apart s e = cc

within_empty : (h : Replacing) → IsWithin fin.empty h
within_empty h v s is = absurd (some_apart s (sym (fin.get-empty var_cmp v) ∙ is))

pub subsumes-tested : (c d : Sequent) → IsClause c → (subsumes c d ≡ true) ↔ Subsumes c d
unfolding subsumes
subsumes-tested c d clause =
    let atoms_left = λ (f : Formula) (e : is_in (set.listing c.left) f ≡ true). clause Left f (has-listing c.left f ∙ e) in
    let atoms_right = λ (f : Formula) (e : is_in (set.listing c.right) f ≡ true). clause Right f (has-listing c.right f ∙ e) in
    let second = tells_each (set.listing d.right) (λ m. true) (λ h. Unit {0}) tells_end (set.listing c.right) atoms_right in
    let whole = tells_each (set.listing d.left) (sends_each (set.listing c.right) (set.listing d.right) (λ m. true)) (Whole (set.listing d.right) (λ m. true) (λ h. Unit {0}) (set.listing c.right)) second (set.listing c.left) atoms_left in (
      λ e. let found = whole.sound fin.empty e in record {
        map = found.map;
        within = record { left = sent_within c.left d.left found.map found.right.0; right = sent_within c.right d.right found.map found.right.1.0 };
      },
      λ h. whole.complete fin.empty h.map (within_empty h.map) (within_sent c.left d.left h.map h.within.left, (within_sent c.right d.right h.map h.within.right, tt)),
    )

pub tautology-tested : (c : Sequent) → (is_tautology c ≡ true) ↔ IsTautology c
tautology-tested c = (
  from_some (set.has c.right) (set.listing c.left) (λ f e on. record { atom = f; on_left = has-listing c.left f ∙ e; on_right = on }),
  λ t. some_passes (set.has c.right) (set.listing c.left) t.atom (sym (has-listing c.left t.atom) ∙ t.on_left) t.on_right,
)
