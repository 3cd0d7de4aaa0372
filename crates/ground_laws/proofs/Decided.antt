-- Each search comes to a model or a refutation, and no list of clauses has both.
use Rattle.std.proofs.Common.{◌≡◌, ℕ, zero, suc, ◌<◌, Bool, true, false, not as negated, ◌||◌, ◌&&◌, cond, if◌then◌else◌, List, [], ◌∷◌, ◌++◌, length, refl, sym, ap, ◌∙◌, arith}
use Rattle.std.specs.Prelude.{Option, Some, None, option_map, slice_get, Result, Ok, Err}
use Rattle.std.specs.List.{list_all, list_any}
use Rattle.std.specs.Ordering.{eq_by_cmp}
use Rattle.std.proofs.lemmas.Bool.{both_ways, or_parts, and_from}
use Rattle.std.proofs.lemmas.List.Filters.{length-filter_both}
use Rattle.std.proofs.lemmas.List.Folds.{list_any-append}
use Rattle.std.proofs.lemmas.Map.Views.{any-filter_same}
use Rattle.fol.specs.Syntax.{Formula}
use Rattle.fol.specs.Order.{formula_cmp}
use Rattle.fol.specs.OrderLaws.{formula_total}
use Rattle.finite.specs.Finite as set
use Rattle.finite.proofs.Finite.{has-listing, has-empty, has-adds}
use Rattle.lk_rules.specs.declared.sequent.Sequent.{Sequent}
use Rattle.lk_rules.specs.declared.sequent.Side.TheVariants.{Left, Right}
use Rattle.lk_rules.specs.Formulas.{FormulaSet}
use Rattle.lk_rules.specs.Sequents.{empty, adds_to, is_subsequent, IsSubsequent}
use Rattle.lk_rules.proofs.Subsequents.{subsequent_of}
use Rattle.proof_trees.proofs.Booleans.{or_first, or_second, either}
use Rattle.refutations.specs.declared.step.ResCause.{ResCause}
use Rattle.refutations.specs.declared.step.ResCause.TheVariants.{AtomMissing}
use Rattle.refutations.specs.Refutations.{resolvent}
use Rattle.proof_trees.proofs.FormulaSets.{equal, tied, stays, added}
use Rattle.ground_laws.specs.declared.step.SatStep.TheVariants.{Resolve}
use Rattle.ground_laws.specs.Models.{satisfies, occurs, IsModel}
use Rattle.ground_laws.specs.Steps.{referred, resolved_on, derives}
use Rattle.ground_laws.specs.Deciding.{Known, IsKnown, inputs, with_step, Partial, one_later, first_false, Choice, chosen, others_than, Outcome, satisfied, conflict, after_false, after_true, branch, by_atoms, by_conflict, visit, search_within, search_from, atoms_of, IsAnswer, answer_of, decide}
use Rattle.ground_laws.proofs.Clauses.{split, among, resolvent_false, false_without_left, false_without_right, false_at_start, holds_unless_false}
use Rattle.ground_laws.proofs.Derived.{Keeps, kept_front, at_end, known_step, inputs_known, cut}

-- the first clause that is false

abbrev IsFirst : Partial → List Sequent → Option (ℕ × Sequent) → Type 0
IsFirst r cs None = (i : ℕ) (c : Sequent) → slice_get cs i ≡ Some c → is_subsequent c r ≡ false
IsFirst r cs (Some e) = (slice_get cs e.0 ≡ Some e.1) × IsSubsequent e.1 r

none_later : (r : Partial) (c : Sequent) (cs : List Sequent) → is_subsequent c r ≡ false → IsFirst r cs None → IsFirst r (c ∷ cs) None
none_later r c cs out h zero d at = let same : c ≡ d = cc in ap (λ e. is_subsequent e r) (sym same) ∙ out
none_later r c cs out h (suc i) d at = h i d at

later_first : (r : Partial) (c : Sequent) (cs : List Sequent) → is_subsequent c r ≡ false → (o : Option (ℕ × Sequent)) → IsFirst r cs o → IsFirst r (c ∷ cs) (option_map one_later o)
later_first r c cs out None h = none_later r c cs out h
later_first r c cs out (Some e) h = h

first_by : (r : Partial) (c : Sequent) (cs : List Sequent) (o : Option (ℕ × Sequent)) → IsFirst r cs o → (b : Bool) → is_subsequent c r ≡ b
    → IsFirst r (c ∷ cs) (if b then Some (0, c) else option_map one_later o)
first_by r c cs o h true e = (refl, subsequent_of c r e)
first_by r c cs o h false e = later_first r c cs e o h

first_right : (r : Partial) (cs : List Sequent) → IsFirst r cs (first_false r cs)
first_right r [] = λ i c at. cc
first_right r (c ∷ cs) = first_by r c cs (first_false r cs) (first_right r cs) (is_subsequent c r) refl

-- clauses by their places

all_hold : (a : FormulaSet) (cs : List Sequent) → ((i : ℕ) (c : Sequent) → slice_get cs i ≡ Some c → satisfies a c ≡ true) → list_all (satisfies a) cs ≡ true
all_hold a [] each = refl
all_hold a (c ∷ cs) each = and_from (satisfies a c) (list_all (satisfies a) cs) (each 0 c refl) (all_hold a cs (λ i d at. each (suc i) d at))

pub occurs_at : (cs : List Sequent) (i : ℕ) (c : Sequent) (f : Formula) → slice_get cs i ≡ Some c → (set.has c.left f || set.has c.right f) ≡ true → occurs cs f ≡ true
occurs_at [] i c f at one = cc
occurs_at (d ∷ ds) zero c f at one = let same : d ≡ c = cc in or_first (set.has d.left f || set.has d.right f) (occurs ds f) (ap (λ (e : Sequent). set.has e.left f || set.has e.right f) same ∙ one)
occurs_at (d ∷ ds) (suc i) c f at one = or_second (set.has d.left f || set.has d.right f) (occurs ds f) (occurs_at ds i c f at one)

-- the atoms of the clauses are those that occur
listed : (cs : List Sequent) (f : Formula) → among (atoms_of cs) f ≡ occurs cs f
listed [] f = refl
listed (c ∷ cs) f =
    list_any-append (eq_by_cmp formula_cmp f) (set.listing c.left ++ set.listing c.right) (atoms_of cs)
    ∙ λ i. (list_any-append (eq_by_cmp formula_cmp f) (set.listing c.left) (set.listing c.right) ∙ λ j. sym (has-listing c.left f) j || sym (has-listing c.right f) j) i || listed cs f i

-- where a search stands: what is known has the clauses, and each atom of these has a value or is among those that have none
pub record IsState (cs : List Sequent) (r : Partial) (fs : List Formula) (k : Known) : Type 0 where
  pub known : IsKnown cs k
  pub kept : Keeps cs k.clauses
  pub true_ones : (f : Formula) → set.has r.left f ≡ true → occurs cs f ≡ true
  pub open_ones : (f : Formula) → among fs f ≡ true → occurs cs f ≡ true
  pub valued : (f : Formula) → occurs cs f ≡ true → ((set.has r.left f || set.has r.right f) || among fs f) ≡ true

-- a known clause is false, and what was known still is
pub record IsConflict (cs : List Sequent) (r : Partial) (k l : Known) (n : ℕ) (c : Sequent) : Type 0 where
  pub known : IsKnown cs l
  pub kept : Keeps k.clauses l.clauses
  pub there : slice_get l.clauses n ≡ Some c
  pub false_there : IsSubsequent c r

-- the outcome is right
abbrev pub IsRight : List Sequent → Partial → Known → Outcome → Type 0
IsRight cs r k (satisfied a) = IsModel a cs
IsRight cs r k (conflict l n c) = IsConflict cs r k l n c

or-false : (b : Bool) → (b || false) ≡ true → b ≡ true
or-false true e = refl
or-false false e = e

-- where each atom has a value and no clause is false
model_by_places : (r : Partial) (cs : List Sequent) → ((f : Formula) → set.has r.left f ≡ true → occurs cs f ≡ true) → ((f : Formula) → occurs cs f ≡ true → (set.has r.left f || set.has r.right f) ≡ true)
    → ((i : ℕ) (c : Sequent) → slice_get cs i ≡ Some c → is_subsequent c r ≡ false) → IsModel r.left cs
model_by_places r cs own valued none = record {
  own = own;
  satisfied = all_hold r.left cs (λ i c at. holds_unless_false r c (none i c at) (λ f m. valued f (occurs_at cs i c f at (or_second (set.has c.left f) (set.has c.right f) m))));
}

none_at : (p : Sequent → Bool) (cs : List Sequent) → list_any p cs ≡ false → (i : ℕ) (c : Sequent) → slice_get cs i ≡ Some c → p c ≡ false
none_at p [] none i c at = cc
none_at p (d ∷ ds) none zero c at = let same : d ≡ c = cc in ap p (sym same) ∙ (or_parts (p d) (list_any p ds) none).0
none_at p (d ∷ ds) none (suc i) c at = none_at p ds (or_parts (p d) (list_any p ds) none).1 i c at

pub model_of : (r : Partial) (cs : List Sequent) → ((f : Formula) → set.has r.left f ≡ true → occurs cs f ≡ true) → ((f : Formula) → occurs cs f ≡ true → (set.has r.left f || set.has r.right f) ≡ true)
    → list_any (λ c. is_subsequent c r) cs ≡ false → IsModel r.left cs
model_of r cs own valued none = model_by_places r cs own valued (none_at (λ c. is_subsequent c r) cs none)

model_at_end : (cs : List Sequent) (r : Partial) (k : Known) → IsState cs r [] k → ((i : ℕ) (c : Sequent) → slice_get k.clauses i ≡ Some c → is_subsequent c r ≡ false) → IsModel r.left cs
model_at_end cs r k s none = model_by_places r cs s.true_ones (λ f m. or-false _ (s.valued f m)) (λ i c at. none i c (s.kept i c at))

-- the atom that is taken

pub chosen_among : (a f : Formula) (fs : List Formula) → among (f ∷ fs) (chosen a f fs) ≡ true
chosen_among a f fs = elim (among (f ∷ fs) a) as (λ b. among (f ∷ fs) a ≡ b → among (f ∷ fs) (if b then a else f) ≡ true) [
  | true ↦ λ e. e
  | false ↦ λ _. or_first (eq_by_cmp formula_cmp f f) (among fs f) (tied f f refl)
] refl

-- a list without one of its formulas is shorter
pub fewer : (a : Formula) (fs : List Formula) → among fs a ≡ true → length (others_than a fs) < length fs
fewer a [] e = cc
fewer a (f ∷ fs) e =
    elim (eq_by_cmp formula_cmp a f) as (λ b. (b || among fs a) ≡ true → length (cond (negated b) (f ∷ others_than a fs) (others_than a fs)) < length (f ∷ fs)) [
      | true ↦ λ _.
          let others = length-filter_both (λ g. negated (eq_by_cmp formula_cmp a g)) (λ g. negated (negated (eq_by_cmp formula_cmp a g))) (λ _. refl) fs in
          let here : length (others_than a fs) < length (f ∷ fs) = omega (arith, others) in
          here
      | false ↦ λ later.
          let others = fewer a fs later in
          let here : length (f ∷ others_than a fs) < length (f ∷ fs) = omega (arith, others) in
          here
    ] e

-- what it has are the other formulas
others : (a : Formula) (fs : List Formula) (f : Formula) → among (others_than a fs) f ≡ (negated (eq_by_cmp formula_cmp a f) && among fs f)
others a fs f = any-filter_same (eq_by_cmp formula_cmp f) (λ g. negated (eq_by_cmp formula_cmp a g)) (negated (eq_by_cmp formula_cmp a f)) (λ g e. ap (λ h. negated (eq_by_cmp formula_cmp a h)) (sym (equal f g e))) fs

and_second : (a b : Bool) → (a && b) ≡ true → b ≡ true
and_second true b e = e
and_second false b e = cc

-- an atom of the list is given a value

module _ (cs : List Sequent) (r : Partial) (fs : List Formula) (k : Known) (s : IsState cs r fs k) (a : Formula) (m : among fs a ≡ true) where
  others_open : (f : Formula) → among (others_than a fs) f ≡ true → occurs cs f ≡ true
  others_open f e = s.open_ones f (and_second (negated (eq_by_cmp formula_cmp a f)) (among fs f) (sym (others a fs f) ∙ e))

  -- the atom itself, or one that is still in the list
  taken_or_open : (x y z : Formula → Bool) → ((f : Formula) → x f ≡ true → z f ≡ true) → ((f : Formula) → y f ≡ true → z f ≡ true) → z a ≡ true
      → (f : Formula) → ((x f || y f) || among fs f) ≡ true → (z f || among (others_than a fs) f) ≡ true
  taken_or_open x y z in_x in_y own f e = either (x f || y f) (among fs f)
      (λ d. or_first (z f) (among (others_than a fs) f) (either (x f) (y f) (in_x f) (in_y f) d))
      (λ d. split (eq_by_cmp formula_cmp a f)
      (λ is. or_first (z f) (among (others_than a fs) f) (ap z (sym (equal a f is)) ∙ own))
      (λ apart. or_second (z f) (among (others_than a fs) f) (others a fs f ∙ and_from (negated (eq_by_cmp formula_cmp a f)) (among fs f) (ap negated apart) d)))
      e

  pub with_true : IsState cs (adds_to r Left a) (others_than a fs) k
  with_true = record {
    known = s.known;
    kept = s.kept;
    true_ones = λ f e. either (eq_by_cmp formula_cmp f a) (set.has r.left f) (λ is. ap (occurs cs) (equal f a is) ∙ s.open_ones a m) (s.true_ones f) (sym (has-adds formula_total r.left a f) ∙ e);
    open_ones = others_open;
    valued = λ f e. taken_or_open (set.has r.left) (set.has r.right) (λ g. set.has (set.adds r.left a) g || set.has r.right g)
        (λ g d. or_first (set.has (set.adds r.left a) g) (set.has r.right g) (stays r.left a g d))
        (λ g d. or_second (set.has (set.adds r.left a) g) (set.has r.right g) d)
        (or_first (set.has (set.adds r.left a) a) (set.has r.right a) (added r.left a))
        f (s.valued f e);
  }

  pub with_false : (l : Known) → IsKnown cs l → Keeps k.clauses l.clauses → IsState cs (adds_to r Right a) (others_than a fs) l
  with_false l known kept = record {
    known = known;
    kept = λ i c at. kept i c (s.kept i c at);
    true_ones = s.true_ones;
    open_ones = others_open;
    valued = λ f e. taken_or_open (set.has r.left) (set.has r.right) (λ g. set.has r.left g || set.has (set.adds r.right a) g)
        (λ g d. or_first (set.has r.left g) (set.has (set.adds r.right a) g) d)
        (λ g d. or_second (set.has r.left g) (set.has (set.adds r.right a) g) (stays r.right a g d))
        (or_second (set.has r.left a) (set.has (set.adds r.right a) a) (added r.right a))
        f (s.valued f e);
  }

-- both values of an atom

-- what a resolution derives
pub resolves : (cs ds : List Sequent) (i n : ℕ) (a : Formula) (d c : Sequent) → slice_get ds i ≡ Some d → slice_get ds n ≡ Some c → set.has d.right a ≡ true → set.has c.left a ≡ true
    → derives cs ds (Resolve i n a) ≡ Ok (resolvent d c a)
resolves cs ds i n a d c first second right left =
    ap (λ o. referred o (λ p. referred (slice_get ds n) (λ q. resolved_on a p q))) first
    ∙ ap (λ o. referred o (λ q. resolved_on a d q)) second
    ∙ ap (λ b. if◌then◌else◌ {A = Result Sequent ResCause} b (Ok (resolvent d c a)) (Err AtomMissing)) (and_from (set.has d.right a) (set.has c.left a) right left)

module _ (cs : List Sequent) (r : Partial) (a : Formula) (k : Known) where
  module _ (l : Known) (n : ℕ) (c : Sequent) (h : IsConflict cs (adds_to r Left a) k l n c) (left : set.has c.left a ≡ true) where
    joined_right : (j : Known) (i : ℕ) (d : Sequent) → IsConflict cs (adds_to r Right a) l j i d → (b : Bool) → set.has d.right a ≡ b
        → IsRight cs r k (if b then conflict (with_step j (Resolve i n a) (resolvent d c a)) (length j.clauses) (resolvent d c a) else conflict j i d)
    joined_right j i d g true right = record {
      known = known_step cs j (Resolve i n a) (resolvent d c a) g.known (resolves cs j.clauses i n a d c g.there (g.kept n c h.there) right left);
      kept = λ p e at. kept_front j.clauses (resolvent d c a ∷ []) p e (g.kept p e (h.kept p e at));
      there = at_end j.clauses (resolvent d c a) [];
      false_there = resolvent_false r a d c h.false_there g.false_there;
    }
    joined_right j i d g false out = record {
      known = g.known;
      kept = λ p e at. g.kept p e (h.kept p e at);
      there = g.there;
      false_there = false_without_right r a d g.false_there out;
    }

    after_false_right : (o : Outcome) → IsRight cs (adds_to r Right a) l o → IsRight cs r k (after_false a n c o)
    after_false_right (satisfied m) g = g
    after_false_right (conflict j i d) g = joined_right j i d g (set.has d.right a) refl

  after_conflict : (l : Known) (n : ℕ) (c : Sequent) → IsConflict cs (adds_to r Left a) k l n c → (o : Outcome) → IsRight cs (adds_to r Right a) l o → (b : Bool) → set.has c.left a ≡ b
      → IsRight cs r k (if b then after_false a n c o else conflict l n c)
  after_conflict l n c h o g true left = after_false_right l n c h left o g
  after_conflict l n c h o g false out = record { known = h.known; kept = h.kept; there = h.there; false_there = false_without_left r a c h.false_there out }

  after_true_right : (go_on : Known → Outcome) → ((l : Known) → IsKnown cs l → Keeps k.clauses l.clauses → IsRight cs (adds_to r Right a) l (go_on l))
      → (o : Outcome) → IsRight cs (adds_to r Left a) k o → IsRight cs r k (after_true a go_on o)
  after_true_right go_on next (satisfied m) h = h
  after_true_right go_on next (conflict l n c) h = after_conflict l n c h (go_on l) (next l h.known h.kept) (set.has c.left a) refl

-- one turn, where the turns after it are right

module _ (cs : List Sequent) (n : ℕ) (look : Partial → List Formula → Known → Outcome)
    (right : (r : Partial) (fs : List Formula) (k : Known) → length fs < n → IsState cs r fs k → IsRight cs r k (look r fs k))
  where
    pub branch_right : (r : Partial) (fs : List Formula) (k : Known) (a : Formula) → among fs a ≡ true → length fs < suc n → IsState cs r fs k → IsRight cs r k (branch look a r (others_than a fs) k)
    branch_right r fs k a m below s =
        let less : length (others_than a fs) < n = omega (arith, fewer a fs m, below) in
        after_true_right cs r a k (look (adds_to r Right a) (others_than a fs))
        (λ l known kept. right (adds_to r Right a) (others_than a fs) l less (with_false cs r fs k s a m l known kept))
        (look (adds_to r Left a) (others_than a fs) k)
        (right (adds_to r Left a) (others_than a fs) k less (with_true cs r fs k s a m))

    by_first : (choose : Choice) (r : Partial) (fs : List Formula) (k : Known) → length fs < suc n → IsState cs r fs k → (o : Option (ℕ × Sequent)) → IsFirst r k.clauses o
        → IsRight cs r k (by_conflict k o (by_atoms look choose r fs k))
    by_first choose r [] k below s None h = model_at_end cs r k s h
    by_first choose r (f ∷ fs) k below s None h = branch_right r (f ∷ fs) k (chosen (choose k r (f ∷ fs)) f fs) (chosen_among (choose k r (f ∷ fs)) f fs) below s
    by_first choose r fs k below s (Some e) h = record { known = s.known; kept = λ i c at. at; there = h.0; false_there = h.1 }

    visit_right : (choose : Choice) (r : Partial) (fs : List Formula) (k : Known) → length fs < suc n → IsState cs r fs k → IsRight cs r k (visit look choose r fs k)
    visit_right choose r fs k below s = by_first choose r fs k below s (first_false r k.clauses) (first_right r k.clauses)

within_right : (cs : List Sequent) (choose : Choice) (n : ℕ) (r : Partial) (fs : List Formula) (k : Known) → length fs < n → IsState cs r fs k → IsRight cs r k (search_within choose n r fs k)
unfolding search_within
within_right cs choose zero r fs k below s = absurd (omega arith)
within_right cs choose (suc n) r fs k below s = visit_right cs n (search_within choose n) (within_right cs choose n) choose r fs k below s

pub search_right : (cs : List Sequent) (choose : Choice) (r : Partial) (fs : List Formula) (k : Known) → IsState cs r fs k → IsRight cs r k (search_from choose r fs k)
unfolding search_from
search_right cs choose r fs k s = within_right cs choose (suc (length fs)) r fs k (omega arith) s

-- at the start

pub state_at_start : (cs : List Sequent) → IsState cs empty (atoms_of cs) (inputs cs)
state_at_start cs = record {
  known = inputs_known cs;
  kept = λ i c at. at;
  true_ones = λ f e. absurd (both_ways (set.has (set.empty {R = formula_cmp}) f) (has-empty formula_cmp f) e);
  open_ones = λ f e. sym (listed cs f) ∙ e;
  valued = λ f e. or_second (set.has (set.empty {R = formula_cmp}) f || set.has (set.empty {R = formula_cmp}) f) (among (atoms_of cs) f) (listed cs f ∙ e);
}

answer_right : (cs : List Sequent) (o : Outcome) → IsRight cs empty (inputs cs) o → IsAnswer cs (answer_of o)
answer_right cs (satisfied a) h = h
answer_right cs (conflict k n c) h = cut cs k n h.known (h.there ∙ ap Some (false_at_start c h.false_there))

pub answered : (choose : Choice) (cs : List Sequent) → IsAnswer cs (decide choose cs)
unfolding decide
answered choose cs = answer_right cs (search_from choose empty (atoms_of cs) (inputs cs)) (search_right cs choose empty (atoms_of cs) (inputs cs) (state_at_start cs))
