-- One more step, and what it derives; and steps that end with the empty clause.
use Rattle.std.proofs.Common.{◌≡◌, ℕ, zero, suc, ◌+◌, ◌-◌, true, if◌then◌else◌, List, [], ◌∷◌, ◌++◌, length, map, refl, sym, ap, subst, ◌∙◌}
use Rattle.std.specs.Prelude.{Some, Result, Ok, Err, slice_get}
use Rattle.std.specs.FinMap as fin
use Rattle.std.proofs.lemmas.List.{length_push}
use Rattle.std.proofs.lemmas.List.Elements.{All-nil, All-push}
use Rattle.fol.specs.Syntax.{Formula}
use Rattle.fol.specs.Formed.{IsFormed}
use Rattle.finite.specs.Finite as set
use Rattle.lk_rules.specs.declared.sequent.Sequent.{Sequent}
use Rattle.lk_rules.specs.Sequents.{empty, same_sequents, union_sequent, image_sequent}
use Rattle.lk_rules.specs.declared.rule.Rule.TheVariants.{Cut}
use Rattle.proof_trees.specs.Trees.{node, none, more}
use Rattle.proof_trees.specs.Substitution.{sub}
use Rattle.substitution.specs.Image.{IsFormedMap}
use Rattle.substitution.specs.Maps.{Map}
use Rattle.substitution.proofs.Booleans.{and_both}
use Rattle.refutations.specs.declared.clause.Clause.{Clause as InputClause}
use Rattle.refutations.specs.declared.step.ResStep.{ResStep}
use Rattle.refutations.specs.declared.step.ResCause.{ResCause}
use Rattle.refutations.specs.declared.step.ResCause.TheVariants.{AtomMissing, NotEmpty}
use Rattle.refutations.specs.declared.step.ResStep.TheVariants.{Input, Subst, Resolve}
use Rattle.refutations.specs.Clauses.{literals_of, closures}
use Rattle.refutations.specs.Refutations.{Derived, of_input, resolvent, of_resolution, referred, derives, and_on, derives_all, concluded, last_of, refutation, IsFormedStep}
use Rattle.res_prover.specs.Deriving.{input_literals, AreDerived, IsRefutationOf}

module _ (is : List InputClause) (g : Sequent) where
  on_from : (out : List Derived) (s : ResStep) (d : Derived) (ds : List Derived) (i : ℕ) (rest : List ResStep) → derives is g out s ≡ Ok d
      → ((e : Derived) → derives_all is g (ds ++ e ∷ []) (suc i) rest ≡ Ok out → derives_all is g (ds ++ e ∷ []) (suc i) (rest ++ s ∷ []) ≡ Ok (out ++ d ∷ []))
      → (r : Result Derived ResCause) → and_on i r (λ e. derives_all is g (ds ++ e ∷ []) (suc i) rest) ≡ Ok out → and_on i r (λ e. derives_all is g (ds ++ e ∷ []) (suc i) (rest ++ s ∷ [])) ≡ Ok (out ++ d ∷ [])
  on_from out s d ds i rest last go_on (Ok e) before = go_on e before
  on_from out s d ds i rest last go_on (Err cause) before = cc

  one_step : (ds : List Derived) (i : ℕ) (s : ResStep) (d : Derived) → derives is g ds s ≡ Ok d → derives_all is g ds i (s ∷ []) ≡ Ok (ds ++ d ∷ [])
  one_step ds i s d last = ap (λ r. and_on i r (λ e. Ok (ds ++ e ∷ []))) last

  one_more : (ds : List Derived) (i : ℕ) (steps : List ResStep) (out : List Derived) (s : ResStep) (d : Derived) → derives_all is g ds i steps ≡ Ok out → derives is g out s ≡ Ok d → derives_all is g ds i (steps ++ s ∷ []) ≡ Ok (out ++ d ∷ [])
  one_more ds i [] out s d before last =
      let same : ds ≡ out = cc in
      subst (λ os. derives_all is g ds i (s ∷ []) ≡ Ok (os ++ d ∷ [])) same (one_step ds i s d (ap (λ os. derives is g os s) same ∙ last))
  one_more ds i (t ∷ rest) out s d before last =
      on_from out s d ds i rest last (λ e now. one_more (ds ++ e ∷ []) (suc i) rest out s d now last) (derives is g ds t) before

at_mapped : {X Y : Type 0} (f : X → Y) (xs : List X) (k : ℕ) (y : Y) → slice_get (map f xs) k ≡ Some y → (x : X) × ((slice_get xs k ≡ Some x) × (y ≡ f x))
at_mapped f [] k y e = absurd cc
at_mapped f (x ∷ xs) zero y e = (x, (refl, cc))
at_mapped f (x ∷ xs) (suc k) y e = at_mapped f xs k y e

clauses_push : (ds : List Derived) (d : Derived) → map (λ (e : Derived). e.clause) (ds ++ d ∷ []) ≡ map (λ (e : Derived). e.clause) ds ++ d.clause ∷ []
clauses_push [] d = refl
clauses_push (e ∷ ds) d = ap (λ cs. e.clause ∷ cs) (clauses_push ds d)

-- no steps derive no clauses
pub none_derived : (cs : List Sequent) → AreDerived cs [] []
none_derived cs = record { formed = All-nil IsFormedStep; so_many = refl; each = λ is lits. record { derived = []; all_derived = refl; clauses = refl } }

-- a step that derives a clause from all that were derived
pub pushed : (cs : List Sequent) (steps : List ResStep) (ds : List Sequent) (s : ResStep) (c : Sequent) → IsFormedStep s → AreDerived cs steps ds
    → ((is : List InputClause) → input_literals is ≡ cs → (old : List Derived) → map (λ (d : Derived). d.clause) old ≡ ds → (d : Derived) × ((derives is (closures is) old s ≡ Ok d) × (d.clause ≡ c)))
    → AreDerived cs (steps ++ s ∷ []) (ds ++ c ∷ [])
pushed cs steps ds s c formed h next = record {
  formed = All-push IsFormedStep steps s h.formed formed;
  so_many = length_push ds c ∙ ap (λ n. n + 1) h.so_many ∙ sym (length_push steps s);
  each = λ is lits.
      let old = h.each is lits in
      let new = next is lits old.derived old.clauses in
      record {
        derived = old.derived ++ new.0 ∷ [];
        all_derived = one_more is (closures is) [] 0 steps old.derived s new.0 old.all_derived new.1.0;
        clauses = clauses_push old.derived new.0 ∙ ap (λ xs. xs ++ new.0.clause ∷ []) old.clauses ∙ ap (λ x. ds ++ x ∷ []) new.1.1;
      };
}

pub pushed_input : (cs : List Sequent) (steps : List ResStep) (ds : List Sequent) (n : ℕ) (c : Sequent) → slice_get cs n ≡ Some c → AreDerived cs steps ds → AreDerived cs (steps ++ Input n ∷ []) (ds ++ c ∷ [])
pushed_input cs steps ds n c here h = pushed cs steps ds (Input n) c tt h (λ is lits old same.
    let found = at_mapped (λ (i : InputClause). literals_of i.matrix) is n c (ap (λ xs. slice_get xs n) lits ∙ here) in
    (of_input (closures is) found.0, (ap (λ o. referred o (λ i. Ok (of_input (closures is) i))) found.1.0, sym found.1.1)))

pub pushed_image : (cs : List Sequent) (steps : List ResStep) (ds : List Sequent) (n : ℕ) (m : Map) (c : Sequent) → slice_get ds n ≡ Some c → IsFormedMap (fin.get m) → AreDerived cs steps ds → AreDerived cs (steps ++ Subst n m ∷ []) (ds ++ image_sequent (fin.get m) c ∷ [])
pushed_image cs steps ds n m c here formed h = pushed cs steps ds (Subst n m) (image_sequent (fin.get m) c) formed h (λ is lits old same.
    let found = at_mapped (λ (d : Derived). d.clause) old n c (ap (λ xs. slice_get xs n) same ∙ here) in
    let image : Derived = record { clause = image_sequent (fin.get m) found.0.clause; tree = sub found.0.tree m } in
    (image, (ap (λ o. referred o (λ (d : Derived). Ok (record { clause = image_sequent (fin.get m) d.clause; tree = sub d.tree m }))) found.1.0, ap (image_sequent (fin.get m)) (sym found.1.1))))

-- a resolution of two derived clauses on an atom of both
resolved : (g : Sequent) (old : List Derived) (p n : ℕ) (a : Formula) (e f : Derived) (c d : Sequent) → slice_get old p ≡ Some e → slice_get old n ≡ Some f → c ≡ e.clause → d ≡ f.clause → set.has e.clause.right a ≡ true → set.has f.clause.left a ≡ true
    → (x : Derived) × (((referred (slice_get old p) (λ y. referred (slice_get old n) (λ z. of_resolution g y z a))) ≡ Ok x) × (x.clause ≡ resolvent c d a))
resolved g old p n a e f c d first second one two right left =
    let made : Derived = record { clause = resolvent e.clause f.clause a; tree = node (Cut a) (union_sequent g (resolvent e.clause f.clause a)) (more e.tree (more f.tree none)) } in (
      made,
      (
        ap (λ o. referred o (λ y. referred (slice_get old n) (λ z. of_resolution g y z a))) first
            ∙ ap (λ o. referred o (λ z. of_resolution g e z a)) second
            ∙ ap (λ b. if b then Ok made else Err AtomMissing) (and_both (set.has e.clause.right a) (set.has f.clause.left a) right left),
        λ i. resolvent (sym one i) (sym two i) a,
      ),
    )

pub pushed_resolvent : (cs : List Sequent) (steps : List ResStep) (ds : List Sequent) (p n : ℕ) (a : Formula) (c d : Sequent) → slice_get ds p ≡ Some c → slice_get ds n ≡ Some d → set.has c.right a ≡ true → set.has d.left a ≡ true → IsFormed a
    → AreDerived cs steps ds → AreDerived cs (steps ++ Resolve p n a ∷ []) (ds ++ resolvent c d a ∷ [])
pushed_resolvent cs steps ds p n a c d first second on_right on_left formed h = pushed cs steps ds (Resolve p n a) (resolvent c d a) formed h (λ is lits old same.
    let g = closures is in
    let one = at_mapped (λ (e : Derived). e.clause) old p c (ap (λ xs. slice_get xs p) same ∙ first) in
    let two = at_mapped (λ (e : Derived). e.clause) old n d (ap (λ xs. slice_get xs n) same ∙ second) in
    let right : set.has one.0.clause.right a ≡ true = subst (λ (s : Sequent). set.has s.right a ≡ true) one.1.1 on_right in
    let left : set.has two.0.clause.left a ≡ true = subst (λ (s : Sequent). set.has s.left a ≡ true) two.1.1 on_left in
    resolved g old p n a one.0 two.0 c d one.1.0 two.1.0 one.1.1 two.1.1 right left)

-- the last clause is empty

concludes : (is : List InputClause) (steps : List ResStep) (ds : List Derived) (d : Derived) → derives_all is (closures is) [] 0 steps ≡ Ok ds → slice_get ds (length steps - 1) ≡ Some d → same_sequents d.clause empty ≡ true → refutation is steps ≡ Ok d.tree
unfolding refutation
concludes is steps ds d derived last is_empty =
    ap (last_of (length steps)) derived ∙ ap (concluded (length steps)) last ∙ ap (λ b. if b then Ok d.tree else Err (length steps - 1, NotEmpty)) is_empty

pub refuted : (cs : List Sequent) (steps : List ResStep) (ds : List Sequent) (c : Sequent) → AreDerived cs steps ds → slice_get ds (length ds - 1) ≡ Some c → same_sequents c empty ≡ true → IsRefutationOf cs steps
refuted cs steps ds c h last is_empty = record {
  formed = h.formed;
  refutes = λ is lits.
      let end = length steps - 1 in
      let at = h.each is lits in
      let found = at_mapped (λ (d : Derived). d.clause) at.derived end c (ap (λ xs. slice_get xs end) at.clauses ∙ ap (λ n. slice_get ds (n - 1)) (sym h.so_many) ∙ last) in
      (found.0.tree, concludes is steps at.derived found.0 at.all_derived found.1.0 (ap (λ s. same_sequents s empty) (sym found.1.1) ∙ is_empty));
}
