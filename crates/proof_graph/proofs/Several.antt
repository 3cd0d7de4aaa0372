-- What is entered one after another, and the histories to which the references are added.
use Rattle.std.proofs.Common.{◌≡◌, ℕ, List, [], ◌∷◌, ◌++◌, map, refl, sym, ap, ◌∙◌, subst, inl, inr, append_assoc, append-nil}
use Rattle.std.specs.List.{All}
use Rattle.std.proofs.lemmas.List.{map-append}
use Rattle.std.proofs.lemmas.List.Elements.{All-nil, All-cons, All-head, All-rest, All-push, All-weaker, All-map}
use mathlib.Core.List.{IsPrefix}
use Rattle.boxcar.specs.Table.{Shelves}
use Rattle.proof_trees.specs.Trees.{Tree}
use Rattle.turn_log.proofs.Prefixes.{prefix_self, prefix_trans, prefix_contains}
use Rattle.proof_graph.specs.declared.index.Entered.{Entered}
use Rattle.proof_graph.specs.declared.node.Node.{Node}
use Rattle.proof_graph.specs.declared.reference.Draft.{Draft}
use Rattle.proof_graph.specs.References.{Reference, key_of}
use Rattle.proof_graph.specs.History.{StandsAt, StandEach, Adds, AddsEach, AddsFirst}
use Rattle.proof_graph.specs.Drafts.{IsDraftOf, drafted}
use Rattle.proof_graph.specs.Entered.{IsCandidate, IsEntered, key_entered, tree_entered, made_in}
use Rattle.proof_graph.proofs.Standing.{stands_after}

-- what was made of the first elements, and what is to be made of those that are left
module _ {A B : Type 0} (f : A → B) where
  pub moved : (done : List B) (y : B) (x : A) (left rest : List A) (all : List B) → done ++ map f left ≡ all → left ≡ x ∷ rest → y ≡ f x
      → (done ++ y ∷ []) ++ map f rest ≡ all
  moved done y x left rest all before taken is =
      append_assoc done (y ∷ []) (map f rest) ∙ ap (λ z. done ++ z ∷ map f rest) is ∙ ap (λ xs. done ++ map f xs) (sym taken) ∙ before

  pub moved_seen : {C : Type 0} (g : C → B) (done : List C) (y : C) (x : A) (left rest : List A) (all : List B) → map g done ++ map f left ≡ all → left ≡ x ∷ rest
      → g y ≡ f x → map g (done ++ y ∷ []) ++ map f rest ≡ all
  moved_seen g done y x left rest all before taken is =
      ap (λ zs. zs ++ map f rest) (map-append g done (y ∷ [])) ∙ moved (map g done) (g y) x left rest all before taken is

-- a history goes on
grows : (old : List Reference) (key : Node) (r : Reference) (new : List Reference) → Adds old key r new → IsPrefix old new
grows old key r new adds = elim adds [
  | inl known ↦ ([], append-nil old ∙ sym known.1)
  | inr added ↦ (r ∷ [], sym added.1)
]

pub grows_each : (old rs new : List Reference) → AddsEach old rs new → IsPrefix old new
grows_each old [] new same = ([], append-nil old ∙ sym same)
grows_each old (r ∷ rs) new adds = prefix_trans old adds.0 new (grows old (key_of r) r adds.0 adds.1) (grows_each adds.0 rs new adds.2)

-- one reference more
adds_push : (old rs now : List Reference) (r : Reference) (new : List Reference) → AddsEach old rs now → Adds now (key_of r) r new → AddsEach old (rs ++ r ∷ []) new
adds_push old [] now r new before adds = (new, subst (λ (h : List Reference). Adds h (key_of r) r new) before adds, refl)
adds_push old (s ∷ rs) now r new before adds = (before.0, before.1, adds_push before.0 rs now r new before.2 adds)

-- what stands in a history stands in one that goes on from it
pub stands_on : (old new : List Reference) (key : Node) (n : ℕ) → IsPrefix old new → StandsAt old key n → StandsAt new key n
stands_on old new key n grown there = (there.0, prefix_contains old new there.0 grown there.1, there.2, there.3)

-- the key of each reference stands at its number
pub stand_each : (old rs new : List Reference) → AddsEach old rs new → StandEach new rs
stand_each old [] new adds = All-nil (λ r. StandsAt new (key_of r) r.number)
stand_each old (r ∷ rs) new adds =
    let here : StandsAt adds.0 (key_of r) r.number = stands_after old adds.0 (key_of r) r refl (old, prefix_self old, adds.1) in
    All-cons (λ s. StandsAt new (key_of s) s.number) r rs (stands_on adds.0 new (key_of r) r.number (grows_each adds.0 rs new adds.2) here) (stand_each adds.0 rs new adds.2)

pub stand_on : (old new rs : List Reference) → IsPrefix old new → StandEach old rs → StandEach new rs
stand_on old new rs grown stand =
    All-weaker (λ (r : Reference). StandsAt old (key_of r) r.number) (λ r. StandsAt new (key_of r) r.number) (λ r there. stands_on old new (key_of r) r.number grown there) rs stand

-- the first elements of a list are entered, and the others are left
module _ {A : Type 0} (Good : A → Type 0) (key : A → Node) (tree : A → Tree) (Made : Entered → Type 0) (key_made : Entered → Node) where
  pub record AreEntering (old : List Reference) (all left : List A) (done : List Entered) (now : List Reference) : Type 0 where
    pub good : All Good left
    pub made : All Made done
    pub keys : map key_made done ++ map key left ≡ map key all
    pub trees : map tree_entered done ++ map tree left ≡ map tree all
    pub adds : AddsEach old (made_in done) now

  -- none is entered yet
  pub none_entered : (old : List Reference) (all left : List A) (done : List Entered) → left ≡ all → done ≡ [] → All Good all → AreEntering old all left done old
  none_entered old all left done is empty good = record {
    good = subst (All Good) (sym is) good;
    made = subst (All Made) (sym empty) (All-nil Made);
    keys = ap (λ (es : List Entered). map key_made es ++ map key left) empty ∙ ap (map key) is;
    trees = ap (λ (es : List Entered). map tree_entered es ++ map tree left) empty ∙ ap (map tree) is;
    adds = subst (λ (es : List Entered). AddsEach old (made_in es) old) (sym empty) refl;
  }

  -- one more is entered
  pub one_entered : (old : List Reference) (all left : List A) (done : List Entered) (now : List Reference) (x : A) (rest : List A) (e : Entered) (new : List Reference)
      → AreEntering old all left done now → left ≡ x ∷ rest → Made e → key_made e ≡ key x → tree_entered e ≡ tree x → Adds now (key_of e.made) e.made new
      → AreEntering old all rest (done ++ e ∷ []) new
  one_entered old all left done now x rest e new before taken is same_key same_tree adds =
      let made : made_in (done ++ e ∷ []) ≡ made_in done ++ e.made ∷ [] = map-append (λ (y : Entered). y.made) done (e ∷ []) in
      record {
        good = All-rest Good x rest left taken before.good;
        made = All-push Made done e before.made is;
        keys = moved_seen key key_made done e x left rest (map key all) before.keys taken same_key;
        trees = moved_seen tree tree_entered done e x left rest (map tree all) before.trees taken same_tree;
        adds = subst (λ rs. AddsEach old rs new) (sym made) (adds_push old (made_in done) now e.made new before.adds adds);
      }

-- the first drafts of a list are entered by their fingerprints
abbrev pub AreEnteringDrafts : Shelves → List Reference → List (Node × Draft) → List (Node × Draft) → List Entered → List Reference → Type 0
AreEnteringDrafts nodes = AreEntering (λ (d : Node × Draft). IsDraftOf nodes d.0 d.1) (λ d. d.0) (λ d. drafted d.1) (IsCandidate nodes) key_entered

-- the first of what was left over are entered by their keys
abbrev pub AreEnteringLeft : Shelves → List Reference → List Entered → List Entered → List Entered → List Reference → Type 0
AreEnteringLeft nodes = AreEntering (IsCandidate nodes) key_entered tree_entered (IsEntered nodes) (λ e. key_of e.made)

-- what holds of each holds of the next one
pub next_good : {A : Type 0} (Good : A → Type 0) (left : List A) (x : A) (rest : List A) → All Good left → left ≡ x ∷ rest → Good x
next_good Good left x rest good taken = All-head Good x rest (subst (All Good) taken good)

-- a history that goes on from an old one does so by references of none of some keys at least
pub adds_none : (old : List Reference) (keys : List Node) (new : List Reference) → IsPrefix old new → AddsFirst old keys new
adds_none old keys new grown = ([], (keys, refl), (new, grown, refl))

-- the references are of the graph
pub made_home : (nodes : Shelves) (done : List Entered) → All (IsEntered nodes) done → All (λ r. r.home ≡ nodes) (made_in done)
made_home nodes done entered =
    All-map (λ (r : Reference). r.home ≡ nodes) (λ (e : Entered). e.made) done (All-weaker (IsEntered nodes) (λ e. e.made.home ≡ nodes) (λ e is. is.home) done entered)
