-- Candidates that were compared with the keys that were asked for.
use Rattle.std.proofs.Common.{◌≡◌, Bool, List, [], ◌∷◌, map, refl, sym, ap, ◌∙◌, subst}
use Rattle.std.specs.Prelude.{Option, Some, None, ◌↔◌, IsTrue, IfSome}
use Rattle.std.specs.List.{All}
use Rattle.std.proofs.lemmas.List.Elements.{All-head, All-tail}
use mathlib.Core.List.{IsPrefix}
use Rattle.turn_log.proofs.Prefixes.{prefix_trans}
use Rattle.proof_graph.specs.declared.index.Entered.{Entered}
use Rattle.proof_graph.specs.declared.node.Node.{Node}
use Rattle.proof_graph.specs.declared.reference.Draft.{Draft}
use Rattle.proof_graph.specs.References.{Reference, key_of}
use Rattle.proof_graph.specs.History.{AddsAtMost, AddsAtMostEach}
use Rattle.proof_graph.specs.Entered.{IsRight, key_or, key_entered, made_in}

key_at : (n : Node) (left : Option (Node × Draft)) → IfSome left (λ l. n ≡ l.0) → n ≡ key_or n left
key_at n None right = refl
key_at n (Some l) right = right

-- a candidate that is right is the reference of the key
pub right_key : (e : Entered) → IsRight e → key_of e.made ≡ key_entered e
right_key e right = key_at (key_of e.made) e.left right

-- the same of several
pub right_keys : (es : List Entered) → All IsRight es → map key_of (made_in es) ≡ map key_entered es
right_keys [] right = refl
right_keys (e ∷ es) right = λ i. right_key e (All-head IsRight e es right) i ∷ right_keys es (All-tail IsRight e es right) i

-- what a reference adds, an equal one adds for an equal key
pub adds_as : (old : List Reference) (mine key : Node) (made r : Reference) (new : List Reference) → mine ≡ key → r ≡ made → AddsAtMost old mine made new → AddsAtMost old key r new
adds_as old mine key made r new is same adds =
    subst (λ (s : Reference). AddsAtMost old key s new) (sym same) (subst (λ (n : Node). AddsAtMost old n made new) is adds)

-- a history that goes on from a later one goes on from an earlier one
pub adds_later : (old mid : List Reference) (key : Node) (r : Reference) (new : List Reference) → IsPrefix old mid → AddsAtMost mid key r new → AddsAtMost old key r new
adds_later old mid key r new grown adds = (adds.0, prefix_trans old mid adds.0 grown adds.1, adds.2)

pub adds_later_each : (old mid rs new : List Reference) → IsPrefix old mid → AddsAtMostEach mid rs new → AddsAtMostEach old rs new
adds_later_each old mid rs new grown adds = (adds.0, prefix_trans old mid adds.0 grown adds.1, adds.2)

-- a test of the key that is left over is one of whether the reference is right
pub right_by : (e : Entered) (key : Node) (draft : Draft) (mine : Node) (b : Bool) → e.left ≡ Some (key, draft) → mine ≡ key_of e.made → (IsTrue b ↔ (mine ≡ key))
    → (IsTrue b ↔ IsRight e)
right_by e key draft mine b is at test = (
  λ yes. subst (λ (l : Option (Node × Draft)). IfSome l (λ x. key_of e.made ≡ x.0)) (sym is) (sym at ∙ test.0 yes),
  λ right. test.1 (at ∙ subst (λ (l : Option (Node × Draft)). IfSome l (λ x. key_of e.made ≡ x.0)) is right),
)

-- the key that is left over is what was asked for
pub key_left : (e : Entered) (key : Node) (draft : Draft) → e.left ≡ Some (key, draft) → key ≡ key_entered e
key_left e key draft is = sym (ap (key_or (key_of e.made)) is)
