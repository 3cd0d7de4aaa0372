-- Images of open classes are larger than those of the parts whose values are made next.
use Rattle.std.proofs.Common.{◌≡◌, ℕ, ◌<◌, ◌≤◌, List, length, sym, ap, ◌∙◌, arith}
use Rattle.std.specs.Prelude.{Option, slice_set}
use Rattle.std.proofs.lemmas.Option.{slice_get_within}
use Rattle.fol.specs.declared.symbols.Var.{Var}
use Rattle.fol.specs.Syntax.{Term, app, cons}
use Rattle.unify_laws.specs.Equations.{Equation, Unifies}
use Rattle.arena_cells.specs.Items.{Item, term, terms}
use Rattle.arena_cells.specs.Standing.{Extends}
use Rattle.arena_cells.proofs.Staying.{item_is, symbol_stays, term_stays, terms_stay}
use Rattle.arena_cells.proofs.Facts.{symbol_there, term_there, terms_there}
use Rattle.fol_unify.specs.declared.values.Mark.{Mark}
use Rattle.fol_unify.specs.declared.values.Mark.TheVariants.{Open}
use Rattle.fol_unify.specs.Classes.{next}
use Rattle.fol_unify.specs.Solving.{image_item, image_at, AreSolved}
use Rattle.fol_unify.specs.Shapes.{IsApplication, IsFront}
use Rattle.fol_unify.specs.Values.{IsOpen, item_nodes, AreAbove, AreNotBelow, MarksGrow}
use Rattle.fol_unify.proofs.Solved.{item_stays}
use Rattle.fol_unify.proofs.Marks.{get_after}

module _ (a : List Item) (es : List Equation) (rs : List ℕ) (s : AreSolved a es rs) (ms : List Mark) where
  -- a class that is open while a part of it is made is made equal to a part of itself
  pub open_clash : (n : ℕ) → n < length rs → AreAbove a es ms n → IsOpen ms (next rs n) → (h : Var → Option Term) → Unifies h es → ⊥
  open_clash n below above opened h all =
      let less = above (next rs n) opened h all in
      let same = ap item_nodes (s.sound h all n below) in
      omega (arith, less, same)

  -- the class of a part is opened
  pub opened_not_below : (n : ℕ) → n < length rs → next rs n < length ms → AreAbove a es ms n → AreNotBelow a es (slice_set ms (next rs n) Open) (next rs n)
  opened_not_below n below rb above q opened h all =
      get_after (item_nodes (image_at a h (next rs n)) ≤ item_nodes (image_at a h q)) ms (next rs n) Open q Open rb opened
      (λ same _. let e = ap (λ k. item_nodes (image_at a h k)) same in omega (arith, e))
      (λ _ old. let less = above q old h all in let same = ap item_nodes (s.sound h all n below) in omega (arith, less, same))

  pub arguments_above : (r f ts : ℕ) → IsApplication a r f ts → AreNotBelow a es ms r → AreAbove a es ms ts
  arguments_above r f ts is not_below q opened h all =
      let over = not_below q opened h all in
      let whole = ap (λ i. item_nodes (image_item h i)) is.item in
      let part = ap (λ i. item_nodes (image_item h i)) (item_is a ts _ is.arguments_there) in
      omega (arith, over, whole, part)

  pub first_above : (r t ts : ℕ) → IsFront a r t ts → AreNotBelow a es ms r → AreAbove a es ms t
  first_above r t ts is not_below q opened h all =
      let over = not_below q opened h all in
      let whole = ap (λ i. item_nodes (image_item h i)) is.item in
      let part = ap (λ i. item_nodes (image_item h i)) (item_is a t _ is.first_there) in
      omega (arith, over, whole, part)

  pub rest_above : (r t ts : ℕ) → IsFront a r t ts → AreNotBelow a es ms r → AreAbove a es ms ts
  rest_above r t ts is not_below q opened h all =
      let over = not_below q opened h all in
      let whole = ap (λ i. item_nodes (image_item h i)) is.item in
      let part = ap (λ i. item_nodes (image_item h i)) (item_is a ts _ is.rest_there) in
      omega (arith, over, whole, part)

-- later

module _ (a b : List Item) (es : List Equation) (rs : List ℕ) (grown : Extends a b) (s : AreSolved a es rs) (ms ns : List Mark) (marks : MarksGrow ms ns) (so_many : length ms ≡ length rs) where
  pub not_below_stays : (r : ℕ) → r < length rs → AreNotBelow a es ms r → AreNotBelow b es ns r
  not_below_stays r below not_below q opened h all =
      let old = marks.were_open q opened in
      let inside : q < length ms = slice_get_within ms q Open old in
      let over = not_below q old h all in
      let at_r = ap (λ i. item_nodes (image_item h i)) (item_stays a b es rs grown s r below) in
      let at_q = ap (λ i. item_nodes (image_item h i)) (item_stays a b es rs grown s q (omega (arith, inside, so_many))) in
      omega (arith, over, at_r, at_q)

  pub application_stays : (r f ts : ℕ) → r < length rs → IsApplication a r f ts → IsApplication b r f ts
  application_stays r f ts below is = record {
    item = item_stays a b es rs grown s r below ∙ is.item ∙ sym (λ i. term (app (symbol_stays a b grown f is.symbol_there i) (terms_stay a b grown ts is.arguments_there i)));
    symbol_there = symbol_there b f _ (grown f _ is.symbol_there);
    arguments_there = terms_there b ts _ (grown ts _ is.arguments_there);
    below = is.below;
  }

  pub front_stays : (r t ts : ℕ) → r < length rs → IsFront a r t ts → IsFront b r t ts
  front_stays r t ts below is = record {
    item = item_stays a b es rs grown s r below ∙ is.item ∙ sym (λ i. terms (cons (term_stays a b grown t is.first_there i) (terms_stay a b grown ts is.rest_there i)));
    first_there = term_there b t _ (grown t _ is.first_there);
    rest_there = terms_there b ts _ (grown ts _ is.rest_there);
    first_below = is.first_below;
    rest_below = is.rest_below;
  }
