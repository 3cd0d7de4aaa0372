-- What is replied tells what an operation came to.
use Rattle.std.proofs.Common.{◌≡◌, true, false, refl, sym, ap, ◌∙◌}
use Rattle.reply_lines.specs.Replies.{is_ok_outcome}
use Rattle.reply_lines.specs.OneLine.{is_want}
use Rattle.operation_laws.specs.declared.refusals.Refusal.{Refusal}
use Rattle.operation_laws.specs.declared.refusals.Refusal.TheVariants.{UnknownName, Kind, Empty, Step}
use Rattle.operation_laws.specs.declared.refusals.Failure.TheVariants.{Budget, Unproved, Refutation, Quantified, Falsified, Node, Root, EigenTwice, EigenFree, Cycle, Cut, Defined, Partition, NotPrenex, TooMany, DefTwice, DefFree, DefLarge, NotGround, Rounds}
use Rattle.operation_laws.specs.Answers.{Product, proof, reduced, problem, proves, steps, sizes, expansion, nodes, interpolant, herbrand, introduced, definition, model, refutation, derivation, saturated, Answer, refused, failed, lacking, product, shown_refusal, shown}

-- no refusal is want of memory
refusal_is : (r : Refusal) → is_want (shown_refusal r) ≡ false
refusal_is (UnknownName text) = refl
refusal_is (Kind text) = refl
refusal_is Empty = refl
refusal_is (Step i cause) = refl

-- a reply is want of memory just where memory ran out
pub want_by : (a : Answer) → is_want (shown a) ≡ true → a ≡ lacking
want_by (refused r) want = let none : false ≡ true = sym (refusal_is r) ∙ want in cc
want_by (failed Budget) want = cc
want_by (failed (Unproved r)) want = let none : false ≡ true = sym (refusal_is r) ∙ want in cc
want_by (failed (Refutation i cause)) want = cc
want_by (failed (Quantified f side)) want = cc
want_by (failed (Falsified atoms)) want = cc
want_by (failed (Node i cause)) want = cc
want_by (failed (Root i cause)) want = cc
want_by (failed (EigenTwice v)) want = cc
want_by (failed (EigenFree v)) want = cc
want_by (failed (Cycle vs)) want = cc
want_by (failed (Cut step)) want = cc
want_by (failed (Defined f side)) want = cc
want_by (failed (Partition f side)) want = cc
want_by (failed (NotPrenex f side)) want = cc
want_by (failed (TooMany k)) want = cc
want_by (failed (DefTwice text)) want = cc
want_by (failed (DefFree v)) want = cc
want_by (failed DefLarge) want = cc
want_by (failed (NotGround i)) want = cc
want_by (failed Rounds) want = cc
want_by lacking want = refl
want_by (product (proof t)) want = cc
want_by (product (reduced t n)) want = cc
want_by (product (problem p)) want = cc
want_by (product (proves b)) want = cc
want_by (product (steps list)) want = cc
want_by (product (sizes cuts distinct quants size)) want = cc
want_by (product (expansion x)) want = cc
want_by (product (nodes flat)) want = cc
want_by (product (interpolant f t u)) want = cc
want_by (product (herbrand k s)) want = cc
want_by (product (introduced t b)) want = cc
want_by (product (definition s f)) want = cc
want_by (product (model atoms)) want = cc
want_by (product (refutation list t)) want = cc
want_by (product (derivation list t)) want = cc
want_by (product (saturated ks)) want = cc

pub want_shown : (a : Answer) → a ≡ lacking → is_want (shown a) ≡ true
want_shown a is = ap (λ b. is_want (shown b)) is

-- no refusal is an Ok reply
refusal_no : (r : Refusal) → is_ok_outcome (shown_refusal r) ≡ false
refusal_no (UnknownName text) = refl
refusal_no (Kind text) = refl
refusal_no Empty = refl
refusal_no (Step i cause) = refl

-- a reply that is no error shows a product
pub ok_by : (a : Answer) → is_ok_outcome (shown a) ≡ true → (p : Product) × (a ≡ product p)
ok_by (refused r) ok = let none : false ≡ true = sym (refusal_no r) ∙ ok in cc
ok_by (failed Budget) ok = cc
ok_by (failed (Unproved r)) ok = let none : false ≡ true = sym (refusal_no r) ∙ ok in cc
ok_by (failed (Refutation i cause)) ok = cc
ok_by (failed (Quantified f side)) ok = cc
ok_by (failed (Falsified atoms)) ok = cc
ok_by (failed (Node i cause)) ok = cc
ok_by (failed (Root i cause)) ok = cc
ok_by (failed (EigenTwice v)) ok = cc
ok_by (failed (EigenFree v)) ok = cc
ok_by (failed (Cycle vs)) ok = cc
ok_by (failed (Cut step)) ok = cc
ok_by (failed (Defined f side)) ok = cc
ok_by (failed (Partition f side)) ok = cc
ok_by (failed (NotPrenex f side)) ok = cc
ok_by (failed (TooMany k)) ok = cc
ok_by (failed (DefTwice text)) ok = cc
ok_by (failed (DefFree v)) ok = cc
ok_by (failed DefLarge) ok = cc
ok_by (failed (NotGround i)) ok = cc
ok_by (failed Rounds) ok = cc
ok_by lacking ok = cc
ok_by (product p) ok = (p, refl)

shown_ok : (p : Product) → is_ok_outcome (shown (product p)) ≡ true
shown_ok (proof t) = refl
shown_ok (reduced t n) = refl
shown_ok (problem p) = refl
shown_ok (proves b) = refl
shown_ok (steps list) = refl
shown_ok (sizes cuts distinct quants size) = refl
shown_ok (expansion x) = refl
shown_ok (nodes flat) = refl
shown_ok (interpolant f t u) = refl
shown_ok (herbrand k s) = refl
shown_ok (introduced t b) = refl
shown_ok (definition s f) = refl
shown_ok (model atoms) = refl
shown_ok (refutation list t) = refl
shown_ok (derivation list t) = refl
shown_ok (saturated ks) = refl

pub product_ok : (a : Answer) (p : Product) → a ≡ product p → is_ok_outcome (shown a) ≡ true
product_ok a p is = ap (λ b. is_ok_outcome (shown b)) is ∙ shown_ok p
