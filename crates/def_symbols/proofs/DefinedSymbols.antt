-- The answer of a call that makes a definition.
use Rattle.std.proofs.Common.{◌≡◌, ℕ, ◌<◌, ◌≤◌, true, false, not as negated, leb, ◌&&◌, List, length, Some, None, Ok, Err, ap, ◌∙◌, arith}
use Rattle.std.proofs.lemmas.Bool.Decides.{nat_tests}
use Rattle.fol.specs.declared.symbols.Var.{Var}
use Rattle.fol.specs.Syntax.{pred, defined, Formula, all}
use Rattle.fol.specs.Facts.{is_open}
use Rattle.fol.specs.Formed.{is_name, is_formed_at, leading_all, IsFormedPred}
use Rattle.substitution.specs.Closing.{closed_over}
use Rattle.substitution.proofs.Booleans.{and_both}
use Rattle.def_laws.specs.declared.fault.DefFault.TheVariants.{Free, Large}
use Rattle.def_laws.specs.Defining.{max_nodes, least_free, defining}
use Rattle.def_laws.specs.Flat.{flat}
use Rattle.def_laws.specs.Nodes.{nodes_of}
use Rattle.def_laws.proofs.Closures.{leading-closed_over, shut-closed_over}
use Rattle.def_laws.proofs.Faults.{least_is, within_of_none, defined_is, free_is, large_is}

above : (m n : ℕ) → leb n m ≡ false → m < n
above m n e = grind (arith, nat_tests)

within : (m n : ℕ) → leb n m ≡ true → n ≤ m
within m n e = grind (arith, nat_tests)

enough : (m n : ℕ) → m ≤ n → leb m n ≡ true
enough m n h = grind (arith, nat_tests)

module _ (name : List ℕ) (vs : List Var) (f : Formula) where
  pub free_answer : (v : Var) → least_free vs f ≡ Some v → defining name vs f ≡ Err (Free v)
  free_answer v e = (free_is name vs f v).1 (least_is vs f v e)

  pub large_answer : least_free vs f ≡ None → leb (nodes_of (flat f)) max_nodes ≡ false → defining name vs f ≡ Err Large
  large_answer none e = (large_is name vs f).1 (within_of_none vs f none, above max_nodes (nodes_of (flat f)) e)

  pub defined_answer : (b : Formula) → least_free vs f ≡ None → leb (nodes_of (flat f)) max_nodes ≡ true → b ≡ closed_over all vs f
      → defining name vs f ≡ Ok (pred (record { name = name; arity = length vs }) (defined b))
  defined_answer b none e is =
      (defined_is name vs f (pred (record { name = name; arity = length vs }) (defined b))).1
      (within_of_none vs f none, within max_nodes (nodes_of (flat f)) e, ap (λ c. pred (record { name = name; arity = length vs }) (defined c)) is)

  pub formed_answer : (b : Formula) → is_name name ≡ true → is_formed_at 0 b ≡ true → least_free vs f ≡ None → b ≡ closed_over all vs f → IsFormedPred (pred (record { name = name; arity = length vs }) (defined b))
  formed_answer b named h none is =
      and_both _ (is_name name)
      (and_both (is_formed_at 0 b && negated (is_open b)) _
      (and_both _ _ h (ap negated (ap is_open is ∙ shut-closed_over vs f (within_of_none vs f none))))
      (enough (length vs) (leading_all b) (omega (arith, leading-closed_over vs f, ap leading_all is))))
      named
