-- The elimination in a cut, by what is known of it so far.
use Rattle.std.proofs.Common.{◌≡◌, ℕ, ◌+◌, ◌-◌, Option, Some, None, ap, ◌∙◌, arith}
use Rattle.fol.specs.Syntax.{Formula}
use Rattle.lk_rules.specs.declared.sequent.Sequent.{Sequent}
use Rattle.proof_trees.specs.Trees.{Tree}
use Rattle.cut_laws.specs.Contraction.{cut}
use Rattle.cut_laws.specs.Elimination.{elimination}
use Rattle.cut_laws.specs.Budgets.{given, counted, contracted}

-- the rest of the elimination, once the premises have no cut
abbrev then_root : Sequent → Formula → Tree → ℕ → Tree → ℕ → Option (Tree × ℕ)
then_root s a u n v j = counted j (contracted s a u v (n - j))

-- the rest of the elimination, once the left premise has no cut
abbrev then_right : Sequent → Formula → Tree → ℕ → Tree → ℕ → Option (Tree × ℕ)
then_right s a r n u i = counted i (given (elimination r (n - i)) (then_root s a u (n - i)))

module _ (s : Sequent) (a : Formula) (l r : Tree) (n : ℕ) (big : elimination (cut s a l r) n ≡ given (elimination l n) (then_right s a r n)) where
  module _ (u v : Tree) (i j : ℕ) (left : elimination l n ≡ Some (u, i)) (right : elimination r (n - i) ≡ Some (v, j)) where
    after_both : elimination (cut s a l r) n ≡ counted i (counted j (contracted s a u v (n - i - j)))
    after_both =
        big ∙ ap (λ (o : Option (Tree × ℕ)). given o (then_right s a r n)) left ∙ ap (λ (o : Option (Tree × ℕ)). counted i (given o (then_root s a u (n - i)))) right

    module _ (m : ℕ) (room : n - i - j ≡ m) where
      after_room : elimination (cut s a l r) n ≡ counted i (counted j (contracted s a u v m))
      after_room = after_both ∙ ap (λ (x : ℕ). counted i (counted j (contracted s a u v x))) room

      pub root_none : contracted s a u v m ≡ None → elimination (cut s a l r) n ≡ None
      root_none h = after_room ∙ ap (λ (o : Option (Tree × ℕ)). counted i (counted j o)) h

      pub root_some : (w : Tree) (k : ℕ) → contracted s a u v m ≡ Some (w, k) → elimination (cut s a l r) n ≡ Some (w, i + j + k)
      root_some w k h =
          let same : i + (j + k) ≡ i + j + k = omega arith in
          after_room ∙ ap (λ (o : Option (Tree × ℕ)). counted i (counted j o)) h ∙ ap (λ (x : ℕ). Some (w, x)) same
