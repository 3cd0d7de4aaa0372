-- The tree at an address that is used, by the trees of its formula's parts or instances.
use Rattle.std.proofs.Common.{◌≡◌, true, false, if◌then◌else◌, List, refl, ap, ◌∙◌}
use Rattle.fol.specs.declared.symbols.Var.{Var}
use Rattle.fol.specs.Syntax.{Formula, atom, top, bot, not, and, or, imp, all, ex}
use Rattle.finite.specs.Finite as set
use Rattle.lk_rules.specs.declared.sequent.Side.TheVariants.{Left, Right}
use Rattle.expansion_laws.specs.Expansions.{Exp, wk, leaf, neg, conj, disj, impl}
use Rattle.expansion_laws.specs.Building.{is_flat}
use Rattle.extraction_laws.specs.Addresses.{Address, part, via, formula_at, side_at}
use Rattle.extraction_laws.specs.States.{State, if_opened, by_side, weak_at, strong_at, tree_by, tree_at}
use Rattle.extraction_laws.proofs.Unrolled.{of_instance, tree-flat, tree-not, tree-and, tree-or, tree-imp, tree-all, tree-ex}

module _ (vs : List Var) (st : State) (a : Address) where
  unused_by : (f : Formula) → set.has st.opened a ≡ false → tree_by vs st f a ≡ wk (formula_at a)
  unused_by (atom s ts) h = ap (λ b. if b then leaf (formula_at a) else wk (formula_at a)) h
  unused_by top h = ap (λ b. if b then leaf (formula_at a) else wk (formula_at a)) h
  unused_by bot h = ap (λ b. if b then leaf (formula_at a) else wk (formula_at a)) h
  unused_by (not f) h = ap (λ b. if b then neg (tree_by vs st f (part a 0)) else wk (formula_at a)) h
  unused_by (and f g) h = ap (λ b. if b then conj (tree_by vs st f (part a 0)) (tree_by vs st g (part a 1)) else wk (formula_at a)) h
  unused_by (or f g) h = ap (λ b. if b then disj (tree_by vs st f (part a 0)) (tree_by vs st g (part a 1)) else wk (formula_at a)) h
  unused_by (imp f g) h = ap (λ b. if b then impl (tree_by vs st f (part a 0)) (tree_by vs st g (part a 1)) else wk (formula_at a)) h
  unused_by (all f) h = ap (λ b. if b then by_side (side_at a) (weak_at st a (λ t. tree_by vs st f (via a t))) (strong_at vs st a (λ t. tree_by vs st f (via a t))) else wk (formula_at a)) h
  unused_by (ex f) h = ap (λ b. if b then by_side (side_at a) (strong_at vs st a (λ t. tree_by vs st f (via a t))) (weak_at st a (λ t. tree_by vs st f (via a t))) else wk (formula_at a)) h

  pub tree-unused : set.has st.opened a ≡ false → tree_at vs st a ≡ wk (formula_at a)
  tree-unused = unused_by (formula_at a)

  -- the tree that is there where the address is used
  used : (e : Exp) → set.has st.opened a ≡ true → if_opened st a e ≡ e
  used e h = ap (λ b. if b then e else wk (formula_at a)) h

  pub read-flat : set.has st.opened a ≡ true → is_flat (formula_at a) ≡ true → tree_at vs st a ≡ leaf (formula_at a)
  read-flat h flat = tree-flat vs st (formula_at a) a refl flat ∙ used _ h

  pub read-not : (f : Formula) → set.has st.opened a ≡ true → formula_at a ≡ not f → tree_at vs st a ≡ neg (tree_at vs st (part a 0))
  read-not f h e = tree-not vs st f a e ∙ used _ h

  pub read-and : (f g : Formula) → set.has st.opened a ≡ true → formula_at a ≡ and f g → tree_at vs st a ≡ conj (tree_at vs st (part a 0)) (tree_at vs st (part a 1))
  read-and f g h e = tree-and vs st f g a e ∙ used _ h

  pub read-or : (f g : Formula) → set.has st.opened a ≡ true → formula_at a ≡ or f g → tree_at vs st a ≡ disj (tree_at vs st (part a 0)) (tree_at vs st (part a 1))
  read-or f g h e = tree-or vs st f g a e ∙ used _ h

  pub read-imp : (f g : Formula) → set.has st.opened a ≡ true → formula_at a ≡ imp f g → tree_at vs st a ≡ impl (tree_at vs st (part a 0)) (tree_at vs st (part a 1))
  read-imp f g h e = tree-imp vs st f g a e ∙ used _ h

  abbrev weak_tree : Exp
  weak_tree = weak_at st a (of_instance vs st a)

  abbrev strong_tree : Exp
  strong_tree = strong_at vs st a (of_instance vs st a)

  pub read-all_left : (f : Formula) → set.has st.opened a ≡ true → formula_at a ≡ all f → side_at a ≡ Left → tree_at vs st a ≡ weak_at st a (λ t. tree_at vs st (via a t))
  read-all_left f h e side = tree-all vs st f a e ∙ (used _ h ∙ ap (λ s. by_side s weak_tree strong_tree) side)

  pub read-all_right : (f : Formula) → set.has st.opened a ≡ true → formula_at a ≡ all f → side_at a ≡ Right → tree_at vs st a ≡ strong_at vs st a (λ t. tree_at vs st (via a t))
  read-all_right f h e side = tree-all vs st f a e ∙ (used _ h ∙ ap (λ s. by_side s weak_tree strong_tree) side)

  pub read-ex_left : (f : Formula) → set.has st.opened a ≡ true → formula_at a ≡ ex f → side_at a ≡ Left → tree_at vs st a ≡ strong_at vs st a (λ t. tree_at vs st (via a t))
  read-ex_left f h e side = tree-ex vs st f a e ∙ (used _ h ∙ ap (λ s. by_side s strong_tree weak_tree) side)

  pub read-ex_right : (f : Formula) → set.has st.opened a ≡ true → formula_at a ≡ ex f → side_at a ≡ Right → tree_at vs st a ≡ weak_at st a (λ t. tree_at vs st (via a t))
  read-ex_right f h e side = tree-ex vs st f a e ∙ (used _ h ∙ ap (λ s. by_side s strong_tree weak_tree) side)
