-- Cuts above the last rule of a premise end, if each of them does. Where that rule introduces the cut formula, it does so alone afterwards.
use Rattle.std.proofs.Common.{◌≡◌, ℕ, suc, ◌+◌, ◌≤◌, true, false, ◌&&◌, ◌||◌, not, if◌then◌else◌, refl, ap, ◌∙◌, arith}
use Rattle.std.specs.List.{list_any}
use Rattle.std.specs.Ordering.{eq_by_cmp}
use Rattle.std.proofs.lemmas.Bool.{not-true}
use Rattle.fol.specs.declared.symbols.Var.{Var}
use Rattle.fol.specs.Syntax.{Formula, free}
use Rattle.fol.specs.Order.{formula_cmp}
use Rattle.fol.specs.OrderLaws.{formula_total}
use Rattle.finite.specs.Finite as set
use Rattle.finite.proofs.Finite.{has-adds_each}
use Rattle.substitution.specs.Maps.{Map, only}
use Rattle.lk_rules.specs.declared.sequent.Sequent.{Sequent}
use Rattle.lk_rules.specs.declared.sequent.Side.{Side}
use Rattle.lk_rules.specs.declared.sequent.Side.TheVariants.{Left, Right}
use Rattle.lk_rules.specs.declared.rule.Rule.{Rule}
use Rattle.lk_rules.specs.declared.rule.Rule.TheVariants.{AllR, ExL}
use Rattle.lk_rules.specs.Sequents.{side_of, adds_to, is_free_in_sequent}
use Rattle.lk_rules.specs.Rules.{aux}
use Rattle.lk_rules.proofs.Subsequents.{and_left, and_right}
use Rattle.proof_trees.specs.Trees.{Tree, node, Trees, none, more, concl, rule_of, below, IsValid, AllValid, is_cut, cut_free, cut_free_all, size}
use Rattle.proof_trees.specs.Substitution.{renamed, sub_all}
use Rattle.proof_trees.proofs.Substituted.{size-sub, cut_free-sub}
use Rattle.cut_laws.specs.Contraction.{has_above, moved_rule, renamed_trees, moved_trees, with_aux, cut_on, cuts_on, above_on}
use Rattle.cut_laws.proofs.Cuts.{valid_cut}
use Rattle.cut_laws.proofs.BigSteps.{left_place, right_place}
use Rattle.cut_laws.proofs.Places.{IsPlace}
use Rattle.cut_laws.proofs.Falling.{sizes}
use Rattle.cut_laws.proofs.Ends.{Ends, ended_free, ended_end, ended_valid, inside_ends, AllEnd, all_trees, node_ends}
use Rattle.cut_laws.proofs.Introduced.{IsIntroduction, introduction-moved, aux_out}
use Rattle.cut_laws.proofs.ValidCuts.{cut_valid_with}

-- the last rule introduces the formula on that side, and no tree above has it there
pub record IsFinal (side : Side) (a : Formula) (t : Tree) : Type 0 where
  pub intro : IsIntroduction side (rule_of t) a
  pub alone : has_above side a (below t) ≡ false

-- a rule and the trees above it under a new conclusion

sizes-sub_all : (ts : Trees) (m : Map) → sizes (sub_all ts m) ≡ sizes ts
sizes-sub_all none m = refl
sizes-sub_all (more t ts) m = λ i. size-sub t m i + sizes-sub_all ts m i

free-sub_all : (ts : Trees) (m : Map) → cut_free_all (sub_all ts m) ≡ cut_free_all ts
free-sub_all none m = refl
free-sub_all (more t ts) m = λ i. cut_free-sub t m i && free-sub_all ts m i

renamed_keeps : {X : Type 0} (f : Trees → X) → ((ts : Trees) (m : Map) → f (sub_all ts m) ≡ f ts) → (s : Sequent) (y : Var) (ts : Trees) → f (renamed_trees s y ts) ≡ f ts
renamed_keeps f same s y ts = elim (is_free_in_sequent y s) as (λ b. f (if b then sub_all ts (only y (free (renamed y s))) else ts) ≡ f ts) [
  | true ↦ same ts (only y (free (renamed y s)))
  | false ↦ refl
]

moved_keeps : {X : Type 0} (f : Trees → X) → ((ts : Trees) (m : Map) → f (sub_all ts m) ≡ f ts) → (s : Sequent) (q : Rule) (ts : Trees) → f (moved_trees s q ts) ≡ f ts
moved_keeps f same s (AllR b y) ts = renamed_keeps f same s y ts
moved_keeps f same s (ExL b y) ts = renamed_keeps f same s y ts
moved_keeps f same s q ts = refl

is_cut-moved : (s : Sequent) (q : Rule) → is_cut (moved_rule s q) ≡ is_cut q
is_cut-moved s (AllR b y) = refl
is_cut-moved s q = refl

module _ (q : Rule) (e : Sequent) (ts : Trees) (clean : cut_free (node q e ts) ≡ true) (end : Sequent) where
  moved_other : is_cut (moved_rule end q) ≡ false
  moved_other = is_cut-moved end q ∙ not-true (is_cut q) (and_left _ _ clean)

  moved_free : cut_free_all (moved_trees end q ts) ≡ true
  moved_free = moved_keeps cut_free_all free-sub_all end q ts ∙ and_right (not (is_cut q)) _ clean

  moved_size : (m : ℕ) → size (node q e ts) ≤ suc m → sizes (moved_trees end q ts) ≤ m
  moved_size m h = let same : sizes (moved_trees end q ts) ≡ sizes ts = moved_keeps sizes sizes-sub_all end q ts in omega arith

-- a formula that is neither in the conclusion nor among the auxiliary formulas
with_aux_out : (side : Side) (s : Sequent) (q : Rule) (a : Formula) (i : ℕ) → set.has (side_of s side) a ≡ false → list_any (eq_by_cmp formula_cmp a) (aux q i side) ≡ false
    → set.has (side_of (with_aux s q i) side) a ≡ false
unfolding with_aux
with_aux_out Left s q a i h g = has-adds_each formula_total s.left (aux q i Left) a ∙ (λ j. h j || g j)
with_aux_out Right s q a i h g = has-adds_each formula_total s.right (aux q i Right) a ∙ (λ j. h j || g j)

place_on : (side : Side) (s : Sequent) (a : Formula) (u : Tree) → cut_free u ≡ true → IsPlace (λ t. cut_on side s a t u)
place_on Left s a u clean = right_place s a u clean
place_on Right s a u clean = left_place s a u

-- cuts on a of trees smaller than the premise end
module _ (side : Side) (a : Formula) (u : Tree) (m : ℕ) (each : (s : Sequent) (t : Tree) → size t ≤ m → cut_free t ≡ true → IsValid (cut_on side s a t u) → Ends (cut_on side s a t u)) where
  cuts_end : (s : Sequent) (q : Rule) (i : ℕ) (ts : Trees) → sizes ts ≤ m → cut_free_all ts ≡ true → AllValid (cuts_on side s a q i ts u) → AllEnd (cuts_on side s a q i ts u)
  cuts_end s q i none less clean valid = tt
  cuts_end s q i (more t ts) less clean valid = (
    each (with_aux s q i) t (omega arith) (and_left _ _ clean) valid.0,
    cuts_end s q (suc i) ts (omega arith) (and_right (cut_free t) _ clean) valid.1,
  )

  -- what comes of them doesn't have the formula
  cuts_out : (s : Sequent) (q : Rule) → IsIntroduction side q a → set.has (side_of s side) a ≡ false → (i : ℕ) (ts : Trees) (x : AllEnd (cuts_on side s a q i ts u))
      → has_above side a (all_trees (cuts_on side s a q i ts u) x) ≡ false
  cuts_out s q intro out i none x = refl
  cuts_out s q intro out i (more t ts) x =
      let first : set.has (side_of (concl x.0.tree) side) a ≡ false =
      ap (λ e. set.has (side_of e side) a) (ended_end (cut_on side (with_aux s q i) a t u) x.0) ∙ with_aux_out side s q a i out (aux_out side q a intro i) in
      (λ j. first j || cuts_out s q intro out (suc i) ts x.1 j)

  -- the last rule over what comes of them introduces the formula, if it did so before
  pass_final : (end s : Sequent) (t : Tree) → size t ≤ suc m → cut_free t ≡ true → IsValid (above_on side end s a t u)
      → (x : Ends (above_on side end s a t u)) × (IsIntroduction side (rule_of t) a → set.has (side_of s side) a ≡ false → IsFinal side a x.tree)
  pass_final end s (node q e ts) less clean valid =
      let moved : Rule = moved_rule end q in
      let us : Trees = moved_trees end q ts in
      let x : AllEnd (cuts_on side s a moved 0 us u) = cuts_end s moved 0 us (moved_size q e ts clean end m less) (moved_free q e ts clean end) valid.1 in (
        node_ends moved end (cuts_on side s a moved 0 us u) (moved_other q e ts clean end) x,
        λ intro out. record { intro = introduction-moved end side q a intro; alone = cuts_out s moved (introduction-moved end side q a intro) out 0 us x },
      )

  pub pass : (end s : Sequent) (t : Tree) → size t ≤ suc m → cut_free t ≡ true → IsValid (above_on side end s a t u) → Ends (above_on side end s a t u)
  pass end s t less clean valid = (pass_final end s t less clean valid).0

  pub split_cut : (s : Sequent) (t : Tree) → size t ≤ suc m → cut_free t ≡ true → cut_free u ≡ true → IsIntroduction side (rule_of t) a → set.has (side_of s side) a ≡ false
      → ((v : Tree) → IsFinal side a v → cut_free v ≡ true → IsValid (cut_on side s a v u) → Ends (cut_on side s a v u))
      → IsValid (cut_on side s a (above_on side (adds_to s side a) s a t u) u) → Ends (cut_on side s a (above_on side (adds_to s side a) s a t u) u)
  split_cut s t less clean clean' intro out last valid =
      let upper : Tree = above_on side (adds_to s side a) s a t u in
      let sound : IsValid upper = (valid_cut side s a upper u valid).valid in
      let found = pass_final (adds_to s side a) s t less clean sound in
      let x : Ends upper = found.0 in
      inside_ends (λ v. cut_on side s a v u) (place_on side s a u clean') upper x
      (last x.tree (found.1 intro out) (ended_free upper x) (cut_valid_with side s a upper u x.tree valid (ended_end upper x) (ended_valid upper x sound)))
