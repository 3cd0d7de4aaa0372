-- The marks of an inference with two premises are those of either premise together, and the trees are merged.
use Rattle.std.proofs.Common.{◌≡◌, ℕ, true, false, List, [], ◌∷◌, map, refl, sym, ap, ◌∙◌}
use Rattle.std.specs.FinMap as fin
use Rattle.fol.specs.declared.symbols.Var.{Var}
use Rattle.fol.specs.Syntax.{Formula}
use Rattle.finite.specs.Finite as set
use Rattle.substitution.specs.Closed.{IsClosedMap}
use Rattle.substitution.specs.Maps.{Map}
use Rattle.substitution.proofs.ImageLaws.{closed_empty}
use Rattle.lk_rules.specs.declared.sequent.Sequent.{Sequent}
use Rattle.lk_rules.specs.declared.sequent.Side.{Side}
use Rattle.lk_rules.specs.declared.sequent.Side.TheVariants.{Left, Right}
use Rattle.lk_rules.specs.declared.rule.Rule.{Rule}
use Rattle.lk_rules.proofs.Subsequents.{and_left, and_right}
use Rattle.proof_trees.specs.Trees.{Tree, node, none, more, concl, cut_free, IsValid, IsCutFree}
use Rattle.proof_trees.specs.Conclusions.{EachNode}
use Rattle.proof_trees.specs.Occurrence.{has_body_in_sequent, IsPlainNode}
use Rattle.proof_trees.proofs.WithoutBodies.{plain_nodes}
use Rattle.extraction_laws.specs.Addresses.{Address, root}
use Rattle.extraction_laws.specs.States.{State, unmarked, nth_outside, place_of, Includes, tree_at}
use Rattle.extraction_laws.specs.Extraction.{vars_in, Context, met, inner_context, inner_map, inner_variable, walked, marks_of, extracted}
use Rattle.extraction_laws.specs.Images.{HaveImages}
use Rattle.extraction_laws.proofs.Growing.{includes-walked}
use Rattle.extraction_laws.proofs.Marks.{next}
use Rattle.extraction_laws.proofs.Truth.{fits_first}
use Rattle.exp_tree.specs.Merging.{merged}
use Rattle.merge_laws.specs.United.{united, IsPrefixClosed, HaveSameVariables}
use Rattle.merge_laws.specs.Inferences.{with_names, by_premise, AreReached, read_off, merged_each, merged_expansion}
use Rattle.merge_laws.proofs.ClosedWalks.{Premised, premised, closed_walked}
use Rattle.merge_laws.proofs.GivenNames.{no_new_by_rule, no_new_by_walk, walked_with_names}
use Rattle.merge_laws.proofs.MergedTrees.{merged-trees}
use Rattle.merge_laws.proofs.PrefixClosed.{closed_unmarked}
use Rattle.merge_laws.proofs.Unions.{united_comm, united_included}
use Rattle.merge_laws.proofs.UnitedWalks.{walked-united}

module _ (vs : List Var) (r : Rule) (s : Sequent) (p q : Tree) (m : Map) (c : Context) (x : State) where
  abbrev whole : Tree
  whole = node r s (more p (more q none))

  abbrev after : State
  after = walked vs whole m c x

  abbrev rule : State
  rule = met vs r m c x

  abbrev inner : Map
  inner = inner_map r m (inner_variable vs r m c x)

  abbrev addresses : ℕ → Context
  addresses = inner_context r s m c (inner_variable vs r m c x)

  abbrev first : State
  first = by_premise vs r s m c 0 p x

  abbrev second : State
  second = by_premise vs r s m c 1 q x

  module _ (same : after.names ≡ x.names) where
    of_first : Includes first after
    of_first = includes-walked vs q inner (addresses 1) first

    of_rule : Includes rule after
    of_rule = next (includes-walked vs p inner (addresses 0) rule) of_first

    -- the rule and the first premise give no variable
    names_of_rule : rule.names ≡ after.names
    names_of_rule = no_new_by_rule vs after r m c x of_rule same

    names_of_first : first.names ≡ after.names
    names_of_first = no_new_by_walk vs after p inner (addresses 0) rule of_first (sym names_of_rule)

    -- so the second premise marks the same after the first premise as after the rule
    in_turn : after ≡ united second first
    in_turn =
        ap (walked vs q inner (addresses 1)) (sym (united_included rule first (includes-walked vs p inner (addresses 0) rule) (names_of_rule ∙ sym names_of_first)))
        ∙ walked-united vs first q inner (addresses 1) rule

    names_of_second : second.names ≡ after.names
    names_of_second = ap (λ (y : State). y.names) (sym in_turn)

    pub united-premises : after ≡ united first second
    united-premises = in_turn ∙ united_comm second first (names_of_second ∙ sym names_of_first)

    same_variables : HaveSameVariables vs first second
    same_variables a _ = ap (λ names. nth_outside vs (place_of a names)) (names_of_first ∙ sym names_of_second)

    module _ (valid : IsValid whole) (free : cut_free whole ≡ true) (plain : EachNode IsPlainNode whole) (closed : IsClosedMap (fin.get m)) (fits : HaveImages m c s) (reached : AreReached x c s) (h : IsPrefixClosed x) where
      known : Premised vs r s (more p (more q none)) m c x
      known = premised vs r s (more p (more q none)) m c x valid free plain closed fits reached h

      closed_first : IsPrefixClosed first
      closed_first = closed_walked vs p inner (addresses 0) rule valid.1.0 (and_left _ _ known.free) known.plain.0 known.closed known.fit.0 known.reached.0 known.marks

      closed_second : IsPrefixClosed second
      closed_second = closed_walked vs q inner (addresses 1) rule valid.1.1.0 (and_left _ _ (and_right (cut_free p) _ known.free)) known.plain.1.0 known.closed known.fit.1.0 known.reached.1.0 known.marks

      pub merged-premises : (a : Address) → tree_at vs after a ≡ merged (tree_at vs first a) (tree_at vs second a)
      merged-premises a = ap (λ y. tree_at vs y a) united-premises ∙ merged-trees vs first second closed_first closed_second same_variables a

-- whole proofs

pub closed_marks : (t : Tree) → IsValid t → IsCutFree t → has_body_in_sequent (concl t) ≡ false → IsPrefixClosed (marks_of t)
closed_marks t valid free bodies = closed_walked (vars_in t) t fin.empty root unmarked valid free (plain_nodes t valid free bodies) closed_empty (fits_first (concl t)) (λ side f there. tt) (closed_unmarked [])

module _ (r : Rule) (s : Sequent) (p q : Tree) where
  abbrev proof : Tree
  proof = node r s (more p (more q none))

  -- no marks, with the variables that the proof gives
  abbrev start : State
  start = with_names (marks_of proof).names unmarked

  known_names : walked (vars_in proof) proof fin.empty root start ≡ marks_of proof
  known_names = walked_with_names (vars_in proof) proof fin.empty root unmarked

  abbrev one : State
  one = by_premise (vars_in proof) r s fin.empty root 0 p start

  abbrev other : State
  other = by_premise (vars_in proof) r s fin.empty root 1 q start

  module _ (valid : IsValid proof) (free : IsCutFree proof) (bodies : has_body_in_sequent s ≡ false) where
    merged_there : (a : Address) → tree_at (vars_in proof) (marks_of proof) a ≡ merged (tree_at (vars_in proof) one a) (tree_at (vars_in proof) other a)
    merged_there a =
        ap (λ y. tree_at (vars_in proof) y a) (sym known_names)
        ∙ merged-premises (vars_in proof) r s p q fin.empty root start (ap (λ (y : State). y.names) known_names)
        valid free (plain_nodes proof valid free bodies) closed_empty (fits_first s) (λ side f there. tt) (closed_unmarked (marks_of proof).names) a

    merged_on : (side : Side) (fs : List Formula) → map (λ f. tree_at (vars_in proof) (marks_of proof) (root side f)) fs
        ≡ merged_each (map (λ f. tree_at (vars_in proof) one (root side f)) fs) (map (λ f. tree_at (vars_in proof) other (root side f)) fs)
    merged_on side [] = refl
    merged_on side (f ∷ fs) = λ i. merged_there (root side f) i ∷ merged_on side fs i

    pub merged_extraction : extracted proof ≡ merged_expansion (read_off (vars_in proof) one s) (read_off (vars_in proof) other s)
    merged_extraction = λ i. record { left = merged_on Left (set.listing s.left) i; right = merged_on Right (set.listing s.right) i }
