-- Valid proofs without cuts and unfoldings keep states proper.
use Rattle.std.proofs.Common.{◌≡◌, ℕ, suc, true, false, List, ◌++◌, Option, IfSome, sym, subst, ◌∙◌}
use Rattle.std.specs.FinMap as fin
use Rattle.std.specs.Ordering.{eq_by_cmp}
use Rattle.std.proofs.lemmas.List.Folds.{list_any-append}
use Rattle.fol.specs.declared.symbols.Var.{Var}
use Rattle.fol.specs.Syntax.{Term}
use Rattle.fol.specs.Order.{var_cmp}
use Rattle.fol.specs.OrderLaws.{var_total}
use Rattle.finite.specs.Finite as set
use Rattle.finite.proofs.Finite.{has-listing, has-empty, has-adds_each}
use Rattle.free_variables.specs.Fresh.{is_among}
use Rattle.substitution.specs.Closed.{IsClosedMap}
use Rattle.substitution.specs.Maps.{Map}
use Rattle.substitution.proofs.ImageLaws.{closed_empty}
use Rattle.lk_rules.specs.declared.sequent.Sequent.{Sequent}
use Rattle.lk_rules.specs.declared.rule.Rule.{Rule}
use Rattle.lk_rules.specs.Sequents.{vars_sequent}
use Rattle.lk_rules.specs.Rules.{main_stands}
use Rattle.lk_rules.proofs.Subsequents.{and_left, and_right}
use Rattle.proof_trees.specs.Trees.{Tree, node, Trees, none, more, concl, IsValid, AllValid, cut_free, cut_free_all, IsCutFree}
use Rattle.proof_trees.specs.Conclusions.{EachNode, EachNodeOf}
use Rattle.proof_trees.specs.Occurrence.{has_body_in_sequent, IsPlainNode}
use Rattle.proof_trees.proofs.Booleans.{or_first, or_second}
use Rattle.proof_trees.proofs.WithoutBodies.{plain_nodes}
use Rattle.cut_laws.proofs.Cuts.{AllWithin}
use Rattle.search_laws.proofs.Tests.{clash}
use Rattle.extraction_laws.specs.Addresses.{root, address_cmp}
use Rattle.extraction_laws.specs.States.{State, unmarked, Includes}
use Rattle.extraction_laws.specs.Extraction.{vars_chosen, var_list_tree, var_list_trees, vars_tree, vars_in, Context, met, inner_context, inner_map, inner_variable, walked, walked_each, marks_of}
use Rattle.extraction_laws.specs.Images.{HaveImages}
use Rattle.extraction_laws.proofs.Fitting.{closed_inner}
use Rattle.extraction_laws.proofs.Growing.{includes-walked}
use Rattle.extraction_laws.proofs.Proper.{path_later, Proper}
use Rattle.extraction_laws.proofs.ProperRules.{IsGiven, IsNaming, naming_later, KnownContext, proper_met, known_inner, naming_inner}
use Rattle.extraction_laws.proofs.Truth.{AllFit, Inference, inference, all_fit, fits_first}

module _ (vs : List Var) where
  -- the list has the variables of a proof, or of some

  abbrev HasVariables : Tree → Type 0
  HasVariables t = (y : Var) → is_among y (var_list_tree t) ≡ true → is_among y vs ≡ true

  abbrev HasAllVariables : Trees → Type 0
  HasAllVariables ts = (y : Var) → is_among y (var_list_trees ts) ≡ true → is_among y vs ≡ true

  longer_first : (y : Var) (us ws : List Var) → is_among y us ≡ true → is_among y (us ++ ws) ≡ true
  longer_first y us ws e = list_any-append (eq_by_cmp var_cmp y) us ws ∙ or_first (is_among y us) (is_among y ws) e

  longer_second : (y : Var) (us ws : List Var) → is_among y ws ≡ true → is_among y (us ++ ws) ≡ true
  longer_second y us ws e = list_any-append (eq_by_cmp var_cmp y) us ws ∙ or_second (is_among y us) (is_among y ws) e

  -- the paths to the addresses of the premises' formulas are known, from the i-th on

  abbrev AllKnown : State → (ℕ → Context) → ℕ → Trees → Type 0
  AllKnown x cs i none = Unit {0}
  AllKnown x cs i (more t ts) = KnownContext vs x (cs i) (concl t) × AllKnown x cs (suc i) ts

  all_known : (m : Map) (c : Context) (s : Sequent) → IsClosedMap (fin.get m) → HaveImages m c s → (x : State) → KnownContext vs x c s → (r : Rule) → main_stands r s ≡ true → IsNaming vs x m
      → ((y : Var) → is_among y (vars_chosen r) ≡ true → is_among y vs ≡ true) → (i : ℕ) (ts : Trees) → AllWithin r s i ts
      → AllKnown (met vs r m c x) (inner_context r s m c (inner_variable vs r m c x)) i ts
  all_known m c s closed fits x known r main naming chosen i none within = tt
  all_known m c s closed fits x known r main naming chosen i (more t ts) within = (
    known_inner vs m c s closed fits x known r main naming chosen i (concl t) within.0,
    all_known m c s closed fits x known r main naming chosen (suc i) ts within.1,
  )

  all_later : (x y : State) → Includes x y → (cs : ℕ → Context) (i : ℕ) (ts : Trees) → AllKnown x cs i ts → AllKnown y cs i ts
  all_later x y h cs i none known = tt
  all_later x y h cs i (more t ts) known = (λ side f there. path_later vs x y h (cs i side f) (known.0 side f there), all_later x y h cs (suc i) ts known.1)

  mutual
    proper_walked : (t : Tree) (m : Map) (c : Context) (x : State) → IsValid t → cut_free t ≡ true → EachNode IsPlainNode t → HasVariables t → IsClosedMap (fin.get m) → HaveImages m c (concl t) → IsNaming vs x m → KnownContext vs x c (concl t)
        → Proper vs x → Proper vs (walked vs t m c x)
    proper_walked (node r s ts) m c x valid free plain has closed fits naming known p =
        let i : Inference r s ts = inference r s ts valid free plain in
        let v : Var = inner_variable vs r m c x in
        proper_each ts (inner_map r m v) (inner_context r s m c v) 0 (met vs r m c x) valid.1 i.above_free i.above_plain
        (λ y e. has y (longer_second y (set.listing (vars_sequent s)) _ (longer_second y (vars_chosen r) (var_list_trees ts) e)))
        (closed_inner m closed v r)
        (all_fit r s m c v closed fits i.no_cut i.no_unfolding i.main i.row.eigenvariable 0 ts i.premises.within)
        (naming_inner vs m c s closed fits x known r naming)
        (all_known m c s closed fits x known r i.main naming
        (λ y e. has y (longer_second y (set.listing (vars_sequent s)) _ (longer_first y (vars_chosen r) (var_list_trees ts) e))) 0 ts i.premises.within)
        (proper_met vs m c s closed fits x known r i.no_cut i.no_unfolding i.row.shape i.main p)

    proper_each : (ts : Trees) (m : Map) (cs : ℕ → Context) (i : ℕ) (x : State) → AllValid ts → cut_free_all ts ≡ true → EachNodeOf IsPlainNode ts → HasAllVariables ts → IsClosedMap (fin.get m) → AllFit m cs i ts → IsNaming vs x m → AllKnown x cs i ts
        → Proper vs x → Proper vs (walked_each vs ts m cs i x)
    proper_each none m cs i x valid free plain has closed fit naming known p = p
    proper_each (more t ts) m cs i x valid free plain has closed fit naming known p =
        let y : State = walked vs t m (cs i) x in
        proper_each ts m cs (suc i) y valid.1 (and_right (cut_free t) _ free) plain.1 (λ v e. has v (longer_second v (var_list_tree t) (var_list_trees ts) e)) closed fit.1
        (naming_later vs x y (includes-walked vs t m (cs i) x) m naming)
        (all_later x y (includes-walked vs t m (cs i) x) cs (suc i) ts known.1)
        (proper_walked t m (cs i) x valid.0 (and_left _ _ free) plain.0 (λ v e. has v (longer_first v (var_list_tree t) (var_list_trees ts) e)) closed fit.0 naming known.0 p)

-- the marks of a whole proof are proper

-- the variables of its list are among those in rising order
pub among_vars : (t : Tree) (y : Var) → is_among y (var_list_tree t) ≡ true → is_among y (vars_in t) ≡ true
among_vars t y h = sym (has-listing (vars_tree t) y) ∙ (has-adds_each var_total set.empty (var_list_tree t) y ∙ or_second (set.has (set.empty {R = var_cmp}) y) _ h)

proper_unmarked : (vs : List Var) → Proper vs unmarked
proper_unmarked vs = record { strong_named = λ a there strong. clash (set.has (set.empty {R = address_cmp}) a) there (has-empty address_cmp a); ordered = λ a there. cc }

naming_empty : (vs : List Var) → IsNaming vs unmarked fin.empty
naming_empty vs v = let Q : Option Term → Type 0 = λ o. IfSome o (IsGiven vs unmarked) in subst Q (sym (fin.get-empty var_cmp v)) tt

pub proper_marks : (t : Tree) → IsValid t → IsCutFree t → has_body_in_sequent (concl t) ≡ false → Proper (vars_in t) (marks_of t)
proper_marks t valid free bodies =
    let vs : List Var = vars_in t in
    proper_walked vs t fin.empty root unmarked valid free (plain_nodes t valid free bodies) (among_vars t) closed_empty (fits_first (concl t)) (naming_empty vs) (λ side f there y e. cc) (proper_unmarked vs)
