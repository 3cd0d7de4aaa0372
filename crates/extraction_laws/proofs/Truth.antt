-- What is extracted from a valid proof without cuts and unfoldings is true under each assignment.
use Rattle.std.proofs.Common.{◌≡◌, ℕ, suc, Bool, true, false, not, ◌||◌, List, [], ◌∷◌, map, refl, sym, ap, ◌∙◌}
use Rattle.std.specs.FinMap as fin
use Rattle.std.specs.List.{list_any}
use Rattle.std.specs.Ordering.{eq_by_cmp}
use Rattle.fol.specs.declared.symbols.Var.{Var}
use Rattle.fol.specs.Syntax.{Formula}
use Rattle.fol.specs.Order.{formula_cmp}
use Rattle.finite.specs.Finite as set
use Rattle.finite.proofs.Finite.{has-listing}
use Rattle.substitution.specs.Closed.{IsClosedMap}
use Rattle.substitution.specs.Maps.{Map}
use Rattle.substitution.proofs.ImageLaws.{closed_empty, image-empty}
use Rattle.lk_rules.specs.declared.sequent.Sequent.{Sequent}
use Rattle.lk_rules.specs.declared.sequent.Side.{Side}
use Rattle.lk_rules.specs.declared.sequent.Side.TheVariants.{Left, Right}
use Rattle.lk_rules.specs.declared.rule.Rule.{Rule}
use Rattle.lk_rules.specs.Sequents.{side_of}
use Rattle.lk_rules.specs.Rules.{is_unfolding_rule, main_stands, eigen_free, Row}
use Rattle.lk_rules.proofs.Rows.{stands_of}
use Rattle.lk_rules.proofs.Subsequents.{and_left, and_right}
use Rattle.proof_trees.specs.Trees.{Tree, node, Trees, none, more, concl, count, first_end, second_end, is_cut, IsValid, AllValid, cut_free, cut_free_all, IsCutFree}
use Rattle.proof_trees.specs.Conclusions.{EachNode, EachNodeOf}
use Rattle.proof_trees.specs.Occurrence.{has_body_in_sequent, IsPlainNode}
use Rattle.proof_trees.proofs.Booleans.{or_first, or_second}
use Rattle.proof_trees.proofs.Verdicts.{row_of_verdict}
use Rattle.proof_trees.proofs.WithoutBodies.{plain_nodes}
use Rattle.cut_laws.proofs.Cuts.{AllWithin, Premises, premises_of}
use Rattle.proof_trees.proofs.FormulaSets.{equal}
use Rattle.search_laws.specs.Truth.{Assignment, IsTautology}
use Rattle.search_laws.proofs.Tests.{not_true}
use Rattle.expansion_laws.specs.Expansions.{Exp}
use Rattle.expansion_laws.specs.Helping.{helped}
use Rattle.expansion_laws.specs.Sequents.{deep_sequent}
use Rattle.expansion_laws.proofs.Falsified.{tautology_helped}
use Rattle.expansion_laws.proofs.Lists.{any_of}
use Rattle.extraction_laws.specs.Addresses.{root}
use Rattle.extraction_laws.specs.States.{State, unmarked, Includes, tree_at}
use Rattle.extraction_laws.specs.Extraction.{Context, vars_in, met, inner_context, inner_map, inner_variable, walked, walked_each, marks_of, extracted}
use Rattle.extraction_laws.specs.Images.{HaveImages}
use Rattle.extraction_laws.proofs.Fitting.{fits_inner, closed_inner}
use Rattle.extraction_laws.proofs.Growing.{includes-walked_each}
use Rattle.extraction_laws.proofs.Helping.{help}
use Rattle.extraction_laws.proofs.Marks.{itself, next}
use Rattle.extraction_laws.proofs.RuleTruth.{Helper, AllHelped, rule_helps}

-- the premises fit, from the i-th on
abbrev pub AllFit : Map → (ℕ → Context) → ℕ → Trees → Type 0
AllFit m cs i none = Unit {0}
AllFit m cs i (more t ts) = HaveImages m (cs i) (concl t) × AllFit m cs (suc i) ts

-- what is known of a node of a valid proof without cuts and unfoldings
pub record Inference (r : Rule) (s : Sequent) (ts : Trees) : Type 0 where
  pub row : Row r s (count ts) (first_end ts) (second_end ts)
  pub premises : Premises r s ts
  pub main : main_stands r s ≡ true
  pub no_cut : is_cut r ≡ false
  pub no_unfolding : is_unfolding_rule r ≡ false
  pub above_free : cut_free_all ts ≡ true
  pub above_plain : EachNodeOf IsPlainNode ts

pub inference : (r : Rule) (s : Sequent) (ts : Trees) → IsValid (node r s ts) → cut_free (node r s ts) ≡ true → EachNode IsPlainNode (node r s ts) → Inference r s ts
inference r s ts valid free plain =
    let row : Row r s (count ts) (first_end ts) (second_end ts) = row_of_verdict r s (count ts) (first_end ts) (second_end ts) valid.0.right in
    record {
      row = row;
      premises = premises_of r s ts row valid.1;
      main = stands_of r s row.main_formula;
      no_cut = not_true (is_cut r) (and_left _ _ free);
      no_unfolding = plain.0.rule;
      above_free = and_right (not (is_cut r)) _ free;
      above_plain = plain.1;
    }

pub all_fit : (r : Rule) (s : Sequent) (m : Map) (c : Context) (v : Var) → IsClosedMap (fin.get m) → HaveImages m c s → is_cut r ≡ false → is_unfolding_rule r ≡ false → main_stands r s ≡ true → eigen_free r s ≡ false
    → (i : ℕ) (ts : Trees) → AllWithin r s i ts → AllFit (inner_map r m v) (inner_context r s m c v) i ts
all_fit r s m c v closed fits no_cut no_unfolding main out i none within = tt
all_fit r s m c v closed fits no_cut no_unfolding main out i (more t ts) within = (fits_inner m closed c s v fits r i (concl t) no_cut no_unfolding main out within.0, all_fit r s m c v closed fits no_cut no_unfolding main out (suc i) ts within.1)

module _ (vs : List Var) (st : State) (α : Assignment) where
  mutual
    helps-walked : (t : Tree) (m : Map) (c : Context) (x : State) → IsValid t → cut_free t ≡ true → EachNode IsPlainNode t → IsClosedMap (fin.get m) → HaveImages m c (concl t) → Includes (walked vs t m c x) st → Helper vs st α c (concl t)
    helps-walked (node r s ts) m c x valid free plain closed fits marks =
        let i : Inference r s ts = inference r s ts valid free plain in
        let v : Var = inner_variable vs r m c x in
        rule_helps vs st α m c s closed fits r ts x i.no_cut i.no_unfolding i.row.shape i.main i.premises.number i.premises.within
        (next (includes-walked_each vs ts (inner_map r m v) (inner_context r s m c v) 0 (met vs r m c x)) marks)
        (helps-walked_each ts (inner_map r m v) (inner_context r s m c v) 0 (met vs r m c x) valid.1 i.above_free i.above_plain (closed_inner m closed v r)
        (all_fit r s m c v closed fits i.no_cut i.no_unfolding i.main i.row.eigenvariable 0 ts i.premises.within) marks)

    helps-walked_each : (ts : Trees) (m : Map) (cs : ℕ → Context) (i : ℕ) (x : State) → AllValid ts → cut_free_all ts ≡ true → EachNodeOf IsPlainNode ts → IsClosedMap (fin.get m) → AllFit m cs i ts → Includes (walked_each vs ts m cs i x) st
        → AllHelped vs st α cs i ts
    helps-walked_each none m cs i x valid free plain closed fit marks = tt
    helps-walked_each (more t ts) m cs i x valid free plain closed fit marks = (
      helps-walked t m (cs i) x valid.0 (and_left _ _ free) plain.0 closed fit.0 (next (includes-walked_each vs ts m cs (suc i) (walked vs t m (cs i) x)) marks),
      helps-walked_each ts m cs (suc i) (walked vs t m (cs i) x) valid.1 (and_right (cut_free t) _ free) plain.1 closed fit.1 marks,
    )

-- at first each formula has its own address
pub fits_first : (s : Sequent) → HaveImages fin.empty root s
fits_first s side f h = record { formula = sym (image-empty f); side = refl }

-- a tree of a list passes where that of one of the formulas does

pub any-trees : (p : Exp → Bool) (e : Formula → Exp) (fs : List Formula) → list_any p (map e fs) ≡ list_any (λ f. p (e f)) fs
any-trees p e [] = refl
any-trees p e (f ∷ fs) = ap (λ b. p (e f) || b) (any-trees p e fs)

listed_passes : (p : Exp → Bool) (e : Formula → Exp) (s : set.Finite formula_cmp) (f : Formula) → set.has s f ≡ true → p (e f) ≡ true → list_any p (map e (set.listing s)) ≡ true
listed_passes p e s f there h =
    any-trees p e (set.listing s)
    ∙ any_of (eq_by_cmp formula_cmp) equal (λ g. p (e g)) (set.listing s) f (sym (has-listing s f) ∙ there) h

module _ (t : Tree) (valid : IsValid t) (free : IsCutFree t) (bodies : has_body_in_sequent (concl t) ≡ false) (α : Assignment) where
  abbrev helped_on : Side → List Exp → Bool
  helped_on side = list_any (helped α side)

  abbrev at_root : Side → Formula → Exp
  at_root side f = tree_at (vars_in t) (marks_of t) (root side f)

  of_side : (side : Side) (f : Formula) → set.has (side_of (concl t) side) f ≡ true → help (vars_in t) (marks_of t) α (root side f) ≡ true
      → (helped_on Left (extracted t).left || helped_on Right (extracted t).right) ≡ true
  of_side Left f there h = or_first (helped_on Left (extracted t).left) _ (listed_passes (helped α Left) (at_root Left) (concl t).left f there h)
  of_side Right f there h = or_second (helped_on Left (extracted t).left) _ (listed_passes (helped α Right) (at_root Right) (concl t).right f there h)

  some_helps : (helped_on Left (extracted t).left || helped_on Right (extracted t).right) ≡ true
  some_helps =
      let h : Helper (vars_in t) (marks_of t) α root (concl t) =
      helps-walked (vars_in t) (marks_of t) α t fin.empty root unmarked valid free (plain_nodes t valid free bodies) closed_empty (fits_first (concl t)) (itself (marks_of t))
      in of_side h.side h.formula h.stands h.helps

-- what the trees stand for is a tautology
pub tautology_extracted : (t : Tree) → IsValid t → IsCutFree t → has_body_in_sequent (concl t) ≡ false → IsTautology (deep_sequent (extracted t))
tautology_extracted t valid free bodies = (tautology_helped (extracted t)).1 (some_helps t valid free bodies)
