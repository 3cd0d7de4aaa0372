-- What trees stand for is a tautology exactly where under each assignment one of them helps.
use Rattle.std.proofs.Common.{◌≡◌, ◌↔◌, Bool, true, not as negated, ◌&&◌, ◌||◌, List, [], ◌∷◌, map, refl, sym, ◌∙◌}
use Rattle.std.proofs.Math.Bool.{not-not}
use Rattle.std.proofs.lemmas.Bool.{not-false, not_from_true}
use Rattle.std.specs.List.{list_all, list_any}
use Rattle.lk_rules.specs.declared.sequent.Side.{Side}
use Rattle.lk_rules.specs.declared.sequent.Side.TheVariants.{Left, Right}
use Rattle.search_laws.specs.Truth.{Assignment, value, falsifies, IsTautology}
use Rattle.search_laws.proofs.Tests.{not-or}
use Rattle.expansion_laws.specs.Expansions.{Exp, deep}
use Rattle.expansion_laws.specs.Dependency.{Expansion}
use Rattle.expansion_laws.specs.Helping.{helps, helped}
use Rattle.expansion_laws.specs.Sequents.{deep_sequent}
use Rattle.expansion_laws.proofs.Lists.{all-set_of}
use Rattle.expansion_laws.proofs.Helping.{helps-deep}

-- whether some tree makes the sequent true under an assignment
abbrev pub some_tree_helps : Assignment → Expansion → Bool
some_tree_helps a x = list_any (helped a Left) x.left || list_any (helped a Right) x.right

module _ (a : Assignment) where
  -- on a side none of the formulas helps exactly where no tree does
  none-helps : (s : Side) (es : List Exp) → list_all (λ f. negated (helps a s f)) (map (deep s) es) ≡ negated (list_any (helped a s) es)
  none-helps s [] = refl
  none-helps s (e ∷ es) =
      (λ i. negated (helps-deep a s e i) && none-helps s es i)
      ∙ sym (not-or (helped a s e) (list_any (helped a s) es))

  -- the formulas on the left are true exactly where no tree helps
  true-left : (es : List Exp) → list_all (value a) (map (deep Left) es) ≡ negated (list_any (helped a Left) es)
  true-left es = sym (λ i. list_all (λ f. not-not (value a f) i) (map (deep Left) es)) ∙ none-helps Left es

  -- an assignment makes what the trees stand for false exactly where no tree helps
  pub falsifies-deep : (x : Expansion) → falsifies a (deep_sequent x) ≡ negated (some_tree_helps a x)
  falsifies-deep x =
      (λ i. all-set_of (value a) (map (deep Left) x.left) i && all-set_of (λ f. negated (value a f)) (map (deep Right) x.right) i)
      ∙ ((λ i. true-left x.left i && none-helps Right x.right i)
      ∙ sym (not-or (list_any (helped a Left) x.left) (list_any (helped a Right) x.right)))

-- what the trees stand for is a tautology exactly where under each assignment some tree helps
pub tautology_helped : (x : Expansion) → IsTautology (deep_sequent x) ↔ ((a : Assignment) → some_tree_helps a x ≡ true)
tautology_helped x = (
  λ h a. not-false (some_tree_helps a x) (sym (falsifies-deep a x) ∙ h a),
  λ h a. falsifies-deep a x ∙ not_from_true (some_tree_helps a x) (h a),
)
