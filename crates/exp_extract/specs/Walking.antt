-- The walk over a proof.
--     IsReady, IsPremise, IsRight      what the walk needs of a proof, of a premise and of an inference
--     IsInner, HasInner      what the premises get
--     IsAfter      the marks after a proof
use Rattle.std.specs.Prelude.{◌≡◌, ℕ, ◌<◌, true, false, List, length}
use Rattle.std.specs.FinMap as fin
use Rattle.fol.specs.declared.symbols.Var.{Var}
use Rattle.fol.specs.Syntax.{Formula}
use Rattle.finite.specs.Finite as set
use Rattle.substitution.specs.Closed.{IsClosedMap}
use Rattle.substitution.specs.Maps.{Map}
use Rattle.lk_rules.specs.declared.sequent.Sequent.{Sequent}
use Rattle.lk_rules.specs.declared.sequent.Side.{Side}
use Rattle.lk_rules.specs.declared.rule.Rule.{Rule}
use Rattle.lk_rules.specs.Sequents.{side_of}
use Rattle.lk_rules.specs.Rules.{IsFormedRule, is_unfolding_rule, has_shape, needs, main_stands, eigen_free, IsWithin}
use Rattle.proof_trees.specs.Trees.{Tree, concl, is_cut, IsValid, IsCutFree}
use Rattle.proof_trees.specs.Occurrence.{IsPlainNode}
use Rattle.proof_trees.specs.Conclusions.{EachNode}
use Rattle.extraction_laws.specs.Extraction.{Context, main_address, inner_map, walked}
use Rattle.extraction_laws.specs.Images.{HaveImages}
use Rattle.exp_extract.specs.declared.sides.Sides.{Sides}
use Rattle.exp_extract.specs.declared.inferences.Inner.{Inner}
use Rattle.exp_extract.specs.Marked.{Marked}
use Rattle.exp_extract.specs.Quantifiers.{Grows}
use Rattle.exp_extract.specs.MapList.{map_in, KeepsMaps}
use Rattle.exp_extract.specs.Sides.{context_in, AreSides, AreAuxiliaries}

-- in the tree there is no cut, no rule that unfolds an atom, and no predicate symbol with a body
pub record IsPlainTree (t : Tree) : Type 0 where
  pub valid : IsValid t
  pub cut_free : IsCutFree t
  pub plain : EachNode IsPlainNode t

-- the formulas of the conclusion have addresses with their images under the map of that number
pub record IsReady (ms : List Map) (m : Marked) (t : Tree) (k : ℕ) (x : Sides) : Type 0 where
  pub map : k < length ms
  pub sides : AreSides m.addresses (concl t) x
  pub images : HaveImages (map_in ms k) (context_in m.addresses (concl t) x) (concl t)
  pub tree : IsPlainTree t

-- the rule is right at the conclusion
pub record IsRight (r : Rule) (s : Sequent) : Type 0 where
  pub no_cut : is_cut r ≡ false
  pub no_unfolding : is_unfolding_rule r ≡ false
  pub formed : IsFormedRule r
  pub shape : has_shape r ≡ true
  pub stands : main_stands r s ≡ true
  pub eigenvariable : eigen_free r s ≡ false

-- the tree is that of a premise
pub record IsPremise (r : Rule) (s : Sequent) (i : ℕ) (t : Tree) : Type 0 where
  pub small : i < 2
  pub counted : i < needs r
  pub within : IsWithin r s i (concl t)
  pub tree : IsPlainTree t

-- what the premises get, where c gives the addresses of the conclusion's formulas, and v is the variable of a strong quantifier
pub record IsInner (ms : List Map) (m : Marked) (r : Rule) (s : Sequent) (x : Sides) (k : ℕ) (inner : Inner) (c : Context) (v : Var) : Type 0 where
  pub outer : k < length ms
  pub there : inner.map < length ms
  pub map : map_in ms inner.map ≡ inner_map r (map_in ms k) v
  pub closed : IsClosedMap (fin.get (map_in ms k))
  pub sides : AreSides m.addresses s x
  pub agree : (side : Side) (f : Formula) → set.has (side_of s side) f ≡ true → context_in m.addresses s x side f ≡ c side f
  pub images : HaveImages (map_in ms k) c s
  pub auxiliaries : AreAuxiliaries m.addresses inner.auxiliary r (map_in ms k) v (main_address r c)

pub record HasInner (ms : List Map) (m : Marked) (r : Rule) (s : Sequent) (x : Sides) (k : ℕ) (inner : Inner) : Type 0 where
  pub context : Context
  pub variable : Var
  pub is : IsInner ms m r s x k inner context variable

-- the marks after a proof, with this map and these addresses
pub record IsAfter (ms ns : List Map) (m n : Marked) (t : Tree) (f : Map) (c : Context) : Type 0 where
  pub state : n.state ≡ walked m.outside t f c m.state
  pub outside : n.outside ≡ m.outside
  pub grown : Grows m.addresses n.addresses
  pub kept : KeepsMaps ms ns
