-- The nodes of expansion trees by the names of their kinds.
use Rattle.std.specs.Prelude.{ℕ, List, [], ◌∷◌, codes, Option, Some, None, if◌then◌else◌}
use Rattle.job_words.specs.declared.node_kinds.NodeKind.{NodeKind}
use Rattle.job_words.specs.declared.node_kinds.NodeKind.TheVariants.{Wk, Leaf, Not, And, Or, Imp, Weak, Strong}
use Rattle.job_words.specs.RuleKinds.{is_text}

abbrev pub node_name : NodeKind → List ℕ
node_name Wk = codes "wk"
node_name Leaf = codes "leaf"
node_name Not = codes "not"
node_name And = codes "and"
node_name Or = codes "or"
node_name Imp = codes "imp"
node_name Weak = codes "weak"
node_name Strong = codes "strong"

abbrev pub node_kinds : List NodeKind
node_kinds = Wk ∷ Leaf ∷ Not ∷ And ∷ Or ∷ Imp ∷ Weak ∷ Strong ∷ []

-- the first of some kinds that has this name
abbrev pub node_named_among : List ℕ → List NodeKind → Option NodeKind
node_named_among name [] = None
node_named_among name (k ∷ ks) = if is_text name (node_name k) then Some k else node_named_among name ks

abbrev pub node_named : List ℕ → Option NodeKind
node_named name = node_named_among name node_kinds
