-- Proofs from expansion proofs, after Miller (1987): from the conclusion upwards, each rule takes a tree of the list apart.
--     Step      a rule and the lists of its premises
--     closing_rule      a rule without premises
--     parts, instance_at      what takes the place of a tree, and of an instance
--     first_step      the step at the first tree that has one
--     step_at      the step that is taken at a list
--     build_within, build      the proof
--     visits      how many lists are visited
use Rattle.std.specs.Prelude.{ℕ, zero, suc, if◌then◌else◌, Bool, true, false, not as negated, List, [], ◌∷◌, ◌++◌, map, find, Option, Some, None, option_map}
use Rattle.std.specs.List.{list_any}
use Rattle.fol.specs.declared.symbols.Var.{Var}
use Rattle.fol.specs.Syntax.{Term, Formula, top, bot, not, and, or, imp}
use Rattle.finite.specs.Finite as set
use Rattle.free_variables.specs.Occurrence.{is_free_in_term}
use Rattle.lk_rules.specs.declared.sequent.Sequent.{Sequent}
use Rattle.lk_rules.specs.declared.sequent.Side.{Side}
use Rattle.lk_rules.specs.declared.sequent.Side.TheVariants.{Left, Right}
use Rattle.lk_rules.specs.declared.rule.Rule.{Rule}
use Rattle.lk_rules.specs.declared.rule.Rule.TheVariants.{Ax, TopR, BotL, NegL, NegR, AndL, AndR, OrL, OrR, ImpL, ImpR, AllL, AllR, ExL, ExR}
use Rattle.proof_trees.specs.Trees.{Tree, node, Trees, none as no_trees, more as tree_more, size}
use Rattle.expansion_laws.specs.Expansions.{Exp, wk, leaf, neg, conj, disj, impl, weak, strong, Insts, none, more, shallow, turn}
use Rattle.building_laws.specs.Lists.{Placed, on, conclusion, leaf_sequent, strongs_in_list, weight_of}

-- a rule and the lists of its premises
pub record Step : Type 0 where
  pub rule : Rule
  pub premises : List (List Placed)

-- the first of two steps that is there
abbrev pub or_else : Option Step → Option Step → Option Step
or_else None later = later
or_else (Some t) later = Some t

-- an axiom on the formula, where there is one; else the rule of truth or of falsity, where these may be used
abbrev pub axiom_or : Option Formula → Bool → Bool → Option Rule
axiom_or (Some f) truth falsity = Some (Ax f)
axiom_or None true falsity = Some TopR
axiom_or None false true = Some BotL
axiom_or None false false = None

-- The rule without premises, by the sequent of the leaves: an axiom on the least formula that stands on both sides; else truth on the
-- right; else falsity on the left.
abbrev pub closing_rule : Sequent → Option Rule
closing_rule s = axiom_or (find (set.has s.right) (set.listing s.left)) (set.has s.right top) (set.has s.left bot)

-- a rule without premises as a step
abbrev pub closing : Rule → Step
closing r = record { rule = r; premises = [] }

-- the rule of a connective or of a quantifier on a side
abbrev pub neg_rule : Side → Formula → Rule
neg_rule Left = NegL
neg_rule Right = NegR

abbrev pub and_rule : Side → Formula → Rule
and_rule Left = AndL
and_rule Right = AndR

abbrev pub or_rule : Side → Formula → Rule
or_rule Left = OrL
or_rule Right = OrR

abbrev pub imp_rule : Side → Formula → Rule
imp_rule Left = ImpL
imp_rule Right = ImpR

abbrev pub strong_rule : Side → Formula → Var → Rule
strong_rule Left = ExL
strong_rule Right = AllR

abbrev pub weak_rule : Side → Formula → Term → Rule
weak_rule Left = AllL
weak_rule Right = ExR

-- the parts of a conjunction: in one premise on the left, in a premise each on the right
abbrev pub conjuncts : Side → Placed → Placed → List (List Placed)
conjuncts Left p q = (p ∷ q ∷ []) ∷ []
conjuncts Right p q = (p ∷ []) ∷ (q ∷ []) ∷ []

-- the parts of a disjunction, the other way round
abbrev pub disjuncts : Side → Placed → Placed → List (List Placed)
disjuncts Left p q = (p ∷ []) ∷ (q ∷ []) ∷ []
disjuncts Right p q = (p ∷ q ∷ []) ∷ []

-- the rule of a connective or of a strong quantifier, and what takes the place of its tree in each premise
abbrev pub parts_of : Side → Exp → Option Step
parts_of s (wk f) = None
parts_of s (leaf f) = None
parts_of s (neg e) = Some (record { rule = neg_rule s (not (shallow e)); premises = (on (turn s) e ∷ []) ∷ [] })
parts_of s (conj d e) = Some (record { rule = and_rule s (and (shallow d) (shallow e)); premises = conjuncts s (on s d) (on s e) })
parts_of s (disj d e) = Some (record { rule = or_rule s (or (shallow d) (shallow e)); premises = disjuncts s (on s d) (on s e) })
parts_of s (impl d e) = Some (record { rule = imp_rule s (imp (shallow d) (shallow e)); premises = disjuncts s (on (turn s) d) (on s e) })
parts_of s (weak f is) = None
parts_of s (strong f y e) = Some (record { rule = strong_rule s f y; premises = (on s e ∷ []) ∷ [] })

abbrev pub parts : Placed → Option Step
parts p = parts_of p.side p.tree

-- an instance of a weak quantifier, and the others
pub record Chosen : Type 0 where
  pub term : Term
  pub tree : Exp
  pub others : Insts

-- the same, with another instance in front of the others
abbrev pub behind : Term → Exp → Chosen → Chosen
behind t e c = record c { others = more t e c.others }

-- whether no variable of a list stands in the term
abbrev pub is_ready : List Var → Term → Bool
is_ready vs t = negated (list_any (λ v. is_free_in_term v t) vs)

-- the first instance whose term has no variable of the list
abbrev pub first_ready : List Var → Insts → Option Chosen
first_ready vs none = None
first_ready vs (more t e is) = if is_ready vs t then Some (record { term = t; tree = e; others = is }) else option_map (behind t e) (first_ready vs is)

-- the rule of a weak quantifier for an instance: in place of the tree the same without the instance, and the instance's tree after it
abbrev pub instantiated : Side → Formula → Chosen → Step
instantiated s f c = record { rule = weak_rule s f c.term; premises = (on s (weak f c.others) ∷ on s c.tree ∷ []) ∷ [] }

-- the step of the first instance of a tree that is ready
abbrev pub instance_of : List Var → Side → Exp → Option Step
instance_of vs s (weak f is) = option_map (instantiated s f) (first_ready vs is)
instance_of vs s e = None

abbrev pub instance_at : List Var → Placed → Option Step
instance_at vs p = instance_of vs p.side p.tree

-- the step with the list of each premise put between other trees
abbrev pub within : (List Placed → List Placed) → Step → Step
within between t = record { rule = t.rule; premises = map between t.premises }

-- the step at the first tree that has one, in the tree's place
abbrev pub first_step : (Placed → Option Step) → List Placed → Option Step
first_step at [] = None
first_step at (p ∷ l) = or_else (option_map (within (λ ps. ps ++ l)) (at p)) (option_map (within (λ ps. p ∷ ps)) (first_step at l))

-- The step that is taken at a list: a rule without premises where the leaves allow it; else that of the first tree that is a connective
-- or a strong quantifier; else that of the first instance, by tree and then by term, whose term has no variable of a strong quantifier
-- that is still in the list.
unfoldable pub step_at : List Placed → Option Step
step_at l = or_else (option_map closing (closing_rule (leaf_sequent l))) (or_else (first_step parts l) (first_step (instance_at (strongs_in_list l)) l))

-- the proofs for the premises, where each is there
abbrev pub with_first : Option Tree → Option Trees → Option Trees
with_first None ts = None
with_first (Some t) ts = option_map (tree_more t) ts

abbrev pub build_each : (List Placed → Option Tree) → List (List Placed) → Option Trees
build_each look [] = Some no_trees
build_each look (l ∷ ls) = with_first (look l) (build_each look ls)

-- the proof by a step, where `look` builds those of the premises
abbrev pub by_step : (List Placed → Option Tree) → List Placed → Option Step → Option Tree
by_step look l None = None
by_step look l (Some t) = option_map (node t.rule (conclusion l)) (build_each look t.premises)

-- the proof that is at most n inferences high
unfoldable pub build_within : ℕ → List Placed → Option Tree
build_within zero l = None
build_within (suc n) l = by_step (build_within n) l (step_at l)

-- The proof that is built for a list. Each step makes the weight less, so no branch is longer than that.
unfoldable pub build : List Placed → Option Tree
build l = build_within (weight_of l) l

-- how many lists are visited: one for each inference of the proof
abbrev pub size_of : Option Tree → ℕ
size_of None = 0
size_of (Some t) = size t

abbrev pub visits : List Placed → ℕ
visits l = size_of (build l)
