-- Bounds on the height that are high enough all give one interpolation, which so is by the last rule and the interpolations of the premises.
use Rattle.std.proofs.Common.{◌≡◌, ℕ, zero, suc, ◌<◌, ◌≤◌, true, refl, sym, ap, ◌∙◌, arith}
use Rattle.lk_rules.specs.declared.sequent.Sequent.{Sequent}
use Rattle.lk_rules.specs.declared.sequent.Side.{Side}
use Rattle.lk_rules.specs.declared.rule.Rule.{Rule}
use Rattle.lk_rules.specs.declared.rule.Rule.TheVariants.{Ax, Cut, Weak}
use Rattle.lk_rules.specs.RuleOrder.{variable_of}
use Rattle.lk_rules.specs.Sequents.{union_sequent}
use Rattle.proof_trees.specs.Trees.{Tree, node, Trees, none, more}
use Rattle.proof_trees.specs.Shapes.{height, height_all}
use Rattle.cut_laws.specs.Contraction.{moved_rule}
use Rattle.interp_laws.specs.Interpolation.{Interpolating, part_of, moved_tree, first_above, second_above, over_one, joined, has_main, by_premises, by_rule, itp_within, itp}
use Rattle.interp_laws.proofs.Moved.{moved_height}

-- two ways to interpolate that agree on trees lower than n
abbrev AgreeBelow : Interpolating → Interpolating → ℕ → Type 0
AgreeBelow look other n = (t : Tree) → height t < n → (one two : Sequent) → look t one two ≡ other t one two

premises_same : (look other : Interpolating) (m : Side) (r : Rule) (ts : Trees) (one two : Sequent) → AgreeBelow look other (suc (height_all ts)) → by_premises look m r ts one two ≡ by_premises other m r ts one two
premises_same look other m r none one two same = refl
premises_same look other m r (more p none) one two same =
    let rule : Rule = moved_rule (union_sequent one two) r in
    let premise : Tree = moved_tree (union_sequent one two) (variable_of r) p in
    let high : height premise ≡ height p = moved_height (union_sequent one two) (variable_of r) p in
    ap (over_one m rule one two) (same premise (omega arith) (first_above m rule 0 one) (second_above m rule 0 two))
premises_same look other m r (more p (more q ts)) one two same =
    λ i. joined m r one two (same p (omega arith) (first_above m r 0 one) (second_above m r 0 two) i) (same q (omega arith) (first_above m r 1 one) (second_above m r 1 two) i)

-- they agree one inference higher
rule_same : (look other : Interpolating) (t : Tree) → AgreeBelow look other (height t) → (one two : Sequent) → by_rule look t one two ≡ by_rule other t one two
rule_same look other (node (Ax a) s ts) same one two = refl
rule_same look other (node Weak s none) same one two = refl
rule_same look other (node Weak s (more p ts)) same one two = same p (omega arith) one two
rule_same look other (node (Cut a) s ts) same one two = refl
rule_same look other (node r s ts) same one two = premises_same look other (part_of r one) r ts one two same

-- any two bounds that are high enough give the same
same_within : (n m : ℕ) (t : Tree) → height t ≤ n → height t ≤ m → (one two : Sequent) → itp_within n t one two ≡ itp_within m t one two
unfolding itp_within
same_within zero m (node r s ts) low also one two = absurd (omega arith)
same_within (suc n) zero (node r s ts) low also one two = absurd (omega arith)
same_within (suc n) (suc m) t low also one two = rule_same (itp_within n) (itp_within m) t (λ p lower. same_within n m p (omega arith) (omega arith)) one two

-- the interpolation with a higher bound
pub itp-within : (n : ℕ) (t : Tree) → height t ≤ n → (one two : Sequent) → itp t one two ≡ itp_within n t one two
unfolding itp
itp-within n t low one two = same_within (height t) n t (omega arith) low one two

within-suc : (n : ℕ) (t : Tree) (one two : Sequent) → itp_within (suc n) t one two ≡ by_rule (itp_within n) t one two
unfolding itp_within
within-suc n t one two = refl

-- the interpolation is by the last rule
pub itp-unrolled : (t : Tree) (one two : Sequent) → itp t one two ≡ by_rule itp t one two
itp-unrolled t one two =
    itp-within (suc (height t)) t (omega arith) one two
    ∙ within-suc (height t) t one two
    ∙ rule_same (itp_within (height t)) itp t (λ p lower x y. sym (itp-within (height t) p (omega arith) x y)) one two

-- by any rule with a main formula
pub itp-by_premises : (r : Rule) (s : Sequent) (ts : Trees) (one two : Sequent) → has_main r ≡ true → itp (node r s ts) one two ≡ by_premises itp (part_of r one) r ts one two
itp-by_premises (Ax a) s ts one two h = cc
itp-by_premises Weak s ts one two h = cc
itp-by_premises (Cut a) s ts one two h = cc
itp-by_premises r s ts one two h = itp-unrolled (node r s ts) one two
