-- The premises of a rule that a search takes have fewer connectives than the conclusion.
use Rattle.std.proofs.Common.{◌≡◌, ℕ, zero, suc, ◌+◌, ◌<◌, true, List, sum_by, arith}
use Rattle.fol.specs.Syntax.{Formula, not, and, or, imp}
use Rattle.finite.specs.Finite as set
use Rattle.free_variables.specs.Grade.{grade_of}
use Rattle.lk_rules.specs.declared.sequent.Sequent.{Sequent}
use Rattle.lk_rules.specs.declared.sequent.Side.{Side}
use Rattle.lk_rules.specs.declared.sequent.Side.TheVariants.{Left, Right}
use Rattle.lk_rules.specs.declared.rule.Rule.{Rule}
use Rattle.lk_rules.specs.declared.rule.Rule.TheVariants.{NegL, NegR, AndL, AndR, OrL, OrR, ImpL, ImpR}
use Rattle.lk_rules.specs.Sequents.{extended}
use Rattle.lk_rules.specs.Rules.{needs, aux, main_stands}
use Rattle.proof_trees.specs.FormulaSets.{without}
use Rattle.search_laws.specs.Search.{weight, premise_at}
use Rattle.search_laws.proofs.Weights.{sum-adds_each, sum-without}
use Rattle.search_laws.proofs.Searched.{is_searched, Fits, alone_left, alone_right}

-- a formula goes, and formulas of less grade in all come

-- on the left
lower_left : (s : Sequent) (f : Formula) (more : Side → List Formula) → set.has s.left f ≡ true → sum_by grade_of (more Left) + sum_by grade_of (more Right) < grade_of f
    → weight (extended (record s { left = without s.left f }) more) < weight s
lower_left s f more stands less =
    let on_left = sum-adds_each grade_of (without s.left f) (more Left) in
    let on_right = sum-adds_each grade_of s.right (more Right) in
    let rest = sum-without grade_of s.left f stands in
    omega arith

-- and on the right
lower_right : (s : Sequent) (f : Formula) (more : Side → List Formula) → set.has s.right f ≡ true → sum_by grade_of (more Left) + sum_by grade_of (more Right) < grade_of f
    → weight (extended (record s { right = without s.right f }) more) < weight s
lower_right s f more stands less =
    let on_left = sum-adds_each grade_of s.left (more Left) in
    let on_right = sum-adds_each grade_of (without s.right f) (more Right) in
    let rest = sum-without grade_of s.right f stands in
    omega arith

-- by cases of the rule
lower_searched : (r : Rule) (s : Sequent) (i : ℕ) → is_searched r ≡ true → main_stands r s ≡ true → i < needs r → weight (premise_at r s i) < weight s
lower_searched (NegL (not f)) s zero e stands l = lower_left s (not f) (aux (NegL (not f)) 0) (alone_left _ stands) (omega arith)
lower_searched (NegR (not f)) s zero e stands l = lower_right s (not f) (aux (NegR (not f)) 0) (alone_right _ stands) (omega arith)
lower_searched (AndL (and f g)) s zero e stands l = lower_left s (and f g) (aux (AndL (and f g)) 0) (alone_left _ stands) (omega arith)
lower_searched (AndR (and f g)) s zero e stands l = lower_right s (and f g) (aux (AndR (and f g)) 0) (alone_right _ stands) (omega arith)
lower_searched (AndR (and f g)) s (suc zero) e stands l = lower_right s (and f g) (aux (AndR (and f g)) 1) (alone_right _ stands) (omega arith)
lower_searched (OrL (or f g)) s zero e stands l = lower_left s (or f g) (aux (OrL (or f g)) 0) (alone_left _ stands) (omega arith)
lower_searched (OrL (or f g)) s (suc zero) e stands l = lower_left s (or f g) (aux (OrL (or f g)) 1) (alone_left _ stands) (omega arith)
lower_searched (OrR (or f g)) s zero e stands l = lower_right s (or f g) (aux (OrR (or f g)) 0) (alone_right _ stands) (omega arith)
lower_searched (ImpL (imp f g)) s zero e stands l = lower_left s (imp f g) (aux (ImpL (imp f g)) 0) (alone_left _ stands) (omega arith)
lower_searched (ImpL (imp f g)) s (suc zero) e stands l = lower_left s (imp f g) (aux (ImpL (imp f g)) 1) (alone_left _ stands) (omega arith)
lower_searched (ImpR (imp f g)) s zero e stands l = lower_right s (imp f g) (aux (ImpR (imp f g)) 0) (alone_right _ stands) (omega arith)
lower_searched r s i e stands l = first_of (omega arith, cc)

-- each premise has fewer connectives
pub lower_premise : (r : Rule) (s : Sequent) (i : ℕ) → Fits r s → i < needs r → weight (premise_at r s i) < weight s
lower_premise r s i fits l = lower_searched r s i fits.searched fits.stands l
