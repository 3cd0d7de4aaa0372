-- A walk over a proof keeps all marks.
use Rattle.std.proofs.Common.{ℕ, suc, List}
use Rattle.fol.specs.declared.symbols.Var.{Var}
use Rattle.fol.specs.Syntax.{Term, free, Formula, atom, top, bot, not, and, or, imp, all, ex}
use Rattle.std.specs.FinMap as fin
use Rattle.substitution.specs.Image.{image_term}
use Rattle.substitution.specs.Maps.{Map}
use Rattle.lk_rules.specs.declared.sequent.Side.TheVariants.{Left, Right}
use Rattle.lk_rules.specs.declared.rule.Rule.{Rule}
use Rattle.lk_rules.specs.declared.rule.Rule.TheVariants.{Ax, AllL, AllR, ExL, ExR, DefL, DefR, Cut, Weak}
use Rattle.proof_trees.specs.Trees.{Tree, node, Trees, none, more}
use Rattle.extraction_laws.specs.Addresses.{Address, part, via, formula_at}
use Rattle.extraction_laws.specs.States.{State, opened, instantiated, named, variable_at, Includes}
use Rattle.extraction_laws.specs.Extraction.{paired_by, paired, Context, main_address, met, walked, walked_each}
use Rattle.extraction_laws.proofs.Marks.{itself, next, includes-opened, includes-instantiated, includes-named}

-- two marks in a row

pub includes-both : (l r : Address) (st : State) → Includes st (opened r (opened l st))
includes-both l r st = next (includes-opened l st) (includes-opened r (opened l st))

pub includes-instance : (a : Address) (t : Term) (st : State) → Includes st (instantiated a t (opened a st))
includes-instance a t st = next (includes-opened a st) (includes-instantiated a t (opened a st))

pub includes-name : (a : Address) (st : State) → Includes st (named a (opened a st))
includes-name a st = next (includes-opened a st) (includes-named a (opened a st))

pub includes-variable : (s w : Address) (t : Term) (st : State) → Includes st (instantiated w t (named s st))
includes-variable s w t st = next (includes-named s st) (includes-instantiated w t (named s st))

module _ (vs : List Var) where
  -- after both addresses are opened
  pub grown_pair : (f : Formula) (l r : Address) (st : State) → Includes (opened r (opened l st)) (paired_by vs f l r st)
  grown_pair (atom s ts) l r st = itself _
  grown_pair top l r st = itself _
  grown_pair bot l r st = itself _
  grown_pair (not f) l r st = next (includes-both (part r 0) (part l 0) _) (grown_pair f (part r 0) (part l 0) _)
  grown_pair (and f g) l r st =
      next (includes-both (part l 0) (part r 0) _) (next (grown_pair f (part l 0) (part r 0) _) (next (includes-both (part l 1) (part r 1) _) (grown_pair g (part l 1) (part r 1) _)))
  grown_pair (or f g) l r st =
      next (includes-both (part l 0) (part r 0) _) (next (grown_pair f (part l 0) (part r 0) _) (next (includes-both (part l 1) (part r 1) _) (grown_pair g (part l 1) (part r 1) _)))
  grown_pair (imp f g) l r st =
      next (includes-both (part r 0) (part l 0) _) (next (grown_pair f (part r 0) (part l 0) _) (next (includes-both (part l 1) (part r 1) _) (grown_pair g (part l 1) (part r 1) _)))
  grown_pair (all f) l r st =
      let t : Term = free (variable_at vs st r) in next (includes-variable r l t _) (next (includes-both (via l t) (via r t) _) (grown_pair f (via l t) (via r t) _))
  grown_pair (ex f) l r st =
      let t : Term = free (variable_at vs st l) in next (includes-variable l r t _) (next (includes-both (via l t) (via r t) _) (grown_pair f (via l t) (via r t) _))

  pub includes-paired : (l r : Address) (st : State) → Includes st (paired vs l r st)
  includes-paired l r st = next (includes-both l r st) (grown_pair (formula_at l) l r st)

  pub includes-met : (r : Rule) (m : Map) (c : Context) (st : State) → Includes st (met vs r m c st)
  includes-met (Ax f) m c st = includes-paired (c Left f) (c Right f) st
  includes-met (AllL f t) m c st = includes-instance (c Left f) (image_term (fin.get m) t) st
  includes-met (AllR f y) m c st = includes-name (c Right f) st
  includes-met (ExL f y) m c st = includes-name (c Left f) st
  includes-met (ExR f t) m c st = includes-instance (c Right f) (image_term (fin.get m) t) st
  includes-met (DefL f) m c st = itself st
  includes-met (DefR f) m c st = itself st
  includes-met (Cut f) m c st = itself st
  includes-met Weak m c st = itself st
  includes-met r m c st = includes-opened (main_address r c) st

  mutual
    pub includes-walked : (t : Tree) (m : Map) (c : Context) (st : State) → Includes st (walked vs t m c st)
    includes-walked (node r s ts) m c st = next (includes-met r m c st) (includes-walked_each ts _ _ 0 (met vs r m c st))

    pub includes-walked_each : (ts : Trees) (m : Map) (cs : ℕ → Context) (i : ℕ) (st : State) → Includes st (walked_each vs ts m cs i st)
    includes-walked_each none m cs i st = itself st
    includes-walked_each (more t ts) m cs i st = next (includes-walked t m (cs i) st) (includes-walked_each ts m cs (suc i) (walked vs t m (cs i) st))
