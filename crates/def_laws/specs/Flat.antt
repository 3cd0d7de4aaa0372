-- A formula with its defined predicate symbols unfolded, those of bodies too, so that none is left that has a body.
--     lifted_term      a term inside more quantifiers
--     lifted_put      arguments, which may have indices, put for the innermost of the quantifiers around
--     flat      the formula with all unfolded
--     flat_set, flat_sequent      the formulas of a set and of a sequent with all unfolded
use Rattle.std.specs.Prelude.{ℕ, ◌+◌, map}
use Rattle.fol.specs.declared.symbols.Sym.{Sym}
use Rattle.fol.specs.Syntax.{Term, free, bound, app, Terms, nil, cons, Pred, pred, Body, undefined, defined, Formula, atom, top, bot, not, and, or, imp, all, ex}
use Rattle.fol.specs.Formed.{count_terms}
use Rattle.finite.specs.Finite as set
use Rattle.substitution.specs.Unfolding.{put_terms_at, matrix_under}
use Rattle.lk_rules.specs.declared.sequent.Sequent.{Sequent}
use Rattle.lk_rules.specs.Formulas.{FormulaSet}

-- a term moved inside k quantifiers more: its indices, which are those of quantifiers outside, are k higher there
abbrev mutual
  pub lifted_term : ℕ → Term → Term
  lifted_term k (free v) = free v
  lifted_term k (bound i) = bound (i + k)
  lifted_term k (app s ts) = app s (lifted_terms k ts)

  pub lifted_terms : ℕ → Terms → Terms
  lifted_terms k nil = nil
  lifted_terms k (cons t ts) = cons (lifted_term k t) (lifted_terms k ts)

-- the arguments us for the indices, inside l quantifiers, the outermost of which is that of the first argument. Arguments may have indices,
-- which are those of quantifiers further out, so they are lifted at each quantifier
abbrev pub lifted_put : Terms → ℕ → Formula → Formula
lifted_put us l (atom p ts) = atom p (put_terms_at us l ts)
lifted_put us l top = top
lifted_put us l bot = bot
lifted_put us l (not f) = not (lifted_put us l f)
lifted_put us l (and f g) = and (lifted_put us l f) (lifted_put us l g)
lifted_put us l (or f g) = or (lifted_put us l f) (lifted_put us l g)
lifted_put us l (imp f g) = imp (lifted_put us l f) (lifted_put us l g)
lifted_put us l (all f) = all (lifted_put (lifted_terms 1 us) (l + 1) f)
lifted_put us l (ex f) = ex (lifted_put (lifted_terms 1 us) (l + 1) f)

-- the formula with each atom whose symbol has a body replaced: the body with all unfolded, without its leading quantifiers, and with the
-- atom's arguments for their variables
abbrev mutual
  pub flat_atom : Pred → Terms → Formula
  flat_atom (pred s b) ts = flat_body s b ts

  pub flat_body : Sym → Body → Terms → Formula
  flat_body s undefined ts = atom (pred s undefined) ts
  flat_body s (defined f) ts = lifted_put ts (count_terms ts) (matrix_under ts (flat f))

  pub flat : Formula → Formula
  flat (atom p ts) = flat_atom p ts
  flat top = top
  flat bot = bot
  flat (not f) = not (flat f)
  flat (and f g) = and (flat f) (flat g)
  flat (or f g) = or (flat f) (flat g)
  flat (imp f g) = imp (flat f) (flat g)
  flat (all f) = all (flat f)
  flat (ex f) = ex (flat f)

-- the formulas of a set with all unfolded. Formulas that fall together become one
abbrev pub flat_set : FormulaSet → FormulaSet
flat_set s = set.of_list (map flat (set.listing s))

-- the formulas of a sequent with all unfolded
abbrev pub flat_sequent : Sequent → Sequent
flat_sequent s = record { left = flat_set s.left; right = flat_set s.right }
