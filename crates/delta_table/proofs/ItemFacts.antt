-- What holds of each item, for callers.
use Rattle.std.proofs.Common.{◌≡◌, ◌≤◌, true, ◌==◌, arith}
use Rattle.std.specs.List.{All}
use Rattle.std.proofs.lemmas.List.Elements.{All-weaker}
use Rattle.std.proofs.lemmas.List.Sums.{AllPass-from_list_all}
use borrow.Author.Tests.{eqb-true}
use Rattle.fol.specs.Syntax.{Formula, atom, top, bot, not, and, or, imp, all, ex}
use Rattle.fol.specs.Facts.{formula_size}
use Rattle.fol.specs.Formed.{are_formed_terms_at, count_terms}
use Rattle.lk_rules.specs.declared.sequent.Side.{Side}
use Rattle.lk_rules.specs.declared.sequent.Side.TheVariants.{Left, Right}
use Rattle.herbrand_laws.specs.Herbrand.{prefix, Item, quantifiers}
use Rattle.delta_table.specs.Items.{IsItem}

pub formed_tuples : (i : Item) → IsItem i → All (λ us. are_formed_terms_at 0 us ≡ true) i.tuples
formed_tuples i h = AllPass-from_list_all (are_formed_terms_at 0) i.tuples h.formed

pub counted_tuples : (i : Item) → IsItem i → All (λ us. count_terms us ≡ quantifiers i) i.tuples
counted_tuples i h =
    All-weaker (λ us. (count_terms us == quantifiers i) ≡ true) (λ us. count_terms us ≡ quantifiers i) (λ us e. eqb-true (count_terms us) (quantifiers i) e) i.tuples
    (AllPass-from_list_all (λ us. count_terms us == quantifiers i) i.tuples h.counted)

-- a formula has more nodes than quantifiers in front
pub prefix_within : (s : Side) (f : Formula) → prefix s f ≤ formula_size f
prefix_within Left (all f) = let below = prefix_within Left f in omega arith
prefix_within Right (ex f) = let below = prefix_within Right f in omega arith
prefix_within Left (atom p ts) = omega arith
prefix_within Left top = omega arith
prefix_within Left bot = omega arith
prefix_within Left (not f) = omega arith
prefix_within Left (and f g) = omega arith
prefix_within Left (or f g) = omega arith
prefix_within Left (imp f g) = omega arith
prefix_within Left (ex f) = omega arith
prefix_within Right (atom p ts) = omega arith
prefix_within Right top = omega arith
prefix_within Right bot = omega arith
prefix_within Right (not f) = omega arith
prefix_within Right (and f g) = omega arith
prefix_within Right (or f g) = omega arith
prefix_within Right (imp f g) = omega arith
prefix_within Right (all f) = omega arith
