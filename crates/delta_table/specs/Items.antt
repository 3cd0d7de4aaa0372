-- Items: a formula of a sequent with the tuples of its instances.
--     coded_item      how items are coded as trees of numbers
--     IsItem      what holds of each item
use Rattle.std.specs.Prelude.{◌≡◌, Bool, true, false, ◌==◌, List, refl}
use Rattle.std.specs.List.{list_all}
use Rattle.std.specs.Coded.{Coded, code_by, coded×, coded_bool, coded_list}
use Rattle.fol.specs.Syntax.{Terms, Formula}
use Rattle.fol.specs.Codes.{coded_terms, coded_formula}
use Rattle.fol.specs.Order.{terms_cmp}
use Rattle.fol.specs.Formed.{is_formed, are_formed_terms_at, count_terms}
use Rattle.finite.specs.Finite as set
use Rattle.lk_rules.specs.declared.sequent.Side.{Side}
use Rattle.lk_rules.specs.declared.sequent.Side.TheVariants.{Left, Right}
use Rattle.herbrand_laws.specs.Herbrand.{is_prenex, Item, quantifiers}

abbrev is_left : Side → Bool
is_left Left = true
is_left Right = false

abbrev side_by : Bool → Side
side_by true = Left
side_by false = Right

pub side_law : (s : Side) → side_by (is_left s) ≡ s
side_law Left = refl
side_law Right = refl

abbrev coded_side : Coded Side
coded_side = code_by Bool coded_bool is_left side_by side_law

-- an item is coded as its parts
abbrev pub coded_item : Coded Item
coded_item =
    code_by (Side × (Formula × List Terms)) (coded× coded_side (coded× coded_formula (coded_list coded_terms)))
    (λ i. (i.side, (i.formula, i.tuples))) (λ p. record { side = p.0; formula = p.1.0; tuples = p.1.1 }) (λ _. refl)

-- The formula is well formed, and weak quantifiers over a matrix. The tuples are well formed, have a term for each quantifier, and rise.
pub record IsItem (i : Item) : Type 0 where
  pub prenex : is_prenex i.side i.formula ≡ true
  pub formula : is_formed i.formula ≡ true
  pub formed : list_all (are_formed_terms_at 0) i.tuples ≡ true
  pub counted : list_all (λ us. count_terms us == quantifiers i) i.tuples ≡ true
  pub rises : set.IsRising terms_cmp i.tuples
