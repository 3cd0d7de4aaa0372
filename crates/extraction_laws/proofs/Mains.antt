-- The main formula of a rule stands in the conclusion, at the rule's main address. Cut and weakening have none.
use Rattle.std.proofs.Common.{◌≡◌, ◌⊎◌, inl, inr, true, ◌&&◌, refl}
use Rattle.fol.specs.Syntax.{Formula, top, bot}
use Rattle.finite.specs.Finite as set
use Rattle.lk_rules.specs.declared.sequent.Sequent.{Sequent}
use Rattle.lk_rules.specs.declared.sequent.Side.{Side}
use Rattle.lk_rules.specs.declared.sequent.Side.TheVariants.{Left, Right}
use Rattle.lk_rules.specs.declared.rule.Rule.{Rule}
use Rattle.lk_rules.specs.declared.rule.Rule.TheVariants.{Ax, TopR, BotL, NegL, NegR, AndL, AndR, OrL, OrR, ImpL, ImpR, AllL, AllR, ExL, ExR, DefL, DefR, Cut, Weak}
use Rattle.lk_rules.specs.Sequents.{side_of}
use Rattle.lk_rules.specs.Rules.{main_stands}
use Rattle.lk_rules.proofs.Subsequents.{and_left, and_right}
use Rattle.search_laws.proofs.Searched.{alone_left, alone_right}
use Rattle.extraction_laws.specs.Addresses.{root}
use Rattle.extraction_laws.specs.Extraction.{Context, main_address}

-- an axiom's formula is on both sides

pub initial_left : (s : Sequent) (f : Formula) → ((set.has s.left f && true) && (set.has s.right f && true)) ≡ true → set.has s.left f ≡ true
initial_left s f main = and_left _ _ (and_left _ (set.has s.right f && true) main)

pub initial_right : (s : Sequent) (f : Formula) → ((set.has s.left f && true) && (set.has s.right f && true)) ≡ true → set.has s.right f ≡ true
initial_right s f main = and_left _ _ (and_right (set.has s.left f && true) _ main)

-- the rule's main address is that of this formula of the conclusion
pub record HasMain (r : Rule) (s : Sequent) : Type 0 where
  pub side : Side
  pub formula : Formula
  pub there : set.has (side_of s side) formula ≡ true
  pub address : (c : Context) → main_address r c ≡ c side formula

-- or it is none
abbrev pub HasNoMain : Rule → Type 0
HasNoMain r = (c : Context) → main_address r c ≡ root Left top

main_left : (r : Rule) (s : Sequent) (f : Formula) → ((c : Context) → main_address r c ≡ c Left f) → ((set.has s.left f && true) && true) ≡ true → HasMain r s ⊎ HasNoMain r
main_left r s f is main = inl (record { side = Left; formula = f; there = alone_left _ main; address = is })

main_right : (r : Rule) (s : Sequent) (f : Formula) → ((c : Context) → main_address r c ≡ c Right f) → (true && (set.has s.right f && true)) ≡ true → HasMain r s ⊎ HasNoMain r
main_right r s f is main = inl (record { side = Right; formula = f; there = alone_right _ main; address = is })

pub main_of : (r : Rule) (s : Sequent) → main_stands r s ≡ true → HasMain r s ⊎ HasNoMain r
main_of (Ax f) s main = inl (record { side = Left; formula = f; there = initial_left s f main; address = λ c. refl })
main_of TopR s main = main_right TopR s top (λ c. refl) main
main_of BotL s main = main_left BotL s bot (λ c. refl) main
main_of (NegL f) s main = main_left (NegL f) s f (λ c. refl) main
main_of (NegR f) s main = main_right (NegR f) s f (λ c. refl) main
main_of (AndL f) s main = main_left (AndL f) s f (λ c. refl) main
main_of (AndR f) s main = main_right (AndR f) s f (λ c. refl) main
main_of (OrL f) s main = main_left (OrL f) s f (λ c. refl) main
main_of (OrR f) s main = main_right (OrR f) s f (λ c. refl) main
main_of (ImpL f) s main = main_left (ImpL f) s f (λ c. refl) main
main_of (ImpR f) s main = main_right (ImpR f) s f (λ c. refl) main
main_of (AllL f t) s main = main_left (AllL f t) s f (λ c. refl) main
main_of (AllR f y) s main = main_right (AllR f y) s f (λ c. refl) main
main_of (ExL f y) s main = main_left (ExL f y) s f (λ c. refl) main
main_of (ExR f t) s main = main_right (ExR f t) s f (λ c. refl) main
main_of (DefL f) s main = main_left (DefL f) s f (λ c. refl) main
main_of (DefR f) s main = main_right (DefR f) s f (λ c. refl) main
main_of (Cut f) s main = inr (λ c. refl)
main_of Weak s main = inr (λ c. refl)
