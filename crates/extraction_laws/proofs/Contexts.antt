-- Only the addresses of the formulas of a proof's conclusion count.
use Rattle.std.proofs.Common.{◌≡◌, inl, inr, ℕ, true, false, ◌&&◌, if◌then◌else◌, List, refl, sym, ap, ◌∙◌}
use Rattle.std.specs.FinMap as fin
use Rattle.fol.specs.declared.symbols.Var.{Var}
use Rattle.fol.specs.Syntax.{Formula}
use Rattle.finite.specs.Finite as set
use Rattle.substitution.specs.Image.{image_term}
use Rattle.substitution.specs.Maps.{Map}
use Rattle.lk_rules.specs.declared.sequent.Sequent.{Sequent}
use Rattle.lk_rules.specs.declared.sequent.Side.{Side}
use Rattle.lk_rules.specs.declared.sequent.Side.TheVariants.{Left, Right}
use Rattle.lk_rules.specs.declared.rule.Rule.{Rule}
use Rattle.lk_rules.specs.declared.rule.Rule.TheVariants.{Ax, AllL, AllR, ExL, ExR, DefL, DefR, Cut, Weak}
use Rattle.lk_rules.specs.Sequents.{side_of}
use Rattle.lk_rules.specs.Rules.{main_stands}
use Rattle.proof_trees.specs.Trees.{Tree, node, concl, IsValid}
use Rattle.cut_laws.proofs.Cuts.{main_in_end}
use Rattle.search_laws.proofs.Searched.{alone_left, alone_right}
use Rattle.extraction_laws.specs.Addresses.{Address}
use Rattle.extraction_laws.specs.States.{State, opened, instantiated, named, variable_at}
use Rattle.extraction_laws.specs.Extraction.{paired, Context, main_address, met, auxiliary_address, inner_context, inner_map, inner_variable, walked, walked_each}
use Rattle.extraction_laws.proofs.Mains.{initial_left, initial_right, main_of}

module _ (c d : Context) (s : Sequent) (agree : (side : Side) (f : Formula) → set.has (side_of s side) f ≡ true → c side f ≡ d side f) where
  on_left : (f : Formula) → ((set.has s.left f && true) && true) ≡ true → c Left f ≡ d Left f
  on_left f main = agree Left f (alone_left _ main)

  on_right : (f : Formula) → (true && (set.has s.right f && true)) ≡ true → c Right f ≡ d Right f
  on_right f main = agree Right f (alone_right _ main)

  main_agrees : (r : Rule) → main_stands r s ≡ true → main_address r c ≡ main_address r d
  main_agrees r main = elim (main_of r s main) [
    | inl m ↦ m.address c ∙ (agree m.side m.formula m.there ∙ sym (m.address d))
    | inr none ↦ none c ∙ sym (none d)
  ]

  module _ (vs : List Var) (m : Map) (x : State) where
    met_agrees : (r : Rule) → main_stands r s ≡ true → met vs r m c x ≡ met vs r m d x
    met_agrees (Ax f) main = λ i. paired vs (agree Left f (initial_left s f main) i) (agree Right f (initial_right s f main) i) x
    met_agrees (AllL f t) main = ap (λ a. instantiated a (image_term (fin.get m) t) (opened a x)) (on_left f main)
    met_agrees (AllR f y) main = ap (λ a. named a (opened a x)) (on_right f main)
    met_agrees (ExL f y) main = ap (λ a. named a (opened a x)) (on_left f main)
    met_agrees (ExR f t) main = ap (λ a. instantiated a (image_term (fin.get m) t) (opened a x)) (on_right f main)
    met_agrees (DefL f) main = refl
    met_agrees (DefR f) main = refl
    met_agrees (Cut f) main = refl
    met_agrees Weak main = refl
    met_agrees r main = ap (λ a. opened a x) (main_agrees r main)

    variable_agrees : (r : Rule) → main_stands r s ≡ true → inner_variable vs r m c x ≡ inner_variable vs r m d x
    variable_agrees r main = λ i. variable_at vs (met_agrees r main i) (main_agrees r main i)

    inner_agrees : (r : Rule) → main_stands r s ≡ true → (i : ℕ) (side : Side) (h : Formula)
        → inner_context r s m c (inner_variable vs r m c x) i side h ≡ inner_context r s m d (inner_variable vs r m d x) i side h
    inner_agrees r main i side h =
        let one : Address = auxiliary_address r m (inner_variable vs r m c x) (main_address r c) i side h in
        let two : Address = auxiliary_address r m (inner_variable vs r m d x) (main_address r d) i side h in
        elim (set.has (side_of s side) h) as (λ b. set.has (side_of s side) h ≡ b → (if b then c side h else one) ≡ (if b then d side h else two)) [
          | true ↦ λ there. agree side h there
          | false ↦ λ _ j. auxiliary_address r m (variable_agrees r main j) (main_agrees r main j) i side h
        ] refl

pub walked_agrees : (vs : List Var) (t : Tree) (m : Map) (c d : Context) (x : State) → IsValid t → ((side : Side) (f : Formula) → set.has (side_of (concl t) side) f ≡ true → c side f ≡ d side f) → walked vs t m c x ≡ walked vs t m d x
walked_agrees vs (node r s ts) m c d x valid agree =
    let main : main_stands r s ≡ true = main_in_end (node r s ts) valid in
    λ j. walked_each vs ts
    (inner_map r m (variable_agrees c d s agree vs m x r main j))
    (λ i side h. inner_agrees c d s agree vs m x r main i side h j)
    0
    (met_agrees c d s agree vs m x r main j)
