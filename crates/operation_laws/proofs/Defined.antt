-- What definitions make, and the steps and the proofs into which they are put.
use Rattle.std.proofs.Common.{◌≡◌, ℕ, ◌≤◌, Bool, true, false, ◌&&◌, cond, List, [], ◌∷◌, length, map, Option, Some, None, Result, Ok, Err, refl, sym, ap, ◌∙◌, subst}
use Rattle.std.specs.Prelude.{is_some, IfSome}
use Rattle.std.specs.List.{All, list_all}
use Rattle.std.proofs.lemmas.List.Elements.{All-nil, All-cons, All-head, All-tail}
use Rattle.fol.specs.declared.symbols.Sym.{Sym}
use Rattle.fol.specs.declared.symbols.Var.{Var}
use Rattle.fol.specs.Syntax.{Pred, Formula, all}
use Rattle.fol.specs.Formed.{is_formed_pred, IsFormedPred}
use Rattle.substitution.specs.Closing.{closed_over}
use Rattle.lk_rules.specs.declared.rule.Rule.{Rule}
use Rattle.lk_rules.specs.declared.rule.Step.{Step}
use Rattle.lk_rules.specs.Rules.{is_formed_rule, IsFormedRule}
use Rattle.lk_rules.proofs.Subsequents.{and_left, and_right}
use Rattle.proof_trees.specs.Trees.{Tree, node, Trees, none, more, concl, IsValid}
use Rattle.proof_trees.specs.Conclusions.{EachNode, EachNodeOf, HasFormedEnd}
use Rattle.def_laws.specs.declared.fault.DefFault.{DefFault}
use Rattle.def_laws.specs.declared.fault.DefFault.TheVariants as defining_faults
use Rattle.def_laws.specs.Definitions.{definition as symbol_for}
use Rattle.def_laws.specs.Flat.{flat}
use Rattle.def_laws.specs.Nodes.{nodes_of}
use Rattle.def_laws.specs.Marking.{marked_rule, marked_step}
use Rattle.def_laws.specs.Defining.{max_nodes, defining}
use Rattle.def_laws.specs.Unfolded.{flat_rule, unfolded, unfolded_all}
use Rattle.step_laws.specs.declared.fault.AdmitFault.{AdmitFault}
use Rattle.step_laws.specs.declared.fault.AdmitFault.TheVariants as admission
use Rattle.step_laws.specs.Checking.{last_end}
use Rattle.step_laws.specs.Admission.{admission as admission_of}
use Rattle.step_laws.proofs.Admissions.{valid_admission, end_of_admission}
use Rattle.operation_laws.specs.Values.{Value, IsSound}
use Rattle.operation_laws.specs.Values as values
use Rattle.operation_laws.specs.Answers.{Product, proof, definition, Answer, lacking, product}
use Rattle.operation_laws.specs.Given.{pair_name, Found, missing, wanting, found, proof_given, definition_given, first_of, rest_of, both, in_front, definitions_given}
use Rattle.operation_laws.specs.Running.{over, admits_behind, repeated, unless_twice, steps_with, formula_with, proves_with, defines, defines_with, has_formed_rules, have_formed_rules, is_formed_sequent, unfolds}
use Rattle.operation_laws.specs.Claims.{IsProofOf, AProof, ADefinition, IsDefinition, IsUnfolded}
use Rattle.operation_laws.proofs.Making.{whole_is, found_valid, over_made, first_sound, this_proof}

-- definitions keep what is well formed
abbrev pub MarksRightly : Type 0
MarksRightly = (ds : List Pred) (r : Rule) → All IsFormedPred ds → IsFormedRule r → IsFormedRule (marked_rule ds r)

-- what is defined is the symbol for the formula, which isn't large
abbrev pub DefinesRightly : Type 0
DefinesRightly = (name : List ℕ) (vs : List Var) (f : Formula) (p : Pred) → defining name vs f ≡ Ok p → (p ≡ symbol_for name vs f) × (nodes_of (flat f) ≤ max_nodes)

-- what a valid proof is with all unfolded, where it names what is well formed
abbrev pub UnfoldsRightly : Type 0
UnfoldsRightly = (t : Tree) → IsValid t → HasFormedEnd t → EachNode (λ r s. IsFormedRule (flat_rule r)) t → IsUnfolded t (unfolded t)

abbrev AreSound : List (Option Value) → Type 0
AreSound vs = All (λ v. IfSome v IsSound) vs

-- a definition that a name is given is of a well-formed symbol
definition_formed : (text : List ℕ) (v : Option Value) (p : Pred) → IfSome v IsSound → definition_given text v ≡ found p → IsFormedPred p
definition_formed text None p sound is = cc
definition_formed text (Some values.nothing) p sound is = cc
definition_formed text (Some values.refused) p sound is = cc
definition_formed text (Some values.lacking) p sound is = cc
definition_formed text (Some (values.proof t)) p sound is = cc
definition_formed text (Some (values.pair t u)) p sound is = cc
definition_formed text (Some (values.problem q)) p sound is = cc
definition_formed text (Some (values.expansion x)) p sound is = cc
definition_formed text (Some (values.definition q)) p sound is = subst IsFormedPred (whole_is text (is_some (pair_name text)) q p is) sound

-- what is given for one name and those behind it
both_given : {A : Type 0} (f : Found A) (g : Found (List A)) (xs : List A) → in_front (both f g) ≡ found xs
    → (a : A) × (rest : List A) × (f ≡ found a) × (g ≡ found rest) × (a ∷ rest ≡ xs)
both_given (missing r) g xs is = cc
both_given wanting (missing r) xs is = cc
both_given wanting wanting xs is = cc
both_given wanting (found b) xs is = cc
both_given (found a) (missing r) xs is = cc
both_given (found a) wanting xs is = cc
both_given (found a) (found b) xs is = let same : a ∷ b ≡ xs = cc in (a, b, refl, refl, same)

rest_sound : (vs : List (Option Value)) → AreSound vs → AreSound (rest_of vs)
rest_sound [] sound = sound
rest_sound (v ∷ vs) sound = All-tail (λ w. IfSome w IsSound) v vs sound

definitions_formed : (texts : List (List ℕ)) (vs : List (Option Value)) (ds : List Pred) → AreSound vs → definitions_given texts vs ≡ found ds → All IsFormedPred ds
definitions_formed [] vs ds sound is = let same : [] ≡ ds = cc in subst (All IsFormedPred) same (All-nil IsFormedPred)
definitions_formed (text ∷ texts) vs ds sound is =
    let given = both_given (definition_given text (first_of vs)) (definitions_given texts (rest_of vs)) ds is in
    let first = definition_formed text (first_of vs) given.0 (first_sound vs sound) given.2 in
    let rest = definitions_formed texts (rest_of vs) given.1 (rest_sound vs sound) given.3 in
    subst (All IsFormedPred) given.4 (All-cons IsFormedPred given.0 given.1 first rest)

-- something is made only where no two definitions are of one symbol
once : (o : Option (List ℕ)) (a : Answer) (made : Product) → unless_twice o a ≡ product made → a ≡ product made
once None a made is = is
once (Some text) a made is = cc

-- a list of steps with definitions
module _ (marks : MarksRightly) where
  marked_formed : (ds : List Pred) (list : List Step) → All IsFormedPred ds → All (λ s. IsFormedRule s.rule) list → All (λ s. IsFormedRule s.rule) (map (marked_step ds) list)
  marked_formed ds [] defined formed = All-nil (λ (s : Step). IsFormedRule s.rule)
  marked_formed ds (s ∷ list) defined formed =
      All-cons (λ (s : Step). IsFormedRule s.rule) (marked_step ds s) (map (marked_step ds) list)
      (marks ds s.rule defined (All-head (λ (s : Step). IsFormedRule s.rule) s list formed))
      (marked_formed ds list defined (All-tail (λ (s : Step). IsFormedRule s.rule) s list formed))

  with_formed : (using : List (List ℕ)) (ds : List Pred) (list : List Step) → All IsFormedPred ds → All (λ s. IsFormedRule s.rule) list
      → All (λ s. IsFormedRule s.rule) (steps_with using ds list)
  with_formed [] ds list defined formed = formed
  with_formed (text ∷ texts) ds list defined formed = marked_formed ds list defined formed

  admitted_by : (using : List (List ℕ)) (list : List Step) (made : Product) (r : Result Tree AdmitFault) → All (λ s. IsFormedRule s.rule) list → admission_of list ≡ r
      → admits_behind using r ≡ product made → AProof made (λ t. IsProofOf t (last_end list))
  admitted_by [] list made (Ok t) formed by is = this_proof t made _ is (record { valid = valid_admission list t formed by; ends = end_of_admission list t by })
  admitted_by [] list made (Err admission.Empty) formed by is = cc
  admitted_by [] list made (Err (admission.Step i cause)) formed by is = cc
  admitted_by [] list made (Err admission.Memory) formed by is = cc
  admitted_by (text ∷ texts) list made (Ok t) formed by is = this_proof t made _ is (record { valid = valid_admission list t formed by; ends = end_of_admission list t by })
  admitted_by (text ∷ texts) list made (Err admission.Empty) formed by is = cc
  admitted_by (text ∷ texts) list made (Err (admission.Step i cause)) formed by is = cc
  admitted_by (text ∷ texts) list made (Err admission.Memory) formed by is = cc

  pub lk_made : (list : List Step) (using : List (List ℕ)) (vs : List (Option Value)) (made : Product) → All (λ s. IsFormedRule s.rule) list → AreSound vs
      → over (definitions_given using vs) (proves_with using list) ≡ product made
      → (ds : List Pred) × (definitions_given using vs ≡ found ds) × AProof made (λ t. IsProofOf t (last_end (steps_with using ds list)))
  lk_made list using vs made formed sound is =
      let one = over_made (definitions_given using vs) (proves_with using list) made is in
      let ds = one.0 in
      let steps = steps_with using ds list in (
        ds,
        one.1,
        admitted_by using steps made (admission_of steps) (with_formed using ds list (definitions_formed using vs ds sound one.1) formed) refl
            (once (repeated using ds) (admits_behind using (admission_of steps)) made one.2),
      )

-- a definition
module _ (rightly : DefinesRightly) (name : List ℕ) (vars : List Var) where
  formed_by : (f : Formula) (p : Pred) (made : Product) (b : Bool) → defining name vars f ≡ Ok p → is_formed_pred p ≡ b
      → cond b (product (definition (record { name = name; arity = length vars }) (closed_over all vars f))) lacking ≡ product made
      → ADefinition made (IsDefinition name vars f)
  formed_by f p made true by formed is =
      let right = rightly name vars f p by in
      let s : Sym = record { name = name; arity = length vars } in
      let same : definition s (closed_over all vars f) ≡ made = cc in
      subst (λ q. ADefinition q (IsDefinition name vars f)) same
      (record { symbol = refl; body = refl; formed = subst IsFormedPred right.0 formed; small = right.1 })
  formed_by f p made false by formed is = cc

  defined_by : (f : Formula) (made : Product) (r : Result Pred DefFault) → defining name vars f ≡ r → defines name vars f r ≡ product made → ADefinition made (IsDefinition name vars f)
  defined_by f made (Ok p) by is = formed_by f p made (is_formed_pred p) by refl is
  defined_by f made (Err (defining_faults.Free v)) by is = cc
  defined_by f made (Err defining_faults.Large) by is = cc
  defined_by f made (Err defining_faults.Memory) by is = cc

  pub define_made : (body : Formula) (using : List (List ℕ)) (vs : List (Option Value)) (made : Product)
      → over (definitions_given using vs) (defines_with name vars body using) ≡ product made
      → (ds : List Pred) × (definitions_given using vs ≡ found ds) × ADefinition made (IsDefinition name vars (formula_with using ds body))
  define_made body using vs made is =
      let one = over_made (definitions_given using vs) (defines_with name vars body using) made is in
      let f = formula_with using one.0 body in
      (one.0, one.1, defined_by f made (defining name vars f) refl (once (repeated using one.0) (defines name vars f (defining name vars f)) made one.2))

-- the rules of an unfolded tree
mutual
  rules_formed : (t : Tree) → has_formed_rules (unfolded t) ≡ true → EachNode (λ r s. IsFormedRule (flat_rule r)) t
  rules_formed (node r s ts) is =
      (and_left (is_formed_rule (flat_rule r)) (have_formed_rules (unfolded_all ts)) is, all_rules_formed ts (and_right (is_formed_rule (flat_rule r)) (have_formed_rules (unfolded_all ts)) is))

  all_rules_formed : (ts : Trees) → have_formed_rules (unfolded_all ts) ≡ true → EachNodeOf (λ r s. IsFormedRule (flat_rule r)) ts
  all_rules_formed none is = tt
  all_rules_formed (more t ts) is =
      (rules_formed t (and_left (has_formed_rules (unfolded t)) (have_formed_rules (unfolded_all ts)) is), all_rules_formed ts (and_right (has_formed_rules (unfolded t)) (have_formed_rules (unfolded_all ts)) is))

module _ (rightly : UnfoldsRightly) (of : List ℕ) where
  unfolded_by : (t : Tree) (made : Product) (p q : Bool) → IsValid t → is_formed_sequent (concl t) ≡ p → has_formed_rules (unfolded t) ≡ q
      → cond (p && q) (product (proof (unfolded t))) lacking ≡ product made → AProof made (IsUnfolded t)
  unfolded_by t made true true valid end rules is =
      this_proof (unfolded t) made _ is (rightly t valid (record { left = and_left _ _ end; right = and_right _ _ end }) (rules_formed t rules))
  unfolded_by t made true false valid end rules is = cc
  unfolded_by t made false q valid end rules is = cc

  pub unfold_made : (v : Option Value) (made : Product) → IfSome v IsSound → over (proof_given of v) unfolds ≡ product made
      → (t : Tree) × (proof_given of v ≡ found t) × AProof made (IsUnfolded t)
  unfold_made v made sound is =
      let one = over_made (proof_given of v) unfolds made is in
      let t = one.0 in
      (t, one.1, unfolded_by t made (is_formed_sequent (concl t)) (has_formed_rules (unfolded t)) (found_valid of v t sound one.1) refl refl one.2)
