-- What the reading of a line gives is well formed.
use Rattle.std.proofs.Common.{◌≡◌, ℕ, List, length, codes, Some, None, is_some, option_and_then, Result, Ok, Err, refl, ap, subst, [], ◌∷◌, ◌++◌}
use Rattle.std.specs.List.{All}
use Rattle.fol.specs.declared.symbols.Var.{Var}
use Rattle.fol.specs.Syntax.{Term, Formula}
use Rattle.fol.specs.Formed.{is_formed, is_formed_term, is_formed_var, IsFormed, IsFormedTerm, IsFormedVar}
use Rattle.lk_rules.specs.declared.rule.Rule.{Rule}
use Rattle.lk_rules.specs.declared.rule.Rule.TheVariants as rules
use Rattle.lk_rules.specs.declared.rule.Step.{Step}
use Rattle.lk_rules.specs.declared.sequent.Sequent.{Sequent}
use Rattle.lk_rules.specs.Rules.{IsFormedRule}
use Rattle.tptp_tokens.specs.Lexer.{scanned, whole_variable}
use Rattle.tptp_read.specs.Texts.{term_reading}
use Rattle.tptp_read.proofs.FormedValues.{term_value}
use Rattle.tptp_problem.specs.declared.errors.ProblemKind.{ProblemKind}
use Rattle.tptp_problem.specs.declared.problems.Problem.{Problem as ProblemMeaning}
use Rattle.tptp_problem.specs.ProblemClauses.{IsReadProblem}
use Rattle.tptp_problem.specs.Reading.{problem_reading}
use Rattle.tptp_problem.proofs.ReadingLaws.{problem_read}
use Rattle.refutations.specs.declared.step.ResStep.{ResStep}
use Rattle.refutations.specs.declared.step.ResStep.TheVariants as res
use Rattle.refutations.specs.Refutations.{IsFormedStep, AreFormedSteps}
use Rattle.substitution.specs.Image.{IsFormedMap}
use Rattle.substitution.specs.Maps.{Map}
use Rattle.substitution.proofs.ImageLaws.{formed_insert, formed_empty}
use Rattle.std.specs.FinMap as fin
use Rattle.serde_json.specs.Data.{Data, Members, no_members, member}
use Rattle.serde_json.specs.Find.{get, as_str, as_object}
use Rattle.job_lang.specs.declared.places.Place.{Place}
use Rattle.job_lang.specs.declared.places.Place.TheVariants as places
use Rattle.job_words.specs.declared.causes.JobCause.TheVariants.{Field}
use Rattle.job_words.specs.declared.kinds.RuleKind.{RuleKind}
use Rattle.job_words.specs.declared.kinds.RuleKind.TheVariants as kinds
use Rattle.job_lang.specs.declared.jobs.Op.{Op}
use Rattle.job_lang.specs.declared.jobs.Op.TheVariants.{Lk, Problem, Proves, Show, Measure, Subst, Cutelim, Eliminate, Define, Unfold, Sat, Prove, Resolution, Tautology, Expansion, Expand, Fromexp, Interpolate, Herbrand, Cutintro}
use Rattle.job_lang.specs.Places.{path}
use Rattle.job_lang.specs.Fields.{Reading, ◌>>=◌, or_fault, text_at, list_at}
use Rattle.job_lang.specs.Formulas.{in_field, formula_at, term_at, variable_at, side_at}
use Rattle.job_lang.specs.Problems.{problem_at}
use Rattle.job_lang.specs.Rules.{main_at, rule_of_kind, rule_of}
use Rattle.job_words.specs.RuleKinds.{is_text, kind_named}
use Rattle.job_lang.specs.Steps.{step_of, step_at, steps_of, steps_at}
use Rattle.job_lang.specs.FormedOps.{AreFormedSides, IsFormedOp}
use Rattle.job_lang.specs.Sequents.{sequent_at, part_of, part_at}
use Rattle.job_lang.specs.Maps.{member_path, binding_of, map_of, map_at}
use Rattle.job_lang.specs.Budgets.{budget_at}
use Rattle.job_lang.specs.Widths.{width_at}
use Rattle.job_lang.specs.RoundNumbers.{rounds_at}
use Rattle.job_lang.specs.Numbers.{number_at, numbers_at, pair_at}
use Rattle.job_lang.specs.Expansions.{flat_at}
use Rattle.job_lang.specs.Resolutions.{input_step, subst_step, resolve_step, wrong_step, res_step_at, res_steps_of, res_steps_at}
use Rattle.job_lang.specs.Problems as problems
use Rattle.job_lang.proofs.FormedFields.{both_read, same_value, in_text, both_true, formula_formed, term_formed, variable_formed, each_formed, chosen, side_formed}
use Rattle.job_lang.proofs.FormedExpansions.{flat_formed}
use Rattle.job_lang.proofs.FormedDefinitions.{name_formed, variables_formed}
use Rattle.job_lang.specs.Definitions.{name_at, variables_at, using_at}
use Rattle.job_lang.specs.Jobs.{value_of, name_of, lk_of, define_of, eliminate_of, unfold_of, sat_of, prove_of, proves_of, subst_of, cutelim_of, resolution_of, tautology_of, expansion_of, expand_of, fromexp_of, interpolate_of, herbrand_of, cutintro_of, Reader, unbudgeted, budgeted, op_among, op_named, op_of, reads_named, reads_value, reads_job}

module _ (place : Place) (d : Data) where
  -- a rule that names its main formula alone, and one that names a term or a variable too
  with_main : (f : Formula → Rule) (r : Rule) → ((a : Formula) → IsFormed a → IsFormedRule (f a)) → (main_at place d >>= λ a. Ok (f a)) ≡ Ok r → IsFormedRule r
  with_main f r formed is =
      let main = both_read (main_at place d) (λ a. Ok (f a)) r is in
      subst IsFormedRule (same_value (f main.0) r main.1.1) (formed main.0 (formula_formed place d (codes "main") main.0 main.1.0))

  with_term : (f : Formula → Term → Rule) (r : Rule) → ((a : Formula) (t : Term) → IsFormed a → IsFormedTerm t → IsFormedRule (f a t))
      → (main_at place d >>= λ a. term_at place (codes "term") d >>= λ t. Ok (f a t)) ≡ Ok r → IsFormedRule r
  with_term f r formed is =
      let main = both_read (main_at place d) (λ a. term_at place (codes "term") d >>= λ t. Ok (f a t)) r is in
      let term = both_read (term_at place (codes "term") d) (λ t. Ok (f main.0 t)) r main.1.1 in
      subst IsFormedRule (same_value (f main.0 term.0) r term.1.1)
      (formed main.0 term.0 (formula_formed place d (codes "main") main.0 main.1.0) (term_formed place d (codes "term") term.0 term.1.0))

  with_variable : (f : Formula → Var → Rule) (r : Rule) → ((a : Formula) (y : Var) → IsFormed a → IsFormedVar y → IsFormedRule (f a y))
      → (main_at place d >>= λ a. variable_at place (codes "var") d >>= λ y. Ok (f a y)) ≡ Ok r → IsFormedRule r
  with_variable f r formed is =
      let main = both_read (main_at place d) (λ a. variable_at place (codes "var") d >>= λ y. Ok (f a y)) r is in
      let var = both_read (variable_at place (codes "var") d) (λ y. Ok (f main.0 y)) r main.1.1 in
      subst IsFormedRule (same_value (f main.0 var.0) r var.1.1)
      (formed main.0 var.0 (formula_formed place d (codes "main") main.0 main.1.0) (variable_formed place d (codes "var") var.0 var.1.0))

  kind_formed : (k : RuleKind) (r : Rule) → rule_of_kind place k d ≡ Ok r → IsFormedRule r
  kind_formed kinds.TopR r is = subst IsFormedRule (same_value rules.TopR r is) refl
  kind_formed kinds.BotL r is = subst IsFormedRule (same_value rules.BotL r is) refl
  kind_formed kinds.Weak r is = subst IsFormedRule (same_value rules.Weak r is) refl
  kind_formed kinds.Ax r is = with_main (λ a. rules.Ax a) r (λ a p. p) is
  kind_formed kinds.NegL r is = with_main (λ a. rules.NegL a) r (λ a p. p) is
  kind_formed kinds.NegR r is = with_main (λ a. rules.NegR a) r (λ a p. p) is
  kind_formed kinds.AndL r is = with_main (λ a. rules.AndL a) r (λ a p. p) is
  kind_formed kinds.AndR r is = with_main (λ a. rules.AndR a) r (λ a p. p) is
  kind_formed kinds.OrL r is = with_main (λ a. rules.OrL a) r (λ a p. p) is
  kind_formed kinds.OrR r is = with_main (λ a. rules.OrR a) r (λ a p. p) is
  kind_formed kinds.ImpL r is = with_main (λ a. rules.ImpL a) r (λ a p. p) is
  kind_formed kinds.ImpR r is = with_main (λ a. rules.ImpR a) r (λ a p. p) is
  kind_formed kinds.DefL r is = with_main (λ a. rules.DefL a) r (λ a p. p) is
  kind_formed kinds.DefR r is = with_main (λ a. rules.DefR a) r (λ a p. p) is
  kind_formed kinds.Cut r is = with_main (λ a. rules.Cut a) r (λ a p. p) is
  kind_formed kinds.AllL r is = with_term (λ a t. rules.AllL a t) r (λ a t. both_true (is_formed a) (is_formed_term t)) is
  kind_formed kinds.ExR r is = with_term (λ a t. rules.ExR a t) r (λ a t. both_true (is_formed a) (is_formed_term t)) is
  kind_formed kinds.AllR r is = with_variable (λ a y. rules.AllR a y) r (λ a y. both_true (is_formed a) (is_formed_var y)) is
  kind_formed kinds.ExL r is = with_variable (λ a y. rules.ExL a y) r (λ a y. both_true (is_formed a) (is_formed_var y)) is

  rule_formed : (r : Rule) → rule_of place d ≡ Ok r → IsFormedRule r
  rule_formed r is =
      let name = both_read (text_at place (codes "rule") d) _ r is in
      let kind = both_read (or_fault (Field (path place (codes "rule") None)) (kind_named name.0)) _ r name.1.1 in
      kind_formed kind.0 r kind.1.1

  members_formed : (s : Step) → step_of place d ≡ Ok s → IsFormedRule s.rule
  members_formed s is =
      let rule = both_read (rule_of place d) _ s is in
      let premises = both_read (numbers_at place (codes "premises") d) _ s rule.1.1 in
      let left = both_read (side_at place (codes "left") d) _ s premises.1.1 in
      let right = both_read (side_at place (codes "right") d) _ s left.1.1 in
      subst (λ (x : Step). IsFormedRule x.rule) (same_value _ s right.1.1) (rule_formed rule.0 rule.1.0)

step_formed : (i : ℕ) (d : Data) (s : Step) → step_at i d ≡ Ok s → IsFormedRule s.rule
step_formed i d s is =
    let object = both_read (or_fault (Field (path places.Top (codes "steps") (Some i))) (as_object d)) _ s is in
    members_formed (places.Step i) d s object.1.1

-- the rules of these steps name what is well formed
abbrev AreFormed : List Step → Type 0
AreFormed steps = All (λ s. IsFormedRule s.rule) steps

steps_formed : (d : Data) (steps : List Step) → steps_at d ≡ Ok steps → AreFormed steps
steps_formed d steps is =
    let list = both_read (list_at places.Top (codes "steps") d) steps_of steps is in
    each_formed (λ (s : Step). IsFormedRule s.rule) step_at step_formed 0 list.0 steps list.1.1

-- maps

binding_formed : (place : Place) (name : List ℕ) (d : Data) (b : Var × Term) → binding_of place name d ≡ Ok b → IsFormedTerm b.1
binding_formed place name d b is =
    let var = both_read (or_fault (Field (path place (codes "map") None)) (whole_variable (scanned name) (length name))) _ b is in
    let text = both_read (or_fault (Field (member_path place (codes "map") name)) (as_str d)) _ b var.1.1 in
    let term = both_read (in_field (member_path place (codes "map") name) (term_reading text.0)) _ b text.1.1 in
    subst (λ (x : Var × Term). IsFormedTerm x.1) (same_value (var.0, term.0) b term.1.1)
    (term_value text.0 term.0 (in_text (member_path place (codes "map") name) (term_reading text.0) term.0 term.1.0))

members_are_formed : (place : Place) (ms : Members) (m n : Map) → map_of place ms m ≡ Ok n → IsFormedMap (fin.get m) → IsFormedMap (fin.get n)
members_are_formed place no_members m n is h = subst (λ (x : Map). IsFormedMap (fin.get x)) (same_value m n is) h
members_are_formed place (member name d ms) m n is h =
    let binding = both_read (binding_of place name d) _ n is in
    members_are_formed place ms (fin.insert m binding.0.0 binding.0.1) n binding.1.1
    (formed_insert m binding.0.0 binding.0.1 h (binding_formed place name d binding.0 binding.1.0))

map_formed : (place : Place) (d : Data) (m : Map) → map_at place d ≡ Ok m → IsFormedMap (fin.get m)
map_formed place d m is =
    let members = both_read (or_fault (Field (path place (codes "map") None)) (option_and_then as_object (get (codes "map") d))) _ m is in
    members_are_formed place members.0 fin.empty m members.1.1 formed_empty

-- refutations

input_formed : (place : Place) (d : Data) (s : ResStep) → input_step place d ≡ Ok s → IsFormedStep s
input_formed place d s is =
    let number = both_read (number_at place (codes "input") d) _ s is in
    subst IsFormedStep (same_value (res.Input number.0) s number.1.1) tt

subst_formed : (place : Place) (d : Data) (s : ResStep) → subst_step place d ≡ Ok s → IsFormedStep s
subst_formed place d s is =
    let number = both_read (number_at place (codes "subst") d) _ s is in
    let map = both_read (map_at place d) _ s number.1.1 in
    subst IsFormedStep (same_value (res.Subst number.0 map.0) s map.1.1) (map_formed place d map.0 map.1.0)

resolve_formed : (place : Place) (d : Data) (s : ResStep) → resolve_step place d ≡ Ok s → IsFormedStep s
resolve_formed place d s is =
    let premises = both_read (pair_at place (codes "resolve") d) _ s is in
    let atom = both_read (formula_at place (codes "atom") d) _ s premises.1.1 in
    subst IsFormedStep (same_value (res.Resolve premises.0.0 premises.0.1 atom.0) s atom.1.1) (formula_formed place d (codes "atom") atom.0 atom.1.0)

no_step : (i : ℕ) (s : ResStep) → ◌≡◌ {A = Reading ResStep} (Err (wrong_step i)) (Ok s) → IsFormedStep s
no_step i s is = cc

res_step_formed : (i : ℕ) (d : Data) (s : ResStep) → res_step_at i d ≡ Ok s → IsFormedStep s
res_step_formed i d s is =
    let object = both_read (or_fault (wrong_step i) (as_object d)) _ s is in
    chosen (is_some (get (codes "input") d)) _ _ (Ok s) (input_formed (places.Step i) d s)
    (chosen (is_some (get (codes "subst") d)) _ _ (Ok s) (subst_formed (places.Step i) d s)
    (chosen (is_some (get (codes "resolve") d)) _ _ (Ok s) (resolve_formed (places.Step i) d s) (no_step i s))) object.1.1

res_steps_formed : (d : Data) (steps : List ResStep) → res_steps_at d ≡ Ok steps → AreFormedSteps steps
res_steps_formed d steps is =
    let list = both_read (list_at places.Top (codes "steps") d) res_steps_of steps is in
    each_formed IsFormedStep res_step_at res_step_formed 0 list.0 steps list.1.1

-- problems

problem_value : (r : Result ProblemMeaning (ℕ × ProblemKind)) (p : ProblemMeaning) → problems.in_text r ≡ Ok p → r ≡ Ok p
problem_value (Ok q) p is = ap Ok (same_value q p is)
problem_value (Err e) p is = cc

problem_formed : (d : Data) (p : ProblemMeaning) → problem_at d ≡ Ok p → IsReadProblem p
problem_formed d p is =
    let text = both_read (text_at places.Top (codes "text") d) (λ x. problems.in_text (problem_reading x)) p is in
    problem_read text.0 p (problem_value (problem_reading text.0) p text.1.1)

-- sequents

sequent_formed : (place : Place) (d : Data) (s : Sequent) → sequent_at place d ≡ Ok s → AreFormedSides s
sequent_formed place d s is =
    let left = both_read (side_at place (codes "left") d) _ s is in
    let right = both_read (side_at place (codes "right") d) _ s left.1.1 in
    subst AreFormedSides (same_value _ s right.1.1) (side_formed place (codes "left") d left.0 left.1.0, side_formed place (codes "right") d right.0 right.1.0)

part_formed : (place : Place) (key : List ℕ) (d : Data) (s : Sequent) → part_at place key d ≡ Ok s → AreFormedSides s
part_formed place key d s is =
    let member = both_read (or_fault (Field (path places.Top key None)) (get key d)) (part_of place key) s is in
    let object = both_read (or_fault (Field (path places.Top key None)) (as_object member.0)) _ s member.1.1 in
    sequent_formed place member.0 s object.1.1

module _ (d : Data) (op : Op) where
  in_lk : lk_of d ≡ Ok op → IsFormedOp op
  in_lk is =
      let steps = both_read (steps_at d) _ op is in
      let using = both_read (using_at d) (λ x. Ok (Lk steps.0 x)) op steps.1.1 in
      subst IsFormedOp (same_value (Lk steps.0 using.0) op using.1.1) (steps_formed d steps.0 steps.1.0)

  in_define : define_of d ≡ Ok op → IsFormedOp op
  in_define is =
      let symbol = both_read (name_at d) _ op is in
      let vars = both_read (variables_at d) _ op symbol.1.1 in
      let body = both_read (formula_at places.Top (codes "body") d) _ op vars.1.1 in
      let using = both_read (using_at d) (λ x. Ok (Define symbol.0 vars.0 body.0 x)) op body.1.1 in
      subst IsFormedOp (same_value (Define symbol.0 vars.0 body.0 using.0) op using.1.1)
      (name_formed d symbol.0 symbol.1.0, (variables_formed d vars.0 vars.1.0, formula_formed places.Top d (codes "body") body.0 body.1.0))

  in_eliminate : eliminate_of d ≡ Ok op → IsFormedOp op
  in_eliminate is =
      let read = both_read (text_at places.Top (codes "proof") d) (λ x. Ok (Eliminate x)) op is in
      subst IsFormedOp (same_value (Eliminate read.0) op read.1.1) tt

  in_unfold : unfold_of d ≡ Ok op → IsFormedOp op
  in_unfold is =
      let read = both_read (text_at places.Top (codes "proof") d) (λ x. Ok (Unfold x)) op is in
      subst IsFormedOp (same_value (Unfold read.0) op read.1.1) tt

  in_sat : sat_of d ≡ Ok op → IsFormedOp op
  in_sat is =
      let read = both_read (text_at places.Top (codes "problem") d) (λ x. Ok (Sat x)) op is in
      subst IsFormedOp (same_value (Sat read.0) op read.1.1) tt

  in_prove : prove_of d ≡ Ok op → IsFormedOp op
  in_prove is =
      let problem = both_read (text_at places.Top (codes "problem") d) _ op is in
      let rounds = both_read (rounds_at d) (λ x. Ok (Prove problem.0 x)) op problem.1.1 in
      subst IsFormedOp (same_value (Prove problem.0 rounds.0) op rounds.1.1) tt

  in_problem : (problem_at d >>= λ problem. Ok (Problem problem)) ≡ Ok op → IsFormedOp op
  in_problem is =
      let read = both_read (problem_at d) (λ x. Ok (Problem x)) op is in
      subst IsFormedOp (same_value (Problem read.0) op read.1.1) (problem_formed d read.0 read.1.0)

  in_proves : proves_of d ≡ Ok op → IsFormedOp op
  in_proves is =
      let proof = both_read (text_at places.Top (codes "proof") d) _ op is in
      let problem = both_read (text_at places.Top (codes "problem") d) (λ x. Ok (Proves proof.0 x)) op proof.1.1 in
      subst IsFormedOp (same_value (Proves proof.0 problem.0) op problem.1.1) tt

  in_show : (text_at places.Top (codes "of") d >>= λ of. Ok (Show of)) ≡ Ok op → IsFormedOp op
  in_show is =
      let read = both_read (text_at places.Top (codes "of") d) (λ x. Ok (Show x)) op is in
      subst IsFormedOp (same_value (Show read.0) op read.1.1) tt

  in_measure : (text_at places.Top (codes "proof") d >>= λ proof. Ok (Measure proof)) ≡ Ok op → IsFormedOp op
  in_measure is =
      let read = both_read (text_at places.Top (codes "proof") d) (λ x. Ok (Measure x)) op is in
      subst IsFormedOp (same_value (Measure read.0) op read.1.1) tt

  in_subst : subst_of d ≡ Ok op → IsFormedOp op
  in_subst is =
      let proof = both_read (text_at places.Top (codes "proof") d) _ op is in
      let map = both_read (map_at places.Top d) (λ x. Ok (Subst proof.0 x)) op proof.1.1 in
      subst IsFormedOp (same_value (Subst proof.0 map.0) op map.1.1) (map_formed places.Top d map.0 map.1.0)

  in_cutelim : cutelim_of d ≡ Ok op → IsFormedOp op
  in_cutelim is =
      let proof = both_read (text_at places.Top (codes "proof") d) _ op is in
      let budget = both_read (budget_at d) (λ x. Ok (Cutelim proof.0 x)) op proof.1.1 in
      subst IsFormedOp (same_value (Cutelim proof.0 budget.0) op budget.1.1) tt

  in_resolution : resolution_of d ≡ Ok op → IsFormedOp op
  in_resolution is =
      let problem = both_read (text_at places.Top (codes "problem") d) _ op is in
      let steps = both_read (res_steps_at d) (λ x. Ok (Resolution problem.0 x)) op problem.1.1 in
      subst IsFormedOp (same_value (Resolution problem.0 steps.0) op steps.1.1) (res_steps_formed d steps.0 steps.1.0)

  in_tautology : tautology_of d ≡ Ok op → IsFormedOp op
  in_tautology is =
      let sequent = both_read (sequent_at places.Top d) _ op is in
      let budget = both_read (budget_at d) (λ x. Ok (Tautology sequent.0 x)) op sequent.1.1 in
      subst IsFormedOp (same_value (Tautology sequent.0 budget.0) op budget.1.1) (sequent_formed places.Top d sequent.0 sequent.1.0)

  in_expansion : expansion_of d ≡ Ok op → IsFormedOp op
  in_expansion is =
      let flat = both_read (flat_at d) _ op is in
      let budget = both_read (budget_at d) (λ x. Ok (Expansion flat.0 x)) op flat.1.1 in
      subst IsFormedOp (same_value (Expansion flat.0 budget.0) op budget.1.1) (flat_formed d flat.0 flat.1.0)

  in_expand : expand_of d ≡ Ok op → IsFormedOp op
  in_expand is =
      let proof = both_read (text_at places.Top (codes "proof") d) _ op is in
      let budget = both_read (budget_at d) (λ x. Ok (Expand proof.0 x)) op proof.1.1 in
      subst IsFormedOp (same_value (Expand proof.0 budget.0) op budget.1.1) tt

  in_fromexp : fromexp_of d ≡ Ok op → IsFormedOp op
  in_fromexp is =
      let expansion = both_read (text_at places.Top (codes "expansion") d) _ op is in
      let budget = both_read (budget_at d) (λ x. Ok (Fromexp expansion.0 x)) op expansion.1.1 in
      subst IsFormedOp (same_value (Fromexp expansion.0 budget.0) op budget.1.1) tt

  in_interpolate : interpolate_of d ≡ Ok op → IsFormedOp op
  in_interpolate is =
      let proof = both_read (text_at places.Top (codes "proof") d) _ op is in
      let first = both_read (part_at places.First (codes "first") d) _ op proof.1.1 in
      let second = both_read (part_at places.Second (codes "second") d) _ op first.1.1 in
      let budget = both_read (budget_at d) (λ x. Ok (Interpolate proof.0 first.0 second.0 x)) op second.1.1 in
      subst IsFormedOp (same_value (Interpolate proof.0 first.0 second.0 budget.0) op budget.1.1)
      (part_formed places.First (codes "first") d first.0 first.1.0, part_formed places.Second (codes "second") d second.0 second.1.0)

  in_herbrand : herbrand_of d ≡ Ok op → IsFormedOp op
  in_herbrand is =
      let proof = both_read (text_at places.Top (codes "proof") d) _ op is in
      let budget = both_read (budget_at d) (λ x. Ok (Herbrand proof.0 x)) op proof.1.1 in
      subst IsFormedOp (same_value (Herbrand proof.0 budget.0) op budget.1.1) tt

  in_cutintro : cutintro_of d ≡ Ok op → IsFormedOp op
  in_cutintro is =
      let proof = both_read (text_at places.Top (codes "proof") d) _ op is in
      let width = both_read (width_at d) _ op proof.1.1 in
      let budget = both_read (budget_at d) (λ x. Ok (Cutintro proof.0 width.0 x)) op width.1.1 in
      subst IsFormedOp (same_value (Cutintro proof.0 width.0 budget.0) op budget.1.1) tt

  -- each operation of a list is read with what is well formed
  abbrev AreReadFormed : List Reader → Type 0
  AreReadFormed [] = Unit {0}
  AreReadFormed (r ∷ rs) = (r.1 d ≡ Ok op → IsFormedOp op) × AreReadFormed rs

  among_formed : (rs : List Reader) (name : List ℕ) → AreReadFormed rs → op_among rs name d ≡ Ok op → IsFormedOp op
  among_formed [] name formed is = cc
  among_formed (r ∷ rs) name formed is = chosen (is_text name r.0) _ _ (Ok op) formed.0 (among_formed rs name formed.1) is

  all_formed : AreReadFormed (unbudgeted ++ budgeted)
  all_formed = (
    in_lk,
    (
      in_problem,
      (
        in_proves,
        (
          in_show,
          (
            in_measure,
            (
              in_subst,
              (
                in_resolution,
                (
                  in_eliminate,
                  (
                    in_define,
                    (
                      in_unfold,
                      (in_sat, (in_prove, (in_cutelim, (in_tautology, (in_expansion, (in_expand, (in_fromexp, (in_interpolate, (in_herbrand, (in_cutintro, tt)))))))))),
                    ),
                  ),
                ),
              ),
            ),
          ),
        ),
      ),
    ),
  )

  named_formed : (name : List ℕ) → op_named name d ≡ Ok op → IsFormedOp op
  named_formed name is = among_formed (unbudgeted ++ budgeted) name all_formed is

  op_formed : op_of d ≡ Ok op → IsFormedOp op
  op_formed is =
      let name = both_read (text_at places.Top (codes "op") d) (λ x. op_named x d) op is in named_formed name.0 name.1.1

  behind_name : (name : Reading (List ℕ)) → (reads_named name d).op ≡ Ok op → IsFormedOp op
  behind_name (Ok name) is = op_formed is
  behind_name (Err c) is = cc

in_value : (r : Reading Data) (op : Op) → (reads_value r).op ≡ Ok op → IsFormedOp op
in_value (Ok d) op is = behind_name d op (name_of d) is
in_value (Err c) op is = cc

pub formed_op : (line : List ℕ) (op : Op) → (reads_job line).op ≡ Ok op → IsFormedOp op
unfolding reads_job
formed_op line op is = in_value (value_of line) op is
