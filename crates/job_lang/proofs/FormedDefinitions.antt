-- The name and the variables of a definition that is read are well formed.
use Rattle.std.proofs.Common.{◌≡◌, ℕ, suc, ◌==◌, Bool, true, false, if◌then◌else◌, List, [], ◌∷◌, ◌++◌, length, codes, Option, Some, None, Ok, Err, subst}
use Rattle.std.specs.Prelude.{IfSome}
use Rattle.std.specs.List.{All}
use Rattle.std.proofs.lemmas.List.Elements.{All-nil, All-push}
use Rattle.fol.specs.declared.symbols.Var.{Var}
use Rattle.fol.specs.Formed.{is_name, IsFormedVar}
use Rattle.free_variables.specs.Fresh.{is_among}
use Rattle.tptp_tokens.specs.declared.tokens.Scan.{Scan}
use Rattle.tptp_tokens.specs.declared.tokens.Scan.TheVariants.{Found}
use Rattle.tptp_tokens.specs.declared.tokens.Token.TheVariants.{Name}
use Rattle.tptp_tokens.specs.Formed.{IsFormedScan}
use Rattle.tptp_tokens.specs.Lexer.{scanned}
use Rattle.tptp_tokens.proofs.FormedTokens.{scanned_formed}
use Rattle.tptp_read.proofs.FormedValues.{variable_value}
use Rattle.serde_json.specs.Data.{Data}
use Rattle.serde_json.specs.Find.{as_str}
use Rattle.job_lang.specs.declared.places.Place.TheVariants.{Top}
use Rattle.job_words.specs.declared.causes.JobCause.TheVariants.{Field}
use Rattle.job_lang.specs.Places.{path}
use Rattle.job_lang.specs.Fields.{Reading, or_fault, text_at, list_at}
use Rattle.job_lang.specs.Definitions.{whole_name, name_at, wrong_variable, whole_of, variables_behind, variables_at}
use Rattle.job_lang.proofs.FormedFields.{both_read, same_value, there, chosen}

name_value : (s : Scan) (n : ℕ) → IsFormedScan s → IfSome (whole_name s n) (λ x. is_name x ≡ true)
name_value (Found (Name x) k) n p = elim (k == n) as (λ (b : Bool). IfSome (if b then Some x else None) (λ y. is_name y ≡ true)) [ true ↦ p | false ↦ tt ]
name_value s n p = tt

pub name_formed : (d : Data) (x : List ℕ) → name_at d ≡ Ok x → is_name x ≡ true
name_formed d x is =
    let text = both_read (text_at Top (codes "symbol") d) _ x is in
    let whole = there (Field (path Top (codes "symbol") None)) (whole_name (scanned text.0) (length text.0)) x text.1.1 in
    subst (λ (o : Option (List ℕ)). IfSome o (λ y. is_name y ≡ true)) whole (name_value (scanned text.0) (length text.0) (scanned_formed text.0))

element_formed : (text : Option (List ℕ)) (v : Var) → whole_of text ≡ Some v → IsFormedVar v
element_formed None v is = cc
element_formed (Some text) v is = variable_value text v is

wrong : (i : ℕ) (vs : List Var) → ◌≡◌ {A = Reading (List Var)} (Err (wrong_variable i)) (Ok vs) → All IsFormedVar vs
wrong i vs is = cc

behind_formed : (vs : List Var) (i : ℕ) (ds : List Data) (ws : List Var) → All IsFormedVar vs → variables_behind vs i ds ≡ Ok ws → All IsFormedVar ws
behind_formed vs i [] ws formed is = subst (All IsFormedVar) (same_value vs ws is) formed
behind_formed vs i (d ∷ ds) ws formed is =
    let v = both_read (or_fault (wrong_variable i) (whole_of (as_str d))) _ ws is in
    let one = element_formed (as_str d) v.0 (there (wrong_variable i) (whole_of (as_str d)) v.0 v.1.0) in
    chosen (is_among v.0 vs) _ _ (Ok ws) (wrong i ws) (behind_formed (vs ++ v.0 ∷ []) (suc i) ds ws (All-push IsFormedVar vs v.0 formed one)) v.1.1

pub variables_formed : (d : Data) (vs : List Var) → variables_at d ≡ Ok vs → All IsFormedVar vs
variables_formed d vs is =
    let list = both_read (list_at Top (codes "vars") d) (variables_behind [] 0) vs is in
    behind_formed [] 0 list.0 vs (All-nil IsFormedVar) list.1.1
