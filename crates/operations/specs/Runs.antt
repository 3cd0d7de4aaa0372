-- What running an operation does, and what is replied of what it made.
--     Runs, RunsAtDesk      at a bench, and at a desk
--     IsReply      an outcome, and what the job holds
use Rattle.std.specs.Prelude.{◌≡◌, ◌≢◌, true}
use mathlib.Core.List.{IsPrefix}
use Rattle.proof_graph.specs.declared.graph.Graph.{Graph}
use Rattle.proof_graph.specs.Graphs.{history}
use Rattle.proof_subst.specs.declared.bench.Bench.{Bench}
use Rattle.proof_subst.specs.declared.bench.BenchPass.{BenchPass}
use Rattle.proof_subst.specs.Benches.{graph_of, pass_in, images_in, Extends}
use Rattle.cut_elim.specs.declared.desk.Desk.{Desk}
use Rattle.cut_elim.specs.declared.desk.DeskPass.{DeskPass}
use Rattle.cut_elim.specs.Desks.{bench_of, pass_in as bench_pass_in, eliminations_in, Extends as ExtendsDesk}
use Rattle.reply_lines.specs.declared.replies.Outcome.{Outcome}
use Rattle.operation_laws.specs.Answers.{Product, shown_product, held_product, Asked}
use Rattle.held_values.specs.declared.held.Held.{Held}
use Rattle.held_values.specs.declared.held.Held.TheVariants as held
use Rattle.held_values.specs.Means.{sense, Fits, Is}
use Rattle.operations.specs.declared.answers.Ran.{Ran}
use Rattle.operations.specs.Means.{ComesTo, is_refusal, IsShort}

-- It came to what is asked for. What is refused or failed has put nothing into the graph and noted no image. The pass is one of the bench
-- after it, and has seen at least what it had seen.
pub record Runs (bench : Bench) (old new : BenchPass) (ran : Ran) (asked : Asked) : Type 0 where
  pub comes : ComesTo (graph_of bench) ran asked
  pub unchanged : is_refusal ran ≡ true → history (pass_in new) ≡ history (pass_in old)
  pub images_unchanged : is_refusal ran ≡ true → images_in new ≡ images_in old
  pub images_grown : IsPrefix (images_in old) (images_in new)
  pub extends : Extends bench old new

-- The same at a desk. What is refused or failed has noted no elimination of cuts, unless a budget was used up.
pub record RunsAtDesk (desk : Desk) (old new : DeskPass) (ran : Ran) (asked : Asked) : Type 0 where
  pub runs : Runs (bench_of desk) (bench_pass_in old) (bench_pass_in new) ran asked
  pub eliminations_unchanged : is_refusal ran ≡ true → ¬ IsShort ran → eliminations_in new ≡ eliminations_in old
  pub eliminations_grown : IsPrefix (eliminations_in old) (eliminations_in new)
  pub extends : ExtendsDesk desk old new

-- the outcome shows the product, and the job holds it; that fits the graph, and is not what a refusal holds
pub record IsReply (g : Graph) (p : Product) (outcome : Outcome) (value : Held) : Type 0 where
  pub is : Is outcome (sense value) (shown_product p) (held_product p)
  pub fits : Fits g value
  pub not_refused : value ≢ held.Refused
