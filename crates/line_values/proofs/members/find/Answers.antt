use Rattle.std.proofs.Common.{◌≡◌, ◌+◌, ◌-◌, [], ◌∷◌, ◌++◌, take, true, false, sym, ap, ◌∙◌, arith}
use Rattle.std.specs.Str.{bytes_eq}
use Rattle.std.proofs.lemmas.List.{take_more}
use Rattle.serde_json.specs.Find.{get_member}
use Rattle.line_values.specs.View.{members_view}
use Rattle.line_values.proofs.Levels.{found_last, found_before}
use Rattle.line_values.proofs.members.find.Goals as goal

pub returns-then-is_key : goal.returns-then-is_key
returns-then-is_key c =
    let xs = c.args.members.now.items in
    let i = c.loop-left.left - 1 in
    let m = c.index-member.result.now in
    let key = c.args.key.now in
    let next : c.loop-left.left ≡ i + 1 = omega arith in
    let front : take c.loop-left.left xs ≡ take i xs ++ m ∷ [] = ap (λ k. take k xs) next ∙ take_more xs i m (omega arith) ∙ ap (λ y. take i xs ++ y ∷ []) (sym c.index-member.ensures) in
    let same : bytes_eq m.0.now key ≡ true = grind arith in
    sym (c.loop-left.invariant.0 ∙ ap (λ ys. get_member key (members_view ys)) front ∙ found_last key (take i xs) m same)

pub loop-left-preserved : goal.loop-left-preserved
loop-left-preserved c =
    let xs = c.args.members.now.items in
    let i = c.loop-left.left - 1 in
    let m = c.index-member.result.now in
    let key = c.args.key.now in
    let next : c.loop-left.left ≡ i + 1 = omega arith in
    let front : take c.loop-left.left xs ≡ take i xs ++ m ∷ [] = ap (λ k. take k xs) next ∙ take_more xs i m (omega arith) ∙ ap (λ y. take i xs ++ y ∷ []) (sym c.index-member.ensures) in
    let other : bytes_eq m.0.now key ≡ false = grind arith in
    (c.loop-left.invariant.0 ∙ ap (λ ys. get_member key (members_view ys)) front ∙ found_before key (take i xs) m other, omega arith)
