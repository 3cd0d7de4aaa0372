-- Instances, images and binding keep connectives, quantifiers and predicate symbols with their bodies.
use Rattle.std.proofs.Common.{◌≡◌, ℕ, ◌+◌, ◌++◌, ◌||◌, Option, refl, ap}
use Rattle.fol.specs.declared.symbols.Var.{Var}
use Rattle.fol.specs.Syntax.{Term, Formula, atom, top, bot, not, and, or, imp, all, ex}
use Rattle.fol.specs.Facts.{has_body}
use Rattle.free_variables.specs.Grade.{grade_of}
use Rattle.free_variables.specs.Occurrence.{pred_list}
use Rattle.substitution.specs.Instance.{inst_at, bind_at}
use Rattle.substitution.specs.Image.{image}

-- an instance has the grade of its body
pub grade-inst_at : (u : Term) (f : Formula) (k : ℕ) → grade_of (inst_at u k f) ≡ grade_of f
grade-inst_at u (atom s ts) k = refl
grade-inst_at u top k = refl
grade-inst_at u bot k = refl
grade-inst_at u (not f) k = ap (λ n. n + 1) (grade-inst_at u f k)
grade-inst_at u (and f g) k = λ i. grade-inst_at u f k i + grade-inst_at u g k i + 1
grade-inst_at u (or f g) k = λ i. grade-inst_at u f k i + grade-inst_at u g k i + 1
grade-inst_at u (imp f g) k = λ i. grade-inst_at u f k i + grade-inst_at u g k i + 1
grade-inst_at u (all f) k = ap (λ n. n + 1) (grade-inst_at u f (k + 1))
grade-inst_at u (ex f) k = ap (λ n. n + 1) (grade-inst_at u f (k + 1))

-- an image has the grade of the formula
pub grade-image : (m : Var → Option Term) (f : Formula) → grade_of (image m f) ≡ grade_of f
grade-image m (atom s ts) = refl
grade-image m top = refl
grade-image m bot = refl
grade-image m (not f) = ap (λ n. n + 1) (grade-image m f)
grade-image m (and f g) = λ i. grade-image m f i + grade-image m g i + 1
grade-image m (or f g) = λ i. grade-image m f i + grade-image m g i + 1
grade-image m (imp f g) = λ i. grade-image m f i + grade-image m g i + 1
grade-image m (all f) = ap (λ n. n + 1) (grade-image m f)
grade-image m (ex f) = ap (λ n. n + 1) (grade-image m f)

-- binding keeps the grade
pub grade-bind_at : (v : Var) (f : Formula) (k : ℕ) → grade_of (bind_at v k f) ≡ grade_of f
grade-bind_at v (atom s ts) k = refl
grade-bind_at v top k = refl
grade-bind_at v bot k = refl
grade-bind_at v (not f) k = ap (λ n. n + 1) (grade-bind_at v f k)
grade-bind_at v (and f g) k = λ i. grade-bind_at v f k i + grade-bind_at v g k i + 1
grade-bind_at v (or f g) k = λ i. grade-bind_at v f k i + grade-bind_at v g k i + 1
grade-bind_at v (imp f g) k = λ i. grade-bind_at v f k i + grade-bind_at v g k i + 1
grade-bind_at v (all f) k = ap (λ n. n + 1) (grade-bind_at v f (k + 1))
grade-bind_at v (ex f) k = ap (λ n. n + 1) (grade-bind_at v f (k + 1))

-- an instance has the predicate symbols of its body
pub preds-inst_at : (u : Term) (f : Formula) (k : ℕ) → pred_list (inst_at u k f) ≡ pred_list f
preds-inst_at u (atom s ts) k = refl
preds-inst_at u top k = refl
preds-inst_at u bot k = refl
preds-inst_at u (not f) k = preds-inst_at u f k
preds-inst_at u (and f g) k = λ i. preds-inst_at u f k i ++ preds-inst_at u g k i
preds-inst_at u (or f g) k = λ i. preds-inst_at u f k i ++ preds-inst_at u g k i
preds-inst_at u (imp f g) k = λ i. preds-inst_at u f k i ++ preds-inst_at u g k i
preds-inst_at u (all f) k = preds-inst_at u f (k + 1)
preds-inst_at u (ex f) k = preds-inst_at u f (k + 1)

-- an image has the predicate symbols of the formula
pub preds-image : (m : Var → Option Term) (f : Formula) → pred_list (image m f) ≡ pred_list f
preds-image m (atom s ts) = refl
preds-image m top = refl
preds-image m bot = refl
preds-image m (not f) = preds-image m f
preds-image m (and f g) = λ i. preds-image m f i ++ preds-image m g i
preds-image m (or f g) = λ i. preds-image m f i ++ preds-image m g i
preds-image m (imp f g) = λ i. preds-image m f i ++ preds-image m g i
preds-image m (all f) = preds-image m f
preds-image m (ex f) = preds-image m f

-- binding keeps the predicate symbols
pub preds-bind_at : (v : Var) (f : Formula) (k : ℕ) → pred_list (bind_at v k f) ≡ pred_list f
preds-bind_at v (atom s ts) k = refl
preds-bind_at v top k = refl
preds-bind_at v bot k = refl
preds-bind_at v (not f) k = preds-bind_at v f k
preds-bind_at v (and f g) k = λ i. preds-bind_at v f k i ++ preds-bind_at v g k i
preds-bind_at v (or f g) k = λ i. preds-bind_at v f k i ++ preds-bind_at v g k i
preds-bind_at v (imp f g) k = λ i. preds-bind_at v f k i ++ preds-bind_at v g k i
preds-bind_at v (all f) k = preds-bind_at v f (k + 1)
preds-bind_at v (ex f) k = preds-bind_at v f (k + 1)

-- an instance has a symbol with a body where its formula has one
pub body-inst_at : (u : Term) (f : Formula) (k : ℕ) → has_body (inst_at u k f) ≡ has_body f
body-inst_at u (atom s ts) k = refl
body-inst_at u top k = refl
body-inst_at u bot k = refl
body-inst_at u (not f) k = body-inst_at u f k
body-inst_at u (and f g) k = λ i. body-inst_at u f k i || body-inst_at u g k i
body-inst_at u (or f g) k = λ i. body-inst_at u f k i || body-inst_at u g k i
body-inst_at u (imp f g) k = λ i. body-inst_at u f k i || body-inst_at u g k i
body-inst_at u (all f) k = body-inst_at u f (k + 1)
body-inst_at u (ex f) k = body-inst_at u f (k + 1)

-- an image has one where the formula has one
pub body-image : (m : Var → Option Term) (f : Formula) → has_body (image m f) ≡ has_body f
body-image m (atom s ts) = refl
body-image m top = refl
body-image m bot = refl
body-image m (not f) = body-image m f
body-image m (and f g) = λ i. body-image m f i || body-image m g i
body-image m (or f g) = λ i. body-image m f i || body-image m g i
body-image m (imp f g) = λ i. body-image m f i || body-image m g i
body-image m (all f) = body-image m f
body-image m (ex f) = body-image m f

-- binding keeps them
pub body-bind_at : (v : Var) (f : Formula) (k : ℕ) → has_body (bind_at v k f) ≡ has_body f
body-bind_at v (atom s ts) k = refl
body-bind_at v top k = refl
body-bind_at v bot k = refl
body-bind_at v (not f) k = body-bind_at v f k
body-bind_at v (and f g) k = λ i. body-bind_at v f k i || body-bind_at v g k i
body-bind_at v (or f g) k = λ i. body-bind_at v f k i || body-bind_at v g k i
body-bind_at v (imp f g) k = λ i. body-bind_at v f k i || body-bind_at v g k i
body-bind_at v (all f) k = body-bind_at v f (k + 1)
body-bind_at v (ex f) k = body-bind_at v f (k + 1)
