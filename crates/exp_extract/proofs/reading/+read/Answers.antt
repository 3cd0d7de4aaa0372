-- Instances have lower grades than their quantifiers, and what is read is rightly built.
use Rattle.std.proofs.Common.{◌≡◌, ℕ, false, List, [], Option, Some, IfSome, refl, ap, sym, ◌∙◌, subst, arith}
use Rattle.std.proofs.lemmas.Map.Views.{All-turn}
use Rattle.std.specs.Prelude.{IfOk}
use Rattle.std.specs.BTreeMap.{get}
use Rattle.std.specs.Map.Iter.{deref_pair}
use Rattle.fol.specs.Syntax.{Term}
use Rattle.fol.specs.Order.{term_cmp}
use Rattle.fol.specs.Formed.{is_formed, IsFormedTerm}
use Rattle.finite.specs.Finite as set
use Rattle.substitution.specs.Instance.{inst}
use Rattle.expansion_laws.specs.Expansions.{Exp, wk}
use Rattle.extraction_laws.specs.Addresses.{part, via, formula_at}
use Rattle.extraction_laws.specs.States.{terms_at}
use Rattle.exp_tree.specs.declared.expansion.Inst.{Inst}
use Rattle.exp_tree.specs.Shown.{insts_of}
use Rattle.exp_extract.specs.Marked.{Marked, address_in, address_at}
use Rattle.exp_extract.specs.Entries.{FindsChild}
use Rattle.exp_extract.specs.Marks.{instances_in}
use Rattle.exp_extract.proofs.MarkedSets.{not_opened, terms_found}
use Rattle.exp_extract.specs.Reading.{tree_of, instance_tree}
use Rattle.exp_extract.proofs.ReadInstances.{AreRead, child_at, none_read, one_more, all_read}
use Rattle.exp_extract.proofs.ReadParts.{instance_lower}
use Rattle.exp_extract.proofs.ReadTrees.{formed_variable, weak_is, weak_proper, strong_is, strong_instance}
use Rattle.exp_extract.proofs.reading.+read.Goals as goal

pub read_instances-read_tree-requires : goal.read_instances-read_tree-requires
read_instances-read_tree-requires t c =
    let m = c.args.marks.now in
    let a = address_at m c.args.place in
    let found = All-turn deref_pair (λ (e : Term × ℕ). get term_cmp c.vias-term-items.result.now e.0 ≡ Some e.1) _ _ _ _ _ _ _ c.into_iter-term-iterator.ensures.into_iter_gives.6 c.into_iter-term-iterator.ensures.into_iter_gives.0
    c.loop-term.yielded_by c.in-Some.is c.next.ensures.steps in
    let at = child_at m c.marks.inside.places c.args.place c.in-Some.term.now c.in-Some.instance.now (ap (λ (x : Marked). x.addresses) c.marks.view_is) _ found (c.vias-term-items.ensures.places c.in-Some.term.now) in
    let lower = instance_lower a (address_at m c.in-Some.instance.now) c.in-Some.term.now at.1 in
    (omega (arith, lower, c.decreases), at.0)

pub read_instances-loop-term-init : goal.read_instances-loop-term-init
read_instances-loop-term-init t c =
    let m = c.args.marks.now in
    let a = address_at m c.args.place in
    let ms = c.vias-term-items.result.now in
    let gives = c.into_iter-term-iterator.ensures.into_iter_gives in
    let places = subst (λ (x : Marked). (u : Term) → FindsChild x.addresses (via (address_at x c.args.place) u) (get term_cmp ms u)) c.marks.view_is c.vias-term-items.ensures.places in
    let terms = terms_found m a ms (subst (λ (x : Marked). x.state.instances ≡ instances_in x.addresses) c.marks.view_is refl) c.requires.weak gives.5 places in
    subst (AreRead (instance_tree m a) (terms_at m.state a) c.into_iter-term-iterator.result) (sym c.new-instances.ensures.items)
    (subst (λ es. AreRead (instance_tree m a) (terms_at m.state a) es []) (sym gives.0)
    (subst (λ ts. AreRead (instance_tree m a) ts ms.entries []) terms (none_read (instance_tree m a) ms.entries)))

pub read_instances-loop-term-preserved : goal.read_instances-loop-term-preserved
read_instances-loop-term-preserved t c =
    let m = c.args.marks.now in
    let a = address_at m c.args.place in
    let u = c.in-Some.term.now in
    let is = c.loop-term.instances.items in
    let found = All-turn deref_pair (λ (e : Term × ℕ). get term_cmp c.vias-term-items.result.now e.0 ≡ Some e.1) _ _ _ _ _ _ _ c.into_iter-term-iterator.ensures.into_iter_gives.6 c.into_iter-term-iterator.ensures.into_iter_gives.0
    c.loop-term.yielded_by c.in-Some.is c.next.ensures.steps in
    let at = child_at m c.marks.inside.places c.args.place u c.in-Some.instance.now (ap (λ (x : Marked). x.addresses) c.marks.view_is) _ found (c.vias-term-items.ensures.places u) in
    let formed = subst (λ (o : Option ℕ). IfSome o (λ _. IsFormedTerm u)) found (c.vias-term-items.ensures.formed u) in
    let before = subst (λ es. AreRead (instance_tree m a) (terms_at m.state a) es is) c.in-Some.ensures.steps c.loop-term.invariant in
    subst (λ (js : List Inst). AreRead (instance_tree m a) (terms_at m.state a) c.next.new.self js) (sym c.in_ok-push.ensures.items)
    (one_more (instance_tree m a) (terms_at m.state a) u c.in-Some.instance.now c.next.new.self is (record { term = c.in_ok-term.term; child = c.in_ok-child.child }) before
    c.in_ok-term.ensures (c.in_ok-child.ensures ∙ ap (tree_of m) at.1) formed c.known.ensures.formed)

pub read_instances-returns-clause-instances : goal.read_instances-returns-clause-instances
read_instances-returns-clause-instances t c =
    let m = c.args.marks.now in
    let a = address_at m c.args.place in
    let is = c.loop-term.instances.items in
    all_read (instance_tree m a) (terms_at m.state a) is (subst (λ es. AreRead (instance_tree m a) (terms_at m.state a) es is) c.in-None.ensures.steps.0 c.loop-term.invariant)

pub read_instances-returns-clause-formed : goal.read_instances-returns-clause-formed
read_instances-returns-clause-formed t c = c.loop-term.invariant.formed

pub read_part-returns-in_ok-copy-in-None : goal.read_part-returns-in_ok-copy-in-None
read_part-returns-in_ok-copy-in-None t c =
    let m = c.args.marks.now in
    let p = c.args.place in
    let i = c.args.number in
    let unused = subst (λ (x : Marked). set.has x.state.opened (part (address_at x p) i) ≡ false) c.marks.view_is
    (not_opened c.marks.inside.places (part (address_in c.marks.inside.places p) i) c.marks.inside.used.keys c.in-None.ensures c.marks.invariant.used) in
    subst (λ (y : Exp). IfOk c.wk.result (λ e. e ≡ y))
    (ap wk (c.in_ok-copy-in-None.ensures ∙ c.requires.formula) ∙ sym (c.trees.ensures.unused m.outside m.state (part (address_at m p) i) unused))
    c.wk.ensures

pub read_witness-read_tree-requires : goal.read_witness-read_tree-requires
read_witness-read_tree-requires t c =
    let m = c.args.marks.now in
    let u = c.variable_term-variable.result.now in
    let at = child_at m c.marks.inside.places c.args.place u c.in-Some.there (ap (λ (x : Marked). x.addresses) c.marks.view_is) (Some c.in-Some.there) refl c.in-Some.ensures in
    let lower = instance_lower (address_at m c.args.place) (address_at m c.in-Some.there) u at.1 in
    (omega (arith, lower, c.decreases), at.0)

pub read_witness-returns-in_ok-instance-in-None : goal.read_witness-returns-in_ok-instance-in-None
read_witness-returns-in_ok-instance-in-None t c =
    let m = c.args.marks.now in
    let p = c.args.place in
    let u = c.variable_term-variable.result.now in
    let unused = subst (λ (x : Marked). set.has x.state.opened (via (address_at x p) u) ≡ false) c.marks.view_is
    (not_opened c.marks.inside.places (via (address_in c.marks.inside.places p) u) c.marks.inside.used.keys c.in-None.ensures c.marks.invariant.used) in
    subst (λ (y : Exp). IfOk c.wk.result (λ e. e ≡ y))
    (ap wk (c.in_ok-instance-in-None.ensures.value ∙ ap (λ f. inst f u) c.requires.body) ∙ (sym (c.trees.ensures.unused m.outside m.state (via (address_at m p) u) unused)
    ∙ ap (instance_tree m (address_at m p)) c.variable_term-variable.ensures.value))
    c.wk.ensures

pub read_strong-strong-requires-clause-variable : goal.read_strong-strong-requires-clause-variable
read_strong-strong-requires-clause-variable t c =
    let m = c.args.marks.now in
    formed_variable m.outside m.state (address_at m c.args.place) c.in_ok-variable.variable c.in_ok-variable.ensures

pub read_strong-strong-requires-clause-instance : goal.read_strong-strong-requires-clause-instance
read_strong-strong-requires-clause-instance t c =
    let m = c.args.marks.now in
    let a = address_at m c.args.place in
    strong_instance m a c.in_ok-copy.field-0 c.in_ok-variable.variable c.in_ok-child.child
    (strong_is m a c.in_ok-copy.field-0 c.in_ok-variable.variable c.in_ok-child.child (c.in_ok-copy.ensures ∙ (c.formula.ensures.value ∙ ap (λ (x : Marked). formula_at (address_at x c.args.place)) c.marks.view_is)) c.in_ok-variable.ensures c.in_ok-child.ensures c.requires.strong)

pub read_strong-returns : goal.read_strong-returns
read_strong-returns t c =
    let m = c.args.marks.now in
    let a = address_at m c.args.place in
    subst (λ (y : Exp). IfOk c.strong.result (λ e. e ≡ y))
    (strong_is m a c.in_ok-copy.field-0 c.in_ok-variable.variable c.in_ok-child.child (c.in_ok-copy.ensures ∙ (c.formula.ensures.value ∙ ap (λ (x : Marked). formula_at (address_at x c.args.place)) c.marks.view_is)) c.in_ok-variable.ensures c.in_ok-child.ensures c.requires.strong)
    c.strong.ensures

pub read_weak-weak-requires : goal.read_weak-weak-requires
read_weak-weak-requires t c =
    let m = c.args.marks.now in
    let a = address_at m c.args.place in
    weak_proper m a c.in_ok-copy.field-0 (insts_of c.in_ok-instances.instances.items)
    (weak_is m a c.in_ok-copy.field-0 (insts_of c.in_ok-instances.instances.items) (c.in_ok-copy.ensures ∙ (c.formula.ensures.value ∙ ap (λ (x : Marked). formula_at (address_at x c.args.place)) c.marks.view_is)) c.in_ok-instances.ensures.instances c.requires.tree)
    (ap is_formed c.in_ok-copy.ensures ∙ c.formula.ensures.formed) c.in_ok-instances.ensures.formed
