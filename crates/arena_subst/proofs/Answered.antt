-- What follows of an answer from a fact and from one for each value.
use Rattle.std.specs.Prelude.{Result, Ok, Err, IfOk}

pub if_ok_each : {X E V : Type 0} (r : Result X E) (P : X → Type 0) (Q : V → X → Type 0) (S : X → Type 0) → ((x : X) → P x → ((v : V) → Q v x) → S x) → IfOk r P → ((v : V) → IfOk r (Q v)) → IfOk r S
if_ok_each (Ok x) P Q S f p q = f x p q
if_ok_each (Err e) P Q S f p q = tt
