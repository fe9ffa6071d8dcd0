-- What an answer carries as `Ok`.
use Rattle.std.proofs.Common.{Result, Ok, Err, OnOk}

pub if_ok : {T E P Q : Type 0} (r : Result T E) → OnOk r P → (P → Q) → OnOk r Q
if_ok (Ok x) p then = then p
if_ok (Err e) p then = tt

pub both_ok : {T E P Q R : Type 0} (r : Result T E) → OnOk r P → OnOk r Q → (P → Q → R) → OnOk r R
both_ok (Ok x) p q then = then p q
both_ok (Err e) p q then = tt
