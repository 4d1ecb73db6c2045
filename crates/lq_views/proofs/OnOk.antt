-- What holds on success, carried on.
use Rattle.std.specs.Prelude.{Err, Ok, OnOk, Result}

pub on_ok : {T E P Q : Type 0} (r : Result T E) → OnOk r P → (P → Q) → OnOk r Q
on_ok (Ok value) holds more = more holds
on_ok (Err fault) holds more = tt
