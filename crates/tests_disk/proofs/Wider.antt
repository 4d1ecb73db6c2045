-- A write that was cut short is also one of a longer range.
use Rattle.std.specs.Prelude.{List, None, Option, Some, ℕ, ◌≤◌}
use Rattle.lq_outside.proofs.Tearing.{torn_wider}
use Rattle.lq_outside.specs.Crash.{Tears}

pub tears_wider : (at n more : ℕ) (before after : Option (List ℕ)) → Tears at n before after → n ≤ more → Tears at more before after
tears_wider at n more None after tears le = tears
tears_wider at n more (Some before) after tears le = (tears.0, tears.1, torn_wider at n more before tears.0 tears.2 le)
