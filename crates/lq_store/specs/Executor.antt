-- What an executor of statements holds, and what its calls leave.
use Rattle.std.specs.Prelude.{Err, List, Ok, Result, [], ℕ, ◌∷◌, ◌≡◌}
use Rattle.lq_base.specs.declared.dialect.Dialect.{Dialect}
use Rattle.lq_base.specs.declared.reason.Reason.{Reason}
use Rattle.lq_model.specs.Catalogue.{Catalogue}
use Rattle.lq_store.specs.declared.fault.RunFault.{RunFault}
use Rattle.lq_store.specs.declared.fault.RunFault.TheVariants.{OutOfMemory, Refused}

-- the catalogue now, and before each run since the last `forget` that answered a number and is not undone, the newest first
pub record Held : Type 0 where
  pub dialect : Dialect
  pub now : Catalogue
  pub past : List Catalogue

abbrev pub holding : Dialect → Catalogue → List Catalogue → Held
holding d now past = record { dialect = d; now = now; past = past }

-- the oldest of catalogues of which the newest stands first
abbrev pub oldest : Catalogue → List Catalogue → Catalogue
oldest now [] = now
oldest now (c ∷ past) = oldest c past

-- the catalogue at the last `forget`
abbrev pub kept : Held → Catalogue
kept h = oldest h.now h.past

-- before the last run
abbrev pub back : Held → Held
back h = elim h.past [ [] ↦ h | c ∷ past ↦ holding h.dialect c past ]

-- with nothing left to undo: at the last `forget`, and now
abbrev pub undone : Held → Held
undone h = holding h.dialect (kept h) []

abbrev pub forgotten : Held → Held
forgotten h = holding h.dialect h.now []

-- how a statement is answered, by what it means on the catalogue before: a fault changes nothing
abbrev pub Runs : Result (Catalogue × ℕ) Reason → Held → Held → Result ℕ RunFault → Type 0
Runs meaning x y (Ok n) = (meaning ≡ Ok (y.now, n)) × (y ≡ holding x.dialect y.now (x.now ∷ x.past))
Runs meaning x y (Err (Refused reason)) = (meaning ≡ Err reason) × (y ≡ x)
Runs meaning x y (Err OutOfMemory) = y ≡ x
