-- An open transaction, and what stands beside the journal.
use Rattle.std.specs.Prelude.{List, None, Option, Some, [], ℕ, ◌≡◌}
use Rattle.lq_base.specs.declared.tracking.Lock.{Lock}
use Rattle.lq_session.specs.declared.open.Open.{Open}
use Rattle.lq_store.specs.Executor.{Held}
use Rattle.lq_store.specs.Journal.{Transaction}

-- a transaction's texts that are not yet committed
abbrev pub texts_in : Option (List (List ℕ)) → List (List ℕ)
texts_in None = []
texts_in (Some texts) = texts

abbrev pub begun_in : Held → Option Open → Option Transaction
begun_in h None = None
begun_in h (Some t) = Some (record { session = t.session; now = h.now; texts = texts_in t.entry })

-- the lock that the session of a transaction sees: the committed one, as long as it has run nothing
abbrev pub lock_in : Option Lock → Lock → Lock
lock_in None committed = committed
lock_in (Some lock) committed = lock

-- the transaction is open and empty
pub record IsCleared (old new : Open) : Type 0 where
  pub session_is : new.session ≡ old.session
  pub entry_is : new.entry ≡ None
  pub lock_is : new.lock ≡ None

-- what stands beside the journal
pub record Side : Type 0 where
  pub held : Held
  pub begun : Open
  pub lock : Lock

abbrev pub side : Held → Open → Lock → Side
side held begun lock = record { held = held; begun = begun; lock = lock }
