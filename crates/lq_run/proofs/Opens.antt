-- What a command begins with, by what of the tracking tables is there.
use Rattle.std.proofs.Common.{ap, rules, subst, sym, tests, ◌∙◌}
use Rattle.std.specs.Option.{option_and_then, option_map}
use Rattle.std.specs.Prelude.{Bool, Err, List, None, Option, Result, Some, [], false, is_some, map, nat_le, refl, true, ℕ, ◌++◌, ◌∷◌, ◌≡◌, ◌≤◌}
use Rattle.lq_base.specs.declared.dialect.Dialect.{Dialect}
use Rattle.lq_base.specs.declared.tracking.Lock.{Lock}
use Rattle.lq_base.specs.declared.tracking.Tracked.{Tracked}
use Rattle.lq_model.specs.Catalogue.{Catalogue, table_of}
use Rattle.lq_model.specs.declared.caller.Room.TheVariants.{Ordinary}
use Rattle.lq_model.specs.declared.fault.StoreFault.{StoreFault}
use Rattle.lq_model.specs.declared.fault.StoreFault.TheVariants as fault
use Rattle.lq_store.specs.Journal.{Crashes, State, is_open, seen}
use Rattle.lq_track.specs.Database.{Database, has_rows, lock_of, rows_of, users_of}
use Rattle.lq_track.specs.Lock.{lock_table}
use Rattle.lq_track.specs.Log.{log_table}
use Rattle.lq_turns.specs.Schedule.{StandsFor, all_fit}
use Rattle.lq_turns.specs.Script.{if_missing, opening}
use Rattle.lq_turns.specs.Session.{Session}
use Rattle.lq_turns.specs.declared.call.Call.TheVariants.{Alone}
use Rattle.lq_turns.specs.declared.deed.Deed.{Deed}
use Rattle.lq_turns.specs.declared.deed.Deed.TheVariants.{Locks}
use Rattle.lq_turns.specs.declared.deed.OnLock.{OnLock}
use Rattle.lq_turns.specs.declared.deed.OnLock.TheVariants.{LockMade, LockRowMade, LogMade, Taken}
use Rattle.lq_turns.specs.declared.stamp.Stamp.{Stamp}
use Rattle.lq_hand.specs.Hand.{IsWritable}
use Rattle.lq_run.proofs.Doing.{no_other}
use Rattle.lq_run.proofs.Stepping.{is_shut, seen_stands}
use Rattle.lq_run.specs.Crashes.{CrashesLeave}
use Rattle.lq_run.specs.Crashing.{CrashesFor, CrashesOpening, LeftInCall}
use Rattle.lq_run.specs.Does.{AllWritable, AloneFor, DoesAlone}
use Rattle.lq_run.specs.Stands.{no_changes, Stands}
use Rattle.lq_run.specs.Moves.{FailsFirst, OpensOn, TakesLock, opening_by}
use Rattle.lq_run.specs.declared.alone.Tables.{Tables}

same_some : {a b : Database} → (let o : Option Database = Some a in o) ≡ Some b → a ≡ b
same_some h = Prim.cc

none_some : {b : Database} → (let o : Option Database = None in o) ≡ Some b → ⊥
none_some h = Prim.cc

-- what of the tracking tables was made is told by the catalogue
has_by : (make : List Tracked → Lock → Database) (rows : Option (List Tracked)) (lock : Option Lock) (database : Database) → option_and_then (λ r. option_map (λ l. make r l) lock) rows ≡ Some database
    → (r : List Tracked) × (l : Lock) × (make r l ≡ database)
has_by make None lock database h = absurd (none_some h)
has_by make (Some rows) None database h = absurd (none_some h)
has_by make (Some rows) (Some lock) database h = (rows, lock, same_some h)

pub opens_on : (d : Dialect) (stamp : Stamp) (c : Catalogue) (there : Tables) (deeds : List Deed) → there.log ≡ is_some (table_of c log_table) → there.lock ≡ is_some (table_of c lock_table) → there.lock_row ≡ has_rows (table_of c lock_table)
    → deeds ≡ map Locks (opening_by stamp there) → OpensOn d stamp c deeds
opens_on d stamp c there deeds log lock lock_row are database is =
    let parts = has_by (λ rows l. record {
      users = users_of c;
      rows = rows;
      lock = l;
      has_log = is_some (table_of c log_table);
      has_lock = is_some (table_of c lock_table);
      has_lock_row = has_rows (table_of c lock_table);
    }) (rows_of c) (lock_of d c) database is.is in
    are ∙ ap (λ b. map Locks (opening_by stamp (record { log = b; lock = there.lock; lock_row = there.lock_row }))) (log ∙ ap (λ (x : Database). x.has_log) parts.2)
    ∙ ap (λ b. map Locks (opening_by stamp (record { log = database.has_log; lock = b; lock_row = there.lock_row }))) (lock ∙ ap (λ (x : Database). x.has_lock) parts.2)
    ∙ ap (λ b. map Locks (opening_by stamp (record { log = database.has_log; lock = database.has_lock; lock_row = b }))) (lock_row ∙ ap (λ (x : Database). x.has_lock_row) parts.2)

-- each of the deeds can be written

missing_writable : (d : Dialect) (b : Bool) (more : List OnLock) (w : OnLock) → IsWritable d (Locks w) → AllWritable d (map Locks more) → AllWritable d (map Locks (if_missing b w ++ more))
missing_writable d true more w is all = all
missing_writable d false more w is all = (is, all)

pub opening_writable : (d : Dialect) (stamp : Stamp) (there : Tables) (deeds : List Deed) → stamp.reading ≤ 253402300799999 → deeds ≡ map Locks (opening_by stamp there) → AllWritable d deeds
opening_writable d stamp there deeds moment are =
    let last = Taken stamp.reading stamp.who ∷ [] in
    subst (AllWritable d) (sym are)
    (missing_writable d there.log (if_missing there.lock LockMade ++ (if_missing there.lock_row LockRowMade ++ last)) LogMade tt
    (missing_writable d there.lock (if_missing there.lock_row LockRowMade ++ last) LockMade tt (missing_writable d there.lock_row last LockRowMade tt (moment, tt))))

-- and fits

in_time : (n : ℕ) → n ≤ 253402300799999 → nat_le n 253402300799999 ≡ true
in_time n h = search (rules, tests)

abbrev flagged : Database → Bool → Bool → Bool → Database
flagged x a b e = record x { has_log = a; has_lock = b; has_lock_row = e }

opening_fits : (d : Dialect) (stamp : Stamp) (x : Database) (a b e : Bool) → nat_le stamp.reading 253402300799999 ≡ true → all_fit d (map Locks (opening stamp (flagged x a b e))) (flagged x a b e) ≡ true
opening_fits d stamp x true true true bound = rw (bound) refl
opening_fits d stamp x true true false bound = rw (bound) refl
opening_fits d stamp x true false true bound = rw (bound) refl
opening_fits d stamp x true false false bound = rw (bound) refl
opening_fits d stamp x false true true bound = rw (bound) refl
opening_fits d stamp x false true false bound = rw (bound) refl
opening_fits d stamp x false false true bound = rw (bound) refl
opening_fits d stamp x false false false bound = rw (bound) refl

-- on each database
pub all_opening_fits : (d : Dialect) (stamp : Stamp) (database : Database) → stamp.reading ≤ 253402300799999 → all_fit d (map Locks (opening stamp database)) database ≡ true
all_opening_fits d stamp database moment = opening_fits d stamp database database.has_log database.has_lock database.has_lock_row (in_time stamp.reading moment)

-- the deeds are those of each session's database, and fit it
opening_there : (d : Dialect) (stamp : Stamp) (number : ℕ) (x : State) (deeds : List Deed) → stamp.reading ≤ 253402300799999 → is_open number x.begun ≡ false → OpensOn d stamp (seen number x) deeds
    → (start : State) (s : Session) → start.dialect ≡ d → Stands start number x s → (deeds ≡ map Locks (opening stamp s.seen)) × (all_fit d deeds s.seen ≡ true)
opening_there d stamp number x deeds moment shut opens start s is stands =
    let seen_is : StandsFor d (seen number x) s.seen = subst (StandsFor d (seen number x)) (sym (is_shut d no_changes stamp number x shut start s stands).1) (seen_stands d no_changes stamp number x shut start s stands is) in
    let same : deeds ≡ map Locks (opening stamp s.seen) = opens s.seen seen_is in
    (same, subst (λ ds. all_fit d ds s.seen ≡ true) (sym same) (all_opening_fits d stamp s.seen moment))

pub takes_lock : (d : Dialect) (stamp : Stamp) (number : ℕ) (x y : State) (deeds : List Deed) (result : Result (Unit {0}) StoreFault) → stamp.reading ≤ 253402300799999 → is_open number x.begun ≡ false
    → OpensOn d stamp (seen number x) deeds → AloneFor d number deeds Ordinary x result y → TakesLock d stamp number x result y
takes_lock d stamp number x y deeds result moment shut opens alone start s is stands =
    let it = opening_there d stamp number x deeds moment shut opens start s is stands in
    subst (λ ds. DoesAlone start number x s ds Ordinary result y) it.0 (alone start s is stands it.1)

pub opening_crash : (d : Dialect) (stamp : Stamp) (number : ℕ) (x : State) (deeds : List Deed) (a b : Crashes) → stamp.reading ≤ 253402300799999 → is_open number x.begun ≡ false
    → OpensOn d stamp (seen number x) deeds → CrashesFor d number (Alone deeds Ordinary) x a b → CrashesOpening d stamp number x a b
opening_crash d stamp number x deeds a b moment shut opens crash start s is stands =
    let it = opening_there d stamp number x deeds moment shut opens start s is stands in
    subst (λ ds. CrashesLeave x.entries (LeftInCall d (Alone ds Ordinary) s) a b) it.0 (crash start s is stands it.1)

none_other : {n : ℕ} → (let o : Option ℕ = None in o) ≡ Some n → ⊥
none_other h = Prim.cc

pub fails_first : (d : Dialect) (stamp : Stamp) (number : ℕ) (x : State) (why : StoreFault) → FailsFirst number x why → TakesLock d stamp number x (Err why) x
fails_first d stamp number x fault.OutOfMemory fails start s is stands = refl
fails_first d stamp number x (fault.Busy n) fails start s is stands = absurd (none_other (sym (no_other start number x s stands) ∙ fails))
fails_first d stamp number x fault.Disk fails start s is stands = absurd fails
fails_first d stamp number x fault.NotSql fails start s is stands = absurd fails
fails_first d stamp number x (fault.Full used next) fails start s is stands = absurd fails
fails_first d stamp number x (fault.Refused reason) fails start s is stands = absurd fails
