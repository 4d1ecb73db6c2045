-- What a generate-changelog did on a database that was loaded, and on the disk that it was loaded from.
use Rattle.std.proofs.Common.{ap, arith, inl, inr, refl, subst, sym, tests, ◌∙◌}
use Rattle.std.proofs.lemmas.Bool.Decides.{nat_tests}
use Rattle.std.specs.List.{AllByRecursion}
use Rattle.std.specs.Map.{remove_entry}
use Rattle.std.specs.Option.{option_map, option_or}
use Rattle.std.specs.Prelude.{Bool, Err, IfOk, List, None, Ok, Option, Result, Some, [], codes, cond, false, if◌then◌else◌, length, nat_lt, not, true, ℕ, ◌∷◌, ◌≡◌, ◌≤◌}
use Rattle.laws_generate.specs.Again.{AllComesAgain, IsWrittenWhole, MayGenerate, TextComesAgain}
use Rattle.lq_base.specs.Name.{is_named}
use Rattle.lq_base.specs.declared.dialect.Dialect.{Dialect}
use Rattle.lq_base.specs.declared.name.Name.{Name}
use Rattle.lq_cli.specs.declared.line.Job.TheVariants.{Generate}
use Rattle.lq_commands.proofs.Generates.{generated_moments, generated_told, generated_works}
use Rattle.lq_commands.proofs.Warned.{quiet_lines}
use Rattle.lq_commands.specs.Outputs.{TellsText}
use Rattle.lq_commands.specs.Refusals.{Answers, ends}
use Rattle.lq_commands.specs.Works.{OnIts}
use Rattle.lq_commands.specs.declared.given.Given.{Given}
use Rattle.lq_db.specs.Db.{crashes as crashes_of, disk_in}
use Rattle.lq_db.specs.declared.db.Db.{Db}
use Rattle.lq_engine.specs.State.{State}
use Rattle.lq_entries.specs.Load.{is_clean, is_clean_database}
use Rattle.lq_generate.specs.Faults.{Place, fault_at, first_fault, place_text, size_fault, Generates, IsReadBack}
use Rattle.lq_generate.specs.Generated.{generated_text}
use Rattle.lq_generate.specs.declared.generating.GenerateFault.{GenerateFault}
use Rattle.lq_generate.specs.declared.generating.GenerateFault.TheVariants as generating
use Rattle.lq_kinds.specs.ChangeSets.{is_label}
use Rattle.lq_model.proofs.Lists.{and_right}
use Rattle.lq_model.specs.Catalogue.{Catalogue, Table, without_table}
use Rattle.lq_named.specs.Named.{HasNames, TableHasNames}
use Rattle.lq_outside.specs.Crash.{Crashes as DiskCrashes}
use Rattle.lq_run.specs.Commands.{HasDatabase}
use Rattle.lq_store.specs.Journal.{is_apart, State as StoreState, seen, seen_in}
use Rattle.lq_tell.specs.declared.done.Done.{Done}
use Rattle.lq_tell.specs.declared.status.Status.{Status}
use Rattle.lq_tell.specs.declared.status.Status.TheVariants as status
use Rattle.lq_track.specs.Database.{Database, database_of, has_twin_rows, users_of}
use Rattle.lq_track.specs.Lock.{lock_table}
use Rattle.lq_track.specs.Log.{log_table}
use Rattle.lq_turns.specs.Schedule.{StandsFor}
use Rattle.lq_jobs.proofs.OnDatabases.{worked}
use Rattle.lq_jobs.proofs.Users.{users_are}
use Rattle.lq_jobs.specs.Bytes.{IsLoadedFrom, IsWellWritten, held_in, state_in}
use Rattle.lq_jobs.specs.Worked.{WorkedOn}

pub memory_told : (o : Option (List ℕ)) → Answers (option_map status.NotWritable o) (Err status.OutOfMemory)
memory_told None = inr refl
memory_told (Some place) = inr (inr refl)

-- by what the generating answers of a catalogue

module _ (d : Dialect) (author : List ℕ) (c e : Catalogue) (same : c ≡ e) where
  abbrev is_told : Result Done Status → Type 0
  is_told r = Answers (option_map status.NotWritable (fault_at d author (users_of e))) r

  there : (r : Result (List ℕ) GenerateFault) → Generates d author (users_of c) r → Generates d author (users_of e) r
  there r made = subst (λ c. Generates d author (users_of c) r) same made

  whole_told : (o : Option (List ℕ)) (done : Done) → o ≡ None → ends done.status ≡ true → Answers (option_map status.NotWritable o) (Ok done)
  whole_told o done none is = subst (λ (o : Option (List ℕ)). Answers (option_map status.NotWritable o) (Ok done)) (sym none) is

  place_told : (o : Option (List ℕ)) (place : List ℕ) → o ≡ Some place → Answers (option_map status.NotWritable o) (Err (status.NotWritable place))
  place_told o place some = subst (λ (o : Option (List ℕ)). Answers (option_map status.NotWritable o) (Err (status.NotWritable place))) (sym some) (inl refl)

  pub text_answers : (text : List ℕ) (done : Done) → Generates d author (users_of c) (Ok text) → done.status ≡ status.Done → is_told (Ok done)
  text_answers text done made is = whole_told (fault_at d author (users_of e)) done (there (Ok text) made).0 (ap ends is)

  pub text_tells : (text : List ℕ) (done : Done) → Generates d author (users_of c) (Ok text) → done.status ≡ status.Done → done.out ≡ Some text → done.own ≡ None → done.warned ≡ [] → TellsText (generated_text d author (users_of e)) done
  text_tells text done made is out own warned = record { status = is; out = out ∙ ap some (there (Ok text) made).1; warned = quiet_lines done (own, warned) } where
    some : List ℕ → Option (List ℕ)
    some t = Some t

  pub place_answers : (place : List ℕ) → Generates d author (users_of c) (Err (generating.NotWritable place)) → is_told (Err (status.NotWritable place))
  place_answers place made = place_told (fault_at d author (users_of e)) place (there (Err (generating.NotWritable place)) made)

  pub memory_answers : is_told (Err status.OutOfMemory)
  memory_answers = memory_told (fault_at d author (users_of e))

-- what is written so makes the objects again

remove_kept : (p : Name → Bool) (es : List (Name × Table)) → AllByRecursion TableHasNames es → AllByRecursion TableHasNames (remove_entry p es)
remove_kept p [] named = tt
remove_kept p (e ∷ es) named = elim (p e.0) as (λ b. AllByRecursion TableHasNames (cond b es (e ∷ remove_entry p es))) [
  | true ↦ named.1
  | false ↦ (named.0, remove_kept p es named.1)
]

pub users_named : (c : Catalogue) → HasNames c → HasNames (users_of c)
users_named c named = record {
  tables = remove_kept (is_named lock_table) (without_table c log_table).tables (remove_kept (is_named log_table) c.tables named.tables);
  views = named.views;
  sequences = named.sequences;
}

none_first : (a b : Option (List ℕ)) → option_or a b ≡ None → (a ≡ None) × (b ≡ None)
none_first None b none = (refl, none)
none_first (Some place) b none = absurd Prim.cc

no_place : (o : Option Place) → option_map place_text o ≡ None → o ≡ None
no_place None none = refl
no_place (Some place) none = absurd Prim.cc

sized : (text : List ℕ) → size_fault text ≡ None → length text ≤ 16777216
sized text none = by (nat_lt 16777216 (length text)) refl none where
  by : (b : Bool) → nat_lt 16777216 (length text) ≡ b → (let o : Option (List ℕ) = if b then Some (codes "the changelog") else None in o) ≡ None → length text ≤ 16777216
  by true is none = absurd Prim.cc
  by false is none = grind (arith, tests, nat_tests, is)

clean_apart : (d : Dialect) (o : Option Database) (database : Database) → o ≡ Some database → is_clean_database d o ≡ true → is_apart d database.users ≡ true
clean_apart d None database is clean = absurd Prim.cc
clean_apart d (Some other) database is clean = subst (λ (it : Database). is_apart d it.users ≡ true) (some_is is) (and_right (not (has_twin_rows other.rows)) _ clean) where
  some_is : {a b : Database} → (let o : Option Database = Some a in o) ≡ Some b → a ≡ b
  some_is h = Prim.cc

module _ (d : Dialect) (author : List ℕ) (c : Catalogue) (database : Database) (clean : is_clean d c ≡ true) (stands : StandsFor d c database) (written : IsWellWritten d author database.users) where
  pub made_again : IsWrittenWhole → AllComesAgain → fault_at d author database.users ≡ None → is_label author ≡ true → TextComesAgain d database.users (generated_text d author database.users)
  made_again whole all fine signed =
      let faultless = none_first (option_map place_text (first_fault database.users)) (size_fault (generated_text d author database.users)) fine in
      let may : MayGenerate d database.users = record { sound = stands.sound; apart = clean_apart d (database_of d c) database stands.is clean; names = written.names; fine = no_place (first_fault database.users) faultless.0 } in
      all d author database.users may signed (generated_text d author database.users) (sized (generated_text d author database.users) faultless.1) (written.reads (whole d author database.users may))

-- what was written stands where the text was told
pub well_written : (d : Dialect) (author : List ℕ) (c e : Catalogue) (text : List ℕ) → c ≡ e → HasNames c → Generates d author (users_of c) (Ok text) → IsReadBack d author (users_of c) text → IsWellWritten d author (users_of e)
well_written d author c e text same named made reads = subst (λ c. IsWellWritten d author (users_of c)) same (record { names = users_named c named; reads = subst (IsReadBack d author (users_of c)) made.1 reads })

-- what a session sees of a store without a transaction has the users' objects of its database
pub users_seen : (d : Dialect) (session : ℕ) (x : StoreState) (c : Catalogue) (database : Database) → HasDatabase d x database → c ≡ seen session x → users_of c ≡ database.users
users_seen d session x c database has sees =
    let same : c ≡ x.committed = sees ∙ ap (λ begun. seen_in session begun x.committed) has.shut in
    users_are d c database (subst (λ (c : Catalogue). StandsFor d c database) (sym same) has.committed)

same_count : (a : ℕ) → a ≤ a
same_count a = omega arith

module _ {D P : Type 0} (told : D → Option (List ℕ)) (faults : D → ℕ) (crashes : D → DiskCrashes) (sql : Dialect) (db : Db D P State) (author : List ℕ) (r : Result Done Status) (sure : r ≡ Err status.DiskFault → ⊥) where
  -- on a database that was loaded
  pub record Made (d : Dialect) : Type 0 where
    pub loaded : IsLoadedFrom sql d (told (disk_in db)) (crashes (disk_in db)) db
    pub answers : OnIts d (state_in (told (disk_in db)) db) (λ database. Answers (option_map status.NotWritable (fault_at d author database.users)) r)
    pub tells : OnIts d (state_in (told (disk_in db)) db) (λ database. IfOk r (TellsText (generated_text d author database.users)))
    pub again : OnIts d (state_in (told (disk_in db)) db) (λ database. is_label author ≡ true → IfOk r (λ (done : Done). TextComesAgain d database.users (generated_text d author database.users)))

  made_worked : (given : Given) → Made given.options.dialect → WorkedOn told faults crashes (Generate author) given (disk_in db) r (disk_in db)
  made_worked given made =
      let x = state_in (told (disk_in db)) db in
      worked told faults crashes sql (held_in db) (held_in db) db db made.loaded.valid (record { journal_is = made.loaded.valid.journal_is; lives = λ live. made.loaded.valid })
      given made.loaded.new made.loaded.ready made.loaded.read (Generate author) refl r made.answers (λ database has some. refl) (λ only. refl)
      (generated_works author given x r made.tells) (generated_moments author given x r made.tells (crashes_of (crashes (disk_in db)) db)) (generated_told author given x r made.tells) made.again
      (same_count (faults (disk_in db))) (λ is. absurd (sure is))

  pub generated_worked : (d : Dialect) → Made d → (given : Given) → given.options.dialect ≡ d → WorkedOn told faults crashes (Generate author) given (disk_in db) r (disk_in db)
  generated_worked d made given same = made_worked given (subst Made (sym same) made)

-- of what a session sees
module _ (d : Dialect) (x : StoreState) (author : List ℕ) (c : Catalogue) (sees : c ≡ seen 1 x) where
  pub seen_answers : (r : Result Done Status) → Answers (option_map status.NotWritable (fault_at d author (users_of c))) r → OnIts d x (λ database. Answers (option_map status.NotWritable (fault_at d author database.users)) r)
  seen_answers r answers database has = subst (λ users. Answers (option_map status.NotWritable (fault_at d author users)) r) (users_seen d 1 x c database has sees) answers

  pub seen_tells : (r : Result Done Status) → IfOk r (TellsText (generated_text d author (users_of c))) → OnIts d x (λ database. IfOk r (TellsText (generated_text d author database.users)))
  seen_tells r tells database has = subst (λ users. IfOk r (TellsText (generated_text d author users))) (users_seen d 1 x c database has sees) tells

  -- the same of a generated changelog that makes the objects again
  pub seen_again : is_clean d x.committed ≡ true → IsWrittenWhole → AllComesAgain → (r : Result Done Status) → Answers (option_map status.NotWritable (fault_at d author (users_of c))) r → IfOk r (λ (done : Done). IsWellWritten d author (users_of c))
      → OnIts d x (λ database. is_label author ≡ true → IfOk r (λ (done : Done). TextComesAgain d database.users (generated_text d author database.users)))
  seen_again clean whole all (Err s) answers written database has = λ signed. tt
  seen_again clean whole all (Ok done) answers written database has = λ signed.
      let users = users_seen d 1 x c database has sees in
      made_again d author x.committed database clean has.committed (subst (IsWellWritten d author) users written) whole all
      (no_refusal (fault_at d author database.users) (subst (λ users. Answers (option_map status.NotWritable (fault_at d author users)) (Ok done)) users answers)) signed where
        no_refusal : (o : Option (List ℕ)) → Answers (option_map status.NotWritable o) (Ok done) → o ≡ None
        no_refusal None answers = refl
        no_refusal (Some place) answers = absurd answers
