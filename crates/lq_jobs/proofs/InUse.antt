-- How many bytes of a loaded journal are in use.
use Rattle.std.proofs.Common.{ap, arith, refl, subst, sym, ◌∙◌}
use Rattle.std.proofs.lemmas.List.Sums.{sum_by-cons}
use Rattle.std.specs.List.{sum_by}
use Rattle.std.specs.Prelude.{Bool, IfSome, List, Ok, Option, Some, [], false, map, true, ℕ, ◌+◌, ◌∷◌, ◌≡◌, ◌≤◌}
use Rattle.lq_base.specs.declared.dialect.Dialect.{Dialect}
use Rattle.lq_entries.proofs.Logs.{size_is}
use Rattle.lq_db.specs.Db.{IsDb}
use Rattle.lq_entries.specs.Log.{entries_in, if_undamaged, unplaced}
use Rattle.lq_db.specs.declared.db.Db.{Db}
use Rattle.lq_frames.proofs.Appended.{journal_is}
use Rattle.lq_journal.proofs.Entries.{short, used_is}
use Rattle.lq_frames.specs.Body.{size_of, journal_of, placed, used_by, Stands}
use Rattle.lq_journal.specs.State.{dialect_of, is_prepared, limit_of, used_of}
use Rattle.lq_frames.specs.declared.entry.Entry.{Entry as Placed}
use Rattle.lq_outside.specs.Crash.{Crashes}
use Rattle.lq_store.specs.Executor.{Held}
use Rattle.lq_store.specs.Journal.{Entry, entry_size, size_of_all}
use Rattle.lq_jobs.specs.Bytes.{in_use}

some_is : {A : Type 0} {a b : A} → Some a ≡ Some b → a ≡ b
some_is h = Prim.cc

-- the bytes of a journal are read as entries that take what is in use
read_by : (prepared : Bool) (dialect : Dialect) (limit used : ℕ) (bytes : List ℕ) → 17 ≤ limit → Stands prepared dialect limit used bytes → (entries : List Placed) × (journal_of dialect limit bytes ≡ Ok entries) × (used ≡ used_by entries)
read_by true dialect limit used bytes least stands = (placed 17 stands.0, journal_is dialect limit stands.0 used bytes stands.1, used_is stands.0 used stands.1.whole stands.1.place)
read_by false dialect limit used bytes least stands = ([], short dialect limit bytes (omega (arith, least, stands.1)) stands.1, stands.0)

-- without their places they take as much
pub sizes_are : (entries : List Placed) → sum_by (λ (entry : Placed). size_of entry.body) entries ≡ size_of_all (map unplaced entries)
sizes_are [] = refl
sizes_are (entry ∷ entries) =
    omega (arith, sum_by-cons (λ (entry : Placed). size_of entry.body) entry entries, sum_by-cons (λ (entry : Entry). entry_size entry) (unplaced entry) (map unplaced entries), size_is entry.body, sizes_are entries)

pub used_in : {D P E : Type 0} (p : Dialect) (told : Option (List ℕ)) (crashes : Crashes) (h : Held) (db : Db D P E) → IsDb p told crashes h db → (bytes : List ℕ) → told ≡ Some bytes
    → (there : List Entry) → entries_in (dialect_of db.journal) (limit_of db.journal) told ≡ Some there → used_of db.journal ≡ in_use there
used_in p told crashes h db is bytes told_is there are =
    let loaded = is.whole.loaded in
    let stands = subst (λ o. IfSome o (Stands (is_prepared db.journal) (dialect_of db.journal) (limit_of db.journal) (used_of db.journal))) told_is loaded.stands in
    let read = read_by (is_prepared db.journal) (dialect_of db.journal) (limit_of db.journal) (used_of db.journal) bytes (omega (arith, loaded.limit_least)) stands in
    let same : map unplaced read.0 ≡ there = some_is (sym (ap (entries_in (dialect_of db.journal) (limit_of db.journal)) told_is ∙ ap if_undamaged read.1) ∙ are) in
    read.2 ∙ ap (λ (n : ℕ). 17 + n) (sizes_are read.0) ∙ ap in_use same
