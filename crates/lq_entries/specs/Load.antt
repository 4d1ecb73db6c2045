-- The catalogue that the bytes of a journal stand for, or the place of damage.
use Rattle.std.specs.Prelude.{Bool, Err, List, None, Ok, Option, Result, Some, [], cond, false, not, ℕ, ◌&&◌, ◌∷◌}
use Rattle.lq_base.specs.declared.dialect.Dialect.{Dialect}
use Rattle.lq_codec.specs.State.{state_of}
use Rattle.lq_frames.specs.Body.{journal_of, used_by}
use Rattle.lq_frames.specs.declared.entry.Body.{Body}
use Rattle.lq_frames.specs.declared.entry.Body.TheVariants.{State, Texts}
use Rattle.lq_frames.specs.declared.entry.Entry.{Entry as Placed}
use Rattle.lq_model.specs.Catalogue.{Catalogue, no_objects}
use Rattle.lq_store.specs.Journal.{is_apart, run_texts}
use Rattle.lq_track.specs.Database.{Database, database_of, has_twin_rows}

abbrev pub or_at : ℕ → Option Catalogue → Result Catalogue ℕ
or_at at None = Err at
or_at at (Some c) = Ok c

-- Where a journal comes to by an entry's body, or the place of damage. Texts lead on from where it was; a state begins anew, whatever was before it.
abbrev pub fold_body : Dialect → ℕ → Body → Result Catalogue ℕ → Result Catalogue ℕ
fold_body d at (State bytes) r = or_at at (state_of d bytes)
fold_body d at (Texts texts) (Ok c) = or_at at (run_texts d texts c)
fold_body d at (Texts texts) (Err place) = Err place

-- Where it comes to by its entries: no state of the dialect, a text that is no statement and one that is refused are damage at their entry's place, unless a state stands behind it.
abbrev pub folded : Dialect → List Placed → Result Catalogue ℕ → Result Catalogue ℕ
folded d [] r = r
folded d (entry ∷ entries) r = folded d entries (fold_body d entry.at entry.body r)

abbrev pub is_clean_database : Dialect → Option Database → Bool
is_clean_database d None = false
is_clean_database d (Some database) = not (has_twin_rows database.rows) && is_apart d database.users

-- the tracking tables are as they are made, their rows can be read and differ, and nothing else has or names their names
abbrev pub is_clean : Dialect → Catalogue → Bool
is_clean d c = is_clean_database d (database_of d c)

abbrev pub if_clean : Dialect → ℕ → Result Catalogue ℕ → Result Catalogue ℕ
if_clean d at (Err place) = Err place
if_clean d at (Ok c) = cond (is_clean d c) (Ok c) (Err at)

abbrev pub read_entries : Dialect → Result (List Placed) ℕ → Result Catalogue ℕ
read_entries d (Err at) = Err at
read_entries d (Ok entries) = if_clean d (used_by entries) (folded d entries (Ok no_objects))

-- Damage of the length, the header and the entries' form counts first, then that of the last state or a text behind it, then that of the tracking tables.
abbrev pub catalogue_of : Dialect → ℕ → List ℕ → Result Catalogue ℕ
catalogue_of d limit bytes = read_entries d (journal_of d limit bytes)
