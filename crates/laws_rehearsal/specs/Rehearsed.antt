-- An update, the rollback of the rows that came, and the update again.
use Rattle.std.specs.Prelude.{List, None, Some, false, length, true, ℕ, ◌-◌, ◌≡◌}
use Rattle.lq_base.specs.declared.command.Target.TheVariants.{Count}
use Rattle.lq_base.specs.declared.dialect.Dialect.{Dialect}
use Rattle.lq_model.specs.Sound.{IsSound}
use Rattle.lq_track.specs.Database.{Database, SameDatabase, has_twin_rows}
use Rattle.lq_track.specs.Lock.{free}
use Rattle.lq_turns.specs.Deed.{contents_of}
use Rattle.lq_turns.specs.Laws.{AreKnown, AreRead}
use Rattle.lq_turns.specs.Ran.{are_reversible}
use Rattle.lq_turns.specs.Script.{all_rolled, rows_undone, undo_turns, update_calls}
use Rattle.lq_turns.specs.Session.{left_by}
use Rattle.lq_turns.specs.Set.{Changelog, Meaning}
use Rattle.lq_turns.specs.Settle.{all_settled, is_halt, own_choice}
use Rattle.lq_turns.specs.Trails.{rollback_to}
use Rattle.lq_turns.specs.Within.{are_first, runs_of}
use Rattle.lq_turns.specs.declared.stamp.Stamp.{Stamp}
use Rattle.lq_turns.specs.declared.turn.Turn.{Turn}

module _ {Key : Type 0} (d : Dialect) (m : Meaning Key) (stamp : Stamp) (g : Changelog Key) where
  -- The lock is free and the rows differ. The update halts nowhere, each of its turns is a first one, and what it runs can be taken back.
  pub record MayRehearse (database : Database) : Type 0 where
    pub sound : IsSound d database.users
    pub unlocked : database.lock ≡ free
    pub differ : has_twin_rows database.rows ≡ false
    pub read : AreRead d m g.sets
    pub goes : is_halt (own_choice g (contents_of database)) ≡ false
    pub ends : (all_settled d m stamp.reading g.sets (contents_of database)).stop ≡ None
    pub first : are_first d m stamp g.sets (contents_of database) ≡ true
    pub reversible : are_reversible d m (runs_of d m stamp g.sets (contents_of database)) database.users ≡ true
    pub known : AreKnown d m g.sets (runs_of d m stamp g.sets (contents_of database))

  -- the calls of an update, and of the rollback of the rows that came behind so many
  abbrev pub after_update : Database → Database
  after_update database = left_by d (update_calls d m stamp g database) database

  abbrev pub after_rollback : ℕ → Database → Database
  after_rollback stay database = left_by d (rollback_to d m stamp g.sets (Count (length database.rows - stay)) database) database

  -- what the three leave, each on the database that the one before left
  pub record Returns (database one two three : Database) : Type 0 where
    -- so many rows came as changesets ran or were marked
    pub came : length one.rows - length database.rows ≡ length (runs_of d m stamp g.sets (contents_of database))
    pub turns : List Turn
    pub are : undo_turns d m g.sets (rows_undone (length database.rows) one.rows) ≡ Some turns
    pub none_refused : (all_rolled d turns (contents_of one)).stop ≡ None
    pub back : SameDatabase two database
    pub ends : (all_settled d m stamp.reading g.sets (contents_of two)).stop ≡ None
    pub again : SameDatabase three one

-- an update that may be rehearsed returns, and then leaves the same database again
abbrev pub RehearsalReturns : {Key : Type 0} → Meaning Key → Type 0
RehearsalReturns {Key} m = (d : Dialect) (stamp : Stamp) (g : Changelog Key) (database one two three : Database) → MayRehearse d m stamp g database
    → one ≡ after_update d m stamp g database → two ≡ after_rollback d m stamp g (length database.rows) one → three ≡ after_update d m stamp g two
    → Returns d m stamp g database one two three
