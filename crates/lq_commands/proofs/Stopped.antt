-- A run that a refusal ends is one at which its source has stopped, and then it is known at which changeset; so it is of one that halted.
use Rattle.std.proofs.Common.{ap, inl, inr, refl, sym, ◌∙◌}
use Rattle.std.specs.Prelude.{Bool, IfSome, List, None, Option, Some, [], false, if◌then◌else◌, is_some, option_map, true, ℕ, ◌∷◌, ◌≡◌}
use Rattle.lq_base.specs.declared.dialect.Dialect.{Dialect}
use Rattle.lq_base.specs.declared.identity.Identity.{Identity}
use Rattle.lq_base.specs.declared.run.Did.{Did}
use Rattle.lq_base.specs.declared.run.Did.TheVariants as did
use Rattle.lq_base.specs.declared.run.Why.{Why}
use Rattle.lq_hand.specs.Way.{Enters, IsUnderWay, Way}
use Rattle.lq_hand.specs.declared.source.Entered.{Entered}
use Rattle.lq_hand.specs.declared.source.Entered.TheVariants as entered
use Rattle.lq_model.specs.Catalogue.{Catalogue}
use Rattle.lq_run.specs.Commands.{HasDatabase, LeavesAll, LeavesAs, SomeMayRun, TellsAll}
use Rattle.lq_run.specs.Crashes.{BehindAll, CrashesAll, LeftBehind}
use Rattle.lq_run.specs.Left.{LeftAll, LeftAs}
use Rattle.lq_run.specs.Steps.{TellsAs, no_turn, standing, TellsTo}
use Rattle.lq_run.specs.declared.runner.End.{End}
use Rattle.lq_run.specs.declared.runner.End.TheVariants as end
use Rattle.lq_run.specs.declared.runner.Runner.{Runner}
use Rattle.lq_back.specs.Reversal.{StopsAt, row_way}
use Rattle.lq_sets.specs.SetTurns.{YieldsTo, set_way}
use Rattle.lq_seen.specs.Telling.{Account, Tells}
use Rattle.lq_seen.specs.declared.outcome.Halt.{Halt}
use Rattle.lq_seen.specs.declared.outcome.Outcome.{Outcome}
use Rattle.lq_back.specs.declared.row_turns.RowTurns.{RowTurns}
use Rattle.lq_sets.specs.declared.set_turns.SetTurns.{SetTurns}
use Rattle.lq_store.specs.Journal.{Crashes, State}
use Rattle.lq_track.specs.Database.{Database}
use Rattle.lq_turns.specs.Deed.{Contents}
use Rattle.lq_turns.specs.Set.{not_fresh, Meaning, Set}
use Rattle.lq_turns.specs.Rest.{Turns}
use Rattle.lq_turns.specs.Script.{all_rolled, rolled_as}
use Rattle.lq_turns.specs.Settle.{Settled, all_settled, choice, did_of, followed, mark_turn, run_ending, run_turn, settle, settled_as, settled_by}
use Rattle.lq_turns.specs.Stops.{is_mark}
use Rattle.lq_turns.specs.Turn.{Ending, Finished, Refused as Rejected, ending}
use Rattle.lq_turns.specs.declared.call.Call.{Call}
use Rattle.lq_turns.specs.declared.choice.Choice.{Choice}
use Rattle.lq_turns.specs.declared.choice.Choice.TheVariants.{Fills, Halts, Marks, Passes, Runs, Skips}
use Rattle.lq_turns.specs.declared.stamp.Stamp.{Stamp}
use Rattle.lq_turns.specs.declared.stop.Refusal.{Refusal}
use Rattle.lq_turns.specs.declared.stop.Stop.{Stop}
use Rattle.lq_turns.specs.declared.stop.Stop.TheVariants.{Halted, Refused}
use Rattle.lq_turns.specs.declared.turn.Turn.{Turn}
use Rattle.lq_commands.proofs.Endings.{full_as}
use Rattle.lq_commands.proofs.Starts.{AllOn, name_so, new_holds, new_may_run, new_tells}
use Rattle.lq_commands.specs.Scripts.{NamesStop, YieldedAt, stopping_way, MayTurn, turns_script}
use Rattle.lq_commands.specs.Works.{HasTold, CrashesIn, FullAs}
use Rattle.lq_commands.specs.declared.stopping.Stopping.{Stopping}

-- the next turn is entered as the source enters it
module _ {Key Told T : Type 0} (d : Dialect) (m : Meaning Key) (stamp : Stamp) (left : T → Turns Key) (way : T → Dialect → Stamp → Told → Way) (old new : T) (seen : Catalogue) where
  pub enters_stopping : (r : Entered) → Enters d m stamp (left old) (way old d stamp) seen r (left new) (way new d stamp)
      → Enters d m stamp (left old) (stopping_way way old d stamp) seen r (left new) (stopping_way way new d stamp)
  enters_stopping (entered.Turn hand) enters = (enters.0, λ database stands told knows. let on = enters.1 database stands told knows in (on.0, record { finished = on.1.finished; refused = on.1.refused }))
  enters_stopping entered.NoTurn enters = λ database stands told knows. let on = enters database stands told knows in (on.0, (on.1, tt))
  enters_stopping entered.Lack enters = λ database stands told knows. inr (inr (inr (inr (enters database stands told knows))))

-- what is told at the end is what the source tells, and to what it yielded
module _ {T Told : Type 0} (way : T → Dialect → Stamp → Told → Way) (source : T) (d : Dialect) (stamp : Stamp) (told : Told) where
  under_so : IsUnderWay (stopping_way way source d stamp told) → IsUnderWay (way source d stamp told)
  under_so (inl knows) = inl knows
  under_so (inr (inl awaits)) = inr (inl awaits)
  under_so (inr (inr (inl yields))) = inr (inr (inl yields))
  under_so (inr (inr (inr (inl tells)))) = inr (inr (inr (inl (tells.0, tells.1.0))))
  under_so (inr (inr (inr (inr under)))) = under

  pub told_so : (e : End) → TellsTo (stopping_way way source d stamp told) e → TellsTo (way source d stamp told) e
  told_so end.Done tells = (tells.0.0, tt)
  told_so (end.Refused refusal) tells = (tells.0.0, tt)
  told_so (end.Locked lock) tells = (tt, tt)
  told_so end.Disk tells = (tt, tt)
  told_so (end.Full used next) tells = (tt, under_so tells.1)
  told_so end.OutOfMemory tells = (tt, tt)

  pub yielded_so : (e : End) → TellsAs (stopping_way way source d stamp told) e → YieldedAt way d stamp told e
  yielded_so end.Done tells = tt
  yielded_so (end.Refused refusal) tells = tells.1
  yielded_so (end.Locked lock) tells = tt
  yielded_so end.Disk tells = tt
  yielded_so (end.Full used next) tells = tt
  yielded_so end.OutOfMemory tells = tt

-- a run of the turns of a source

abbrev pub stopping : {T : Type 0} → T → Stopping T
stopping source = record { source = source }

abbrev pub left_in : {Key T : Type 0} → (T → Turns Key) → Stopping T → Turns Key
left_in left = λ it. left it.source

abbrev pub way_in : {T Told : Type 0} → (T → Dialect → Stamp → Told → Way) → Stopping T → Dialect → Stamp → Told → Way
way_in way = λ it. stopping_way way it.source

module _ {Key Told T : Type 0} (m : Meaning Key) (left : T → Turns Key) (way : T → Dialect → Stamp → Told → Way) (runner : Runner (Stopping T)) (d : Dialect) (stamp : Stamp) (source : T)
    (dialect_is : runner.dialect ≡ d) (stamp_is : runner.stamp ≡ stamp) (source_is : runner.source ≡ stopping source) (hand : runner.hand ≡ no_turn) (fault : runner.fault ≡ None) (refused : runner.refused ≡ None)
    (x : State) (database : Database) (told : Told) (has : HasDatabase d x database) (may : MayTurn d m stamp (left source) (way source d stamp) database told) where
  may_stop : MayTurn d m stamp (left source) (stopping_way way source d stamp) database told
  may_stop = record { known = may.known; fits = may.fits }

  pub stopping_may_run : (number : ℕ) → SomeMayRun runner.dialect m runner.stamp number (standing (left_in left) (way_in way) runner) x
  stopping_may_run number = new_may_run m (left_in left) (way_in way) runner d stamp (stopping source) dialect_is stamp_is source_is hand fault refused x database told has may_stop number

  stopping_holds : (P : Dialect → List Call → Database → Type 0) → AllOn P runner.dialect m runner.stamp (standing (left_in left) (way_in way) runner) x → P d (turns_script d m stamp (left source) database) database
  stopping_holds P all = new_holds m (left_in left) (way_in way) runner d stamp (stopping source) dialect_is stamp_is source_is hand fault refused x database told has may_stop P all

  pub stopping_leaves : (y : State) (e : End) → LeavesAll runner.dialect m runner.stamp (standing (left_in left) (way_in way) runner) x e y → LeavesAs d (turns_script d m stamp (left source) database) database x e y
  stopping_leaves y e leaves = stopping_holds (λ f calls on. LeavesAs f calls on x e y) leaves

  pub stopping_left : is_mark stamp.who ≡ false → (y : State) → BehindAll runner.dialect m runner.stamp (standing (left_in left) (way_in way) runner) x y → LeftBehind d (turns_script d m stamp (left source) database) database x y
  stopping_left name y behind = stopping_holds (λ f calls on. LeftBehind f calls on x y) (behind (name_so runner.stamp stamp stamp_is name))

  pub stopping_full : is_mark stamp.who ≡ false → (y : State) (e : End) → LeftAll runner.dialect m runner.stamp (standing (left_in left) (way_in way) runner) x e y → FullAs d (turns_script d m stamp (left source) database) database x e y
  stopping_full name y e left_so = full_as d (turns_script d m stamp (left source) database) database x y e (stopping_holds (λ f calls on. LeftAs f calls on x e y) (left_so (name_so runner.stamp stamp stamp_is name)))

  pub stopping_crashes : is_mark stamp.who ≡ false → (before now : Crashes) → CrashesAll runner.dialect m runner.stamp (standing (left_in left) (way_in way) runner) x before now
      → CrashesIn d (turns_script d m stamp (left source) database) database x before now
  stopping_crashes name before now crash = stopping_holds (λ f calls on. CrashesIn f calls on x before now) (crash (name_so runner.stamp stamp stamp_is name))

  tells_stopping : (e : End) (after : T) → TellsAll runner.dialect m runner.stamp (standing (left_in left) (way_in way) runner) x e (stopping_way way after) → TellsTo (stopping_way way after d stamp told) e
  tells_stopping e after tells = new_tells m (left_in left) (way_in way) runner d stamp (stopping source) dialect_is stamp_is source_is hand fault refused x database told has may_stop e (stopping_way way after) tells

  pub stopping_tells : (e : End) (after : T) → TellsAll runner.dialect m runner.stamp (standing (left_in left) (way_in way) runner) x e (stopping_way way after) → TellsTo (way after d stamp told) e
  stopping_tells e after tells = told_so way after d stamp told e (tells_stopping e after tells)

  pub stopping_stops : (e : End) (after : T) → TellsAll runner.dialect m runner.stamp (standing (left_in left) (way_in way) runner) x e (stopping_way way after) → YieldedAt way d stamp told e
  stopping_stops e after tells = yielded_so way after d stamp told e (tells_stopping e after tells).0

-- where the source has stopped, what is told names the changeset

none_stop : {stop : Stop} → (let o : Option Stop = None in o) ≡ Some stop → ⊥
none_stop h = Prim.cc

some_of : (place : Option Identity) (refusal : Refusal) (stop : Stop) → option_map (λ (of : Identity). Refused of refusal) place ≡ Some stop → is_some place ≡ true
some_of None refusal stop is = absurd (none_stop is)
some_of (Some of) refusal stop is = refl

stop_named : (o : Outcome) (told : Settled) (refusal : Refusal) (stop : Stop) → Tells o told (Some refusal) → told.stop ≡ Some stop → is_some o.stopped_at ≡ true
stop_named o told refusal stop tells is = some_of o.stopped_at refusal stop (sym tells.stop ∙ is)

set_stop : (s : SetTurns) (d : Dialect) (stamp : Stamp) (told : Account) (refusal : Refusal) (c : Contents) (yields : YieldsTo s d stamp told false refusal c) → told.settled.stop ≡ Some (Refused yields.turn.identity refusal)
set_stop s d stamp told refusal c yields = yields.then_told.0.stop

row_stop : (s : RowTurns) (told : Account) (refusal : Refusal) (stops : StopsAt s told false refusal) → told.settled.stop ≡ Some (Refused stops.last.identity refusal)
row_stop s told refusal stops = stops.then_told.tells.stop

-- where a run halted, what is told names the changeset

abbrev pub halts_named : Option Stop → Bool
halts_named None = true
halts_named (Some (Halted of why)) = is_some of
halts_named (Some (Refused of refusal)) = true

halt_named : (halted : Option Halt) (stop : Option Stop) → stop ≡ option_map (λ (h : Halt). Halted h.identity h.why) halted → halts_named stop ≡ true → IfSome halted (λ (h : Halt). is_some h.identity ≡ true)
halt_named None stop is named = tt
halt_named (Some halt) stop is named = sym (ap halts_named is) ∙ named

followed_named : (s : Settled) (more : Contents → Settled) (stop : Option Stop) → halts_named s.stop ≡ true → ((c : Contents) → halts_named (more c).stop ≡ true) → halts_named (followed stop s more).stop ≡ true
followed_named s more None first later = later s.contents
followed_named s more (Some stop) first later = first

either_named : (b : Bool) (s t : Settled) → halts_named s.stop ≡ true → halts_named t.stop ≡ true → halts_named (if b then s else t).stop ≡ true
either_named true s t first second = first
either_named false s t first second = second

module _ {Key : Type 0} (d : Dialect) (m : Meaning Key) (reading : ℕ) where
  ending_named : (x : Set Key) (what : Did) (why : Option Why) (count : ℕ) (e : Ending) → halts_named (settled_as x what why count e).stop ≡ true
  ending_named x what why count (Finished c) = refl
  ending_named x what why count (Rejected c refusal) = either_named x.fail_on_error _ _ refl refl

  choice_named : (x : Set Key) (c : Contents) (by : Choice) → halts_named (settled_by d m reading x c by).stop ≡ true
  choice_named x c Passes = refl
  choice_named x c Fills = refl
  choice_named x c Skips = refl
  choice_named x c (Marks what) = ending_named x did.Marked None 0 (ending d (mark_turn reading what x c.rows) c)
  choice_named x c (Runs what why) = ending_named x (did_of what) why (not_fresh d m x.changes c.users) (run_ending d m reading (run_turn d m reading what x c.rows) x c)
  choice_named x c (Halts why) = refl

  pub sets_named : (xs : List (Set Key)) (c : Contents) → halts_named (all_settled d m reading xs c).stop ≡ true
  sets_named [] c = refl
  sets_named (x ∷ xs) c = followed_named (settle d m reading x c) (all_settled d m reading xs) (settle d m reading x c).stop (choice_named x c (choice x c)) (sets_named xs)

turn_named : (turn : Turn) (e : Ending) → halts_named (rolled_as turn e).stop ≡ true
turn_named turn (Finished c) = refl
turn_named turn (Rejected c refusal) = refl

pub turns_named : (d : Dialect) (turns : List Turn) (c : Contents) → halts_named (all_rolled d turns c).stop ≡ true
turns_named d [] c = refl
turns_named d (turn ∷ turns) c =
    let first = rolled_as turn (ending d turn c) in
    followed_named first (all_rolled d turns) first.stop (turn_named turn (ending d turn c)) (turns_named d turns)

module _ (o : Outcome) (d : Dialect) (stamp : Stamp) (told : Account) (named : halts_named told.settled.stop ≡ true) where
  pub sets_stopped : (e : End) → HasTold o told e → YieldedAt set_way d stamp told e → NamesStop e o.halted o.stopped_at
  sets_stopped end.Done tells yielded = halt_named o.halted told.settled.stop tells.tells.stop named
  sets_stopped (end.Refused refusal) tells yielded =
      stop_named o told.settled refusal (Refused yielded.yields.turn.identity refusal) tells.tells (set_stop yielded.before d stamp told refusal yielded.contents yielded.yields)
  sets_stopped (end.Locked lock) tells yielded = tt
  sets_stopped end.Disk tells yielded = tt
  sets_stopped (end.Full used next) tells yielded = tt
  sets_stopped end.OutOfMemory tells yielded = tt

  pub rows_stopped : (e : End) → HasTold o told e → YieldedAt row_way d stamp told e → NamesStop e o.halted o.stopped_at
  rows_stopped end.Done tells yielded = halt_named o.halted told.settled.stop tells.tells.stop named
  rows_stopped (end.Refused refusal) tells yielded =
      stop_named o told.settled refusal (Refused yielded.yields.last.identity refusal) tells.tells (row_stop yielded.before told refusal yielded.yields)
  rows_stopped (end.Locked lock) tells yielded = tt
  rows_stopped end.Disk tells yielded = tt
  rows_stopped (end.Full used next) tells yielded = tt
  rows_stopped end.OutOfMemory tells yielded = tt
