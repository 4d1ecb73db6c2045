-- Statement after statement is taken back.
use Rattle.std.proofs.Common.{ap, arith, refl, subst, sym, ◌∙◌}
use Rattle.std.proofs.lemmas.List.{append_assoc, reverse-append}
use Rattle.std.specs.List.{list_all}
use Rattle.std.specs.Prelude.{Bool, Err, List, None, Ok, Option, Result, Some, [], length, reverse, suc, true, ℕ, ◌+◌, ◌++◌, ◌∷◌, ◌≡◌}
use Rattle.laws_repair.specs.Repair.{back_calls, undo_calls, marked_text}
use Rattle.lq_base.specs.declared.dialect.Dialect.{Dialect}
use Rattle.lq_base.specs.declared.identity.Identity.{Identity}
use Rattle.lq_base.specs.declared.reason.Reason.{Reason}
use Rattle.lq_model.proofs.Lists.{and_left, and_right, and_true}
use Rattle.lq_model.specs.Catalogue.{Catalogue}
use Rattle.lq_model.specs.Step.{is_statement, step}
use Rattle.lq_model.specs.declared.caller.By.TheVariants.{User}
use Rattle.lq_model.specs.declared.statement.Statement.{Statement}
use Rattle.lq_reverse.specs.Back.{back}
use Rattle.lq_run.proofs.Grows.{came_all}
use Rattle.lq_run.proofs.Left.{stands_there}
use Rattle.lq_run.proofs.Since.{leave_then}
use Rattle.lq_run.specs.Commands.{HasDatabase}
use Rattle.lq_run.specs.Ends.{CameFrom}
use Rattle.lq_run.specs.Beside.{is_disk_end}
use Rattle.lq_run.specs.declared.runner.End.{End}
use Rattle.lq_run.specs.declared.runner.End.TheVariants as end
use Rattle.lq_store.specs.Journal.{Crashes, CrashesLeave, State}
use Rattle.lq_track.specs.Database.{Database}
use Rattle.lq_turns.specs.Deed.{contents_of, if_accepted}
use Rattle.lq_turns.specs.Session.{Both, committed_if, went, went_by, Session, all_called, called, is_own, session_on}
use Rattle.lq_turns.specs.Script.{closing}
use Rattle.lq_turns.specs.Rest.{both_of}
use Rattle.lq_turns.specs.Turn.{made}
use Rattle.lq_turns.specs.declared.call.Call.{Call}
use Rattle.lq_turns.specs.declared.call.Call.TheVariants.{Commit}
use Rattle.lq_turns.specs.declared.deed.Deed.TheVariants.{Locks, Users}
use Rattle.lq_turns.specs.declared.deed.OnLock.TheVariants.{Marked}
use Rattle.lq_mending.specs.Comes.{AreMade, LeftOf, at_end, first_reason, reason_by, back_refused, refused_by, refused_from, refused_in}
use Rattle.lq_mending.specs.Mends.{CrashesFreeing, CrashesTaking, EndsAt, Frees, Rests, Takes, Tells, TellsEnd}

some_none : {A : Type 0} {reason : Reason} → (let o : Option Reason = Some reason in o) ≡ None → A
some_none h = absurd (clash h) where
  clash : {reason : Reason} → (let o : Option Reason = Some reason in o) ≡ None → ⊥
  clash h = Prim.cc

length_more : {A : Type 0} (xs : List A) (x : A) → length (xs ++ x ∷ []) ≡ suc (length xs)
length_more [] x = refl
length_more (y ∷ xs) x = ap suc (length_more xs x)

length_reversed : {A : Type 0} (xs : List A) → length (reverse xs) ≡ length xs
length_reversed [] = refl
length_reversed (x ∷ xs) = ap length (reverse-append (x ∷ []) xs) ∙ (length_more (reverse xs) x ∙ ap suc (length_reversed xs))

pub no_rest : {A : Type 0} (xs : List A) → length xs ≡ 0 → xs ≡ []
no_rest [] none = refl
no_rest (x ∷ xs) none = absurd (omega (arith, none))

-- of statements the last one is taken back first

undo_last : (d : Dialect) (who : List ℕ) (of : Identity) (k : ℕ) (ss : List Statement) (s : Statement) → undo_calls d who of k (ss ++ s ∷ []) ≡ back_calls who of (k + length ss) (back d s) ++ undo_calls d who of k ss
undo_last d who of k [] s = let same : k + 0 ≡ k = omega arith in ap (λ n. back_calls who of n (back d s)) (sym same) ∙ sym (nil_after (back_calls who of (k + 0) (back d s)))
  where
    nil_after : (cs : List Call) → cs ++ [] ≡ cs
    nil_after [] = refl
    nil_after (c ∷ cs) = ap (λ z. c ∷ z) (nil_after cs)
undo_last d who of k (t ∷ ss) s =
    let same : suc k + length ss ≡ k + suc (length ss) = omega arith in
    ap (λ cs. cs ++ back_calls who of k (back d t)) (undo_last d who of (suc k) ss s ∙ ap (λ n. back_calls who of n (back d s) ++ undo_calls d who of (suc k) ss) same)
    ∙ append_assoc (back_calls who of (k + suc (length ss)) (back d s)) (undo_calls d who of (suc k) ss) (back_calls who of k (back d t))

-- what ends so since a session ends so since one that came before it
since : (d : Dialect) (number : ℕ) (start : State) (first next last : Session) (e : End) (y : State) → CameFrom d first next → EndsAt d number start next last e y → EndsAt d number start first last e y
since d number start first next last end.Done y came ends = ends
since d number start first next last (end.Refused refusal) y came ends = ends
since d number start first next last (end.Locked lock) y came ends = ends
since d number start first next last end.Disk y came ends =
    record { session = ends.session; x = ends.x; stands = ends.stands; call = ends.call; breaks = ends.breaks; before = ends.before }
since d number start first next last (end.Full used more) y came ends = (
  record { session = ends.0.session; came = came_all d first next ends.0.session came ends.0.came; before = ends.0.before; stands = ends.0.stands; shut = ends.0.shut },
  record {
    session = ends.1.session;
    came = came_all d first next ends.1.session came ends.1.came;
    call = ends.1.call;
    more = ends.1.more;
    appends = ends.1.appends;
    before = ends.1.before;
    others = ends.1.others;
    goes_on = ends.1.goes_on;
    used_is = ends.1.used_is;
    next_is = ends.1.next_is;
    which = ends.1.which;
    full = ends.1.full;
  },
  ends.2,
)
since d number start first next last end.OutOfMemory y came ends = record { session = ends.session; came = came_all d first next ends.session came ends.came; before = ends.before; stands = ends.stands; shut = ends.shut }

-- how far a repair has come
pub record Got (d : Dialect) (who : List ℕ) (of : Identity) (number : ℕ) (all : List Statement) (start : State) (s : Session) (rest : List Statement) (x : State) : Type 0 where
  pub session : Session
  pub rests : Rests d number start x session
  pub came : CameFrom d s session
  pub ends : (tail : List Call) → at_end d (undo_calls d who of 1 all) tail s ≡ at_end d (undo_calls d who of 1 rest) tail session
  pub refused : back_refused d all s.seen.users ≡ back_refused d rest session.seen.users

module _ (d : Dialect) (who : List ℕ) (of : Identity) (number : ℕ) where
  pub begins : (all : List Statement) (start x : State) (s : Session) → Rests d number start x s → Got d who of number all start s all x
  begins all start x s rests = record { session = s; rests = rests; came = record { calls = []; is = refl }; ends = λ tail. refl; refused = refl }

  module _ (rest before : List Statement) (statement : Statement) (n : ℕ) (rest_is : rest ≡ before ++ statement ∷ []) (n_is : n ≡ length rest) where
    abbrev ours : List Call
    ours = back_calls who of n (back d statement)

    counted : n ≡ suc (length before)
    counted = n_is ∙ (ap length rest_is ∙ length_more before statement)

    calls_are : undo_calls d who of 1 rest ≡ ours ++ undo_calls d who of 1 before
    calls_are =
        let one : 1 + length before ≡ n = omega (arith, counted) in
        ap (undo_calls d who of 1) rest_is ∙ (undo_last d who of 1 before statement ∙ ap (λ k. back_calls who of k (back d statement) ++ undo_calls d who of 1 before) one)

    pub ends_with : (tail : List Call) (t : Session) → at_end d (undo_calls d who of 1 rest) tail t ≡ at_end d ours (undo_calls d who of 1 before ++ tail) t
    ends_with tail t =
        ap (λ cs. at_end d cs tail t) calls_are
        ∙ ap (λ cs. all_called d (made d cs (contents_of t.seen)) t) (append_assoc ours (undo_calls d who of 1 before) tail)

    refused_is : (c : Catalogue) → back_refused d rest c ≡ refused_from d (refused_in d (reverse before)) n (back d statement) c
    refused_is c =
        let many : suc (length (reverse before)) ≡ n = ap suc (length_reversed before) ∙ sym counted in
        ap (λ ss. refused_in d (reverse ss) c) rest_is
        ∙ (ap (λ ss. refused_in d ss c) (reverse-append before (statement ∷ []))
        ∙ ap (λ k. refused_from d (refused_in d (reverse before)) k (back d statement) c) many)

    -- what was made was accepted, and led to what is seen then
    passed : (t u : Session) → AreMade d ours [] t u → refused_from d (refused_in d (reverse before)) n (back d statement) t.seen.users ≡ back_refused d before u.seen.users
    passed t u are = by (back d statement) are.leads are.reason where
      by : (o : Option Statement) → went d (back_calls who of n o) (both_of t) ≡ both_of u → first_reason d (back_calls who of n o) (contents_of t.seen) ≡ None
          → refused_from d (refused_in d (reverse before)) n o t.seen.users ≡ back_refused d before u.seen.users
      by None leads none = ap (λ (x : Both). refused_in d (reverse before) x.1.users) leads
      by (Some b) leads none = by_step (step User d b t.seen.users) leads none where
        own : Bool
        own = is_own d (Locks (Marked (marked_text true who of n)))

        by_step : (r : Result (Catalogue × ℕ) Reason)
            → went_by d (Users b) (went d (Commit ∷ [])) (committed_if own (contents_of t.committed) (contents_of t.seen), contents_of t.seen) (if_accepted (λ ran. record (contents_of t.seen) { users = ran.0 }) r) ≡ both_of u
            → reason_by (first_reason d (Commit ∷ [])) (if_accepted (λ ran. record (contents_of t.seen) { users = ran.0 }) r) ≡ None
            → refused_by (refused_in d (reverse before)) n r ≡ back_refused d before u.seen.users
        by_step (Ok ran) leads none = ap (λ (x : Both). refused_in d (reverse before) x.1.users) leads
        by_step (Err reason) leads none = some_none none

    -- one more is taken back
    pub goes_on : (all : List Statement) (start x y : State) (s : Session) → Got d who of number all start s rest x → Takes d number ours x (Ok tt) y → Got d who of number all start s before y
    goes_on all start x y s got takes =
        let it = takes start got.session got.rests in
        record {
          session = it.after;
          rests = it.rests;
          came = came_all d s got.session it.after got.came it.made.came;
          ends = λ tail. got.ends tail ∙ (ends_with tail got.session ∙ it.made.ends (undo_calls d who of 1 before ++ tail));
          refused = got.refused ∙ (refused_is got.session.seen.users ∙ passed got.session it.after it.made);
        }

    -- one was not
    pub stops : (all : List Statement) (start x y : State) (s : Session) (e : End) → Got d who of number all start s rest x → Takes d number ours x (Err e) y
        → EndsAt d number start s (at_end d (undo_calls d who of 1 all) (closing ∷ []) s) e y
    stops all start x y s e got takes =
        subst (λ last. EndsAt d number start s last e y) (sym (got.ends (closing ∷ []) ∙ ends_with (closing ∷ []) got.session))
        (since d number start s got.session (at_end d ours (undo_calls d who of 1 before ++ closing ∷ []) got.session) e y got.came (takes start got.session got.rests (undo_calls d who of 1 before ++ closing ∷ [])))

    pub stops_so : (all : List Statement) (start x : State) (s : Session) (e : End) → Got d who of number all start s rest x → Tells d number n (back d statement) x (Err e) → TellsEnd (back_refused d all s.seen.users) e
    stops_so all start x s end.Done got tells = absurd (tells start got.session got.rests)
    stops_so all start x s (end.Refused refusal) got tells = got.refused ∙ (refused_is got.session.seen.users ∙ tells start got.session got.rests (refused_in d (reverse before)))
    stops_so all start x s (end.Locked lock) got tells = tt
    stops_so all start x s end.Disk got tells = tt
    stops_so all start x s (end.Full used next) got tells = tt
    stops_so all start x s end.OutOfMemory got tells = tt

    pub one_crash : (all : List Statement) (start x : State) (s : Session) (tail : List Call) (a b c : Crashes) → Got d who of number all start s rest x → CrashesTaking d number ours x b c
        → CrashesLeave start.entries (LeftOf d (at_end d (undo_calls d who of 1 all) tail s)) a b → CrashesLeave start.entries (LeftOf d (at_end d (undo_calls d who of 1 all) tail s)) a c
    one_crash all start x s tail a b c got crash before_it =
        let last = at_end d (undo_calls d who of 1 all) tail s in
        leave_then start.entries (LeftOf d last) a b c before_it
        (subst (λ l. CrashesLeave start.entries (LeftOf d l) b c) (sym (got.ends tail ∙ ends_with tail got.session)) (crash start got.session (undo_calls d who of 1 before ++ tail) got.rests))

    pub spelled_before : list_all (is_statement d) rest ≡ true → (list_all (is_statement d) before ≡ true) × (is_statement d statement ≡ true)
    spelled_before all = parted before (subst (λ ss. list_all (is_statement d) ss ≡ true) rest_is all) where
      parted : (ss : List Statement) → list_all (is_statement d) (ss ++ statement ∷ []) ≡ true → (list_all (is_statement d) ss ≡ true) × (is_statement d statement ≡ true)
      parted [] all = (refl, and_left (is_statement d statement) true all)
      parted (t ∷ ss) all =
          let more = parted ss (and_right (is_statement d t) (list_all (is_statement d) (ss ++ statement ∷ [])) all) in
          (and_true (is_statement d t) (list_all (is_statement d) ss) (and_left (is_statement d t) (list_all (is_statement d) (ss ++ statement ∷ [])) all) more.0, more.1)

  -- none is left
  pub ends_freed : (all rest : List Statement) (start x y : State) (s : Session) (e : End) → rest ≡ [] → Got d who of number all start s rest x → Frees d number x e y
      → EndsAt d number start s (at_end d (undo_calls d who of 1 all) (closing ∷ []) s) e y
  ends_freed all rest start x y s e none got frees =
      subst (λ last. EndsAt d number start s last e y) (sym (got.ends (closing ∷ []) ∙ ap (λ ss. at_end d (undo_calls d who of 1 ss) (closing ∷ []) got.session) none))
      (since d number start s got.session (called d closing got.session) e y got.came (frees start got.session got.rests).0)

  pub freed_so : (all rest : List Statement) (start x y : State) (s : Session) (e : End) → rest ≡ [] → Got d who of number all start s rest x → Frees d number x e y → TellsEnd (back_refused d all s.seen.users) e
  freed_so all rest start x y s end.Done none got frees = got.refused ∙ ap (λ ss. back_refused d ss got.session.seen.users) none
  freed_so all rest start x y s (end.Refused refusal) none got frees = absurd (frees start got.session got.rests).1
  freed_so all rest start x y s (end.Locked lock) none got frees = tt
  freed_so all rest start x y s end.Disk none got frees = tt
  freed_so all rest start x y s (end.Full used next) none got frees = tt
  freed_so all rest start x y s end.OutOfMemory none got frees = tt

  pub freed_crash : (all rest : List Statement) (start x : State) (s : Session) (a b c : Crashes) → rest ≡ [] → Got d who of number all start s rest x → CrashesFreeing d number x b c
      → CrashesLeave start.entries (LeftOf d (at_end d (undo_calls d who of 1 all) (closing ∷ []) s)) a b → CrashesLeave start.entries (LeftOf d (at_end d (undo_calls d who of 1 all) (closing ∷ []) s)) a c
  freed_crash all rest start x s a b c none got crash before_it =
      let last = at_end d (undo_calls d who of 1 all) (closing ∷ []) s in
      leave_then start.entries (LeftOf d last) a b c before_it
      (subst (λ l. CrashesLeave start.entries (LeftOf d l) b c) (sym (got.ends (closing ∷ []) ∙ ap (λ ss. at_end d (undo_calls d who of 1 ss) (closing ∷ []) got.session) none)) (crash start got.session got.rests))

pub disk_end : (e : End) → is_disk_end e ≡ true → e ≡ end.Disk
disk_end end.Disk is = refl
disk_end end.Done is = Prim.cc
disk_end (end.Refused refusal) is = Prim.cc
disk_end (end.Locked lock) is = Prim.cc
disk_end (end.Full used next) is = Prim.cc
disk_end end.OutOfMemory is = Prim.cc

-- on a database
pub database_rests : (d : Dialect) (number : ℕ) (x : State) (database : Database) → HasDatabase d x database → database.has_lock_row ≡ true → Rests d number x x (session_on database)
database_rests d number x database has row = record { dialect = has.dialect; stands = stands_there d number x database has; shut = refl; row = (row, row) }
