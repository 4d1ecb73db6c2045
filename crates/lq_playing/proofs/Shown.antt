-- A store that shows the machine stands for its holder's session.
use Rattle.std.proofs.Common.{ap, arith, inl, inr, subst, sym, ◌∙◌}
use Rattle.std.proofs.lemmas.Bool.Decides.{nat_tests}
use Rattle.std.proofs.lemmas.List.{append-nil, append_assoc, map-append}
use Rattle.std.specs.Option.{option_map}
use Rattle.std.specs.Prelude.{List, None, Option, Some, [], cond, false, if◌then◌else◌, refl, true, ℕ, ◌+◌, ◌==◌, ◌++◌, ◌≡◌}
use Rattle.lq_base.specs.declared.dialect.Dialect.{Dialect}
use Rattle.lq_drill.specs.Player.{answer_of, Arrives, Plays, Standing}
use Rattle.lq_drill.specs.Faults.{HadRoom, IsHolders, IsOpenAs, Shows, entries_of, entry_of, entry_texts}
use Rattle.lq_playing.proofs.Told.{some_none}
use Rattle.lq_playing.proofs.Machines.{Runs, own_number}
use Rattle.lq_playing.specs.Answers.{as_busy, as_locked}
use Rattle.lq_playing.specs.Checked.{Work}
use Rattle.lq_playing.specs.Under.{bare}
use Rattle.lq_playing.specs.declared.came.Came.{Came}
use Rattle.lq_run.proofs.Rooms.{both_rooms, no_entries, sizes}
use Rattle.lq_run.specs.Stands.{IsBegun, Stands, entries_of as written_of}
use Rattle.lq_store.specs.Journal.{Entry, size_of_all, State, Transaction, is_open, other_in}
use Rattle.lq_turns.specs.Schedule.{StandsFor, answers_with}
use Rattle.lq_turns.specs.Session.{Session, session_on}
use Rattle.lq_turns.specs.declared.deed.Deed.{Deed}

not_true : false ≡ true → ⊥
not_true h = Prim.cc

pub nothing_more : (entries : Option (List Entry)) → entries ≡ option_map (λ e. e ++ []) entries
nothing_more None = refl
nothing_more (Some e) = ap (λ l. Some l) (sym (append-nil e))

none_used : (n : ℕ) → n ≡ n + 0
none_used n = omega arith

joined : (o : Option (List Entry)) (a b c : List Entry) → c ≡ a ++ b → option_map (λ e. e ++ b) (option_map (λ e. e ++ a) o) ≡ option_map (λ e. e ++ c) o
joined None a b c is = refl
joined (Some e) a b c is = ap (λ l. Some l) (append_assoc e a b ∙ ap (λ z. e ++ z) (sym is))

-- the session's transaction

begun_as : (d : Dialect) (n : ℕ) (s : Session) (t : Option Transaction) → IsOpenAs d n s t → IsBegun d n (bare s) t
begun_as d n s None is = is
begun_as d n s (Some t) is = is

open_as : (d : Dialect) (n : ℕ) (s : Session) (t : Option Transaction) → IsBegun d n s t → IsOpenAs d n s t
open_as d n s None is = is
open_as d n s (Some t) is = is

self_eq : (a n : ℕ) → a ≡ n → (a == n) ≡ true
self_eq a n same = grind (arith, nat_tests, same)

-- a session without a transaction
pub none_open : (d : Dialect) (n : ℕ) (s : Session) (t : Option Transaction) → IsBegun d n s t → is_open n t ≡ false → t ≡ None
none_open d n s None is shut = refl
none_open d n s (Some t) is shut = absurd (not_true (sym shut ∙ self_eq t.session n is.1))

pub shut_none : (d : Dialect) (n : ℕ) (s : Session) (t : Option Transaction) → IsBegun d n s t → s.is_open ≡ false → t ≡ None
shut_none d n s None is shut = refl
shut_none d n s (Some t) is shut = absurd (not_true (sym shut ∙ is.0))

-- nor has it begun anything
pub shut_begun : (d : Dialect) (n : ℕ) (s : Session) (t : Option Transaction) → IsOpenAs d n s t → s.is_open ≡ false → s.begun ≡ []
shut_begun d n s None is shut = is.2
shut_begun d n s (Some t) is shut = absurd (not_true (sym shut ∙ is.0))

rests_as : (d : Dialect) (n : ℕ) (s : Session) (t : Option Transaction) → t ≡ None → (s.is_open ≡ false) × (s.seen ≡ s.committed) × (s.begun ≡ []) → IsOpenAs d n s t
rests_as d n s t none rests = subst (IsOpenAs d n s) (sym none) rests

module _ (origin w : State) (x : Runs) (shows : Shows origin w x) where
  -- the store is its own start
  pub stands_for : (n : ℕ) (s : Session) → s.committed ≡ x.committed → IsOpenAs origin.dialect n s w.begun → Stands w n w (bare s)
  stands_for n s same opened = record {
    dialect = refl;
    limit = refl;
    live = shows.live;
    committed = subst (λ e. StandsFor e w.committed s.committed) (sym shows.dialect) (subst (StandsFor origin.dialect w.committed) (sym same) shows.committed);
    begun = subst (λ e. IsBegun e n (bare s) w.begun) (sym shows.dialect) (begun_as origin.dialect n s w.begun opened);
    entries = nothing_more w.entries;
    used = none_used w.used;
    room = no_entries w.dialect w.limit w.used;
  }

  -- for a runner that has made no call
  pub stands_first : (n : ℕ) → w.begun ≡ None → Stands w n w (session_on x.committed)
  stands_first n none = stands_for n (session_on x.committed) refl (rests_as origin.dialect n (session_on x.committed) w.begun none (refl, refl, refl))

  -- after a call of the runner
  pub shows_now : (n : ℕ) (z : State) (after : Session) (y : Runs) → Stands w n z after → y.committed ≡ after.committed → y.entries ≡ x.entries ++ after.entries → IsHolders origin.dialect y.committed y.holder z.begun → Shows origin z y
  shows_now n z after y stands same entries holders = record {
    dialect = stands.dialect ∙ shows.dialect;
    limit = stands.limit ∙ shows.limit;
    live = stands.live;
    committed = subst (StandsFor origin.dialect z.committed) (sym same) (subst (λ e. StandsFor e z.committed after.committed) shows.dialect stands.committed);
    begun = holders;
    entries = now_entries;
    used = now_used;
    room = now_room;
  } where
    all : entries_of origin.dialect y.entries ≡ entries_of origin.dialect x.entries ++ written_of origin.dialect after.entries
    all = ap (entries_of origin.dialect) entries ∙ map-append (entry_of origin.dialect) x.entries after.entries

    now_entries : z.entries ≡ option_map (λ e. e ++ entries_of origin.dialect y.entries) origin.entries
    now_entries =
        stands.entries ∙ ap (λ k. option_map (λ l. l ++ written_of k after.entries) w.entries) shows.dialect ∙ ap (option_map (λ l. l ++ written_of origin.dialect after.entries)) shows.entries
        ∙ joined origin.entries (entries_of origin.dialect x.entries) (written_of origin.dialect after.entries) (entries_of origin.dialect y.entries) all

    now_used : z.used ≡ origin.used + size_of_all (entries_of origin.dialect y.entries)
    now_used =
        stands.used ∙ ap (λ k. w.used + size_of_all (written_of k after.entries)) shows.dialect ∙ ap (λ u. u + size_of_all (written_of origin.dialect after.entries)) shows.used
        ∙ sizes origin.used (entries_of origin.dialect x.entries) (written_of origin.dialect after.entries) ∙ ap (λ l. origin.used + size_of_all l) (sym all)

    -- what the call appends stands behind the machine's entries
    call_room : HadRoom origin.dialect origin.limit (origin.used + size_of_all (entries_of origin.dialect x.entries)) after.entries
    call_room =
        subst (λ u. HadRoom origin.dialect origin.limit u after.entries) shows.used
        (subst (λ l. HadRoom origin.dialect l w.used after.entries) shows.limit (subst (λ e. HadRoom e w.limit w.used after.entries) shows.dialect stands.room))

    now_room : HadRoom origin.dialect origin.limit origin.used y.entries
    now_room = subst (HadRoom origin.dialect origin.limit origin.used) (sym entries) (both_rooms origin.dialect origin.limit origin.used x.entries after.entries shows.room call_room)

  -- the holder's transaction is the store's
  pub holds_now : (n : ℕ) (z : State) (after t : Session) (es : List (List Deed)) → Stands w n z after → after ≡ record t { entries = es } → IsOpenAs origin.dialect n t z.begun
  holds_now n z after t es stands is = by z.begun (open_as origin.dialect n after z.begun (subst (λ e. IsBegun e n after z.begun) shows.dialect stands.begun)) where
    by : (o : Option Transaction) → IsOpenAs origin.dialect n after o → IsOpenAs origin.dialect n t o
    by None opened = subst (λ (s : Session). (s.is_open ≡ false) × (s.seen ≡ s.committed) × (s.begun ≡ [])) is opened
    by (Some it) opened = subst (λ (s : Session). (s.is_open ≡ true) × (it.session ≡ n) × StandsFor origin.dialect it.now s.seen × (it.texts ≡ entry_texts origin.dialect s.begun)) is opened

-- an answer

module _ (jobs : ℕ → Work) (n : ℕ) (r : Standing Came as_locked as_busy) (origin z : State) (a : Came) (its : r.answer ≡ Some a) where
  plays_told : (y : Runs) → Plays jobs n r (answers_with Came as_locked as_busy n a y)
  plays_told y = record {
    answer = ap (λ b. if b then Some a else answer_of n y.answers) (own_number n) ∙ sym its;
    begun = λ none. absurd (some_none a (sym its ∙ none));
    waits = λ none. absurd (some_none a (sym its ∙ none));
    goes_on = λ none. absurd (some_none a (sym its ∙ none));
  }

  -- without a call
  pub arrives_told : (x : Runs) → Shows origin z x → Arrives jobs n r origin z x (answers_with Came as_locked as_busy n a x)
  arrives_told x shows = record {
    shows = record { dialect = shows.dialect; limit = shows.limit; live = shows.live; committed = shows.committed; begun = shows.begun; entries = shows.entries; used = shows.used; room = shows.room };
    plays = plays_told x;
    lock = inl (refl, refl);
  }

  -- after a last call, which left the lock free
  pub arrives_last : (x y : Runs) → Shows origin z y → y.committed.lock.locked ≡ false → Arrives jobs n r origin z x (answers_with Came as_locked as_busy n a y)
  arrives_last x y shows free = record {
    shows = record { dialect = shows.dialect; limit = shows.limit; live = shows.live; committed = shows.committed; begun = shows.begun; entries = shows.entries; used = shows.used; room = shows.room };
    plays = plays_told y;
    lock = inr (inl free);
  }
