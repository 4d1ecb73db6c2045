-- A lock that has a mark keeps one while statements are taken back.
use Rattle.std.proofs.Common.{ap, inl, inr, refl, subst, sym, ◌∙◌}
use Rattle.std.proofs.lemmas.List.{append-nil, append_assoc}
use Rattle.std.specs.List.{after_first, list_any, position_or_len}
use Rattle.std.specs.Prelude.{Bool, Err, List, None, Ok, Option, Result, Some, [], codes, drop, false, if◌then◌else◌, option_and_then, pos, suc, true, zero, ℕ, ◌+◌, ◌==◌, ◌++◌, ◌||◌, ◌∷◌, ◌≡◌, ◌⊎◌}
use Rattle.laws_repair.specs.Repair.{back_calls, marked_text, repair_calls, undo_calls}
use Rattle.lq_base.specs.Number.{whole_text}
use Rattle.lq_base.specs.Name.{identity_text}
use Rattle.lq_base.specs.declared.dialect.Dialect.{Dialect}
use Rattle.lq_base.specs.declared.dialect.Dialect.TheVariants.{Mysql, Postgresql}
use Rattle.lq_base.specs.declared.identity.Identity.{Identity}
use Rattle.lq_base.specs.declared.reason.Reason.{Reason}
use Rattle.lq_base.specs.declared.tracking.Lock.{Lock}
use Rattle.lq_base.specs.declared.tracking.Tracked.{Tracked}
use Rattle.lq_drill.specs.Faults.{has_bar, is_barred}
use Rattle.lq_expr.specs.declared.options.Options.{Options}
use Rattle.lq_kinds.specs.declared.change_set.Changelog.{Changelog}
use Rattle.lq_model.specs.Script.{if_any}
use Rattle.lq_model.specs.declared.statement.Statement.{Statement}
use Rattle.lq_report.specs.Mark.{Marked as Told, at_last_bar, lock_mark, mark_of, marked, statement_of}
use Rattle.lq_reverse.specs.Back.{back}
use Rattle.lq_run.proofs.Resting.{bar_in}
use Rattle.lq_track.specs.Database.{Database}
use Rattle.lq_turns.specs.Deed.{Contents, contents_of, with_contents, all_done, contents_after, if_accepted, locked_after}
use Rattle.lq_turns.specs.Script.{closing}
use Rattle.lq_turns.specs.Session.{Session, all_called, called, executed_as, is_own, session_on, settled_if}
use Rattle.lq_turns.specs.Stops.{Journal, joined}
use Rattle.lq_turns.specs.Turn.{made, made_on}
use Rattle.lq_turns.specs.declared.call.Call.{Call}
use Rattle.lq_turns.specs.declared.call.Call.TheVariants.{Abort, Alone, Begin, Commit, Execute}
use Rattle.lq_turns.specs.declared.deed.Deed.{Deed}
use Rattle.lq_turns.specs.declared.deed.Deed.TheVariants.{Locks, Rows, Users}
use Rattle.lq_turns.specs.declared.deed.OnLock.TheVariants.{Freed, LockMade, LockRowMade, LogMade, Marked, Taken}
use Rattle.lq_unrecorded.specs.Part.{if_part}
use Rattle.lq_words.specs.Words.{is_bar}
use Rattle.lq_mending.specs.Undoes.{Standing, set_marked, standing_in, unrecorded}

not_nil : {A : Type 0} {x : A} {xs : List A} → x ∷ xs ≡ [] → ⊥
not_nil h = Prim.cc

tail_is : {A : Type 0} {x y : A} {xs ys : List A} → x ∷ xs ≡ y ∷ ys → xs ≡ ys
tail_is h = Prim.cc

head_is : {A : Type 0} {x y : A} {xs ys : List A} → x ∷ xs ≡ y ∷ ys → x ≡ y
head_is h = Prim.cc

same_ok : {a b : Database} → (let r : Result Database Reason = Ok a in r) ≡ Ok b → a ≡ b
same_ok h = Prim.cc

ok_err : {A : Type 0} {database : Database} {reason : Reason} → (let r : Result Database Reason = Err reason in r) ≡ Ok database → A
ok_err h = absurd (clash h) where
  clash : {database : Database} {reason : Reason} → (let r : Result Database Reason = Err reason in r) ≡ Ok database → ⊥
  clash h = Prim.cc

none_some : {p : Standing} → (let o : Option Standing = None in o) ≡ Some p → ⊥
none_some h = Prim.cc

-- deeds that leave a bar in the lock's name

abbrev IsBarred : Deed → Type 0
IsBarred (Users s) = Unit {0}
IsBarred (Rows w) = ⊥
IsBarred (Locks (Marked by)) = is_barred by ≡ true
IsBarred (Locks w) = ⊥

abbrev AreBarred : List Deed → Type 0
AreBarred [] = Unit {0}
AreBarred (deed ∷ deeds) = IsBarred deed × AreBarred deeds

abbrev AllBarred : Journal → Type 0
AllBarred [] = Unit {0}
AllBarred (deeds ∷ entries) = AreBarred deeds × AllBarred entries

both_barred : (xs ys : List Deed) → AreBarred xs → AreBarred ys → AreBarred (xs ++ ys)
both_barred [] ys first second = second
both_barred (deed ∷ xs) ys first second = (first.0, both_barred xs ys first.1 second)

all_both : (xs ys : Journal) → AllBarred xs → AllBarred ys → AllBarred (xs ++ ys)
all_both [] ys first second = second
all_both (deeds ∷ xs) ys first second = (first.0, all_both xs ys first.1 second)

if_barred : (deeds : List Deed) → AreBarred deeds → AllBarred (if_any deeds)
if_barred [] all = tt
if_barred (deed ∷ deeds) all = (all, tt)

all_joined : (entries : Journal) → AllBarred entries → AreBarred (joined entries)
all_joined [] all = tt
all_joined (deeds ∷ entries) all = both_barred deeds (joined entries) all.0 (all_joined entries all.1)

keeps_bar : (deed : Deed) (database : Database) → IsBarred deed → has_bar database.lock ≡ true → has_bar (locked_after deed database).lock ≡ true
keeps_bar (Users s) database is bar = bar
keeps_bar (Rows w) database is bar = absurd is
keeps_bar (Locks (Marked by)) database is bar = is
keeps_bar (Locks LogMade) database is bar = absurd is
keeps_bar (Locks LockMade) database is bar = absurd is
keeps_bar (Locks LockRowMade) database is bar = absurd is
keeps_bar (Locks (Taken at by)) database is bar = absurd is
keeps_bar (Locks Freed) database is bar = absurd is

-- where they lead the lock has one
led_barred : (d : Dialect) (deeds : List Deed) (database now : Database) → AreBarred deeds → has_bar database.lock ≡ true → all_done d deeds database ≡ Ok now → has_bar now.lock ≡ true
led_barred d [] database now all bar led = ap (λ (e : Database). has_bar e.lock) (sym (same_ok led)) ∙ bar
led_barred d (deed ∷ deeds) database now all bar led = by (λ c. led_barred d deeds (with_contents (locked_after deed database) c) now all.1 (keeps_bar deed database all.0 bar)) (contents_after d deed (contents_of database)) led where
  by : ((c : Contents) → all_done d deeds (with_contents (locked_after deed database) c) ≡ Ok now → has_bar now.lock ≡ true) → (r : Result Contents Reason) → (elim (if_accepted (with_contents (locked_after deed database)) r) as (λ _. Result Database Reason) [ Ok next ↦ all_done d deeds next | Err reason ↦ Err reason ]) ≡ Ok now → has_bar now.lock ≡ true
  by next (Ok c) led_on = next c led_on
  by next (Err reason) led_on = ok_err led_on

-- calls of such deeds

abbrev KeepsBar : Call → Type 0
KeepsBar Begin = Unit {0}
KeepsBar Commit = Unit {0}
KeepsBar Abort = Unit {0}
KeepsBar (Execute deed) = IsBarred deed
KeepsBar (Alone deeds room) = ⊥

abbrev AllKeep : List Call → Type 0
AllKeep [] = Unit {0}
AllKeep (call ∷ calls) = KeepsBar call × AllKeep calls

both_keep : (xs ys : List Call) → AllKeep xs → AllKeep ys → AllKeep (xs ++ ys)
both_keep [] ys first second = second
both_keep (call ∷ xs) ys first second = (first.0, both_keep xs ys first.1 second)

any_left : (xs ys : List ℕ) → is_barred xs ≡ true → is_barred (xs ++ ys) ≡ true
any_left [] ys bar = absurd Prim.cc
any_left (b ∷ xs) ys bar = by (any_left xs ys) (b == 124) bar where
  by : (is_barred xs ≡ true → is_barred (xs ++ ys) ≡ true) → (first : Bool) → (first || list_any (λ c. c == 124) xs) ≡ true → (first || list_any (λ c. c == 124) (xs ++ ys)) ≡ true
  by more true is = refl
  by more false is = more is

marked_bar : (who : List ℕ) (of : Identity) (k : ℕ) → is_barred (marked_text true who of k) ≡ true
marked_bar who of k =
    let bar = codes "|" in
    let named = who ++ bar ++ identity_text of in
    let back = codes "back " in
    any_left (named ++ bar ++ back) (whole_text (pos k)) (any_left (named ++ bar) back (any_left named bar (any_left (who ++ bar) (identity_text of) (bar_in who []))))

back_keep : (who : List ℕ) (of : Identity) (k : ℕ) (o : Option Statement) → AllKeep (back_calls who of k o)
back_keep who of k None = tt
back_keep who of k (Some s) = (tt, (marked_bar who of k, (tt, (tt, tt))))

undo_keep : (d : Dialect) (who : List ℕ) (of : Identity) (k : ℕ) (ss : List Statement) → AllKeep (undo_calls d who of k ss)
undo_keep d who of k [] = tt
undo_keep d who of k (s ∷ ss) = both_keep (undo_calls d who of (suc k) ss) (back_calls who of k (back d s)) (undo_keep d who of (suc k) ss) (back_keep who of k (back d s))

-- what a session has begun and written are such deeds
abbrev Wrote : Session → Type 0
Wrote s = AreBarred s.begun × AllBarred s.entries

settles : (own : Bool) (s : Session) → Wrote s → Wrote (settled_if own s)
settles true s wrote = (tt, all_both s.entries (if_any s.begun) wrote.1 (if_barred s.begun wrote.0))
settles false s wrote = wrote

writes : (d : Dialect) (deed : Deed) (s : Session) → IsBarred deed → Wrote s → (r : Result Contents Reason) → Wrote (executed_as d deed s (if_accepted (with_contents (locked_after deed s.seen)) r))
writes d deed s is wrote (Ok c) =
    let own = is_own d deed in
    let before = settles own s wrote in
    settles own (record (settled_if own s) { seen = with_contents (locked_after deed s.seen) c; begun = (settled_if own s).begun ++ deed ∷ [] }) (both_barred (settled_if own s).begun (deed ∷ []) before.0 (is, tt), before.1)
writes d deed s is wrote (Err reason) = settles (is_own d deed) s wrote

-- such entries, and at most one behind them
abbrev EndsBarred : Journal → Type 0
EndsBarred entries = (front : Journal) × (last : List Deed) × AllBarred front × (entries ≡ front ++ if_any last)

frees_one : (d : Dialect) (s : Session) → Wrote s → EndsBarred (called d closing s).entries
frees_one Postgresql s wrote = (s.entries, s.begun ++ Locks Freed ∷ [], wrote.1, refl)
frees_one Mysql s wrote = (s.entries, s.begun ++ Locks Freed ∷ [], wrote.1, refl)

module _ (d : Dialect) where
  ends_barred : (calls : List Call) (c : Contents) (s : Session) → AllKeep calls → Wrote s → EndsBarred (all_called d (made d (calls ++ closing ∷ []) c) s).entries
  ends_barred [] c s all wrote = frees_one d s wrote
  ends_barred (Begin ∷ calls) c s all wrote = ends_barred calls c (called d Begin s) all.1 wrote
  ends_barred (Commit ∷ calls) c s all wrote = ends_barred calls c (called d Commit s) all.1 (settles true s wrote)
  ends_barred (Abort ∷ calls) c s all wrote = ends_barred calls c (called d Abort s) all.1 (tt, wrote.1)
  ends_barred (Alone deeds room ∷ calls) c s all wrote = absurd all.0
  ends_barred (Execute deed ∷ calls) c s all wrote = by (λ e now. ends_barred calls e (called d (Execute deed) s) all.1 now) (contents_after d deed c) where
    now : Wrote (called d (Execute deed) s)
    now = writes d deed s all.0 wrote (contents_after d deed (contents_of s.seen))

    by : ((e : Contents) → Wrote (called d (Execute deed) s) → EndsBarred (all_called d (made d (calls ++ closing ∷ []) e) (called d (Execute deed) s)).entries) → (r : Result Contents Reason) → EndsBarred (all_called d (made_on (made d (calls ++ closing ∷ [])) r) (called d (Execute deed) s)).entries
    by next (Ok e) = next e now
    by next (Err reason) = ((called d (Execute deed) s).entries, [], now.1, sym (append-nil (called d (Execute deed) s).entries))

-- a front of the entries that is not all of them

short_end : (last : List Deed) (deeds : List Deed) (front : Journal) (next : List Deed) (more : Journal) → if_any last ≡ deeds ∷ front ++ next ∷ more → ⊥
short_end [] deeds front next more is = not_nil (sym is)
short_end (deed ∷ last) deeds front next more is = some_more front next more (sym (tail_is is)) where
  some_more : (front : Journal) (next : List Deed) (more : Journal) → front ++ next ∷ more ≡ [] → ⊥
  some_more [] next more same = not_nil same
  some_more (first ∷ front) next more same = not_nil same

front_barred : (barred : Journal) (last : List Deed) (front : Journal) (next : List Deed) (more : Journal) → AllBarred barred → barred ++ if_any last ≡ front ++ next ∷ more → AllBarred front
front_barred barred last [] next more all is = tt
front_barred [] last (deeds ∷ front) next more all is = absurd (short_end last deeds front next more is)
front_barred (first ∷ barred) last (deeds ∷ front) next more all is = (subst AreBarred (head_is is) all.0, front_barred barred last front next more all.1 (tail_is is))

pub front_keeps : (d : Dialect) (who : List ℕ) (of : Identity) (ss : List Statement) (database now : Database) (front : Journal) (next : List Deed) (more : Journal) → has_bar database.lock ≡ true
    → (all_called d (repair_calls d who of ss database) (session_on database)).entries ≡ front ++ next ∷ more → all_done d (joined front) database ≡ Ok now → has_bar now.lock ≡ true
front_keeps d who of ss database now front next more bar is led =
    let ends = ends_barred d (undo_calls d who of 1 ss) (contents_of database) (session_on database) (undo_keep d who of 1 ss) (tt, tt) in
    led_barred d (joined front) database now (all_joined front (front_barred ends.0 ends.1 front next more ends.2 (sym ends.3 ∙ is))) bar led

-- a lock that tells a part of a changeset has a bar

any_drop : (n : ℕ) (xs : List ℕ) → is_barred xs ≡ false → is_barred (drop n xs) ≡ false
any_drop zero xs none = none
any_drop (suc n) [] none = refl
any_drop (suc n) (b ∷ xs) none = any_drop n xs (by (b == 124) none) where
  by : (first : Bool) → (first || list_any (λ c. c == 124) xs) ≡ false → list_any (λ c. c == 124) xs ≡ false
  by true is = absurd Prim.cc
  by false is = is

last_none : (text : List ℕ) → is_barred text ≡ false → at_last_bar text ≡ None
unfolding at_last_bar
last_none [] none = refl
last_none (b ∷ bs) none = by (last_none bs) (b == 124) none where
  by : (is_barred bs ≡ false → at_last_bar bs ≡ None) → (first : Bool) → (first || list_any (λ c. c == 124) bs) ≡ false
      → (let o : Option (List ℕ × List ℕ) = elim (at_last_bar bs) [ Some parts ↦ Some (b ∷ parts.0, parts.1) | None ↦ if first then Some ([], bs) else None ] in o) ≡ None
  by more true is = absurd Prim.cc
  by more false is = ap (λ (o : Option (List ℕ × List ℕ)). (let p : Option (List ℕ × List ℕ) = elim o [ Some parts ↦ Some (b ∷ parts.0, parts.1) | None ↦ None ] in p)) (more is)

no_mark : (by : List ℕ) → is_barred by ≡ false → mark_of by ≡ None
unfolding mark_of
no_mark by none = ap (λ (o : Option (List ℕ × List ℕ)). option_and_then (λ parts. marked parts.0 (statement_of parts.1)) o) (last_none (after_first is_bar by) (any_drop (position_or_len is_bar by + 1) by none))

module _ (o : Options) (g : Changelog) (last : Option (List ℕ)) (lock : Lock) (rows : List Tracked) where
  none_told : (by : Option (List ℕ)) → (elim by as (λ _. Bool) [ Some name ↦ is_barred name | None ↦ false ]) ≡ false → option_and_then mark_of by ≡ None
  none_told (Some name) none = no_mark name none
  none_told None none = refl

  no_part : (locked : Bool) (mark : Option Told) → mark ≡ None → (if locked then option_and_then if_part mark else None) ≡ None
  no_part true mark none = ap (option_and_then if_part) none
  no_part false mark none = refl

  pub part_barred : (p : Standing) → unrecorded o g last lock rows ≡ Some p → has_bar lock ≡ true
  part_barred p is = by (has_bar lock) refl where
    by : (b : Bool) → has_bar lock ≡ b → b ≡ true
    by true bar = refl
    by false bare = absurd (none_some (sym (ap (option_and_then (λ mark. standing_in o.dialect last lock mark (set_marked o g rows mark))) (no_part lock.locked (lock_mark lock) (none_told lock.by bare))) ∙ is))
