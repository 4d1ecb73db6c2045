-- The last text of a journal.
use Rattle.std.proofs.Common.{◌≡◌, ◌∙◌, ◌||◌, ◌==◌, ◌+◌, ℕ, Bool, true, false, cond, is_some, unwrap_or, drop, length, if◌then◌else◌, List, [], ◌∷◌, ◌++◌, Ok, Err, Result, Option, None, Some, IfSome, refl, sym, ap, subst}
use Rattle.std.specs.List.{last_or}
use Rattle.std.specs.Option.{option_map, option_or}
use Rattle.std.specs.Prelude.{map}
use Rattle.std.proofs.lemmas.List.{append_assoc, map-append}
use Rattle.lq_base.specs.declared.dialect.Dialect.{Dialect}
use Rattle.lq_base.specs.declared.reason.Reason.{Reason}
use Rattle.lq_base.specs.declared.tracking.Lock.{Lock}
use Rattle.lq_model.specs.Catalogue.{Catalogue}
use Rattle.lq_model.specs.declared.fault.StoreFault.{StoreFault}
use Rattle.lq_model.specs.declared.fault.StoreFault.TheVariants.{Refused, Disk, Full, OutOfMemory}
use Rattle.lq_store.specs.Executor.{Held}
use Rattle.lq_store.specs.Calls.{ends_in_texts, is_of_texts}
use Rattle.lq_store.specs.Journal.{Entry, of_texts}
use Rattle.lq_store.specs.Journal.Entry.{Stated, Texts}
use Rattle.lq_frames.specs.Body.{as_body, if_any, is_state, texts_from, frames_of, from_last_state, has_state, placed, read_frames}
use Rattle.lq_frames.specs.declared.entry.Body.{Body}
use Rattle.lq_frames.specs.declared.entry.Body.TheVariants as body
use Rattle.lq_frames.specs.declared.entry.Entry.{Entry as Placed}
use Rattle.lq_session.specs.Session.{Side, side, texts_in}
use Rattle.lq_session.specs.declared.open.Open.{Open}
use Rattle.lq_entries.specs.Log.{Log, as_entry, entries_in, entries_of, gained, if_undamaged, unplaced}
use Rattle.lq_journal.specs.Reading.{IsRead}
use Rattle.lq_db.specs.Db.{MayTake, lives, AreLast, TellLast, after_itself, after_taken, last_after, last_text, with_all, with_entry, with_last, with_text}
use Rattle.lq_db.specs.Alone.{MayRunItself}
use Rattle.lq_db.specs.declared.last_texts.LastTexts.{LastTexts}
use Rattle.lq_db.proofs.Commits.{begun_same}

last_more : {A : Type 0} (o : Option A) (xs ys : List A) → last_or o (xs ++ ys) ≡ last_or (last_or o xs) ys
last_more o [] ys = refl
last_more o (x ∷ xs) ys = last_more (Some x) xs ys

nested_or : {A : Type 0} (l s o : Option A) → option_or (option_or l s) o ≡ option_or l (option_or s o)
nested_or None s o = refl
nested_or (Some l) s o = refl

last_else : {A : Type 0} (o : Option A) (xs : List A) → last_or o xs ≡ option_or (last_or None xs) o
last_else o [] = refl
last_else o (x ∷ xs) = last_else (Some x) xs ∙ (sym (nested_or (last_or None xs) (Some x) o) ∙ ap (λ l. option_or l o) (sym (last_else (Some x) xs)))

-- texts lead on from the last text, a state does not

after_more : (last : Option (List ℕ)) (es more : List Entry) → last_after last (es ++ more) ≡ last_after (last_after last es) more
after_more last [] more = refl
after_more last (Texts texts ∷ es) more = after_more (last_or last texts) es more
after_more last (Stated bytes ∷ es) more = after_more None es more

after_else : (last : Option (List ℕ)) (more : List (List (List ℕ))) → last_after last (of_texts more) ≡ option_or (last_text (of_texts more)) last
after_else last [] = refl
after_else last (texts ∷ more) =
    after_else (last_or last texts) more
    ∙ (ap (option_or (last_text (of_texts more))) (last_else last texts)
    ∙ (sym (nested_or (last_text (of_texts more)) (last_or None texts) last)
    ∙ ap (λ l. option_or l last) (sym (after_else (last_or None texts) more))))

texts_both : (es : List Entry) (more : List (List (List ℕ))) → last_text (es ++ of_texts more) ≡ option_or (last_text (of_texts more)) (last_text es)
texts_both es more = after_more None es (of_texts more) ∙ after_else (last_text es) more

after_entry : (last : Option (List ℕ)) (e : Option (List (List ℕ))) → last_after last (entries_of e) ≡ last_or last (texts_in e)
after_entry last None = refl
after_entry last (Some texts) = refl

-- what waited is written
pub all_written : (es : List Entry) (e : Option (List (List ℕ))) (last waiting : Option (List ℕ)) → last ≡ last_text es → waiting ≡ last_or None (texts_in e) → option_or waiting last ≡ last_text (es ++ entries_of e)
all_written es e last waiting is waits =
    rw (is, waits) (sym (after_more None es (entries_of e) ∙ (after_entry (last_text es) e ∙ last_else (last_text es) (texts_in e))))

text_written : (es : List Entry) (text : List ℕ) → last_text (es ++ Texts (text ∷ []) ∷ []) ≡ Some text
text_written es text = after_more None es (Texts (text ∷ []) ∷ [])

pub closed_last : (es now_es : List Entry) (e now : Option (List (List ℕ))) (t u : LastTexts) → AreLast es (texts_in e) t → now_es ≡ es ++ entries_of e → now ≡ None → u ≡ with_all t → AreLast now_es (texts_in now) u
closed_last es now_es e now t u last es_is now_is u_is = rw (es_is, now_is, u_is) (record { in_journal = all_written es e t.in_journal t.waiting last.in_journal last.waiting; waiting = refl })

pub written_last : (es now_es : List Entry) (now : Option (List (List ℕ))) (text : List ℕ) (u : LastTexts) → now_es ≡ es ++ Texts (text ∷ []) ∷ [] → now ≡ None → u ≡ with_entry text → AreLast now_es (texts_in now) u
written_last es now_es now text u es_is now_is u_is = rw (es_is, now_is, u_is) (record { in_journal = sym (text_written es text); waiting = refl })

pub added_last : (es now_es : List Entry) (xs now : List (List ℕ)) (text : List ℕ) (t u : LastTexts) → AreLast es xs t → now_es ≡ es → now ≡ xs ++ text ∷ [] → u ≡ with_text text t → AreLast now_es now u
added_last es now_es xs now text t u last es_is now_is u_is = rw (es_is, now_is, u_is) (record { in_journal = last.in_journal; waiting = sym (last_more None xs (text ∷ [])) })

-- of a database's calls

told_more : (es : Option (List Entry)) (more : List Entry) (last now : Option (List ℕ)) → ((there : List Entry) → last ≡ last_text there → now ≡ last_text (there ++ more)) → IfSome es (λ there. last ≡ last_text there)
    → IfSome (option_map (λ entries. entries ++ more) es) (λ there. now ≡ last_text there)
told_more None more last now step is = tt
told_more (Some there) more last now step is = step there is

pub committed_last : (es now_es : Option (List Entry)) (b now : Option Open) (old : Open) (t : LastTexts) → b ≡ Some old → now ≡ None → now_es ≡ option_map (λ entries. entries ++ entries_of old.entry) es → TellLast es b t → TellLast now_es now (with_all t)
committed_last es now_es b now old t b_is now_is es_is tells =
    let waits : t.waiting ≡ last_or None (texts_in old.entry) = rw b_is at tells.waiting in
    rw (now_is, es_is) (record {
      in_journal = told_more es (entries_of old.entry) t.in_journal (with_all t).in_journal (λ there is. all_written there old.entry t.in_journal t.waiting is waits) tells.in_journal;
      waiting = tt;
    })

pub same_last : (es now_es : Option (List Entry)) (b now : Option Open) (old new : Open) (t : LastTexts) → b ≡ Some old → now ≡ Some new → new.entry ≡ old.entry → now_es ≡ es → TellLast es b t → TellLast now_es now t
same_last es now_es b now old new t b_is now_is entry_is es_is tells =
    let waits : t.waiting ≡ last_or None (texts_in old.entry) = rw b_is at tells.waiting in
    rw (now_is, es_is) (record { in_journal = tells.in_journal; waiting = rw entry_is waits })

pub taken_last : (d : Dialect) (text : List ℕ) (meant : Result (Catalogue × ℕ) Reason) (h k : Held) (es : Option (List Entry)) (b : Option Open) (old new : Open) (result : Result ℕ StoreFault) (t u : LastTexts) → b ≡ Some old
    → MayTake d text meant h old result k new → u ≡ after_taken result text t → TellLast es b t → TellLast es (Some new) u
taken_last d text meant h k es b old new (Ok n) t u b_is (c, means, now, stays, added) u_is tells =
    rw u_is (record { in_journal = tells.in_journal; waiting = rw added.texts_are (sym (last_more None (texts_in old.entry) (text ∷ []))) })
taken_last d text meant h k es b old new (Err (Refused reason)) t u b_is (means, same, same_open) u_is tells = rw u_is (same_last es es b (Some new) old new t b_is refl (ap (λ (o : Open). o.entry) same_open) refl tells)
taken_last d text meant h k es b old new (Err OutOfMemory) t u b_is (same, same_open) u_is tells = rw u_is (same_last es es b (Some new) old new t b_is refl (ap (λ (o : Open). o.entry) same_open) refl tells)
taken_last d text meant h k es b old new (Err _) t u b_is never u_is tells = absurd never

entries_more : (x y : Log) (more : List Entry) → y ≡ gained more x → y.entries ≡ option_map (λ entries. entries ++ more) x.entries
entries_more x y more is = ap (λ (l : Log). l.entries) is

nested : (es : List Entry) (e : Option (List (List ℕ))) (text : List ℕ) → last_text (es ++ (entries_of e ++ Texts (text ∷ []) ∷ [])) ≡ Some text
nested es e text = ap last_text (sym (append_assoc es (entries_of e) (Texts (text ∷ []) ∷ []))) ∙ text_written (es ++ entries_of e) text

pub itself_last : (d : Dialect) (text : List ℕ) (meant : Result (Catalogue × ℕ) Reason) (h k : Held) (b : Option Open) (old new : Open) (lock now_lock : Lock) (x y : Log) (result : Result ℕ StoreFault) (t u : LastTexts)
    → lives result true ≡ true → b ≡ Some old → MayRunItself d text meant x (side h old lock) result y (side k new now_lock) → u ≡ after_itself result text t → TellLast x.entries b t → TellLast y.entries (Some new) u
itself_last d text meant h k b old new lock now_lock x y (Ok n) t u alive b_is (c, means, room, y_is, done) u_is tells =
    let more = entries_of old.entry ++ Texts (text ∷ []) ∷ [] in
    rw (u_is, entries_more x y more (rw means at y_is)) (record {
      in_journal = told_more x.entries more t.in_journal (Some text) (λ there is. sym (nested there old.entry text)) tells.in_journal;
      waiting = rw done.cleared.entry_is refl;
    })
itself_last d text meant h k b old new lock now_lock x y (Err (Refused reason)) t u alive b_is (means, room, y_is, done) u_is tells =
    let more = entries_of old.entry in
    let waits : t.waiting ≡ last_or None (texts_in old.entry) = rw b_is at tells.waiting in
    rw (u_is, entries_more x y more (rw means at y_is)) (record {
      in_journal = told_more x.entries more t.in_journal (with_all t).in_journal (λ there is. all_written there old.entry t.in_journal t.waiting is waits) tells.in_journal;
      waiting = rw done.cleared.entry_is refl;
    })
itself_last d text meant h k b old new lock now_lock x y (Err (Full used next)) t u alive b_is (full, used_is, next_is, y_is, back) u_is tells =
    rw u_is (same_last x.entries y.entries b (Some new) old new t b_is refl (ap (λ (o : Open). o.entry) (begun_same _ _ back)) (ap (λ (l : Log). l.entries) y_is) tells)
itself_last d text meant h k b old new lock now_lock x y (Err OutOfMemory) t u alive b_is (y_is, back) u_is tells =
    rw u_is (same_last x.entries y.entries b (Some new) old new t b_is refl (ap (λ (o : Open). o.entry) (begun_same _ _ back)) (ap (λ (l : Log). l.entries) y_is) tells)
itself_last d text meant h k b old new lock now_lock x y (Err Disk) t u alive b_is cut u_is tells = cc
itself_last d text meant h k b old new lock now_lock x y (Err _) t u alive b_is never u_is tells = absurd never

-- entries behind those of the journal, where no transaction is open
pub renewed_last : (es now_es : Option (List Entry)) (more : List (List (List ℕ))) (b : Option Open) (last : Option (List ℕ)) (t u : LastTexts) → b ≡ None → last ≡ last_text (of_texts more) → now_es ≡ option_map (λ entries. entries ++ of_texts more) es → u ≡ with_last last t
    → TellLast es b t → TellLast now_es b u
renewed_last es now_es more b last t u b_is last_is es_is u_is tells = rw (u_is, es_is, b_is) (record {
  in_journal = told_more es (of_texts more) t.in_journal (option_or last t.in_journal) (λ there is. rw (last_is, is) (sym (texts_both there more))) tells.in_journal;
  waiting = tt;
})

-- a state behind them, where no transaction is open
pub stated_last : (es now_es : Option (List Entry)) (bytes : List ℕ) (b : Option Open) (t : LastTexts) → b ≡ None → now_es ≡ option_map (λ entries. entries ++ Stated bytes ∷ []) es → TellLast es b t → TellLast now_es b (record t { in_journal = None })
stated_last es now_es bytes b t b_is es_is tells = rw (es_is, b_is) (record {
  in_journal = told_more es (Stated bytes ∷ []) t.in_journal None (λ there is. sym (after_more None there (Stated bytes ∷ []))) tells.in_journal;
  waiting = tt;
})

-- the entries before the last state do not count
last_anew : (es : List Placed) (last other : Option (List ℕ)) → has_state es ≡ true → last_after last (map unplaced es) ≡ last_after other (map unplaced es)
last_anew [] last other has = absurd (cc has)
last_anew (e ∷ es) last other has = by e.body refl (last_anew es) has
  where
    by : (b : Body) → e.body ≡ b → ((last other : Option (List ℕ)) → has_state es ≡ true → last_after last (map unplaced es) ≡ last_after other (map unplaced es)) → is_state b || has_state es ≡ true
        → last_after last (map unplaced (e ∷ es)) ≡ last_after other (map unplaced (e ∷ es))
    by (body.Texts texts) is more has =
        ap (λ (b : Body). last_after last (as_entry b ∷ map unplaced es)) is ∙ (more (last_or last texts) (last_or other texts) has ∙ sym (ap (λ (b : Body). last_after other (as_entry b ∷ map unplaced es)) is))
    by (body.State bytes) is more has =
        ap (λ (b : Body). last_after last (as_entry b ∷ map unplaced es)) is ∙ sym (ap (λ (b : Body). last_after other (as_entry b ∷ map unplaced es)) is)

last_from : (es : List Placed) → last_text (map unplaced (from_last_state es)) ≡ last_text (map unplaced es)
last_from [] = refl
last_from (e ∷ es) = by (has_state es) refl (last_from es)
  where
    by : (b : Bool) → has_state es ≡ b → last_text (map unplaced (from_last_state es)) ≡ last_text (map unplaced es) → last_text (map unplaced (cond b (from_last_state es) (e ∷ es))) ≡ last_text (map unplaced (e ∷ es))
    by true is more = more ∙ (last_anew es None (last_text (unplaced e ∷ [])) is ∙ sym (after_more None (unplaced e ∷ []) (map unplaced es)))
    by false is more = refl

-- a journal that was loaded
pub loaded_last : (d e : Dialect) (l m used : ℕ) (told now : Option (List ℕ)) (entries : List Placed) (t : LastTexts) → e ≡ d → m ≡ l → now ≡ told → IfSome told (λ bytes. IsRead d l bytes entries used)
    → t.in_journal ≡ last_text (map unplaced entries) → TellLast (entries_in e m now) None t
loaded_last d e l m used told now entries t e_is m_is now_is are is = rw (e_is, m_is, now_is) (record { in_journal = there told are; waiting = tt })
  where
    there : (told : Option (List ℕ)) → IfSome told (λ bytes. IsRead d l bytes entries used) → IfSome (entries_in d l told) (λ there. t.in_journal ≡ last_text there)
    there None are = tt
    there (Some bytes) are = rw are.journal_is (is ∙ (ap (λ es. last_text (map unplaced es)) are.entries_are ∙ last_from are.all))

-- the loop that looks for it

at_end : (whole es : List Placed) (e : Placed) (b : Body) → whole ≡ es ++ e ∷ [] → e.body ≡ b → last_text (map unplaced whole) ≡ last_after (last_text (map unplaced es)) (as_entry b ∷ [])
at_end whole es e b whole_is b_is =
    ap (λ l. last_text (map unplaced l)) whole_is
    ∙ (ap last_text (map-append unplaced es (e ∷ []))
    ∙ (after_more None (map unplaced es) (unplaced e ∷ [])
    ∙ ap (λ (b : Body). last_after (last_text (map unplaced es)) (as_entry b ∷ [])) b_is))

pub last_there : (whole es : List Placed) (e : Placed) (texts front : List (List ℕ)) (text : List ℕ) → whole ≡ es ++ e ∷ [] → e.body ≡ body.Texts texts → texts ≡ front ++ text ∷ [] → last_text (map unplaced whole) ≡ Some text
last_there whole es e texts front text whole_is b_is texts_is =
    at_end whole es e (body.Texts texts) whole_is b_is
    ∙ (ap (last_or (last_text (map unplaced es))) texts_is ∙ last_more (last_text (map unplaced es)) front (text ∷ []))

pub none_there : (whole es : List Placed) (e : Placed) (texts : List (List ℕ)) → whole ≡ es ++ e ∷ [] → e.body ≡ body.Texts texts → texts ≡ [] → last_text (map unplaced whole) ≡ last_text (map unplaced es)
none_there whole es e texts whole_is b_is texts_is = at_end whole es e (body.Texts texts) whole_is b_is ∙ ap (last_or (last_text (map unplaced es))) texts_is

pub state_there : (whole es : List Placed) (e : Placed) (bytes : List ℕ) → whole ≡ es ++ e ∷ [] → e.body ≡ body.State bytes → last_text (map unplaced whole) ≡ None
state_there whole es e bytes whole_is b_is = at_end whole es e (body.State bytes) whole_is b_is

-- whether texts stand behind the last state

abbrev IsSome : Entry → Type 0
IsSome (Texts []) = ⊥
IsSome (Texts (text ∷ texts)) = Unit {0}
IsSome (Stated bytes) = Unit {0}

abbrev AreSome : List Entry → Type 0
AreSome [] = Unit {0}
AreSome (e ∷ es) = IsSome e × AreSome es

some_last : (o : List ℕ) (texts : List (List ℕ)) → is_some (last_or (Some o) texts) ≡ true
some_last o [] = refl
some_last o (text ∷ texts) = some_last text texts

ends_so : (es : List Entry) (last : Option (List ℕ)) (end : Option Bool) → unwrap_or end false ≡ is_some last → AreSome es → unwrap_or (last_or end (map is_of_texts es)) false ≡ is_some (last_after last es)
ends_so [] last end same some = same
ends_so (Texts [] ∷ es) last end same some = absurd some.0
ends_so (Texts (text ∷ texts) ∷ es) last end same some = ends_so es (last_or (Some text) texts) (Some true) (sym (some_last text texts)) some.1
ends_so (Stated bytes ∷ es) last end same some = ends_so es None (Some false) refl some.1

some_body : (bytes : List ℕ) → IsSome (as_entry (unwrap_or (as_body bytes) (body.State [])))
unfolding as_body
some_body [] = tt
some_body (tag ∷ bytes) = by_tag (tag == 84) (tag == 83)
  where
    some_texts : (o : Option (List (List ℕ))) → IsSome (as_entry (unwrap_or (if_any o) (body.State [])))
    some_texts None = tt
    some_texts (Some []) = tt
    some_texts (Some (text ∷ texts)) = tt

    by_tag : (are_texts is_state : Bool) → IsSome (as_entry (unwrap_or (if are_texts then if_any (texts_from 0 bytes) else (if is_state then Some (body.State bytes) else None)) (body.State [])))
    by_tag true is_state = some_texts (texts_from 0 bytes)
    by_tag false true = tt
    by_tag false false = tt

some_placed : (at : ℕ) (raw : List (List ℕ)) → AreSome (map unplaced (placed at raw))
some_placed at [] = tt
some_placed at (entry ∷ raw) = (some_body (drop 4 entry), some_placed (at + (length entry + 1)) raw)

-- the last text tells it
pub ends_told : (d : Dialect) (l : ℕ) (told : Option (List ℕ)) (last : Option (List ℕ)) (b : Bool) → IfSome (entries_in d l told) (λ there. last ≡ last_text there) → b ≡ is_some last → IfSome (entries_in d l told) (λ there. ends_in_texts there ≡ b)
ends_told d l None last b tells is = tt
ends_told d l (Some bytes) last b tells is = by (frames_of d l bytes) tells
  where
    by : (r : Result (List (List ℕ)) ℕ) → IfSome (if_undamaged (read_frames r)) (λ there. last ≡ last_text there) → IfSome (if_undamaged (read_frames r)) (λ there. ends_in_texts there ≡ b)
    by (Ok raw) tells = ends_so (map unplaced (placed 17 raw)) None None refl (some_placed 17 raw) ∙ sym (is ∙ ap (λ (o : Option (List ℕ)). is_some o) tells)
    by (Err at) tells = tt
