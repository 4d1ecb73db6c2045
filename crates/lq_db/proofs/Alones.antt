-- Texts run in a transaction of their own.
use Rattle.std.proofs.Common.{◌≡◌, ◌∙◌, ◌<◌, ◌+◌, ◌-◌, ℕ, Bool, true, false, List, [], ◌∷◌, ◌++◌, length, drop, ◌≤◌, suc, zero, Ok, Err, Result, Option, None, Some, IfSome, refl, sym, ap, subst, arith}
use Rattle.std.proofs.lemmas.List.{append_assoc}
use Rattle.lq_base.specs.declared.dialect.Dialect.{Dialect}
use Rattle.lq_base.specs.declared.reason.Reason.{Reason}
use Rattle.lq_db.specs.Alone.{IsClosed, IsDone, IsRunning, RanOne, TakesUp, cut, rewound, work}
use Rattle.lq_db.specs.Db.{Stays, last_text}
use Rattle.lq_entries.specs.Log.{entries_of}
use Rattle.lq_session.specs.Session.{texts_in}
use Rattle.lq_db.specs.declared.running.Running.{Running}
use Rattle.lq_db.proofs.Commits.{if_any_is, run_more, run_one}
use Rattle.lq_db.proofs.Executed.{run_last}
use Rattle.lq_loading.proofs.Raises.{ran_text}
use Rattle.lq_db.proofs.Lasts.{added_last, closed_last, written_last}
use Rattle.lq_db.proofs.RanItself.{run_two}
use Rattle.lq_model.proofs.KeepsSound.{statement_keeps}
use Rattle.lq_model.specs.Catalogue.{Catalogue}
use Rattle.lq_model.specs.Step.{commits_itself, is_statement, step}
use Rattle.lq_model.specs.Sound.{IsSound}
use Rattle.lq_model.specs.SqlText.{statement_in}
use Rattle.lq_model.specs.declared.caller.By.{By}
use Rattle.lq_model.specs.declared.caller.ByText.{ByText}
use Rattle.lq_model.specs.declared.statement.Statement.{Statement}
use Rattle.lq_store.specs.Executor.{Held, Runs, back, holding, kept}
use Rattle.lq_store.specs.Journal.{Entry, of_texts, run_entries, run_texts}
use Rattle.lq_store.specs.Journal.Entry.{Texts}
use Rattle.lq_store.specs.Work.{Outcome, Work, committed, goes_on, outcome, outcome_all, work_in}
use Rattle.lq_store.specs.Work.End.{Ran, Stopped, NoStatement}

-- going back

back_kept : (h : Held) → kept (back h) ≡ kept h
back_kept h = by h.past refl
  where
    by : (past : List Catalogue) → h.past ≡ past → kept (back h) ≡ kept h
    by [] is = rw is refl
    by (c ∷ past) is = rw is refl

back_dialect : (h : Held) → (back h).dialect ≡ h.dialect
back_dialect h = by h.past refl
  where
    by : (past : List Catalogue) → h.past ≡ past → (back h).dialect ≡ h.dialect
    by [] is = rw is refl
    by (c ∷ past) is = rw is refl

pub rewound_stays : (n : ℕ) (h : Held) → Stays h (rewound n h)
rewound_stays zero h = record { dialect_is = refl; kept_is = refl }
rewound_stays (suc n) h = let more = rewound_stays n (back h) in record { dialect_is = more.dialect_is ∙ back_dialect h; kept_is = more.kept_is ∙ back_kept h }

-- a run more goes back to where it was
rewound_more : (n m : ℕ) (h k : Held) (c : Catalogue) → k ≡ holding h.dialect c (h.now ∷ h.past) → m ≡ n + 1 → rewound m k ≡ rewound n h
rewound_more n m h k c is more = let next : m ≡ suc n = omega (arith, more) in rw (next, is) refl

runs_stays : (h k : Held) (c : Catalogue) → k ≡ holding h.dialect c (h.now ∷ h.past) → Stays h k
runs_stays h k c is = record { dialect_is = ap (λ (k : Held). k.dialect) is; kept_is = ap kept is }

-- a text that ran

module _ (d : Dialect) (by : By) (text : List ℕ) (s : Statement) (h k : Held) (old new : Running) (n : ℕ) (running : IsRunning d h old) (spelled : statement_in d text ≡ Some s) (is : is_statement d s ≡ true) (meant : step by d s h.now ≡ Ok (k.now, n)) (ran : k ≡ holding h.dialect k.now (h.now ∷ h.past)) where
  stays : Stays h k
  stays = runs_stays h k k.now ran

  ran_itself : commits_itself d s ≡ true → TakesUp true text old new → (m : ℕ) × (outcome d by text (work h old) ≡ record { end = Ran m; work = work k new }) × Stays h k × IsRunning d k new
  ran_itself itself (entries_are, (entry_is, (runs_are, texts_are))) =
      let sound = statement_keeps d s by h.now k.now n is running.sound_now meant in (
        n,
        rw (spelled, itself, meant, entries_are, entry_is, runs_are, if_any_is old.entry running.some) refl,
        stays,
        record {
          dialect_is = stays.dialect_is ∙ running.dialect_is;
          sound_now = sound;
          sound_cut = rw runs_are sound;
          ran = rw (entries_are, append_assoc (of_texts old.entries) (entries_of old.entry) (Texts (text ∷ []) ∷ []), stays.kept_is, runs_are)
              (run_more d (of_texts old.entries) (entries_of old.entry ++ Texts (text ∷ []) ∷ []) (Some (kept h)) ∙ (ap (run_entries d (entries_of old.entry ++ Texts (text ∷ []) ∷ [])) running.ran ∙ run_two d old.entry text (cut h old) h.now k.now running.runs (ran_text d by text s h.now k.now n spelled meant)));
          runs = rw (entry_is, runs_are) refl;
          last_is = written_last (of_texts old.entries ++ entries_of old.entry) (of_texts new.entries) new.entry text new.texts entries_are entry_is texts_are;
          some = rw entry_is tt;
        },
      )

  ran_within : commits_itself d s ≡ false → TakesUp false text old new → (m : ℕ) × (outcome d by text (work h old) ≡ record { end = Ran m; work = work k new }) × Stays h k × IsRunning d k new
  ran_within itself (entries_are, (texts_are, (some, (runs_are, lasts_are)))) =
      let sound = statement_keeps d s by h.now k.now n is running.sound_now meant in
      let cut_is : cut k new ≡ cut h old = ap (λ (h : Held). h.now) (rewound_more old.runs new.runs h k k.now ran runs_are) in (
        n,
        rw (spelled, itself, meant, entries_are, texts_are, cut_is) refl,
        stays,
        record {
          dialect_is = stays.dialect_is ∙ running.dialect_is;
          sound_now = sound;
          sound_cut = subst (IsSound d) (sym cut_is) running.sound_cut;
          ran = rw (entries_are, stays.kept_is, cut_is) running.ran;
          last_is = added_last (of_texts old.entries) (of_texts new.entries) (texts_in old.entry) (texts_in new.entry) text old.texts new.texts running.last_is (ap of_texts entries_are) texts_are lasts_are;
          runs = rw (texts_are, cut_is) (run_last d (texts_in old.entry) text (cut h old) h.now k.now running.runs (ran_text d by text s h.now k.now n spelled meant));
          some = some;
        },
      )

  pub ran_either : (itself : Bool) → commits_itself d s ≡ itself → TakesUp itself text old new → (m : ℕ) × (outcome d by text (work h old) ≡ record { end = Ran m; work = work k new }) × Stays h k × IsRunning d k new
  ran_either true itself takes = ran_itself itself takes
  ran_either false itself takes = ran_within itself takes

pub ran_one : (p d : Dialect) (by : By) (text seen taken : List ℕ) (s : Statement) (h k : Held) (old new : Running) (n : ℕ) (itself : Bool) → p ≡ d → seen ≡ text → taken ≡ text → IsRunning d h old → statement_in p seen ≡ Some s → is_statement p s ≡ true
    → itself ≡ commits_itself d s → Runs (step by h.dialect s h.now) h k (Ok n) → TakesUp itself taken old new
    → (m : ℕ) × (outcome d by text (work h old) ≡ record { end = Ran m; work = work k new }) × Stays h k × IsRunning d k new
ran_one p d by text seen taken s h k old new n itself p_is seen_is taken_is running spelled is itself_is (meant, ran) takes =
    ran_either d by text s h k old new n running (rw (p_is, seen_is) at spelled) (rw p_is at is) (subst (λ (e : Dialect). step by e s h.now ≡ Ok (k.now, n)) running.dialect_is meant) ran itself (sym itself_is)
    (subst (λ (t : List ℕ). TakesUp itself t old new) taken_is takes)

rewound_step_in : (n : ℕ) (h k r : Held) → k ≡ back h → rewound (suc n) h ≡ r → rewound n k ≡ r
rewound_step_in n h k r is went = rw is went

-- a step back less
pub rewound_step : (n : ℕ) (h k r : Held) → 0 < n → k ≡ back h → rewound n h ≡ r → rewound (n - 1) k ≡ r
rewound_step zero h k r some is went = absurd (omega (arith, some))
rewound_step (suc n) h k r some is went = let less : suc n - 1 ≡ n = omega arith in rw less (rewound_step_in n h k r is went)

-- the texts so far are a complete entry, and nothing more runs
pub closes : (d : Dialect) (h : Held) (old new : Running) → IsRunning d h old → IsClosed old new → IsDone d (Ran 0) (record { end = Ran 0; work = committed (work h old) }) h h (of_texts new.entries)
closes d h old new running closed = record {
  end_is = refl;
  written_is = rw (closed.entries_are, if_any_is old.entry running.some) refl;
  committed_is = refl;
  ran = rw closed.entries_are (run_more d (of_texts old.entries) (entries_of old.entry) (Some (kept h)) ∙ (ap (run_entries d (entries_of old.entry)) running.ran ∙ run_one d old.entry (cut h old) h.now running.runs));
  sound = running.sound_now;
  stays = record { dialect_is = refl; kept_is = refl };
}

-- and of them the last text is known
pub closes_last : (d : Dialect) (h : Held) (old new : Running) → IsRunning d h old → IsClosed old new → new.texts.in_journal ≡ last_text (of_texts new.entries)
closes_last d h old new running closed = (closed_last (of_texts old.entries) (of_texts new.entries) old.entry new.entry old.texts new.texts running.last_is closed.entries_are closed.entry_is closed.texts_are).in_journal

-- a text that is refused

module _ (d : Dialect) (by : By) (text : List ℕ) (s : Statement) (h k : Held) (old new : Running) (reason : Reason) (running : IsRunning d h old) (spelled : statement_in d text ≡ Some s) (meant : step by d s h.now ≡ Err reason) where
  pub refused_itself : commits_itself d s ≡ true → k ≡ h → IsClosed old new → IsDone d (Stopped reason) (outcome d by text (work h old)) h k (of_texts new.entries)
  refused_itself itself same closed =
      let done = closes d h old new running closed in
      rw (same, spelled, itself, meant) (record { end_is = refl; written_is = done.written_is; committed_is = refl; ran = done.ran; sound = done.sound; stays = done.stays })

  pub refused_within : commits_itself d s ≡ false → (j : Held) → j ≡ h → k ≡ rewound old.runs j → IsDone d (Stopped reason) (outcome d by text (work h old)) h k (of_texts old.entries)
  refused_within itself j same went =
      let stays = rewound_stays old.runs h in
      rw (went, same, spelled, itself, meant) (record {
        end_is = refl;
        written_is = refl;
        committed_is = refl;
        ran = rw stays.kept_is running.ran;
        sound = running.sound_cut;
        stays = stays;
      })

pub stopped_itself : (p d : Dialect) (by : By) (text seen : List ℕ) (s : Statement) (h k : Held) (old new : Running) (reason : Reason) (itself : Bool) → p ≡ d → seen ≡ text → IsRunning d h old → statement_in p seen ≡ Some s → itself ≡ commits_itself d s → itself ≡ true
    → (step by h.dialect s h.now ≡ Err reason) × (k ≡ h) → IsClosed old new → IsDone d (Stopped reason) (outcome d by text (work h old)) h k (of_texts new.entries)
stopped_itself p d by text seen s h k old new reason itself p_is seen_is running spelled itself_is true_is (meant, same) closed =
    refused_itself d by text s h k old new reason running (rw (p_is, seen_is) at spelled) (subst (λ (e : Dialect). step by e s h.now ≡ Err reason) running.dialect_is meant) (sym itself_is ∙ true_is) same closed

pub stopped_within : (p d : Dialect) (by : By) (text seen : List ℕ) (s : Statement) (h j k : Held) (old : Running) (reason : Reason) (itself : Bool) → p ≡ d → seen ≡ text → IsRunning d h old → statement_in p seen ≡ Some s → itself ≡ commits_itself d s → itself ≡ false
    → (step by h.dialect s h.now ≡ Err reason) × (j ≡ h) → k ≡ rewound old.runs j → IsDone d (Stopped reason) (outcome d by text (work h old)) h k (of_texts old.entries)
stopped_within p d by text seen s h j k old reason itself p_is seen_is running spelled itself_is false_is (meant, same) went =
    refused_within d by text s h k old old reason running (rw (p_is, seen_is) at spelled) (subst (λ (e : Dialect). step by e s h.now ≡ Err reason) running.dialect_is meant) (sym itself_is ∙ false_is) j same went

-- the whole of the texts

stays_on : (x y z : Held) → Stays x y → Stays y z → Stays x z
stays_on x y z a b = record { dialect_is = b.dialect_is ∙ a.dialect_is; kept_is = b.kept_is ∙ a.kept_is }

drop_all : {A : Type 0} (xs : List A) (i : ℕ) → length xs ≤ i → drop i xs ≡ []
drop_all [] zero most = refl
drop_all [] (suc i) most = refl
drop_all (x ∷ xs) zero most = absurd (omega (arith, most))
drop_all (x ∷ xs) (suc i) most = drop_all xs i (omega (arith, most))

pub all_through : (d : Dialect) (texts : List ByText) (i : ℕ) (w : Work) (o : Outcome) → length texts ≤ i → outcome_all d (drop i texts) w ≡ o → outcome_all d [] w ≡ o
all_through d texts i w o most is = sym (ap (λ (ts : List ByText). outcome_all d ts w) (drop_all texts i most)) ∙ is

pub all_done : (d : Dialect) (o : Outcome) (start h : Held) (old new : Running) → IsRunning d h old → IsClosed old new → outcome_all d [] (work h old) ≡ o → Stays start h → IsDone d (Ran 0) o start h (of_texts new.entries)
all_done d o start h old new running closed is stays =
    let done = closes d h old new running closed in
    subst (λ (o : Outcome). IsDone d (Ran 0) o start h (of_texts new.entries)) is
    (record { end_is = refl; written_is = done.written_is; committed_is = refl; ran = done.ran; sound = done.sound; stays = stays })

ended_is : (o : Outcome) (reason : Reason) (rest : Work → Outcome) → o.end ≡ Stopped reason → goes_on o.end o.work rest ≡ o
ended_is o reason rest is = ap (λ e. goes_on e o.work rest) is ∙ ap (λ e. record { end = e; work = o.work }) (sym is)

pub all_stopped : (d : Dialect) (t : ByText) (ts : List ByText) (w : Work) (o : Outcome) (start h k : Held) (entries : List Entry) (reason : Reason) → IsDone d (Stopped reason) (outcome d t.by t.text w) h k entries → outcome_all d (t ∷ ts) w ≡ o → Stays start h
    → IsDone d (Stopped reason) o start k entries
all_stopped d t ts w o start h k entries reason done is stays =
    subst (λ (o : Outcome). IsDone d (Stopped reason) o start k entries) (sym (ended_is (outcome d t.by t.text w) reason (outcome_all d ts) done.end_is) ∙ is)
    (record { end_is = done.end_is; written_is = done.written_is; committed_is = done.committed_is; ran = done.ran; sound = done.sound; stays = stays_on start h k stays done.stays })

pub all_not_sql : (d : Dialect) (t : ByText) (ts : List ByText) (w : Work) (o : Outcome) → (outcome d t.by t.text w).end ≡ NoStatement → outcome_all d (t ∷ ts) w ≡ o → o.end ≡ NoStatement
all_not_sql d t ts w o end_is is = sym (ap (λ (o : Outcome). o.end) is) ∙ ap (λ e. (goes_on e (outcome d t.by t.text w).work (outcome_all d ts)).end) end_is
