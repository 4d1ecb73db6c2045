-- After some turns of a steady update it is still steady, and leaves what it would have left.
use Rattle.std.proofs.Common.{ap, sym, ◌∙◌}
use Rattle.std.proofs.lemmas.List.{append_assoc}
use Rattle.std.specs.List.{list_all, list_any}
use Rattle.std.specs.Prelude.{Bool, List, None, Option, Some, [], false, refl, true, ◌++◌, ◌&&◌, ◌||◌, ◌∷◌, ◌≡◌}
use Rattle.lq_base.specs.declared.dialect.Dialect.{Dialect}
use Rattle.lq_base.specs.declared.run.Happened.{Happened}
use Rattle.lq_base.specs.declared.tracking.Tracked.{Tracked}
use Rattle.lq_model.proofs.Lists.{and_left, and_right, any-append, or_false, or_left, or_right}
use Rattle.lq_model.specs.Sound.{IsSound}
use Rattle.lq_turns.specs.Stops.{are_twins, has_own_sum, is_twin, all_at, is_skip, runs_once, runs_whole}
use Rattle.lq_turns.specs.Deed.{Contents}
use Rattle.lq_turns.specs.Laws.{AreRead}
use Rattle.lq_turns.specs.Set.{IsKept, Meaning, Set}
use Rattle.lq_turns.specs.Settle.{all_settled, followed, settle, what}
use Rattle.lq_turns.specs.declared.choice.What.{What}
use Rattle.lq_turns.specs.declared.stamp.Stamp.{Stamp}
use Rattle.lq_turns.specs.declared.stop.Stop.{Stop}
use Rattle.lq_turns.proofs.GoesOn.{AllDone, Same, all_done, both_true, goes_on, passed_happened, skips, still, twins_front, what_stays}

module _ {Key : Type 0} (d : Dialect) (m : Meaning Key) (keeps : IsKept m) (stamp : Stamp) where
  some_none : {A : Type 0} (halt : Stop) → (let o : Option Stop = Some halt in o) ≡ None → A
  some_none halt is = Prim.cc

  -- several turns leave what is sound
  pub all_sound : (xs : List (Set Key)) (c : Contents) → AreRead d m xs → IsSound d c.users → IsSound d (all_settled d m stamp.reading xs c).contents.users
  all_sound [] c read sound = sound
  all_sound (x ∷ xs) c read sound =
      let first = and_left _ (list_all (λ (y : Set Key). list_all (m.is_for d) y.changes) xs) read in
      let one = still d m keeps stamp x c first sound in
      let more = all_sound xs (settle d m stamp.reading x c).contents (and_right (list_all (m.is_for d) x.changes) _ read) one in
      elim (settle d m stamp.reading x c).stop as (λ o. IsSound d (followed o (settle d m stamp.reading x c) (all_settled d m stamp.reading xs)).contents.users) [ None ↦ more | Some stop ↦ one ]

  -- what happened in the first turns, and in the others
  pub happened_both : (xs ys : List (Set Key)) (c : Contents) → (all_settled d m stamp.reading xs c).stop ≡ None
      → (all_settled d m stamp.reading (xs ++ ys) c).happened ≡ (all_settled d m stamp.reading xs c).happened ++ (all_settled d m stamp.reading ys (all_settled d m stamp.reading xs c).contents).happened
  happened_both [] ys c stop = refl
  happened_both (x ∷ xs) ys c stop =
      (elim (settle d m stamp.reading x c).stop as (λ o. (settle d m stamp.reading x c).stop ≡ o → (followed o (settle d m stamp.reading x c) (all_settled d m stamp.reading xs)).stop ≡ None
      → (followed o (settle d m stamp.reading x c) (all_settled d m stamp.reading (xs ++ ys))).happened ≡ (followed o (settle d m stamp.reading x c) (all_settled d m stamp.reading xs)).happened ++ (all_settled d m stamp.reading ys (followed o (settle d m stamp.reading x c) (all_settled d m stamp.reading xs)).contents).happened) [
        | None ↦ λ at on.
            ap (λ hs. (settle d m stamp.reading x c).happened ++ hs) (happened_both xs ys (settle d m stamp.reading x c).contents on)
            ∙ sym (append_assoc (settle d m stamp.reading x c).happened (all_settled d m stamp.reading xs (settle d m stamp.reading x c).contents).happened _)
        | Some halt ↦ λ at on. some_none halt (sym at ∙ on)
      ]) refl stop

  -- a test that passes what has no turn
  done_pass : (test : Set Key → Option What → Bool) → ((x : Set Key) → test x None ≡ true) → (xs : List (Set Key)) (rows : List Tracked) → AllDone d m keeps stamp xs rows → all_at test xs rows ≡ true
  done_pass test none [] rows are = refl
  done_pass test none (x ∷ xs) rows are = both_true (ap (test x) are.0 ∙ none x) (done_pass test none xs rows are.1)

  pub at_both : (test : Set Key → Option What → Bool) (xs ys : List (Set Key)) (rows : List Tracked) → all_at test (xs ++ ys) rows ≡ (all_at test xs rows && all_at test ys rows)
  at_both test [] ys rows = refl
  at_both test (x ∷ xs) ys rows = elim (test x (what x rows)) as (λ b. (b && all_at test (xs ++ ys) rows) ≡ ((b && all_at test xs rows) && all_at test ys rows)) [ true ↦ at_both test xs ys rows | false ↦ refl ]

  -- each of the later ones is apart from the first
  apart_from : (xs ys : List (Set Key)) (y : Set Key) → are_twins (xs ++ y ∷ ys) ≡ false → list_any (λ x. is_twin x y) xs ≡ false
  apart_from [] ys y q = refl
  apart_from (x ∷ xs) ys y q =
      let one = sym (any-append (is_twin x) xs (y ∷ ys)) ∙ or_left (list_any (is_twin x) (xs ++ y ∷ ys)) _ q in
      both_none (is_twin x y) (list_any (λ z. is_twin z y) xs) (or_left (is_twin x y) _ (or_right (list_any (is_twin x) xs) _ one)) (apart_from xs ys y (or_right (list_any (is_twin x) (xs ++ y ∷ ys)) _ q)) where
        both_none : (a b : Bool) → a ≡ false → b ≡ false → (a || b) ≡ false
        both_none true b p q = p
        both_none false b p q = q

  any_without : (p : Set Key → Bool) (xs : List (Set Key)) (y : Set Key) (ys : List (Set Key)) → list_any p (xs ++ y ∷ ys) ≡ false → list_any p (xs ++ ys) ≡ false
  any_without p [] y ys q = or_right (p y) _ q
  any_without p (x ∷ xs) y ys q = or_false _ _ (or_left (p x) _ q) (any_without p xs y ys (or_right (p x) _ q))

  without : (xs : List (Set Key)) (y : Set Key) (ys : List (Set Key)) → are_twins (xs ++ y ∷ ys) ≡ false → are_twins (xs ++ ys) ≡ false
  without [] y ys q = or_right (list_any (is_twin y) ys) _ q
  without (x ∷ xs) y ys q = or_false _ _ (any_without (is_twin x) xs y ys (or_left (list_any (is_twin x) (xs ++ y ∷ ys)) _ q)) (without xs y ys (or_right (list_any (is_twin x) (xs ++ y ∷ ys)) _ q))

  -- so what becomes of them stays
  later_stay : (test : Set Key → Option What → Bool) (xs ys : List (Set Key)) (c : Contents) → AreRead d m xs → IsSound d c.users → are_twins (xs ++ ys) ≡ false
      → all_at test ys (all_settled d m stamp.reading xs c).contents.rows ≡ all_at test ys c.rows
  later_stay test xs [] c read sound apart = refl
  later_stay test xs (y ∷ ys) c read sound apart =
      ap (λ w. test y w && all_at test ys (all_settled d m stamp.reading xs c).contents.rows) (what_stays d m keeps stamp y xs c read sound (apart_from xs ys y apart))
      ∙ ap (λ b. test y (what y c.rows) && b) (later_stay test xs ys c read sound (without xs y ys apart))

  -- what an update needs of contents, to be run again on what a stop between two turns leaves
  pub record IsCalm (xs : List (Set Key)) (c : Contents) : Type 0 where
    pub sound : IsSound d c.users
    pub none_skipped : skips (all_settled d m stamp.reading xs c) ≡ false
    pub once : all_at runs_once xs c.rows ≡ true
    pub whole : all_at runs_whole xs c.rows ≡ true

  -- and it goes on so
  pub stays_calm : (xs ys : List (Set Key)) (c : Contents) → AreRead d m (xs ++ ys) → list_all has_own_sum (xs ++ ys) ≡ true → are_twins (xs ++ ys) ≡ false → (all_settled d m stamp.reading xs c).stop ≡ None
      → IsCalm (xs ++ ys) c → IsCalm (xs ++ ys) (all_settled d m stamp.reading xs c).contents × Same d m keeps stamp (all_settled d m stamp.reading (xs ++ ys) (all_settled d m stamp.reading xs c).contents) (all_settled d m stamp.reading (xs ++ ys) c)
  stays_calm xs ys c read own apart stop calm =
      let read_first = all_front (λ (x : Set Key). list_all (m.is_for d) x.changes) xs ys read in
      let own_first = all_front has_own_sum xs ys own in
      let both = sym (any-append (λ h. is_skip h.what) (all_settled d m stamp.reading xs c).happened (all_settled d m stamp.reading ys (all_settled d m stamp.reading xs c).contents).happened) ∙ ap (λ hs. list_any (λ (h : Happened). is_skip h.what) hs) (sym (happened_both xs ys c stop)) ∙ calm.none_skipped in
      let skip = or_left (skips (all_settled d m stamp.reading xs c)) _ both in
      let once = and_left _ (all_at runs_once ys c.rows) (sym (at_both runs_once xs ys c.rows) ∙ calm.once) in
      let done = all_done d m keeps stamp xs c read_first calm.sound own_first (twins_front d m keeps stamp xs ys apart) once stop skip in (
        record {
          sound = all_sound xs c read_first calm.sound;
          none_skipped = ap (λ hs. list_any (λ (h : Happened). is_skip h.what) hs) (passed_happened d m keeps stamp xs ys (all_settled d m stamp.reading xs c).contents done) ∙ or_right (skips (all_settled d m stamp.reading xs c)) _ both;
          once = still_at runs_once (λ x. refl) xs ys c read_first calm.sound apart done calm.once;
          whole = still_at runs_whole (λ x. refl) xs ys c read_first calm.sound apart done calm.whole;
        },
        goes_on m keeps d stamp xs ys c calm.sound read_first own_first apart once stop skip,
      ) where
        all_front : (test : Set Key → Bool) (xs ys : List (Set Key)) → list_all test (xs ++ ys) ≡ true → list_all test xs ≡ true
        all_front test [] ys all = refl
        all_front test (x ∷ xs) ys all = both_true (and_left _ (list_all test (xs ++ ys)) all) (all_front test xs ys (and_right (test x) _ all))

        still_at : (test : Set Key → Option What → Bool) → ((x : Set Key) → test x None ≡ true) → (xs ys : List (Set Key)) (c : Contents) → AreRead d m xs → IsSound d c.users → are_twins (xs ++ ys) ≡ false
            → AllDone d m keeps stamp xs (all_settled d m stamp.reading xs c).contents.rows → all_at test (xs ++ ys) c.rows ≡ true → all_at test (xs ++ ys) (all_settled d m stamp.reading xs c).contents.rows ≡ true
        still_at test none xs ys c read sound apart done all =
            at_both test xs ys (all_settled d m stamp.reading xs c).contents.rows
            ∙ both_true (done_pass test none xs (all_settled d m stamp.reading xs c).contents.rows done)
            (later_stay test xs ys c read sound apart ∙ and_right (all_at test xs c.rows) _ (sym (at_both test xs ys c.rows) ∙ all))
