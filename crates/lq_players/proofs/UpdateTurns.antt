-- What an update does on a database: its calls, and its answers before the first of them.
use Rattle.std.proofs.Common.{ap, refl, subst, sym, ◌∙◌}
use Rattle.std.proofs.lemmas.List.{append-nil}
use Rattle.std.specs.List.{list_any}
use Rattle.std.specs.Option.{option_map, option_or}
use Rattle.std.specs.Prelude.{Bool, Err, IfErr, IfOk, List, None, Ok, Option, Result, Some, [], false, if◌then◌else◌, is_some, not, suc, true, ℕ, ◌&&◌, ◌++◌, ◌||◌, ◌∷◌, ◌≡◌, ◌≤◌}
use Rattle.lq_base.specs.declared.dialect.Dialect.{Dialect}
use Rattle.lq_base.specs.declared.identity.Identity.{Identity}
use Rattle.lq_base.specs.declared.run.Printed.{Printed}
use Rattle.lq_base.specs.declared.run.Why.{Why}
use Rattle.lq_base.specs.declared.tracking.Tracked.{Tracked}
use Rattle.lq_players.specs.Reports.{of_account, own_warned, updated_in}
use Rattle.lq_players.specs.RollingBack.{Refuses}
use Rattle.lq_players.specs.Tasks.{answer_by, if_halts, if_some, invalid, own_halt, work_of}
use Rattle.lq_players.specs.Updating.{ArePlaced, HasPlanned, HasTurns, IsOwn, IsPlanFor, Plans, PlansOn, account_of, log_of, task_of, update_refusal, warning, with_warned}
use Rattle.lq_players.specs.declared.update_checks.Asked.{Asked}
use Rattle.lq_players.specs.declared.update_checks.Planned.TheVariants as planned
use Rattle.lq_players.specs.declared.update_checks.Planned.{Planned}
use Rattle.lq_any.specs.AnyChangeLaws.{does, restores, spelled}
use Rattle.lq_any.specs.declared.any_change.AnyChange.{AnyChange}
use Rattle.lq_model.specs.Catalogue.{Catalogue}
use Rattle.lq_model.specs.declared.statement.Statement.{Statement}
use Rattle.lq_plan.specs.Told.{item_at, work_from}
use Rattle.lq_plan.specs.declared.turns.Item.{Item}
use Rattle.lq_playing.specs.Answers.{came, only}
use Rattle.lq_playing.specs.declared.came.Report.{Report}
use Rattle.lq_playing.specs.declared.checks.Verdict.TheVariants as verdict
use Rattle.lq_playing.specs.declared.checks.Verdict.{Verdict}
use Rattle.lq_seen.specs.Telling.{Account, of_sets, shown}
use Rattle.lq_seen.specs.View.{any_meaning}
use Rattle.lq_sets.specs.SetTurns.{Knows, sets_left}
use Rattle.lq_sets.specs.declared.set_turns.SetTurns.{SetTurns}
use Rattle.lq_track.specs.Database.{Database}
use Rattle.lq_turns.specs.Deed.{Contents, contents_of}
use Rattle.lq_turns.specs.Faults.{faults}
use Rattle.lq_turns.specs.Schedule.{StandsFor}
use Rattle.lq_turns.specs.Printed.{printed, printed_of}
use Rattle.lq_turns.specs.Script.{has_work, sets_calls, update_calls, with_lock}
use Rattle.lq_turns.specs.Set.{Changelog, IsKept, Meaning, Set}
use Rattle.lq_turns.specs.Settle.{Settled, all_settled, and_then, by_own, choice_of, greatest, is_halt, nothing_done, own_choice, settled_by, unless_stopped, updated, what}
use Rattle.lq_turns.specs.declared.answer.Answer.TheVariants.{Done}
use Rattle.lq_turns.specs.declared.answer.Answer.{Answer}
use Rattle.lq_turns.specs.declared.call.Call.{Call}
use Rattle.lq_turns.specs.declared.choice.Choice.TheVariants as choice
use Rattle.lq_turns.specs.declared.choice.Choice.{Choice}
use Rattle.lq_turns.specs.declared.choice.What.{What}
use Rattle.lq_turns.specs.declared.fault.Fault.{Fault}
use Rattle.lq_turns.specs.declared.stamp.Stamp.{Stamp}

pub kept : IsKept any_meaning
kept = record { spelled = spelled; does = does; restores = restores }

true_not : true ≡ false → ⊥
true_not h = Prim.cc

-- changesets without a turn

module _ (rows : List Tracked) where
  abbrev has_turn : Set AnyChange → Bool
  has_turn x = is_some (what x rows)

  some_items : (item : Item) (items : List Item) → item ∷ items ≡ [] → ⊥
  some_items item items h = Prim.cc

  no_turn : (n : ℕ) (w : Option What) (more : List Item) → item_at n w ++ more ≡ [] → (is_some w ≡ false) × (more ≡ [])
  no_turn n None more is = (refl, is)
  no_turn n (Some w) more is = absurd (some_items _ more is)

  pub no_work : (n : ℕ) (xs : List (Set AnyChange)) → work_from n xs rows ≡ [] → has_work xs rows ≡ false
  no_work n [] is = refl
  no_work n (x ∷ xs) is =
      let none = no_turn n (what x rows) (work_from (suc n) xs rows) is in
      ap (λ b. b || list_any has_turn xs) none.0 ∙ no_work (suc n) xs none.1

  some_turn : (n : ℕ) (w : Option What) (more : List Item) → (item_at n w ++ more ≡ [] → ⊥) → is_some w ≡ false → more ≡ [] → ⊥
  some_turn n None more some none is = some is
  some_turn n (Some w) more some none is = absurd (true_not none)

  pub some_work : (n : ℕ) (xs : List (Set AnyChange)) → (work_from n xs rows ≡ [] → ⊥) → has_work xs rows ≡ true
  some_work n [] some = absurd (some refl)
  some_work n (x ∷ xs) some = by (is_some (what x rows)) refl (λ none. some_work (suc n) xs (some_turn n (what x rows) (work_from (suc n) xs rows) some none)) where
    by : (b : Bool) → is_some (what x rows) ≡ b → (is_some (what x rows) ≡ false → list_any has_turn xs ≡ true) → (is_some (what x rows) || list_any has_turn xs) ≡ true
    by true is later = ap (λ b. b || list_any has_turn xs) is
    by false is later = ap (λ b. b || list_any has_turn xs) is ∙ later is

-- settle nothing
module _ (d : Dialect) (m : Meaning AnyChange) (reading : ℕ) where
  none_settled : (xs : List (Set AnyChange)) (c : Contents) → has_work xs c.rows ≡ false → all_settled d m reading xs c ≡ nothing_done c
  none_settled [] c none = refl
  none_settled (x ∷ xs) c none = by (what x c.rows) refl (none_settled xs c) where
    by : (o : Option What) → what x c.rows ≡ o → (has_work xs c.rows ≡ false → all_settled d m reading xs c ≡ nothing_done c) → all_settled d m reading (x ∷ xs) c ≡ nothing_done c
    by None is more =
        ap (λ (o : Option What). unless_stopped (settled_by d m reading x c (choice_of x c o)) (all_settled d m reading xs)) is
        ∙ ap (and_then (nothing_done c)) (more (sym (ap (λ (o : Option What). is_some o || has_work xs c.rows) is) ∙ none))
    by (Some w) is more = absurd (true_not (sym (ap (λ (o : Option What). is_some o || has_work xs c.rows) is) ∙ none))

  -- nor is anything printed of them
  abbrev printed_by : Set AnyChange → List (Set AnyChange) → Contents → Option What → List (Identity × List Statement)
  printed_by x xs c o =
      printed_of d m reading x (settled_by d m reading x c (choice_of x c o))
      ++ elim (settled_by d m reading x c (choice_of x c o)).stop as (λ _. List (Identity × List Statement)) [ None ↦ printed d m reading xs (settled_by d m reading x c (choice_of x c o)).contents | Some stop ↦ [] ]

  none_printed : (xs : List (Set AnyChange)) (c : Contents) → has_work xs c.rows ≡ false → printed d m reading xs c ≡ []
  none_printed [] c none = refl
  none_printed (x ∷ xs) c none = by (what x c.rows) refl (none_printed xs c) where
    by : (o : Option What) → what x c.rows ≡ o → (has_work xs c.rows ≡ false → printed d m reading xs c ≡ []) → printed d m reading (x ∷ xs) c ≡ []
    by None is more = ap (printed_by x xs c) is ∙ more (sym (ap (λ (o : Option What). is_some o || has_work xs c.rows) is) ∙ none)
    by (Some w) is more = absurd (true_not (sym (ap (λ (o : Option What). is_some o || has_work xs c.rows) is) ∙ none))

pub none_shown : (prints : Bool) (d : Dialect) → shown prints d [] ≡ []
none_shown true d = refl
none_shown false d = refl

-- by the changelog's own precondition, where that does not halt
pub own_settled : (by : Choice) (c : Contents) (s : Settled) → is_halt by ≡ false → by_own by c s ≡ record s { warned = own_warned by ++ s.warned }
own_settled (choice.Halts why) c s goes = absurd (true_not goes)
own_settled (choice.Runs w (Some why)) c s goes = refl
own_settled (choice.Runs w None) c s goes = refl
own_settled choice.Passes c s goes = refl
own_settled choice.Fills c s goes = refl
own_settled choice.Skips c s goes = refl
own_settled (choice.Marks w) c s goes = refl

no_halt : (by : Choice) → is_halt by ≡ false → if_halts by ≡ None
no_halt (choice.Halts why) goes = absurd (true_not goes)
no_halt (choice.Runs w why) goes = refl
no_halt choice.Passes goes = refl
no_halt choice.Fills goes = refl
no_halt choice.Skips goes = refl
no_halt (choice.Marks w) goes = refl

some_none : {A : Type 0} {a : A} → (let o : Option A = Some a in o) ≡ None → ⊥
some_none h = Prim.cc

pub faultless : (found : List Fault) → if_some found ≡ None → found ≡ []
faultless [] none = refl
faultless (fault ∷ found) none = absurd (some_none none)

-- what an update does on a database, where its own precondition comes to this
module _ (d : Dialect) (a : Asked) (database : Database) (own : Choice) (is_own : IsOwn a database own) (stamp : Stamp) where
  abbrev g : Changelog AnyChange
  g = log_of a

  abbrev c : Contents
  c = contents_of database

  abbrev in_turns : List Call
  in_turns = with_lock stamp database (sets_calls d any_meaning stamp g.sets c)

  goes : is_halt (own_choice g c) ≡ false
  goes = ap is_halt (sym is_own.0) ∙ is_own.1

  pub no_calls : has_work g.sets database.rows ≡ false → update_calls d any_meaning stamp g database ≡ []
  no_calls none = ap (λ b. if b && not (is_halt (own_choice g c)) then in_turns else []) none

  pub calls_are : has_work g.sets database.rows ≡ true → update_calls d any_meaning stamp g database ≡ in_turns
  calls_are some =
      ap (λ b. if b && not (is_halt (own_choice g c)) then in_turns else []) some ∙ ap (λ b. if not b then in_turns else []) goes

  pub passes_all : faults g.sets database.rows ≡ [] → (work_of a.prints d (task_of a stamp)).refuses database ≡ None
  passes_all none = ap (λ (fs : List Fault). option_map only (option_or (if_some fs) (own_halt g database))) none ∙ ap (option_map only) (no_halt (own_choice g c) goes)

  abbrev its : Account
  its = account_of a.prints (own_warned own) d stamp.reading g.sets c

  abbrev settled : Settled
  settled = all_settled d any_meaning stamp.reading g.sets c

  updated_is : updated d any_meaning stamp.reading g c ≡ its.settled
  updated_is = ap (λ (by : Choice). by_own by c settled) (sym is_own.0) ∙ own_settled own c settled is_own.1

  account_is : updated_in a.prints d (task_of a stamp) database ≡ its
  account_is =
      ap (λ (s : Settled). let it : Account = record { settled = s; printed = if is_halt (own_choice g c) then [] else its.printed } in it) updated_is
      ∙ ap (λ (b : Bool). let it : Account = record { settled = its.settled; printed = if b then [] else its.printed } in it) goes

  -- so it comes to that
  pub comes_to : came (of_account its) (answer_by its.settled.stop) ≡ (work_of a.prints d (task_of a stamp)).answer database
  comes_to = ap (λ (told : Account). came (of_account told) (answer_by told.settled.stop)) (sym account_is)

  -- one that has nothing to do is done, and may warn
  module _ (none : has_work g.sets database.rows ≡ false) where
    abbrev with_settled : Settled → Account
    with_settled s = record { settled = record s { warned = own_warned own ++ s.warned }; printed = shown a.prints d (printed d any_meaning stamp.reading g.sets c) }

    abbrev with_printed : List (Identity × List Statement) → Account
    with_printed all = record { settled = record (nothing_done c) { warned = own_warned own ++ [] }; printed = shown a.prints d all }

    abbrev with_texts : List Printed → Account
    with_texts texts = record { settled = record (nothing_done c) { warned = own_warned own ++ [] }; printed = texts }

    abbrev with_warnings : List (Option Identity × Why) → Account
    with_warnings warned = record { settled = record (nothing_done c) { warned = warned }; printed = [] }

    idle_is : its ≡ with_warnings (own_warned own)
    idle_is =
        ap with_settled (none_settled d any_meaning stamp.reading g.sets c none) ∙ ap with_printed (none_printed d any_meaning stamp.reading g.sets c none) ∙ ap with_texts (none_shown a.prints d) ∙ ap with_warnings (append-nil (own_warned own))

    pub idle_comes : (work_of a.prints d (task_of a stamp)).answer database ≡ came (warning (own_warned own)) Done
    idle_comes = sym comes_to ∙ ap (λ (told : Account). came (of_account told) (answer_by told.settled.stop)) idle_is

-- what its checks come to

pub refused_first : (a : Asked) (rows : List Tracked) (database : Database) (v : Verdict) → database.rows ≡ rows → Refuses (invalid (log_of a) rows) v → Refuses (update_refusal a database) v
refused_first a rows database (verdict.Answer x) same is = ap (λ (rs : List Tracked). option_or (invalid (log_of a) rs) (own_halt (log_of a) database)) same ∙ ap (λ (o : Option Answer). option_or o (own_halt (log_of a) database)) is
refused_first a rows database verdict.Lack same is = tt
refused_first a rows database (verdict.OneCall call) same is = is
refused_first a rows database (verdict.Turns hand) same is = is

refused_by_own : (a : Asked) (rows : List Tracked) (database : Database) (v : Verdict) → database.rows ≡ rows → invalid (log_of a) rows ≡ None → Refuses (own_halt (log_of a) database) v → Refuses (update_refusal a database) v
refused_by_own a rows database (verdict.Answer x) same valid is = ap (λ (o : Option Answer). option_or o (own_halt (log_of a) database)) (ap (invalid (log_of a)) same ∙ valid) ∙ is
refused_by_own a rows database verdict.Lack same valid is = tt
refused_by_own a rows database (verdict.OneCall call) same valid is = is
refused_by_own a rows database (verdict.Turns hand) same valid is = is

pub refused_then : {A : Type 0} (r : Result A Verdict) (a : Asked) (rows : List Tracked) (database : Database) → database.rows ≡ rows → invalid (log_of a) rows ≡ None → IfErr r (Refuses (own_halt (log_of a) database)) → IfErr r (Refuses (update_refusal a database))
refused_then (Ok it) a rows database same valid is = tt
refused_then (Err v) a rows database same valid is = refused_by_own a rows database v same valid is

pub ok_always : {A E : Type 0} (r : Result A E) (P : Type 0) → P → IfOk r (λ (it : A). P)
ok_always (Ok it) P p = p
ok_always (Err e) P p = tt

-- it plans on what is seen
module _ (d : Dialect) (a : Asked) (seen : Catalogue) (rows : List Tracked) (own : Choice) where
  pub plans_here : (r : Result Planned Verdict) → faults (log_of a).sets rows ≡ [] → ((database : Database) → StandsFor d seen database → (database.rows ≡ rows) × IsOwn a database own) → IfOk r (PlansOn a rows own) → IfErr r (λ (v : Verdict). v ≡ verdict.Lack) → Plans d a seen r
  plans_here (Ok p) none on plans lack = record { rows = rows; own = own; faultless = none; plans = plans; on = on }
  plans_here (Err v) none on plans lack = λ database stands. subst (Refuses (update_refusal a database)) (sym lack) tt

-- the turns of its changelog on these rows warn first

told_same : (d : Dialect) (m : Meaning AnyChange) (reading : ℕ) (xs ys : List (Set AnyChange)) (c : Contents) → xs ≡ ys → (all_settled d m reading xs c).warned ≡ (all_settled d m reading ys c).warned
told_same d m reading xs ys c same = ap (λ (zs : List (Set AnyChange)). (all_settled d m reading zs c).warned) same

pub warned_turns : (a : Asked) (rows : List Tracked) (own : Choice) (source : SetTurns) → sets_left source ≡ (log_of a).sets
    → ((e : Dialect) (stamp : Stamp) (c : Contents) → c.rows ≡ rows → greatest rows ≤ 2147483647 → Knows source e stamp (of_sets a.prints e stamp.reading (log_of a).sets c) c) → HasTurns a rows own (with_warned (own_warned own) source)
warned_turns a rows own source left knows = record {
  left = left;
  knows = λ e stamp c same small. let it = knows e stamp c same small in record {
    planned = it.planned;
    leads = record {
      happened = it.leads.happened;
      warned = ap (λ (w : List (Option Identity × Why)). own_warned own ++ w) (told_same e any_meaning stamp.reading (sets_left source) (log_of a).sets c left);
      so_far = it.leads.so_far;
      counted = it.leads.counted;
      not_fresh = it.leads.not_fresh;
      stop = it.leads.stop;
      unhalted = it.leads.unhalted;
      unstopped = it.leads.unstopped;
    };
    prints = it.prints;
  };
}

pub plans_turns : (a : Asked) (rows : List Tracked) (own : Choice) (r : Result Planned Verdict) → faults (log_of a).sets rows ≡ [] → has_work (log_of a).sets rows ≡ true → ArePlaced rows → IfOk r (HasPlanned a rows own) → IfOk r (PlansOn a rows own)
plans_turns a rows own (Ok (planned.Turns source)) none some placed has = (record { faultless = none; some = some; placed = placed }, has)
plans_turns a rows own (Ok (planned.Idle report)) none some placed has = absurd has
plans_turns a rows own (Err v) none some placed has = tt

pub plans_idle : (a : Asked) (rows : List Tracked) (own : Choice) (r : Result Planned Verdict) → has_work (log_of a).sets rows ≡ false → IfOk r (λ (p : Planned). p ≡ planned.Idle (warning (own_warned own))) → IfOk r (PlansOn a rows own)
plans_idle a rows own (Ok p) none is = subst (PlansOn a rows own) (sym is) (none, refl)
plans_idle a rows own (Err v) none is = tt

pub idle_read : (d : Dialect) (report : Report) (r : Result Planned Verdict) → IfOk r (λ (p : Planned). p ≡ planned.Idle report) → IfOk r (IsPlanFor d)
idle_read d report (Ok p) is = subst (IsPlanFor d) (sym is) tt
idle_read d report (Err v) is = tt
