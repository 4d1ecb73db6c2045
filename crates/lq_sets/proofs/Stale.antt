-- What is counted of a turn that finishes: the changes that are not fresh at their place.
use Rattle.std.proofs.Common.{ap, arith, sym, subst, refl, ◌≡◌, ◌∙◌, ◌+◌, ◌-◌, ◌++◌, ◌∷◌, Bool, true, false, List, [], None, Ok, Err, Option, Result, Some, if◌then◌else◌, length, reverse, suc, zero, ℕ}
use Rattle.std.specs.List.{list_all, slice_get}
use Rattle.lq_base.specs.declared.dialect.Dialect.{Dialect}
use Rattle.lq_base.specs.declared.dialect.Dialect.TheVariants.{Mysql, Postgresql}
use Rattle.lq_base.specs.declared.reason.Reason.{Reason}
use Rattle.lq_beside.proofs.Stands.{users_are}
use Rattle.lq_beside.proofs.Tests.{table_same}
use Rattle.lq_beside.proofs.Words.{free_name}
use Rattle.lq_beside.specs.Beside.{users}
use Rattle.lq_hand.specs.Way.{seen_along}
use Rattle.lq_any.specs.AnyChange.{effect, gives, is_for, is_fresh}
use Rattle.lq_any.specs.AnyChangeLaws.{does, spelled}
use Rattle.lq_any.specs.declared.any_change.AnyChange.{AnyChange}
use Rattle.lq_any.specs.declared.any_change.AnyChange.TheVariants.{AddDefaultValue, AddNotNullConstraint, AddPrimaryKey, CreateView, DropNotNullConstraint}
use Rattle.lq_kinds.specs.declared.change_set.ChangeSet.{ChangeSet}
use Rattle.lq_model.proofs.Decide.{accepted}
use Rattle.lq_model.proofs.Effects.{ran_both, ran_first, run_keeps}
use Rattle.lq_model.proofs.Lists.{and_left, and_right, or_left}
use Rattle.lq_model.specs.Catalogue.{Catalogue}
use Rattle.lq_model.specs.NameSpaces.{is_tracking}
use Rattle.lq_model.specs.Sound.{IsSound}
use Rattle.lq_model.specs.Step.{plan, run, step}
use Rattle.lq_model.specs.declared.caller.By.TheVariants.{User}
use Rattle.lq_model.specs.declared.statement.Statement.{Statement}
use Rattle.lq_model.specs.declared.statement.Statement.TheVariants as statement
use Rattle.lq_seen.proofs.Leading.{bounded_on, none_plus, plus_none}
use Rattle.lq_seen.specs.Telling.{bounded}
use Rattle.lq_seen.specs.View.{any_meaning}
use Rattle.lq_sets.specs.Counting.{AreAlike, HasLooked, after_first, begins_at, begins_from, begins_none, changes_before, changes_in, first_of, stale_at, stale_in, stale_one}
use Rattle.lq_sets.specs.declared.in_hand.InHand.{InHand}
use Rattle.lq_track.specs.Database.{Database}
use Rattle.lq_turns.proofs.Effects.{ok_same}
use Rattle.lq_turns.specs.Deed.{Contents}
use Rattle.lq_turns.specs.Set.{not_fresh, statements_of}
use Rattle.lq_turns.specs.Schedule.{StandsFor}
use Rattle.lq_turns.specs.Turn.{Course, Ending, Finished, Refused, Stuck, Through, course, ending, is_marked, kept, led_by, refused, row_ending}
use Rattle.lq_turns.specs.declared.stop.Refusal.{Refusal}
use Rattle.lq_turns.specs.declared.turn.Turn.{Turn}

abbrev Places : Type 0
Places = List (Option ℕ)

-- the changes before a place
pub before_is : (sets : List ChangeSet) (next place : ℕ) (x : ChangeSet) → place ≡ next - 1 → slice_get sets place ≡ Some x → changes_before sets next ≡ x.changes
before_is sets next place x is there = ap changes_in (ap (slice_get sets) (sym is) ∙ there)

pub none_before : (sets : List ChangeSet) (next place : ℕ) → place ≡ next - 1 → slice_get sets place ≡ None → changes_before sets next ≡ []
none_before sets next place is missing = ap changes_in (ap (slice_get sets) (sym is) ∙ missing)

-- a change that gives no statement is fresh
silent_fresh : (d : Dialect) (x : AnyChange) (c : Catalogue) → gives d x ≡ [] → is_fresh d x c ≡ true
silent_fresh d (AddNotNullConstraint x) c none = by x.default_null_value none where
  by : (o : Option (List ℕ)) → gives d (AddNotNullConstraint (record x { default_null_value = o })) ≡ [] → is_fresh d (AddNotNullConstraint x) c ≡ true
  by None is = Prim.cc
  by (Some value) is = Prim.cc
silent_fresh d (DropNotNullConstraint x) c none = Prim.cc
silent_fresh d (AddDefaultValue x) c none = Prim.cc
silent_fresh d (AddPrimaryKey x) c none = Prim.cc
silent_fresh d (CreateView x) c none = Prim.cc
silent_fresh d x c none = refl

-- a statement that is accepted names no tracking table, where a change may ask whether it is fresh there

abbrev IsFree : Statement → Type 0
IsFree (statement.SetNotNull t n) = is_tracking t ≡ false
IsFree (statement.DropNotNull t n) = is_tracking t ≡ false
IsFree (statement.Modify t n k nullable) = is_tracking t ≡ false
IsFree (statement.SetDefault t n l) = is_tracking t ≡ false
IsFree (statement.AddPrimaryKey t k) = is_tracking t ≡ false
IsFree _ = Unit {0}

free_so : (d : Dialect) (s : Statement) (c e : Catalogue) (n : ℕ) → step User d s c ≡ Ok (e, n) → IsFree s
free_so d (statement.SetNotNull t m) c e n is = or_left (is_tracking t) _ (accepted (plan User d (statement.SetNotNull t m) c) e n is).reserved
free_so d (statement.DropNotNull t m) c e n is = or_left (is_tracking t) _ (accepted (plan User d (statement.DropNotNull t m) c) e n is).reserved
free_so d (statement.Modify t m k nullable) c e n is = or_left (is_tracking t) _ (accepted (plan User d (statement.Modify t m k nullable) c) e n is).reserved
free_so d (statement.SetDefault t m l) c e n is = or_left (is_tracking t) _ (accepted (plan User d (statement.SetDefault t m l) c) e n is).reserved
free_so d (statement.AddPrimaryKey t k) c e n is = or_left (is_tracking t) _ (accepted (plan User d (statement.AddPrimaryKey t k) c) e n is).reserved
free_so d s c e n is = tt

abbrev AreFree : List Statement → Type 0
AreFree [] = Unit {0}
AreFree (s ∷ ss) = IsFree s × AreFree ss

all_free : (d : Dialect) (ss : List Statement) (c e : Catalogue) → run User d ss c ≡ Ok e → AreFree ss
all_free d [] c e ran = tt
all_free d (s ∷ ss) c e ran = let r = ran_first d s ss c e ran in (free_so d s c r.mid r.count r.first, all_free d ss r.mid e r.others)

abbrev IsElsewhere : AnyChange → Type 0
IsElsewhere (AddNotNullConstraint x) = is_tracking x.table_name ≡ false
IsElsewhere (DropNotNullConstraint x) = is_tracking x.table_name ≡ false
IsElsewhere (AddDefaultValue x) = is_tracking x.table_name ≡ false
IsElsewhere (AddPrimaryKey x) = is_tracking x.table_name ≡ false
IsElsewhere _ = Unit {0}

elsewhere : (d : Dialect) (x : AnyChange) → AreFree (gives d x) → IsElsewhere x
elsewhere Postgresql (AddNotNullConstraint x) free = by x.default_null_value free where
  by : (o : Option (List ℕ)) → AreFree (gives Postgresql (AddNotNullConstraint (record x { default_null_value = o }))) → is_tracking x.table_name ≡ false
  by None are = are.0
  by (Some value) are = are.1.0
elsewhere Mysql (AddNotNullConstraint x) free = by x.default_null_value free where
  by : (o : Option (List ℕ)) → AreFree (gives Mysql (AddNotNullConstraint (record x { default_null_value = o }))) → is_tracking x.table_name ≡ false
  by None are = are.0
  by (Some value) are = are.1.0
elsewhere Postgresql (DropNotNullConstraint x) free = free.0
elsewhere Mysql (DropNotNullConstraint x) free = free.0
elsewhere d (AddDefaultValue x) free = free.0
elsewhere d (AddPrimaryKey x) free = free.0
elsewhere d x free = tt

-- so it is as fresh on what is seen as on the users' objects in that

module _ (d : Dialect) (c : Catalogue) where
  users_alike : (x : AnyChange) → IsElsewhere x → is_fresh d x c ≡ is_fresh d x (users c)
  users_alike (AddNotNullConstraint x) free = rw (table_same c x.table_name (free_name x.table_name free)) refl
  users_alike (DropNotNullConstraint x) free = rw (table_same c x.table_name (free_name x.table_name free)) refl
  users_alike (AddDefaultValue x) free = rw (table_same c x.table_name (free_name x.table_name free)) refl
  users_alike (AddPrimaryKey x) free = rw (table_same c x.table_name (free_name x.table_name free)) refl
  users_alike x free = refl

  one_alike : (database : Database) → StandsFor d c database → (x : AnyChange) → IsElsewhere x → is_fresh d x c ≡ is_fresh d x database.users
  one_alike database stands x free = users_alike x free ∙ sym (ap (λ (u : Catalogue). is_fresh d x u) (users_are d c database stands))

abbrev AreElsewhere : List AnyChange → Type 0
AreElsewhere [] = Unit {0}
AreElsewhere (x ∷ xs) = IsElsewhere x × AreElsewhere xs

module _ (d : Dialect) where
  all_elsewhere : (xs : List AnyChange) (c e : Catalogue) → run User d (statements_of d any_meaning xs) c ≡ Ok e → AreElsewhere xs
  all_elsewhere [] c e ran = tt
  all_elsewhere (x ∷ xs) c e ran =
      let both = ran_both d (gives d x) (statements_of d any_meaning xs) c e ran in
      (elsewhere d x (all_free d (gives d x) c both.between both.front), all_elsewhere xs both.between e both.back)

  place_alike : (xs : List AnyChange) → AreElsewhere xs → (n : ℕ) (c : Catalogue) (database : Database) → StandsFor d c database → stale_one d (slice_get xs n) c ≡ stale_one d (slice_get xs n) database.users
  place_alike [] free n c database stands = refl
  place_alike (x ∷ xs) free zero c database stands = ap (λ (b : Bool). if b then 0 else 1) (one_alike d c database stands x free.0)
  place_alike (x ∷ xs) free (suc n) c database stands = place_alike xs free.1 n c database stands

  at_alike : (xs : List AnyChange) → AreElsewhere xs → (b : Option ℕ) (c : Catalogue) (database : Database) → StandsFor d c database → stale_at d xs b c ≡ stale_at d xs b database.users
  at_alike xs free None c database stands = refl
  at_alike xs free (Some n) c database stands = place_alike xs free n c database stands

  are_alike : (xs : List AnyChange) → AreElsewhere xs → (bs : Places) → AreAlike d xs bs
  are_alike xs free [] = tt
  are_alike xs free (b ∷ bs) = (at_alike xs free b, are_alike xs free bs)

  -- where all their statements are accepted
  pub all_alike : (xs : List AnyChange) (c e : Catalogue) → run User d (statements_of d any_meaning xs) c ≡ Ok e → (bs : Places) → AreAlike d xs bs
  all_alike xs c e ran bs = are_alike xs (all_elsewhere xs c e ran) bs

  pub first_alike : (xs : List AnyChange) (bs : Places) → AreAlike d xs bs → (c : Catalogue) (database : Database) → StandsFor d c database → stale_at d xs (first_of bs) c ≡ stale_at d xs (first_of bs) database.users
  first_alike xs [] are c database stands = refl
  first_alike xs (b ∷ bs) are c database stands = are.0 c database stands

  rest_alike : (xs : List AnyChange) (bs : Places) → AreAlike d xs bs → AreAlike d xs (after_first bs)
  rest_alike xs [] are = tt
  rest_alike xs (b ∷ bs) are = are.1

-- one look

module _ (d : Dialect) (xs : List AnyChange) (seen : Catalogue) (before after : InHand) where
  -- the next place goes from the stack, and the change that begins there is counted where it is not fresh
  pub has_looked : reverse after.beginnings ≡ after_first (reverse before.beginnings) → after.not_fresh ≡ bounded (before.not_fresh + stale_at d xs (first_of (reverse before.beginnings)) seen) → HasLooked d xs seen before after
  has_looked rest count = record {
    counts = λ sees.
        let bs = reverse before.beginnings in
        let more = stale_in d xs (after_first bs) sees in
        ap (λ (zs : Places). bounded (after.not_fresh + stale_in d xs zs sees)) rest
        ∙ (ap (λ (n : ℕ). bounded (n + more)) count
        ∙ bounded_on before.not_fresh (stale_at d xs (first_of bs) seen) more);
    alike = λ are. subst (AreAlike d xs) (sym rest) (rest_alike d xs (reverse before.beginnings) are);
  }

none_stale : (d : Dialect) (b : Option ℕ) (c : Catalogue) → stale_at d [] b c ≡ 0
none_stale d None c = refl
none_stale d (Some n) c = refl

all_stale : (d : Dialect) (bs : Places) (sees : List Catalogue) → stale_in d [] bs sees ≡ 0
all_stale d bs [] = refl
all_stale d bs (c ∷ sees) = ap (λ (n : ℕ). n + stale_in d [] (after_first bs) sees) (none_stale d (first_of bs) c) ∙ (none_plus (stale_in d [] (after_first bs) sees) ∙ all_stale d (after_first bs) sees)

-- among no changes nothing is counted
pub has_not_looked : (d : Dialect) (xs : List AnyChange) (seen : Catalogue) (turn : InHand) → xs ≡ [] → HasLooked d xs seen turn turn
has_not_looked d xs seen turn none = subst (λ (ys : List AnyChange). HasLooked d ys seen turn turn) (sym none) (record {
  counts = λ sees. ap (λ (n : ℕ). bounded (turn.not_fresh + n)) (all_stale d (reverse turn.beginnings) sees ∙ sym (all_stale d (reverse turn.beginnings) (seen ∷ sees)));
  alike = λ are. are;
})

-- a turn of which all statements are accepted

-- what the statements see after one
abbrev seen_next : Dialect → List Statement → Result (Catalogue × ℕ) Reason → List Catalogue
seen_next d ss (Ok r) = seen_along d ss r.0
seen_next d ss (Err reason) = []

-- without a place nothing is counted
pub no_places : (d : Dialect) (xs : List AnyChange) (sees : List Catalogue) → stale_in d xs [] sees ≡ 0
no_places d xs [] = refl
no_places d xs (c ∷ sees) = none_plus (stale_in d xs [] sees) ∙ no_places d xs sees

next_place : (n k : ℕ) → suc n + k ≡ n + suc k
next_place n k = omega arith

module _ (d : Dialect) (all : List AnyChange) where
  others_counted : (ss ts : List Statement) (bs : Places) (c e : Catalogue) → run User d ss c ≡ Ok e → stale_in d all (begins_none (length ss) ++ bs) (seen_along d (ss ++ ts) c) ≡ stale_in d all bs (seen_along d ts e)
  others_counted [] ts bs c e ran = ap (λ (z : Catalogue). stale_in d all bs (seen_along d ts z)) (ok_same ran)
  others_counted (s ∷ ss) ts bs c e ran =
      let r = ran_first d s ss c e ran in
      ap (λ (q : Result (Catalogue × ℕ) Reason). 0 + stale_in d all (begins_none (length ss) ++ bs) (seen_next d (ss ++ ts) q)) r.first
      ∙ (none_plus (stale_in d all (begins_none (length ss) ++ bs) (seen_along d (ss ++ ts) r.mid)) ∙ others_counted ss ts bs r.mid e r.others)

  one_counted : (n : ℕ) (x : AnyChange) (ts : List Statement) (bs : Places) (c e : Catalogue) → slice_get all n ≡ Some x → run User d (gives d x) c ≡ Ok e
      → stale_in d all (begins_at n (length (gives d x)) ++ bs) (seen_along d (gives d x ++ ts) c) ≡ stale_one d (Some x) c + stale_in d all bs (seen_along d ts e)
  one_counted n x ts bs c e there = by (gives d x) refl where
    by : (ss : List Statement) → gives d x ≡ ss → run User d ss c ≡ Ok e → stale_in d all (begins_at n (length ss) ++ bs) (seen_along d (ss ++ ts) c) ≡ stale_one d (Some x) c + stale_in d all bs (seen_along d ts e)
    by [] none ran =
        let fresh : stale_one d (Some x) c ≡ 0 = ap (λ (b : Bool). if b then 0 else 1) (silent_fresh d x c none) in
        ap (λ (z : Catalogue). stale_in d all bs (seen_along d ts z)) (ok_same ran)
        ∙ (sym (none_plus (stale_in d all bs (seen_along d ts e))) ∙ ap (λ (k : ℕ). k + stale_in d all bs (seen_along d ts e)) (sym fresh))
    by (s ∷ ss) some ran =
        let r = ran_first d s ss c e ran in
        ap (λ (o : Option AnyChange). stale_one d o c + stale_in d all (begins_none (length ss) ++ bs) (seen_next d (ss ++ ts) (step User d s c))) there
        ∙ ap (λ (k : ℕ). stale_one d (Some x) c + k) (ap (λ (q : Result (Catalogue × ℕ) Reason). stale_in d all (begins_none (length ss) ++ bs) (seen_next d (ss ++ ts) q)) r.first ∙ others_counted ss ts bs r.mid e r.others)

  abbrev not_fresh_next : List AnyChange → Result Catalogue Reason → ℕ
  not_fresh_next xs (Ok e) = not_fresh d any_meaning xs e
  not_fresh_next xs (Err reason) = 0

  -- changes, of which the first stands at n
  pub all_counted : (xs : List AnyChange) (n : ℕ) (c e : Catalogue) → ((k : ℕ) → slice_get all (n + k) ≡ slice_get xs k) → list_all (is_for d) xs ≡ true → IsSound d c → run User d (statements_of d any_meaning xs) c ≡ Ok e
      → stale_in d all (begins_from d n xs) (seen_along d (statements_of d any_meaning xs) c) ≡ not_fresh d any_meaning xs c
  all_counted [] n c e those read sound ran = refl
  all_counted (x ∷ xs) n c e those read sound ran =
      let both = ran_both d (gives d x) (statements_of d any_meaning xs) c e ran in
      let own = and_left (is_for d x) _ read in
      let gave : effect d x c ≡ Ok both.between = sym (does d x c own sound) ∙ both.front in
      let there : slice_get all n ≡ Some x = ap (slice_get all) (plus_none n) ∙ those 0 in
      let behind : (k : ℕ) → slice_get all (suc n + k) ≡ slice_get xs k = λ k. ap (slice_get all) (next_place n k) ∙ those (suc k) in
      one_counted n x (statements_of d any_meaning xs) (begins_from d (suc n) xs) c both.between there both.front
      ∙ (ap (λ (m : ℕ). stale_one d (Some x) c + m)
      (all_counted xs (suc n) both.between e behind (and_right (is_for d x) _ read) (run_keeps d (gives d x) c both.between (spelled d x own) sound both.front) both.back)
      ∙ ap (λ (q : Result Catalogue Reason). stale_one d (Some x) c + not_fresh_next xs q) (sym gave))

-- a turn that finishes

abbrev course_next : Dialect → Statement → List Statement → Result (Catalogue × ℕ) Reason → Course
course_next d s ss (Ok r) = led_by s (course d ss r.0)
course_next d s ss (Err reason) = Stuck [] s reason

abbrev run_next : Dialect → List Statement → Result (Catalogue × ℕ) Reason → Result Catalogue Reason
run_next d ss (Ok r) = run User d ss r.0
run_next d ss (Err reason) = Err reason

not_through : {before : List Statement} {s : Statement} {reason : Reason} {c : Catalogue} → (let q : Course = Stuck before s reason in q) ≡ Through c → ⊥
not_through e = Prim.cc

same_through : {c e : Catalogue} → (let q : Course = Through c in q) ≡ Through e → c ≡ e
same_through e = Prim.cc

led_through : (s : Statement) (q : Course) (c : Catalogue) → led_by s q ≡ Through c → q ≡ Through c
led_through s (Through e) c is = is
led_through s (Stuck before other reason) c is = absurd (not_through is)

through_ran : (d : Dialect) (ss : List Statement) (c e : Catalogue) → course d ss c ≡ Through e → run User d ss c ≡ Ok e
through_ran d [] c e is = ap (λ (z : Catalogue). let r : Result Catalogue Reason = Ok z in r) (same_through is)
through_ran d (s ∷ ss) c e is = (elim (step User d s c) as (λ q. course_next d s ss q ≡ Through e → run_next d ss q ≡ Ok e) [
  | Ok r ↦ λ go. through_ran d ss r.0 e (led_through s (course d ss r.0) e go)
  | Err reason ↦ λ go. absurd (not_through go)
]) is

not_finished : {c e : Contents} {refusal : Refusal} → (let z : Ending = Refused c refusal in z) ≡ Finished e → ⊥
not_finished h = Prim.cc

pub finished_ran : (d : Dialect) (turn : Turn) (c e : Contents) → ending d turn c ≡ Finished e → (u : Catalogue) × (run User d turn.statements c.users ≡ Ok u)
finished_ran d turn c e is = by (course d turn.statements c.users) refl is where
  by : (q : Course) → course d turn.statements c.users ≡ q → elim q as (λ _. Ending) [ Through users ↦ row_ending d turn users c | Stuck before s reason ↦ refused d before (kept d turn before (is_marked d turn s)) reason c ] ≡ Finished e
      → (u : Catalogue) × (run User d turn.statements c.users ≡ Ok u)
  by (Through users) through h = (users, through_ran d turn.statements c.users users through)
  by (Stuck before s reason) stuck h = absurd (not_finished h)
