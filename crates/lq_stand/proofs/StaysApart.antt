-- A user's statement leaves the users' objects apart from the tracking tables.
use Rattle.std.proofs.Common.{ap, subst}
use Rattle.std.specs.List.{list_any}
use Rattle.std.specs.Prelude.{Ok, false, not, refl, true, ℕ, ◌≡◌}
use Rattle.lq_base.specs.declared.dialect.Dialect.{Dialect}
use Rattle.lq_base.specs.declared.dialect.Dialect.TheVariants.{Mysql, Postgresql}
use Rattle.lq_model.proofs.Decide.{accepted}
use Rattle.lq_model.proofs.Lists.{and_left, and_right, and_true, or_left, or_right}
use Rattle.lq_model.specs.Catalogue.{Catalogue}
use Rattle.lq_model.specs.NameSpaces.{is_taken}
use Rattle.lq_model.specs.Sound.{IsSound}
use Rattle.lq_model.specs.Step.{is_statement, plan, step}
use Rattle.lq_model.specs.declared.caller.By.TheVariants.{User}
use Rattle.lq_model.specs.declared.statement.Statement.{Statement}
use Rattle.lq_track.specs.Lock.{lock_key_name, lock_table}
use Rattle.lq_track.specs.Log.{log_table}
use Rattle.lq_turns.specs.Schedule.{own_names}
use Rattle.lq_beside.proofs.TablesRead.{not_is}
use Rattle.lq_beside.proofs.TakesNone.{takes_none}
use Rattle.lq_store.specs.Journal.{names_tracking, takes_key}
use Rattle.lq_stand.specs.Stays.{StatementsStayApart}
use Rattle.lq_stand.proofs.Apart.{names_free}
use Rattle.lq_stand.proofs.Unnamed.{IsUnnamed, named_none, result_unnamed, unnamed_of}

key_of : (now : Catalogue) → list_any (λ m. is_taken Postgresql m now) (own_names Postgresql) ≡ false → takes_key Postgresql now ≡ false
unfolding lock_key_name
key_of now free = or_left (takes_key Postgresql now) _ (or_right (is_taken Postgresql lock_table now) _ (or_right (is_taken Postgresql log_table now) _ free))

-- where a catalogue stands for a database no object of its users has the name of the lock's key
pub key_free : (d : Dialect) (now : Catalogue) → list_any (λ m. is_taken d m now) (own_names d) ≡ false → takes_key d now ≡ false
key_free Postgresql now free = key_of now free
key_free Mysql now free = refl

-- nor has one the name of a tracking table after any statement of a user's
pub names_stay : (d : Dialect) (s : Statement) (users now : Catalogue) (n : ℕ) → names_tracking users ≡ false → step User d s users ≡ Ok (now, n) → names_tracking now ≡ false
names_stay d s users now n none made =
    let went = accepted (plan User d s users) now n made in
    named_none now (subst IsUnnamed went.result (result_unnamed d s users (unnamed_of users none) went.reserved))

key_stays : (d : Dialect) (s : Statement) (users now : Catalogue) (n : ℕ) → is_statement d s ≡ true → IsSound d users → names_tracking users ≡ false → takes_key d users ≡ false
    → step User d s users ≡ Ok (now, n) → takes_key d now ≡ false
key_stays Postgresql s users now n fit sound none free made = key_of now (takes_none Postgresql s users now n fit sound (names_free users none Postgresql free) made)
key_stays Mysql s users now n fit sound none free made = refl

pub statements_stay_apart : StatementsStayApart
statements_stay_apart d s users now n fit sound apart made =
    let none = not_is (names_tracking users) (and_left (not (names_tracking users)) _ apart) in
    let free = not_is (takes_key d users) (and_right (not (names_tracking users)) _ apart) in
    and_true _ _ (ap not (names_stay d s users now n none made)) (ap not (key_stays d s users now n fit sound none free made))
