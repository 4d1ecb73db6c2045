-- What leaves the lock as it is.
use Rattle.std.proofs.Common.{Bool, List, None, Ok, Option, Some, IfSome, [], ap, false, refl, subst, sym, true, ℕ, ◌∙◌, ◌≡◌, ◌∷◌}
use Rattle.std.specs.List.{list_any}
use Rattle.std.specs.Prelude.{is_some}
use Rattle.lq_base.specs.Name.{is_named}
use Rattle.lq_base.specs.declared.dialect.Dialect.{Dialect}
use Rattle.lq_base.specs.declared.literal.Literal.{Literal}
use Rattle.lq_base.specs.declared.name.Name.{Name}
use Rattle.lq_base.specs.declared.tracking.Lock.{Lock}
use Rattle.lq_model.specs.Catalogue.{Catalogue, the_table}
use Rattle.lq_model.specs.NameSpaces.{is_tracking}
use Rattle.lq_model.specs.Plan.{against, decide}
use Rattle.lq_model.specs.Rows.{insert, stated, with_row}
use Rattle.lq_model.specs.Step.{step}
use Rattle.lq_model.specs.declared.caller.By.{By}
use Rattle.lq_model.specs.declared.caller.By.TheVariants.{Program, User}
use Rattle.lq_model.specs.declared.statement.Statement.{Statement}
use Rattle.lq_model.specs.declared.statement.Statement.TheVariants.{Insert}
use Rattle.lq_model.proofs.Decide.{none_from_unless}
use Rattle.lq_model.proofs.Kept.{lookup_other}
use Rattle.lq_model.proofs.Lists.{same_name}
use Rattle.lq_session.specs.Session.{lock_in}
use Rattle.lq_track.specs.Database.{lock_from, lock_of}
use Rattle.lq_track.specs.Lock.{lock_table}
use Rattle.lq_db.specs.Db.{IsLockOf, leaves_lock}

tracked : is_tracking lock_table ≡ true
unfolding lock_table
tracked = refl

not_lock : (t : Name) → list_any is_tracking (t ∷ []) ≡ false → is_named t lock_table ≡ false
not_lock t none =
    elim (is_named t lock_table) as (λ (b : Bool). is_named t lock_table ≡ b → b ≡ false) [
      | true ↦ λ is. (let found : list_any is_tracking (t ∷ []) ≡ true = rw (same_name t lock_table is, tracked) refl in absurd cc)
      | false ↦ λ is. refl
    ] refl

insert_leaves : (d : Dialect) (t : Name) (ns : List Name) (ls : List Literal) (c : Catalogue) (x : Catalogue × ℕ) → step User d (Insert t ns ls) c ≡ Ok x → lock_of d x.0 ≡ lock_of d c
unfolding decide
insert_leaves d t ns ls c x ran =
    let p = insert User d t ns ls c in
    let found = none_from_unless (against p) (p.result, p.count) x ran in
    let other = not_lock t found.0.0 in
    ap (λ (y : Catalogue × ℕ). lock_of d y.0) (sym found.1)
    ∙ ap (lock_from d) (lookup_other t lock_table (with_row d (stated (the_table c t) ns) ls (the_table c t)) c.tables other)

leaves : (by : By) (d : Dialect) (s : Statement) (c : Catalogue) (x : Catalogue × ℕ) → leaves_lock by s ≡ true → step by d s c ≡ Ok x → lock_of d x.0 ≡ lock_of d c
leaves User d (Insert t ns ls) c x is ran = insert_leaves d t ns ls c x ran
leaves User d s c x is ran = absurd cc
leaves Program d s c x is ran = absurd cc

-- what was seen of it holds after such a statement
pub still_seen : (by : By) (d : Dialect) (s : Statement) (c e : Catalogue) (n : ℕ) (seen : Option Lock) → step by d s c ≡ Ok (e, n) → IfSome seen (λ lock. IsLockOf d c lock)
    → leaves_lock by s ≡ true → IfSome seen (λ lock. IsLockOf d e lock)
still_seen by d s c e n None ran is so = is
still_seen by d s c e n (Some lock) ran is so = subst (λ (o : Option Lock). IfSome o (λ meant. lock ≡ meant)) (sym (leaves by d s c (e, n) so ran)) is

pub seen_is : (d : Dialect) (c : Catalogue) (seen : Option Lock) (committed : Lock) → is_some seen ≡ true → IfSome seen (λ lock. IsLockOf d c lock) → IsLockOf d c (lock_in seen committed)
seen_is d c None committed some is = absurd cc
seen_is d c (Some lock) committed some is = is
