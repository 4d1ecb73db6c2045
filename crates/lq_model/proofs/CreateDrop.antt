-- A table that is made can be dropped, and both keep a catalogue sound.
use Rattle.std.proofs.Common.{ap, sym, ◌∙◌}
use Rattle.std.specs.BTreeMap.{insert_entry}
use Rattle.std.specs.List.{list_any}
use Rattle.std.specs.Map.{lookup, remove_entry}
use Rattle.std.specs.Ordering.{is_eq, match_ordering}
use Rattle.std.specs.Prelude.{List, None, Ok, Option, Some, [], cond, false, is_none, not, refl, ℕ, ◌&&◌, ◌∷◌, ◌≡◌}
use Rattle.std.specs.declared.cmp.Ordering.TheVariants.{Equal, Greater, Less}
use Rattle.lq_base.specs.Name.{is_named, name_cmp}
use Rattle.lq_base.specs.declared.dialect.Dialect.{Dialect}
use Rattle.lq_base.specs.declared.name.Name.{Name}
use Rattle.lq_model.specs.Catalogue.{Catalogue, Table, table_of, with_new}
use Rattle.lq_model.specs.Tables.{create_table, new_table, drop_table, targets_table}
use Rattle.lq_model.specs.NameSpaces.{is_reserved, is_tracking}
use Rattle.lq_model.specs.Sound.{IsSound}
use Rattle.lq_model.specs.Step.{step}
use Rattle.lq_model.specs.declared.caller.By.{By}
use Rattle.lq_model.specs.declared.caller.By.TheVariants.{Program, User}
use Rattle.lq_model.specs.declared.column.ColumnDef.{ColumnDef}
use Rattle.lq_model.specs.declared.constraint.ForeignKey.{ForeignKey}
use Rattle.lq_model.specs.declared.constraint.Key.{Key}
use Rattle.lq_model.specs.declared.constraint.Unique.{Unique}
use Rattle.lq_model.specs.declared.statement.Statement.TheVariants.{CreateTable, DropTable}
use Rattle.lq_model.proofs.Absent.{free_of, untargeted, unviewed}
use Rattle.lq_model.proofs.Decide.{accepted, accepts}
use Rattle.lq_model.proofs.Lists.{and_no_right, any_less, named_itself, or_false, or_left, or_right}
use Rattle.lq_model.proofs.Maps.{lookup-insert_entry, not_some}

pub remove_entry-insert_entry : {X : Type 0} (t : Name) (x : X) (es : List (Name × X)) → lookup (is_named t) es ≡ None → remove_entry (is_named t) (insert_entry name_cmp es t x) ≡ es
remove_entry-insert_entry t x [] none = ap (λ b. cond b [] ((t, x) ∷ [])) (named_itself t)
remove_entry-insert_entry t x (e ∷ es) none =
    elim (name_cmp t e.0) as (λ r. name_cmp t e.0 ≡ r → cond (is_eq r) (Some e.1) (lookup (is_named t) es) ≡ None → remove_entry (is_named t) (match_ordering r ((t, x) ∷ e ∷ es) ((e.0, x) ∷ es) (e ∷ insert_entry name_cmp es t x)) ≡ e ∷ es) [
      | Less ↦ λ is h. ap (λ b. cond b (e ∷ es) ((t, x) ∷ remove_entry (is_named t) (e ∷ es))) (named_itself t)
      | Equal ↦ λ is h. not_some h
      | Greater ↦ λ is h. ap (λ r. cond (is_eq r) (insert_entry name_cmp es t x) (e ∷ remove_entry (is_named t) (insert_entry name_cmp es t x))) is ∙ ap (λ fs. e ∷ fs) (remove_entry-insert_entry t x es h)
    ] refl none

none_but : (t : Name) (it : Table) (es : List (Name × Table)) → lookup (is_named t) es ≡ None → list_any (λ e. not (is_named t e.0) && targets_table t e.1) es ≡ false → list_any (λ e. not (is_named t e.0) && targets_table t e.1) (insert_entry name_cmp es t it) ≡ false
none_but t it [] none h = or_false _ _ (ap (λ b. not b && targets_table t it) (named_itself t)) refl
none_but t it (e ∷ es) none h =
    elim (name_cmp t e.0) as (λ r. name_cmp t e.0 ≡ r → cond (is_eq r) (Some e.1) (lookup (is_named t) es) ≡ None → list_any (λ x. not (is_named t x.0) && targets_table t x.1) (match_ordering r ((t, it) ∷ e ∷ es) ((e.0, it) ∷ es) (e ∷ insert_entry name_cmp es t it)) ≡ false) [
      | Less ↦ λ is q. or_false _ _ (ap (λ b. not b && targets_table t it) (named_itself t)) h
      | Equal ↦ λ is q. not_some q
      | Greater ↦ λ is q. or_false _ _ (or_left _ _ h) (none_but t it es q (or_right _ _ h))
    ] refl none

reserved_first : (by : By) (t : Name) (ns : List Name) → is_reserved by (t ∷ ns) ≡ false → is_reserved by (t ∷ []) ≡ false
reserved_first User t ns h = or_false _ _ (or_left (is_tracking t) _ h) refl
reserved_first Program t ns h = refl

pub drop_after_create : (d : Dialect) (t : Name) (defs : List ColumnDef) (key : Option Key) (uniques : List Unique) (foreign : List ForeignKey) (by : By) (c e : Catalogue) (k : ℕ) → IsSound d c → step by d (CreateTable t defs key uniques foreign) c ≡ Ok (e, k) → step by d (DropTable t) e ≡ Ok (c, 0)
drop_after_create d t defs key uniques foreign by c e k sound made =
    let ok = accepted (create_table by d t defs key uniques foreign c) e k made in
    let it = new_table defs key uniques foreign in
    let none = free_of d t c (or_left _ _ ok.exists) in
    ap (step by d (DropTable t)) (sym ok.result)
    ∙ accepts d (drop_table by d t (with_new c t it)) c sound
    (ap (λ ts. record c { tables = ts }) (remove_entry-insert_entry t it c.tables none))
    (record {
      reserved = reserved_first by t _ ok.reserved;
      missing = ap is_none (lookup-insert_entry c.tables t it t ∙ ap (λ b. cond b (Some it) (table_of c t)) (named_itself t));
      exists = refl;
      depends = or_false _ _ (unviewed d c t sound none) (none_but t it c.tables none (any_less _ (λ x. targets_table t x.1) c.tables (λ x h. and_no_right (not (is_named t x.0)) _ h) (untargeted d c t sound none)));
      wrong = refl;
      wide = refl;
    })
