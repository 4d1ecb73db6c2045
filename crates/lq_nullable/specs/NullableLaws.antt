-- That whether a column takes null can be set and taken back.
use Rattle.std.specs.Prelude.{Bool, None, Ok, Option, Some, [], false, not, refl, true, ◌&&◌, ◌∷◌, ◌≡◌}
use Rattle.lq_base.specs.Kind.{is_kind}
use Rattle.lq_base.specs.Name.{is_name, is_object}
use Rattle.lq_base.specs.Number.{if_there}
use Rattle.lq_base.specs.declared.dialect.Dialect.{Dialect}
use Rattle.lq_base.specs.declared.dialect.Dialect.TheVariants.{Mysql, Postgresql}
use Rattle.lq_base.specs.declared.kind.Kind.{Kind}
use Rattle.lq_base.specs.declared.name.Name.{Name}
use Rattle.lq_model.proofs.Columns.{each_of_first}
use Rattle.lq_model.proofs.Effects.{one_back_where, one_becomes}
use Rattle.lq_model.proofs.Lists.{and_left, and_true, true_false}
use Rattle.lq_model.proofs.UndoChanges.{drop_not_null_after, set_not_null_after}
use Rattle.lq_model.proofs.UndoModify.{modify_back}
use Rattle.lq_model.specs.Catalogue.{Catalogue, column_at, the_table, with_table}
use Rattle.lq_model.specs.Rows.{stated}
use Rattle.lq_model.specs.Sound.{IsSound}
use Rattle.lq_model.specs.Step.{is_statement, run}
use Rattle.lq_model.specs.Tables.{with_changed}
use Rattle.lq_model.specs.TakesBack.{is_each}
use Rattle.lq_model.specs.declared.caller.By.TheVariants.{User}
use Rattle.lq_model.specs.declared.statement.Statement.TheVariants.{DropNotNull, Modify, SetNotNull}
use Rattle.lq_nullable.specs.Nullable.{allowed, allowing, is_new, is_stated, kind_stated}

pub allowing_spelled : (d : Dialect) (t n : Name) (stated : Option Kind) (nullable : Bool) → is_object d t ≡ true → is_name n ≡ true → is_stated d stated ≡ true → is_statement d (allowing d t n (kind_stated stated) nullable) ≡ true
allowing_spelled Postgresql t n stated true a b k = and_true (is_object Postgresql t) (is_name n) a b
allowing_spelled Postgresql t n stated false a b k = and_true (is_object Postgresql t) (is_name n) a b
allowing_spelled Mysql t n None nullable a b k = true_false k refl
allowing_spelled Mysql t n (Some stated) nullable a b k = and_true (is_object Mysql t) (is_name n && is_kind stated) a (and_true (is_name n) (is_kind stated) b (and_left (is_kind stated) _ k))

-- what it gives
pub allowing_becomes : (d : Dialect) (t n : Name) (k : Kind) (nullable : Bool) (c e : Catalogue) → run User d (allowing d t n k nullable ∷ []) c ≡ Ok e → with_table c t (with_changed n (allowed d k nullable) (the_table c t)) ≡ e
allowing_becomes Postgresql t n k true c e ran = one_becomes Postgresql (DropNotNull t n) c e ran
allowing_becomes Postgresql t n k false c e ran = one_becomes Postgresql (SetNotNull t n) c e ran
allowing_becomes Mysql t n k nullable c e ran = one_becomes Mysql (Modify t n k nullable) c e ran

-- and what takes it back
pub allowing_back : (d : Dialect) (t n : Name) (k : Kind) (nullable : Bool) (c e : Catalogue) → IsSound d c → if_there (is_new d k nullable) (column_at c t n) ≡ true → run User d (allowing d t n k nullable ∷ []) c ≡ Ok e → run User d (allowing d t n k (not nullable) ∷ []) e ≡ Ok c
allowing_back d t n k nullable c e sound fresh ran = by d nullable sound (each_of_first d c t n (is_new d k nullable) sound fresh) ran where
  by : (d : Dialect) (nullable : Bool) → IsSound d c → is_each t n (is_new d k nullable) c ≡ true → run User d (allowing d t n k nullable ∷ []) c ≡ Ok e → run User d (allowing d t n k (not nullable) ∷ []) e ≡ Ok c
  by Postgresql true sound new ran = one_back_where Postgresql (is_each t n (is_new Postgresql k true)) (DropNotNull t n) (SetNotNull t n) (set_not_null_after Postgresql t n) c e sound new ran
  by Postgresql false sound new ran = one_back_where Postgresql (is_each t n (is_new Postgresql k false)) (SetNotNull t n) (DropNotNull t n) (drop_not_null_after Postgresql t n) c e sound new ran
  by Mysql true sound new ran = one_back_where Mysql (is_each t n (is_new Mysql k true)) (Modify t n k true) (Modify t n k false) (modify_back Mysql t n k true) c e sound new ran
  by Mysql false sound new ran = one_back_where Mysql (is_each t n (is_new Mysql k false)) (Modify t n k false) (Modify t n k true) (modify_back Mysql t n k false) c e sound new ran
