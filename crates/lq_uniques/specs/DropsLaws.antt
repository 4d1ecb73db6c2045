-- That unique constraints can be dropped, and that dropping one takes its adding back.
use Rattle.std.specs.Prelude.{Ok, [], true, ◌∷◌, ◌≡◌}
use Rattle.lq_base.specs.Name.{is_name, is_object}
use Rattle.lq_base.specs.declared.dialect.Dialect.{Dialect}
use Rattle.lq_base.specs.declared.dialect.Dialect.TheVariants.{Mysql, Postgresql}
use Rattle.lq_base.specs.declared.name.Name.{Name}
use Rattle.lq_model.proofs.Effects.{one_back, one_becomes}
use Rattle.lq_model.proofs.Lists.{and_true}
use Rattle.lq_model.proofs.UndoConstraints.{drop_after_unique}
use Rattle.lq_model.proofs.UndoMysql.{drop_unique_after}
use Rattle.lq_model.specs.Catalogue.{Catalogue, the_table, with_table}
use Rattle.lq_model.specs.Sound.{IsSound}
use Rattle.lq_model.specs.Step.{is_statement, run}
use Rattle.lq_model.specs.declared.caller.By.TheVariants.{User}
use Rattle.lq_model.specs.declared.constraint.Unique.{Unique}
use Rattle.lq_model.specs.declared.statement.Statement.TheVariants.{AddUnique, DropConstraint, DropUnique}
use Rattle.lq_uniques.specs.Drops.{drops_unique, unique_dropped}

pub unique_spelled : (d : Dialect) (t n : Name) → is_object d t ≡ true → is_name n ≡ true → is_statement d (drops_unique d t n) ≡ true
unique_spelled Postgresql t n h k = and_true (is_object Postgresql t) (is_name n) h k
unique_spelled Mysql t n h k = and_true (is_object Mysql t) (is_name n) h k

pub unique_becomes : (d : Dialect) (t n : Name) (c e : Catalogue) → run User d (drops_unique d t n ∷ []) c ≡ Ok e → with_table c t (unique_dropped d n (the_table c t)) ≡ e
unique_becomes Postgresql t n c e ran = one_becomes Postgresql (DropConstraint t n) c e ran
unique_becomes Mysql t n c e ran = one_becomes Mysql (DropUnique t n) c e ran

pub unique_back : (d : Dialect) (t : Name) (u : Unique) (c e : Catalogue) → IsSound d c → run User d (AddUnique t u ∷ []) c ≡ Ok e → run User d (drops_unique d t u.name ∷ []) e ≡ Ok c
unique_back Postgresql t u c e sound ran = one_back Postgresql (AddUnique t u) (DropConstraint t u.name) (drop_after_unique t u) c e sound ran
unique_back Mysql t u c e sound ran = one_back Mysql (AddUnique t u) (DropUnique t u.name) (drop_unique_after t u) c e sound ran
