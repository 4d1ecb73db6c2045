-- That foreign keys and indexes can be dropped, and that dropping one takes its adding back.
use Rattle.std.specs.Prelude.{None, Ok, Some, [], refl, true, ◌∷◌, ◌≡◌}
use Rattle.lq_base.proofs.NameLemmas.{beside_named}
use Rattle.lq_base.specs.Name.{beside, is_name, is_name_key, is_object}
use Rattle.lq_base.specs.declared.dialect.Dialect.{Dialect}
use Rattle.lq_base.specs.declared.dialect.Dialect.TheVariants.{Mysql, Postgresql}
use Rattle.lq_base.specs.declared.name.Name.{Name}
use Rattle.lq_drops.specs.Drops.{drops_foreign, drops_index}
use Rattle.lq_keys.specs.OnDelete.{foreign_dropped, index_dropped}
use Rattle.lq_model.proofs.Effects.{one_back, one_becomes}
use Rattle.lq_model.proofs.Lists.{and_true}
use Rattle.lq_model.proofs.UndoConstraints.{drop_after_foreign_key}
use Rattle.lq_model.proofs.UndoIndexes.{drop_after_index}
use Rattle.lq_model.proofs.UndoMysql.{drop_foreign_key_after, drop_index_after}
use Rattle.lq_model.specs.Catalogue.{Catalogue, the_table, with_table}
use Rattle.lq_model.specs.Sound.{IsSound}
use Rattle.lq_model.specs.Step.{is_statement, run}
use Rattle.lq_model.specs.declared.caller.By.TheVariants.{User}
use Rattle.lq_model.specs.declared.constraint.ForeignKey.{ForeignKey}
use Rattle.lq_model.specs.declared.index.Index.{Index}
use Rattle.lq_model.specs.declared.statement.Statement.TheVariants.{AddForeignKey, CreateIndex, DropConstraint, DropForeignKey, DropIndex}

-- foreign keys

pub foreign_spelled : (d : Dialect) (t n : Name) → is_object d t ≡ true → is_name n ≡ true → is_statement d (drops_foreign d t n) ≡ true
foreign_spelled Postgresql t n h k = and_true (is_object Postgresql t) (is_name n) h k
foreign_spelled Mysql t n h k = and_true (is_object Mysql t) (is_name n) h k

pub foreign_becomes : (d : Dialect) (t n : Name) (c e : Catalogue) → run User d (drops_foreign d t n ∷ []) c ≡ Ok e → with_table c t (foreign_dropped d n (the_table c t)) ≡ e
foreign_becomes Postgresql t n c e ran = one_becomes Postgresql (DropConstraint t n) c e ran
foreign_becomes Mysql t n c e ran = one_becomes Mysql (DropForeignKey t n) c e ran

pub foreign_back : (d : Dialect) (t : Name) (f : ForeignKey) (c e : Catalogue) → IsSound d c → run User d (AddForeignKey t f ∷ []) c ≡ Ok e → run User d (drops_foreign d t f.name ∷ []) e ≡ Ok c
foreign_back Postgresql t f c e sound ran = one_back Postgresql (AddForeignKey t f) (DropConstraint t f.name) (drop_after_foreign_key t f) c e sound ran
foreign_back Mysql t f c e sound ran = one_back Mysql (AddForeignKey t f) (DropForeignKey t f.name) (drop_foreign_key_after t f) c e sound ran

-- indexes

pub index_spelled : (d : Dialect) (n t : Name) → is_name n ≡ true → is_object d t ≡ true → is_statement d (drops_index d n t) ≡ true
index_spelled Postgresql n t h k = and_true (is_name_key (beside t n)) true (beside_named t n k h) refl
index_spelled Mysql n t h k = and_true (is_name n) (is_name t) h k

pub index_becomes : (d : Dialect) (n t : Name) (c e : Catalogue) → run User d (drops_index d n t ∷ []) c ≡ Ok e → index_dropped d n t c ≡ e
index_becomes Postgresql n t c e ran = one_becomes Postgresql (DropIndex (beside t n) None) c e ran
index_becomes Mysql n t c e ran = one_becomes Mysql (DropIndex n (Some t)) c e ran

pub index_back : (d : Dialect) (t : Name) (i : Index) (c e : Catalogue) → IsSound d c → run User d (CreateIndex t i ∷ []) c ≡ Ok e → run User d (drops_index d i.name t ∷ []) e ≡ Ok c
index_back Postgresql t i c e sound ran = one_back Postgresql (CreateIndex t i) (DropIndex (beside t i.name) None) (drop_after_index t i) c e sound ran
index_back Mysql t i c e sound ran = one_back Mysql (CreateIndex t i) (DropIndex i.name (Some t)) (drop_index_after t i) c e sound ran
