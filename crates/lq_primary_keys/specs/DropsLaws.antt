-- That primary keys can be dropped, and that dropping one takes its adding back.
use Rattle.std.specs.Prelude.{Ok, [], true, ◌∷◌, ◌≡◌}
use Rattle.lq_base.specs.Name.{is_name, is_object}
use Rattle.lq_base.specs.declared.dialect.Dialect.{Dialect}
use Rattle.lq_base.specs.declared.dialect.Dialect.TheVariants.{Mysql, Postgresql}
use Rattle.lq_base.specs.declared.name.Name.{Name}
use Rattle.lq_model.proofs.Effects.{one_back_where, one_becomes}
use Rattle.lq_model.proofs.Lists.{and_true}
use Rattle.lq_model.proofs.UndoConstraints.{drop_after_key}
use Rattle.lq_model.proofs.UndoMysql.{drop_primary_key_after}
use Rattle.lq_model.specs.Catalogue.{Catalogue, the_table, with_table}
use Rattle.lq_model.specs.Sound.{IsSound}
use Rattle.lq_model.specs.Step.{is_statement, run}
use Rattle.lq_model.specs.TakesBack.{is_firm}
use Rattle.lq_model.specs.declared.caller.By.TheVariants.{User}
use Rattle.lq_model.specs.declared.constraint.Key.{Key}
use Rattle.lq_model.specs.declared.statement.Statement.TheVariants.{AddPrimaryKey, DropConstraint, DropPrimaryKey}
use Rattle.lq_primary_keys.specs.Drops.{drops_key, key_dropped}

pub key_spelled : (d : Dialect) (t n : Name) → is_object d t ≡ true → is_name n ≡ true → is_statement d (drops_key d t n) ≡ true
key_spelled Postgresql t n h k = and_true (is_object Postgresql t) (is_name n) h k
key_spelled Mysql t n h k = h

pub key_becomes : (d : Dialect) (t n : Name) (c e : Catalogue) → run User d (drops_key d t n ∷ []) c ≡ Ok e → with_table c t (key_dropped d n (the_table c t)) ≡ e
key_becomes Postgresql t n c e ran = one_becomes Postgresql (DropConstraint t n) c e ran
key_becomes Mysql t n c e ran = one_becomes Mysql (DropPrimaryKey t) c e ran

pub key_back : (d : Dialect) (t : Name) (k : Key) (c e : Catalogue) → IsSound d c → is_firm t k.columns c ≡ true → run User d (AddPrimaryKey t k ∷ []) c ≡ Ok e → run User d (drops_key d t k.name ∷ []) e ≡ Ok c
key_back Postgresql t k c e sound firm ran = one_back_where Postgresql (is_firm t k.columns) (AddPrimaryKey t k) (DropConstraint t k.name) (drop_after_key t k) c e sound firm ran
key_back Mysql t k c e sound firm ran = one_back_where Mysql (is_firm t k.columns) (AddPrimaryKey t k) (DropPrimaryKey t) (drop_primary_key_after t k) c e sound firm ran
