-- That a test that was given can be written, and is told by its text.
use Rattle.std.proofs.Common.{sym, ◌∙◌}
use Rattle.std.specs.Option.{option_map}
use Rattle.std.specs.Prelude.{List, None, Option, Some, refl, true, ℕ, ◌≡◌}
use Rattle.lq_base.specs.Number.{if_there}
use Rattle.lq_base.specs.declared.dialect.Dialect.{Dialect}
use Rattle.lq_base.specs.declared.dialect.Dialect.TheVariants.{Mysql, Postgresql}
use Rattle.lq_data.specs.ColumnValue.{GivenSql, is_dialect}
use Rattle.lq_data.specs.Sql.{given_text, is_test, is_written, test_of}
use Rattle.lq_model.proofs.Lists.{and_left, and_right}
use Rattle.lq_model.proofs.Told.{if_told}
use Rattle.lq_model.specs.Changes.{text}
use Rattle.lq_model.specs.SqlText.{test_in}
use Rattle.lq_model.specs.Step.{is_where}
use Rattle.lq_model.specs.declared.test.Test.{Test}

pub dialect_is : (d e : Dialect) → is_dialect d e ≡ true → d ≡ e
dialect_is Postgresql Postgresql h = refl
dialect_is Mysql Mysql h = refl
dialect_is Postgresql Mysql h = absurd Prim.cc
dialect_is Mysql Postgresql h = absurd Prim.cc

written_is : (test : Option Test) → is_written test ≡ true → is_where test ≡ true
written_is None h = absurd Prim.cc
written_is (Some test) h = h

pub where_right : (d : Dialect) (given : Option GivenSql) → if_there (is_test d) given ≡ true → is_where (test_of given) ≡ true
where_right d None h = refl
where_right d (Some g) h = written_is (test_in g.dialect g.text) (and_right (is_dialect d g.dialect) _ h)

same_text : {t u : List ℕ} → text t ≡ text u → t ≡ u
same_text h = Prim.cc

same : (x y : GivenSql) → x.dialect ≡ y.dialect → x.text ≡ y.text → x ≡ y
same x y read spelled = rw (read, spelled) refl

each_told : (d : Dialect) (x y : GivenSql) → is_test d x ≡ true → is_test d y ≡ true → given_text x ≡ given_text y → x ≡ y
each_told d x y right also e =
    same x y (sym (dialect_is d x.dialect (and_left (is_dialect d x.dialect) _ right)) ∙ dialect_is d y.dialect (and_left (is_dialect d y.dialect) _ also)) (same_text e)

pub test_told : (d : Dialect) (o p : Option GivenSql) → if_there (is_test d) o ≡ true → if_there (is_test d) p ≡ true → option_map given_text o ≡ option_map given_text p → o ≡ p
test_told d o p right also e = if_told given_text (is_test d) (each_told d) o p right also e
