-- That sql keeps its promises.
use Rattle.std.proofs.Common.{ap, sym, ◌∙◌}
use Rattle.std.specs.List.{list_all}
use Rattle.std.specs.Option.{unwrap_or}
use Rattle.std.specs.Prelude.{List, None, Option, Some, [], codes, refl, true, ◌≡◌}
use Rattle.lq_base.specs.declared.dialect.Dialect.{Dialect}
use Rattle.lq_data.specs.ColumnValue.{is_dialect}
use Rattle.lq_data.specs.GivenTestLaws.{dialect_is}
use Rattle.lq_data.specs.Script.{Script, statements_in}
use Rattle.lq_data.specs.Sql.{are_written, canonical_of, effect, gives, inverse, is_for, is_fresh, rows}
use Rattle.lq_model.proofs.Lists.{and_left, and_right}
use Rattle.lq_model.proofs.Told.{keys_told, text_told, truth_told}
use Rattle.lq_model.specs.Changes.{AreReturns, AreStatements, AreTold, HaveEffect, TakeBack}
use Rattle.lq_model.specs.Step.{is_statement}
use Rattle.lq_model.specs.TakesBack.{nth_value}
use Rattle.lq_model.specs.declared.statement.Statement.{Statement}

all_written : (d : Dialect) (o : Option (List Statement)) → are_written d o ≡ true → list_all (is_statement d) (unwrap_or o []) ≡ true
all_written d None h = absurd Prim.cc
all_written d (Some ss) h = h

pub spelled : AreStatements is_for gives
spelled d x h = all_written d (statements_in x) (and_right (is_dialect d x.dialect) _ h)

pub returned : AreReturns is_for inverse
returned d x undoing right taken = absurd Prim.cc

pub does : HaveEffect is_for gives effect
does d x c right sound = refl

pub restores : TakeBack is_for effect is_fresh inverse
restores d x c e undoing right sound new is taken = absurd Prim.cc

same : (x y : Script) → x.dialect ≡ y.dialect → x.sql ≡ y.sql → x.split_statements ≡ y.split_statements → x.end_delimiter ≡ y.end_delimiter → x ≡ y
same x y read sql split delimiter = rw (read, sql, split, delimiter) refl

pub told : AreTold is_for canonical_of
told d x y right also e =
    let is : rows x ≡ rows y = keys_told (codes "sql") (codes "sql") (rows x) (rows y) refl refl e in
    same x y (sym (dialect_is d x.dialect (and_left (is_dialect d x.dialect) _ right)) ∙ dialect_is d y.dialect (and_left (is_dialect d y.dialect) _ also))
    (text_told (ap (nth_value 0) is)) (truth_told (ap (nth_value 1) is)) (text_told (ap (nth_value 2) is))
