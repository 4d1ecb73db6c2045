-- What DROP gives is a statement of the dialect.
use Rattle.std.proofs.Common.{Some, None, refl}
use Rattle.lq_base.specs.declared.dialect.Dialect.{Dialect}
use Rattle.lq_base.specs.declared.dialect.Dialect.TheVariants.{Postgresql, Mysql}
use Rattle.lq_model.specs.SqlAlter.{drop_index, drop_object, drop_object_by}
use Rattle.lq_model.specs.SqlParser.{expect, peek, skip}
use Rattle.lq_model.specs.SqlPart.{name, object}
use Rattle.lq_model.specs.declared.statement.Statement.TheVariants.{DropIndex, DropSequence, DropTable, DropView}
use Rattle.lq_model.specs.declared.word.WordKind.{WordKind}
use Rattle.lq_model.specs.declared.word.WordKind.TheVariants as word
use Rattle.lq_parse.proofs.Makes.{IsNameText, IsObjectText, Makes, makes_after, makes_pure, makes_refuse, makes_then, name_makes, object_makes}
use Rattle.lq_statement.proofs.Parts.{Is, join}

drop_index_makes : (d : Dialect) → Makes (Is d) (drop_index d)
unfolding drop_index
drop_index_makes Postgresql = makes_then (IsObjectText Postgresql) (Is Postgresql) (object Postgresql) _ (object_makes Postgresql) (λ n h. makes_pure (Is Postgresql) (DropIndex n None) (join h refl))
drop_index_makes Mysql =
    makes_then IsNameText (Is Mysql) name _ name_makes (λ n h. makes_after (Is Mysql) (expect word.On) _ (λ on. makes_then IsNameText (Is Mysql) name _ name_makes (λ t g.
    makes_pure (Is Mysql) (DropIndex n (Some t)) (join h g))))

pub drop_makes : (d : Dialect) → Makes (Is d) (drop_object d)
unfolding drop_object
drop_makes d = makes_after (Is d) peek (drop_object_by d) (by d)
  where
    by : (d : Dialect) (k : WordKind) → Makes (Is d) (drop_object_by d k)
    by d word.Table = makes_after (Is d) skip _ (λ it. makes_then (IsObjectText d) (Is d) (object d) _ (object_makes d) (λ t h. makes_pure (Is d) (DropTable t) h))
    by d word.Index = makes_after (Is d) skip _ (λ it. drop_index_makes d)
    by d word.View = makes_after (Is d) skip _ (λ it. makes_then (IsObjectText d) (Is d) (object d) _ (object_makes d) (λ v h. makes_pure (Is d) (DropView v) h))
    by Postgresql word.Sequence = makes_after (Is Postgresql) skip _ (λ it. makes_then (IsObjectText Postgresql) (Is Postgresql) (object Postgresql) _ (object_makes Postgresql) (λ s h. makes_pure (Is Postgresql) (DropSequence s) h))
    by d _ = makes_refuse (Is d)
