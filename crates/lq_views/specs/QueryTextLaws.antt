-- What is known of a text that spells a query of a dialect.
use Rattle.std.proofs.Common.{ap, sym, ◌∙◌}
use Rattle.std.specs.Option.{unwrap_or}
use Rattle.std.specs.Prelude.{None, Option, Some, [], refl, true, ◌≡◌}
use Rattle.lq_base.specs.declared.dialect.Dialect.{Dialect}
use Rattle.lq_base.specs.declared.dialect.Dialect.TheVariants.{Mysql, Postgresql}
use Rattle.lq_model.proofs.Lists.{and_left, and_right}
use Rattle.lq_model.specs.SqlText.{query_in}
use Rattle.lq_model.specs.Step.{is_query}
use Rattle.lq_model.specs.declared.query.Query.{Query}
use Rattle.lq_model.specs.declared.query.Wanted.TheVariants as wanted
use Rattle.lq_views.specs.QueryText.{DialectText, is_some_query, query_of, same_dialect, spells_query}

-- the dialect of a text is told
told_same : (d e : Dialect) → same_dialect d e ≡ true → d ≡ e
told_same Postgresql Postgresql h = refl
told_same Postgresql Mysql h = absurd Prim.cc
told_same Mysql Postgresql h = absurd Prim.cc
told_same Mysql Mysql h = refl

its_dialect : (d : Dialect) (t : DialectText) → spells_query d t ≡ true → d ≡ t.dialect
its_dialect d t h = told_same d t.dialect (and_left (same_dialect d t.dialect) _ h)

-- what it spells can be written
written : (d : Dialect) (o : Option Query) → is_some_query d o ≡ true → is_query d (unwrap_or o (record { wanted = wanted.All; table = []; test = None })) ≡ true
written d None h = absurd Prim.cc
written d (Some q) h = h

pub query_spelled : (d : Dialect) (t : DialectText) → spells_query d t ≡ true → is_query d (query_of t) ≡ true
query_spelled d t h = written d (query_in t.dialect t.text) (ap (λ e. is_some_query d (query_in e t.text)) (sym (its_dialect d t h)) ∙ and_right (same_dialect d t.dialect) _ h)

same : (x y : DialectText) → x.dialect ≡ y.dialect → x.text ≡ y.text → x ≡ y
same x y dialect text = rw (dialect, text) refl

-- in one dialect the text tells all
pub text_tells : (d : Dialect) (x y : DialectText) → spells_query d x ≡ true → spells_query d y ≡ true → x.text ≡ y.text → x ≡ y
text_tells d x y h k text = same x y (sym (its_dialect d x h) ∙ its_dialect d y k) text
