-- Sequences are PostgreSQL's: their change types are not for MySQL.
use Rattle.std.specs.Option.{unwrap_or}
use Rattle.std.specs.Prelude.{Bool, Err, List, None, Ok, Option, Some, [], false, if◌then◌else◌, is_some, not, option_and_then, ℕ, ◌&&◌}
use Rattle.lq_base.specs.declared.dialect.Dialect.{Dialect}
use Rattle.lq_base.specs.declared.dialect.Dialect.TheVariants.{Mysql, Postgresql}
use Rattle.lq_base.specs.declared.fault.KindFault.TheVariants.{NotFor}
use Rattle.lq_model.specs.SqlText.{query_in}
use Rattle.lq_model.specs.Step.{is_pg, is_query}
use Rattle.lq_model.specs.declared.query.Query.{Query}
use Rattle.lq_model.specs.declared.query.Wanted.TheVariants as wanted
use Rattle.lq_tree.specs.Look.{Found, Taken, or_bad, printed_of}

abbrev pub for_postgresql : Dialect → Found (Unit {0})
for_postgresql Postgresql = Ok tt
for_postgresql Mysql = Err (NotFor [] Mysql)

-- A text in the SQL of a dialect.

pub record DialectText : Type 0 where
  pub dialect : Dialect
  pub text : List ℕ

-- Texts that spell a query.

-- a scalar that is printed as a text of the dialect which spells a query
abbrev pub spelling : Dialect → List ℕ → Option DialectText
spelling d t = if is_some (query_in d t) then Some (record { dialect = d; text = t }) else None

abbrev pub a_query : Dialect → Taken DialectText
a_query d n = or_bad (option_and_then (spelling d) (printed_of n))

-- the query that a text spells, and some query where it spells none
abbrev pub query_of : DialectText → Query
query_of t = unwrap_or (query_in t.dialect t.text) (record { wanted = wanted.All; table = []; test = None })

abbrev pub same_dialect : Dialect → Dialect → Bool
same_dialect Postgresql e = is_pg e
same_dialect Mysql e = not (is_pg e)

-- there is a query, and it can be written
abbrev pub is_some_query : Dialect → Option Query → Bool
is_some_query d None = false
is_some_query d (Some q) = is_query d q

-- the text is one of the dialect, and spells a query
abbrev pub spells_query : Dialect → DialectText → Bool
spells_query d t = same_dialect d t.dialect && is_some_query d (query_in d t.text)
