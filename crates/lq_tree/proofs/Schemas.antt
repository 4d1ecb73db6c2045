-- A name in a schema that was read.
use Rattle.std.proofs.Common.{◌≡◌, ℕ, true, List, sym, subst}
use Rattle.std.proofs.lemmas.Slice.Eq.{bytes_eq-Decides}
use Rattle.lq_base.proofs.NameLemmas.{keys_tell_names}
use Rattle.lq_base.specs.Name.{is_name, is_object, public, within}
use Rattle.lq_base.specs.declared.dialect.Dialect.{Dialect}
use Rattle.lq_base.specs.declared.dialect.Dialect.TheVariants.{Mysql, Postgresql}
use Rattle.lq_tree.specs.Keys.{is_schema}

pub object_within : (d : Dialect) (schema name : List ℕ) → is_schema d schema ≡ true → is_name name ≡ true → is_object d (within schema name) ≡ true
object_within Postgresql schema name h g = (keys_tell_names schema name h g).0
object_within Mysql schema name h g = subst (λ (s : List ℕ). is_name (within s name) ≡ true) (sym ((bytes_eq-Decides schema public).0 h)) g
