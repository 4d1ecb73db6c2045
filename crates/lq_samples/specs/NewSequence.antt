-- What a change that makes a sequence says.
use Rattle.std.specs.Prelude.{Bool, List, Option, Result, Some, [], codes, pos, true, ◌&&◌, ◌||◌, ◌∷◌}
use Rattle.lq_base.specs.Name.{is_name, is_named}
use Rattle.lq_base.specs.declared.dialect.Dialect.{Dialect}
use Rattle.lq_base.specs.declared.name.Name.{Name}
use Rattle.lq_base.specs.declared.reason.Reason.{Reason}
use Rattle.lq_base.specs.declared.reason.Reason.TheVariants as reason
use Rattle.lq_model.specs.Catalogue.{Catalogue, with_sequence}
use Rattle.lq_model.specs.Changes.{CanonicalChange, text}
use Rattle.lq_model.specs.NameSpaces.{is_taken, is_tracking, lock_key}
use Rattle.lq_model.specs.Plan.{unless}
use Rattle.lq_model.specs.Step.{is_pg}
use Rattle.lq_model.specs.TakesBack.{Row, change_of}
use Rattle.lq_model.specs.declared.statement.Statement.{Statement}
use Rattle.lq_model.specs.declared.statement.Statement.TheVariants.{CreateSequence, DropSequence}

-- PostgreSQL alone has sequences
abbrev pub is_for : Dialect → Name → Bool
is_for d name = is_pg d && is_name name

abbrev pub gives : Dialect → Name → List Statement
gives d name = CreateSequence name (pos 1) (pos 1) ∷ []

-- refused where the name is a tracking table's, or where it is taken; else the sequence is there, counting from 1 by 1
abbrev pub effect : Dialect → Name → Catalogue → Result Catalogue Reason
effect d name c =
    unless
    ((is_tracking name, reason.Reserved) ∷ (is_taken d name c || is_named lock_key name, reason.Exists) ∷ [])
    (with_sequence c name (record { start = pos 1; step = pos 1 }))

-- a sequence that is made was not there, so nothing is lost when it is dropped
abbrev pub is_fresh : Dialect → Name → Catalogue → Bool
is_fresh d name c = true

abbrev pub inverse : Dialect → Name → Option (List Statement)
inverse d name = Some (DropSequence name ∷ [])

-- its one key
abbrev pub rows : Name → List Row
rows name = (codes "sequenceName", Some (text name)) ∷ []

abbrev pub canonical_of : Name → CanonicalChange
canonical_of name = change_of (codes "createSequence") (rows name)
