-- What holds of each changelog that files give.
use Rattle.std.specs.Prelude.{List, Ok, ℕ, ◌≡◌}
use Rattle.lq_base.specs.declared.dialect.Dialect.{Dialect}
use Rattle.lq_changelog.specs.Gathers.{changelog}
use Rattle.lq_kinds.specs.ReadFor.{AreFor}
use Rattle.lq_kinds.specs.declared.change_set.Changelog.{Changelog}
use Rattle.lq_sources.specs.Source.{Source}

-- its changes are for the dialect for which the files are read
abbrev pub WhatIsGivenIsForTheDialect : Type 0
WhatIsGivenIsForTheDialect = (d : Dialect) (source : Source) (root : List ℕ) (given : List (List ℕ × List ℕ)) (g : Changelog) → changelog source root d given ≡ Ok g → AreFor d g
