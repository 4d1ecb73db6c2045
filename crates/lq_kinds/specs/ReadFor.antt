-- For which dialect changesets were read.
use Rattle.std.specs.List.{list_all}
use Rattle.std.specs.Prelude.{Bool, List, None, Option, Some, true, ◌&&◌, ◌≡◌}
use Rattle.lq_any.specs.AnyChange.{is_for}
use Rattle.lq_any.specs.declared.any_change.AnyChange.{AnyChange}
use Rattle.lq_base.specs.declared.dialect.Dialect.{Dialect}
use Rattle.lq_kinds.specs.declared.change_set.ChangeSet.{ChangeSet}
use Rattle.lq_kinds.specs.declared.change_set.Changelog.{Changelog}

-- the changes of the rollback block, where there is one, were read for the dialect
abbrev pub is_block_for : Dialect → Option (List AnyChange) → Bool
is_block_for d None = true
is_block_for d (Some block) = list_all (is_for d) block

-- its changes were read for the dialect, and those of its rollback block
abbrev pub is_read_for : Dialect → ChangeSet → Bool
is_read_for d x = list_all (is_for d) x.changes && is_block_for d x.rollback

-- so was each changeset: one that is not here has neither changes nor a rollback block
abbrev pub AreFor : Dialect → Changelog → Type 0
AreFor d g = list_all (is_read_for d) g.sets ≡ true
