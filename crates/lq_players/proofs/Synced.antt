-- The changelog of a changelog-sync.
use Rattle.std.proofs.Common.{ap, ◌∙◌}
use Rattle.std.specs.Prelude.{◌≡◌}
use Rattle.lq_players.specs.Syncing.{sync_log}
use Rattle.lq_players.specs.declared.syncing.Syncing.{Syncing}
use Rattle.lq_expr.specs.declared.options.Options.{Options}
use Rattle.lq_kinds.specs.declared.change_set.Changelog.{Changelog}
use Rattle.lq_seen.specs.View.{view_log}

pub same_log : (it : Syncing) (options : Options) (g : Changelog) → it.options ≡ options → it.changelog ≡ g → sync_log it ≡ view_log options g
same_log it options g same log = ap (λ (o : Options). view_log o it.changelog) same ∙ ap (view_log options) log
