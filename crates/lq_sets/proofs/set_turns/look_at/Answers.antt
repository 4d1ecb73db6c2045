use Rattle.std.proofs.Common.{None, rules, Some, subst, sym, ◌≡◌, ◌-◌}
use Rattle.std.specs.List.{slice_get}
use Rattle.lq_kinds.specs.ReadFor.{is_block_for, is_read_for}
use Rattle.lq_model.proofs.Lists.{and_left}
use Rattle.lq_seen.proofs.Read.{all_at}
use Rattle.lq_sets.proofs.Stale.{before_is, has_not_looked, none_before}
use Rattle.lq_sets.proofs.set_turns.look_at.Goals as goal
use Rattle.lq_sets.specs.Counting.{HasLooked}

pub looks-requires : goal.looks-requires
looks-requires g c =
    let there : slice_get c.args.changelog.now.sets c.saturating_sub.result ≡ Some c.in-Some.set.now = search rules in
    record { read = and_left _ (is_block_for c.args.dialect c.in-Some.set.now.rollback) (all_at (is_read_for c.args.dialect) c.args.changelog.now.sets c.saturating_sub.result c.in-Some.set.now c.requires.read there) }

pub returns-in-Some-clause-looked : goal.returns-in-Some-clause-looked
returns-in-Some-clause-looked g c =
    let there : slice_get c.args.changelog.now.sets c.saturating_sub.result ≡ Some c.in-Some.set.now = search rules in
    let place : c.saturating_sub.result ≡ c.args.next - 1 = search rules in
    subst (λ xs. HasLooked c.args.dialect xs (g.K.Look.catalogue c.args.look.now) c.args.turn.now c.looks.new.self) (sym (before_is c.args.changelog.now.sets c.args.next c.saturating_sub.result c.in-Some.set.now place there)) c.looks.ensures.looked

pub returns-in-None-clause-looked : goal.returns-in-None-clause-looked
returns-in-None-clause-looked g c =
    let missing : slice_get c.args.changelog.now.sets c.saturating_sub.result ≡ None = search rules in
    let place : c.saturating_sub.result ≡ c.args.next - 1 = search rules in
    has_not_looked c.args.dialect _ (g.K.Look.catalogue c.args.look.now) c.args.turn.now (none_before c.args.changelog.now.sets c.args.next c.saturating_sub.result place missing)
