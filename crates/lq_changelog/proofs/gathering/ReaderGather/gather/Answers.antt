use Rattle.std.proofs.Common.{◌≡◌, subst, sym, true}
use Rattle.lq_base.specs.Number.{if_there}
use Rattle.lq_base.specs.declared.dialect.Dialect.{Dialect}
use Rattle.lq_kinds.specs.ReadFor.{is_read_for}
use Rattle.lq_changelog.proofs.gathering.ReaderGather.gather.Goals as goal

pub add_set-requires-clause-right : goal.add_set-requires-clause-right
add_set-requires-clause-right g c =
    let P : Dialect → Type 0 = λ d. if_there (is_read_for d) c.in_ok-set-in-changeSet.set ≡ true in
    subst P (sym c.args.self.now.same) c.in_ok-set-in-changeSet.ensures.right
