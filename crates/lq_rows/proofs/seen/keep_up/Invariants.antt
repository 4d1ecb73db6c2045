use Rattle.std.proofs.Common.{List, vec_len, ◌≡◌}
use Rattle.lq_base.specs.declared.value.Value.{Value}
use Rattle.lq_rows.specs.Stored.{AllShow, ShowWith}
use Rattle.lq_rows.proofs.seen.keep_up.Given as goal

abbrev pub invariant-loop-at : goal.invariant-loop-at
invariant-loop-at l = (vec_len l.seen ≡ vec_len l.initial.seen) × ((rows : List (List Value)) → AllShow l.columns rows l.initial.seen.items → ShowWith l.at l.columns rows l.row l.seen.items)
