use Rattle.std.proofs.Common.{rules, tests, ◌≡◌, length, Some, None, cond, ltb}
use Rattle.std.specs.List.{position_or_len}
use Rattle.std.proofs.lemmas.Iterator.{YieldsList-from_slice}
use Rattle.std.proofs.lemmas.Iterator.Search.{position_from_yields_List}
use Rattle.lq_base.specs.Kind.{is_no_digit}
use Rattle.std.proofs.lemmas.List.Sums.{prefix_len-le-length}
use Rattle.lq_base.proofs.NumberLemmas.{place_from_position}
use Rattle.lq_base.proofs.kind.digits_before.Goals as goal

pub returns-clause-value : goal.returns-clause-value
returns-clause-value c =
    let text = c.args.text.now in
    let place : c.position.result ≡ cond (ltb (position_or_len is_no_digit text) (length text)) (Some (position_or_len is_no_digit text)) None
    = position_from_yields_List is_no_digit _ _ _ c.position.ensures.ran (YieldsList-from_slice text cc) (λ x b q k. search (rules, tests)) in
    place_from_position is_no_digit text _ _ place (search rules)

pub returns-clause-bound : goal.returns-clause-bound
returns-clause-bound c = rw (returns-clause-value c) (prefix_len-le-length _ c.args.text.now)
