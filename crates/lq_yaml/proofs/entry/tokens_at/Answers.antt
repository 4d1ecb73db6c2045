use Rattle.std.proofs.Common.{rules, arith, ◌≡◌, ◌-◌, ◌==◌, ◌∷◌, IfOk, List, Option, length, option_map, subst, take, drop, true, false}
use Rattle.lq_yaml.specs.declared.token.Token.{Token}
use Rattle.lq_yaml.specs.Line.{is_dash}
use Rattle.lq_yaml.proofs.Pushed.{dash_kept, dash_passed, entry_kept, first_and}
use Rattle.lq_yaml.proofs.entry.tokens_at.Goals as goal

pub loop-rest-preserved : goal.loop-rest-preserved
loop-rest-preserved c =
    let rest = c.loop-rest.rest.now in
    let whole : rest ≡ c.c-item.result ∷ take (length rest - 1) (drop 1 rest) = first_and rest c.c-item.result (search rules) (search rules) in
    let other : (c.c-item.result == 32) ≡ false = search rules in
    let dash : is_dash c.c-item.result (take (length rest - 1) (drop 1 rest)) ≡ true = search rules in
    (dash_kept c.loop-rest.column rest c.c-item.result _ c.loop-rest.tokens.items _ _ c.loop-rest.invariant.0 whole other dash (omega arith) c.in_ok-push.ensures.items, search rules)

pub loop-rest-preserved-then-len-gt64 : goal.loop-rest-preserved-then-len-gt64
loop-rest-preserved-then-len-gt64 c =
    let rest = c.loop-rest.rest.now in
    let whole : rest ≡ c.c-item.result ∷ take (length rest - 1) (drop 1 rest) = first_and rest c.c-item.result (search rules) (search rules) in
    let other : (c.c-item.result == 32) ≡ false = search rules in
    let dash : is_dash c.c-item.result (take (length rest - 1) (drop 1 rest)) ≡ true = search rules in
    (dash_passed c.loop-rest.column rest c.c-item.result _ c.loop-rest.tokens.items _ c.loop-rest.invariant.0 whole other dash (omega arith), search rules)

pub returns-then-not-is_dash : goal.returns-then-not-is_dash
returns-then-not-is_dash c =
    let rest = c.loop-rest.rest.now in
    let whole : rest ≡ c.c-item.result ∷ take (length rest - 1) (drop 1 rest) = first_and rest c.c-item.result (search rules) (search rules) in
    let other : (c.c-item.result == 32) ≡ false = search rules in
    let none : is_dash c.c-item.result (take (length rest - 1) (drop 1 rest)) ≡ false = search rules in
    subst (λ (o : Option (List Token)). IfOk c.with_entry.result (λ v. option_map (λ v. v.items) v ≡ o))
    (entry_kept c.loop-rest.column rest c.c-item.result _ c.loop-rest.tokens.items _ c.loop-rest.invariant.0 whole other none) c.with_entry.ensures
