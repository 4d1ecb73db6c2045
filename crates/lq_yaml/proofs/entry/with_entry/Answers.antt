use Rattle.std.proofs.Common.{rules, ◌≡◌, IfOk, List, ◌++◌, Option, Some, None, option_map, subst}
use Rattle.lq_yaml.specs.declared.token.Token.{Token}
use Rattle.lq_yaml.specs.Line.{key}
use Rattle.lq_yaml.proofs.Pushed.{entry_none, entry_some}
use Rattle.lq_yaml.proofs.entry.with_entry.Goals as goal

pub returns-in_ok-push-in-Some : goal.returns-in_ok-push-in-Some
returns-in_ok-push-in-Some c =
    let some : key c.args.from.now ≡ Some (c.in-Some.chars.items, c.in-Some.rest.now) = search rules in
    subst (λ (o : Option (List Token)). IfOk c.with_rest.result (λ v. option_map (λ v. v.items) v ≡ o))
    (entry_some c.args.column c.args.from.now _ c.in-Some.rest.now _ c.in_ok-key-in-Some.key c.args.tokens.items _ some (search rules) c.without_blanks.ensures.rest c.in_ok-push-in-Some.ensures.items)
    c.with_rest.ensures

pub returns-in-None : goal.returns-in-None
returns-in-None c =
    let none : key c.args.from.now ≡ None = search rules in
    subst (λ (o : Option (List Token)). IfOk c.with_value.result (λ v. option_map (λ v. v.items) v ≡ option_map (λ ts. c.args.tokens.items ++ ts) o))
    (entry_none c.args.column c.args.from.now none) c.with_value.ensures
