use Rattle.std.proofs.Common.{◌≡◌, ◌++◌, rules, List, ℕ}
use Rattle.std.specs.Str.Pattern.{StripsPrefix, FindsTextPrefix}
use Rattle.lq_cli.proofs.Starts.{file_some}
use Rattle.lq_cli.proofs.values.file_after.Goals as goal

stripped : (n s x : List ℕ) → StripsPrefix (FindsTextPrefix n) s x → s ≡ n ++ x
stripped n s x h = search rules

pub returns-then-is_empty : goal.returns-then-is_empty
returns-then-is_empty c =
    let e = stripped c.args.start.now c.args.text.now c.in-Some.file.now (search rules) in
    rw (file_some _ _ _ e) (search rules)

pub returns-else-is_empty : goal.returns-else-is_empty
returns-else-is_empty c =
    let e = stripped c.args.start.now c.args.text.now c.in-Some.file.now (search rules) in
    rw (file_some _ _ _ e) (search rules)
