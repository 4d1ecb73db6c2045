use Rattle.std.proofs.Common.{rules, ◌≡◌, ◌++◌, map, true, false, [], ◌<◌, ◌≤◌, length, sym, ap, ◌∙◌, Bor}
use Rattle.std.proofs.lemmas.List.{take_all}
use Rattle.clap.specs.Walk.{Text}
use Rattle.clap.specs.Simple.{app_of}
use Rattle.lq_cli.specs.Options.{command_of, rules_of}
use Rattle.lq_option.specs.Rules.{option}
use Rattle.lq_cli.specs.Table.{takes}
use Rattle.lq_cli.proofs.Forms.{next_option, last_define}
use Rattle.lq_cli.proofs.building.command_for.Goals as goal

pub loop-name-preserved : goal.loop-name-preserved
loop-name-preserved c =
    let lt : c.loop-name.name-index < length c.args.form.required.now = search rules in
    next_option _ _ true [] c.args.form.required.now c.loop-name.name-index _ lt c.in_ok-command.ensures c.loop-name.invariant

pub loop-name-2-preserved : goal.loop-name-2-preserved
loop-name-2-preserved c =
    let lt : c.loop-name-2.name-index < length c.args.form.optional.now = search rules in
    next_option _ _ false (map (option true) (map (λ w. w.now) c.args.form.required.now)) c.args.form.optional.now c.loop-name-2.name-index _ lt c.in_ok-command-2.ensures c.loop-name-2.invariant

pub returns-then-form : goal.returns-then-form
returns-then-form c =
    let now : Bor Text → Text = λ w. w.now in
    let required = map now c.args.form.required.now in
    let optional = map now c.args.form.optional.now in
    let past : length c.args.form.optional.now ≤ c.loop-name-2.name-index = search rules in
    let whole = take_all c.loop-name-2.name-index c.args.form.optional.now past in
    let yes : c.args.form.defines ≡ true = c.if-form.true in
    let was : app_of c.loop-name-2.command ≡ command_of (map (option true) required ++ map (option false) optional) =
    c.loop-name-2.invariant ∙ ap (λ xs. command_of (map (option true) required ++ map (option false) (map now xs))) whole in
    last_define _ _ _ _ (c.in_ok-arg.ensures.shape c.define.ensures.local) c.define.ensures.rule was ∙ ap (λ d. command_of (rules_of (takes required optional d))) (sym yes)
