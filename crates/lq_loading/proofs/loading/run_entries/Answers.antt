use Rattle.std.proofs.Common.{rules, tests, ◌≡◌, ◌∙◌, ◌+◌, ◌<◌, ◌∷◌, ap, drop, length, sym}
use Rattle.std.proofs.lemmas.List.{drop_more}
use Rattle.lq_store.specs.Journal.{run_texts}
use Rattle.lq_loading.proofs.Raises.{texts_damaged}
use Rattle.lq_loading.proofs.loading.run_entries.Goals as goal

pub returns-in-Ok-false : goal.returns-in-Ok-false
returns-in-Ok-false g c =
    let tested = c.loop-entry-test.true in
    let less : c.loop-entry.entry-index < length c.args.entries.now = search (rules, tests) in
    let rest = drop (c.loop-entry.entry-index + 1) c.args.entries.now in
    let here : drop c.loop-entry.entry-index c.args.entries.now ≡ c.entry-item.result ∷ rest =
    drop_more c.args.entries.now c.loop-entry.entry-index c.entry-item.result less ∙ ap (λ e. e ∷ rest) (sym c.entry-item.is) in
    let ran = ap (λ texts. run_texts g.P.SqlText.dialect texts (g.E.Executor.held c.loop-entry.engine).now) (sym c.as_slice.ensures) ∙ rw c.in-Ok-false.field-0-test at c.in-Ok-false.ensures in
    texts_damaged g.P.SqlText.dialect c.entry-item.result rest c.in-Texts.texts (g.E.Executor.held c.loop-entry.engine).now _ _ here c.in-Texts.is ran c.loop-entry.invariant.texts c.loop-entry.invariant.runs
