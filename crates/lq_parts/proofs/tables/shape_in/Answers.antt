use Rattle.std.proofs.Common.{refl, rules, ◌≡◌}
use Rattle.lq_parts.specs.Taken.{position_of}
use Rattle.lq_parts.specs.Steps.{Entries}
use Rattle.lq_rows.specs.Stored.{reshaped}
use Rattle.lq_parts.proofs.StepLemmas as lemma
use Rattle.lq_parts.proofs.tables.shape_in.Goals as goal

pub returns-clause-back : goal.returns-clause-back
returns-clause-back c =
    lemma.shape_back c.args.entries.now.items c.standing-at.result c.index_mut.result.now c.reshape-old.new.self c.args.shape c.reshape-old.result c.index_mut.ensures.value c.reshape-old.ensures.new c.reshape-old.ensures.old

pub returns-clause-tables : goal.returns-clause-tables
returns-clause-tables c =
    let es : Entries = c.args.entries.now.items in
    let x = c.index_mut.result.now in
    let at : c.standing-at.result ≡ position_of c.args.name.now es = search rules in
    let turned : c.reshape-old.new.self ≡ reshaped c.args.shape x.1 = search rules in
    rw (at, turned, lemma.set_tables c.args.name.now es x (reshaped c.args.shape x.1) (rw (← at) c.index_mut.ensures.value), lemma.the_table_is c.args.name.now es x c.requires.there (rw (← at) c.index_mut.ensures.value)) refl
