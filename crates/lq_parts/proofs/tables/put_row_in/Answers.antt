use Rattle.std.proofs.Common.{length, refl, rules, slice_set, subst, ◌<◌, ◌≡◌}
use Rattle.lq_chain.specs.History.{changed}
use Rattle.lq_model.specs.Catalogue.{Table}
use Rattle.lq_parts.specs.Taken.{position_of}
use Rattle.lq_parts.specs.Steps.{Entries}
use Rattle.lq_rows.specs.Stored.{rows_of, with_rows}
use Rattle.lq_parts.proofs.StepLemmas as lemma
use Rattle.lq_parts.proofs.tables.put_row_in.Goals as goal

pub replace-requires : goal.replace-requires
replace-requires c =
    let es : Entries = c.args.entries.now.items in
    let at : c.standing-place.result ≡ position_of c.args.name.now es = search rules in
    subst (λ (it : Table). c.args.at < length it.rows) (lemma.the_table_is c.args.name.now es c.index_mut.result.now c.requires.there (rw (← at) c.index_mut.ensures.value)) c.requires.within

pub returns-clause-back : goal.returns-clause-back
returns-clause-back c =
    let x = c.index_mut.result.now in
    let grown : c.replace.new.self ≡ with_rows (changed (rows_of x.1) (slice_set x.1.now.rows c.args.at c.args.row)) x.1.now.next x.1 = search rules in
    rw (c.mark-mark.ensures, c.next-next.ensures) (lemma.rows_back c.args.entries.now.items c.standing-place.result x c.replace.new.self _ _ c.index_mut.ensures.value grown)

pub returns-clause-place : goal.returns-clause-place
returns-clause-place c =
    let x = c.index_mut.result.now in
    let grown : c.replace.new.self ≡ with_rows (changed (rows_of x.1) (slice_set x.1.now.rows c.args.at c.args.row)) x.1.now.next x.1 = search rules in
    lemma.rows_place c.args.entries.now.items c.standing-place.result c.mark-mark.result c.next-next.result x c.replace.new.self (slice_set x.1.now.rows c.args.at c.args.row) x.1.now.next (search rules) c.mark-mark.ensures grown

pub returns-clause-tables : goal.returns-clause-tables
returns-clause-tables c =
    let es : Entries = c.args.entries.now.items in
    let x = c.index_mut.result.now in
    let at : c.standing-place.result ≡ position_of c.args.name.now es = search rules in
    let grown : c.replace.new.self ≡ with_rows (changed (rows_of x.1) (slice_set x.1.now.rows c.args.at c.args.row)) x.1.now.next x.1 = search rules in
    rw (at, grown, lemma.set_tables c.args.name.now es x (with_rows (changed (rows_of x.1) (slice_set x.1.now.rows c.args.at c.args.row)) x.1.now.next x.1) (rw (← at) c.index_mut.ensures.value), lemma.the_table_is c.args.name.now es x c.requires.there (rw (← at) c.index_mut.ensures.value)) refl
