use Rattle.std.proofs.Common.{[], refl, rules, ◌++◌, ◌∷◌, ◌≡◌}
use Rattle.lq_chain.specs.History.{changed}
use Rattle.lq_parts.specs.Taken.{position_of}
use Rattle.lq_parts.specs.Steps.{Entries}
use Rattle.lq_rows.specs.Stored.{rows_of, with_rows}
use Rattle.lq_parts.proofs.StepLemmas as lemma
use Rattle.lq_parts.proofs.tables.append_in.Goals as goal

pub returns-clause-back : goal.returns-clause-back
returns-clause-back c =
    let x = c.index_mut.result.now in
    let grown : c.append.new.self ≡ with_rows (changed (rows_of x.1) (x.1.now.rows ++ c.args.row ∷ [])) c.args.next x.1 = search rules in
    rw (c.mark-mark.ensures, c.next-before.ensures) (lemma.rows_back c.args.entries.now.items c.standing-at.result x c.append.new.self _ _ c.index_mut.ensures.value grown)

pub returns-clause-place : goal.returns-clause-place
returns-clause-place c =
    let x = c.index_mut.result.now in
    let grown : c.append.new.self ≡ with_rows (changed (rows_of x.1) (x.1.now.rows ++ c.args.row ∷ [])) c.args.next x.1 = search rules in
    lemma.rows_place c.args.entries.now.items c.standing-at.result c.mark-mark.result c.next-before.result x c.append.new.self (x.1.now.rows ++ c.args.row ∷ []) c.args.next (search rules) c.mark-mark.ensures grown

pub returns-clause-tables : goal.returns-clause-tables
returns-clause-tables c =
    let es : Entries = c.args.entries.now.items in
    let x = c.index_mut.result.now in
    let at : c.standing-at.result ≡ position_of c.args.name.now es = search rules in
    let grown : c.append.new.self ≡ with_rows (changed (rows_of x.1) (x.1.now.rows ++ c.args.row ∷ [])) c.args.next x.1 = search rules in
    rw (at, grown, lemma.set_tables c.args.name.now es x (with_rows (changed (rows_of x.1) (x.1.now.rows ++ c.args.row ∷ [])) c.args.next x.1) (rw (← at) c.index_mut.ensures.value), lemma.the_table_is c.args.name.now es x c.requires.there (rw (← at) c.index_mut.ensures.value)) refl
