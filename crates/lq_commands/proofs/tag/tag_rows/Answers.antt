use Rattle.std.proofs.Common.{ap, rules, ◌∙◌}
use Rattle.std.specs.Prelude.{option_map}
use Rattle.lq_commands.proofs.Commanded.{kept_none, none_of, passed, refused_as}
use Rattle.lq_commands.proofs.Endings.{untouched_crashes, untouched_works}
use Rattle.lq_commands.specs.Refusals.{untagged}
use Rattle.lq_track.specs.Log.{identity_of}
use Rattle.lq_turns.specs.Script.{last_row, tag_calls}
use Rattle.lq_commands.proofs.tag.tag_rows.Goals as goal

pub returns-in_err-of-clause-answers : goal.returns-in_err-of-clause-answers
returns-in_err-of-clause-answers g c = refused_as _ (untagged c.args.rows.now) c.in_err-of.field-0.0 _ c.in_err-of.ensures.passes (search rules)

pub tag_last-requires-clause-last : goal.tag_last-requires-clause-last
tag_last-requires-clause-last g c = λ database has. ap (λ rows. option_map identity_of (last_row rows)) (c.requires.rows database has) ∙ c.in_ok-of.ensures.last

pub returns-clause-answers : goal.returns-clause-answers
returns-clause-answers g c = passed (untagged c.args.rows.now) c.in_ok-of.of c.tag_last.result c.in_ok-of.ensures.passes c.tag_last.ensures.answers

pub returns-clause-refused : goal.returns-clause-refused
returns-clause-refused g c = kept_none (untagged c.args.rows.now) c.args.store.now c.tag_last.new.store (none_of (untagged c.args.rows.now) c.in_ok-of.of c.in_ok-of.ensures.passes)

-- where there is no row nothing is called

pub returns-in_err-of-clause-works : goal.returns-in_err-of-clause-works
returns-in_err-of-clause-works g c = λ database has.
    let calls = tag_calls c.args.tag.now database in
    let x = g.S.Store.state c.args.store.now in
    untouched_works c.args.dialect calls database x _ c.in_err-of.field-0.0 (search rules) has

pub returns-in_err-of-clause-any_moment : goal.returns-in_err-of-clause-any_moment
returns-in_err-of-clause-any_moment g c = λ database has.
    untouched_crashes c.args.dialect (tag_calls c.args.tag.now database) database (g.S.Store.state c.args.store.now) (g.S.Store.crashes c.args.store.now)
