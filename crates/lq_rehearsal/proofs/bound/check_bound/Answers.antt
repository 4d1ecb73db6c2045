use Rattle.std.proofs.Common.{ap, rules, sym, ◌∙◌}
use Rattle.std.specs.Option.{option_copied}
use Rattle.std.specs.Prelude.{Err, List, None, Some, ◌≡◌}
use Rattle.lq_back.specs.Bound.{first_bound}
use Rattle.lq_kinds.specs.declared.change_set.ChangeSet.{ChangeSet}
use Rattle.lq_kinds.specs.declared.change_set.Changelog.{Changelog}
use Rattle.lq_plan.specs.Told.{work}
use Rattle.lq_seen.specs.View.{views}
use Rattle.lq_tell.specs.declared.status.Status.TheVariants as status
use Rattle.lq_commands.specs.Scripts.{sets_in}
use Rattle.lq_rehearsal.proofs.Unbound.{bound_lacks, bound_passes, bound_refuses}
use Rattle.lq_rehearsal.proofs.bound.check_bound.Goals as goal

pub returns-in_err-turns : goal.returns-in_err-turns
returns-in_err-turns c =
    let is : c.from_residual.result ≡ Err status.OutOfMemory = search rules in
    bound_lacks (first_bound c.args.given.now.options.dialect (sets_in c.args.given.now) c.args.rows.now) c.from_residual.result is

pub returns-in-Some : goal.returns-in-Some
returns-in-Some c =
    let options = c.args.given.now.options in
    let rows = c.args.rows.now in
    let sets = c.as_slice-2.ensures ∙ ap (λ (g : Changelog). g.sets) c.get-changelog.ensures in
    let turns = c.as_slice.ensures ∙ (c.in_ok-turns.ensures ∙ ap (λ (xs : List ChangeSet). work (views options xs) rows) (sym c.as_slice-2.ensures)) in
    let is : Some c.in-Some.of.now ≡ option_copied c.first_bound.result = search rules in
    bound_refuses (first_bound options.dialect (sets_in c.args.given.now) rows) c.in-Some.of.now c.not_reversible.result
    (is ∙ (c.first_bound.ensures options rows turns ∙ ap (λ (xs : List ChangeSet). first_bound options.dialect (views options xs) rows) sets)) c.not_reversible.ensures

pub returns : goal.returns
returns c =
    let options = c.args.given.now.options in
    let rows = c.args.rows.now in
    let sets = c.as_slice-2.ensures ∙ ap (λ (g : Changelog). g.sets) c.get-changelog.ensures in
    let turns = c.as_slice.ensures ∙ (c.in_ok-turns.ensures ∙ ap (λ (xs : List ChangeSet). work (views options xs) rows) (sym c.as_slice-2.ensures)) in
    let is : None ≡ option_copied c.first_bound.result = search rules in
    bound_passes (first_bound options.dialect (sets_in c.args.given.now) rows) tt
    (is ∙ (c.first_bound.ensures options rows turns ∙ ap (λ (xs : List ChangeSet). first_bound options.dialect (views options xs) rows) sets))
