use Rattle.std.proofs.Common.{ap, refl, ◌∙◌}
use Rattle.std.specs.List.{list_all}
use Rattle.lq_any.specs.AnyChange.{is_for}
use Rattle.lq_sets.proofs.Texts.{run_read}
use Rattle.lq_sets.proofs.in_hand.InHand.new.Goals as goal
use Rattle.lq_sets.specs.Counting.{begins_from}

pub beginnings-requires : goal.beginnings-requires
beginnings-requires c = record { read = ap (list_all (is_for c.args.dialect)) c.changes_run.ensures ∙ run_read c.args.dialect c.args.choice c.args.set.now.changes c.requires.read }

pub returns : goal.returns
returns c = record {
  identity = c.in_ok-identity.ensures;
  choice_is = refl;
  stops = refl;
  not_fresh = refl;
  begins = c.in_ok-beginnings.ensures ∙ ap (begins_from c.args.dialect 0) c.changes_run.ensures;
}
