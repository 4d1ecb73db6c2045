use Rattle.std.proofs.Common.{◌∙◌, None, Some, Err, ap}
use Rattle.lq_model.specs.declared.fault.AskFault.TheVariants.{Refused}
use Rattle.lq_query.specs.Source.{source_meant}
use Rattle.lq_query.proofs.AskedLemmas.{asked}
use Rattle.lq_query.proofs.asked.answer.Goals as goal
use Rattle.std.specs.Option.{option_map}

pub returns-in-Some : goal.returns-in-Some
returns-in-Some c catalogue same =
    asked c.args.by c.args.query.now catalogue (Some (source_meant c.in-Some.source)) c.answer_at.result (same ∙ ap (option_map source_meant) c.in-Some.is) c.answer_at.ensures

pub returns-in-None : goal.returns-in-None
returns-in-None c catalogue same =
    asked c.args.by c.args.query.now catalogue None (Err (Refused c.nothing_there.result)) (same ∙ ap (option_map source_meant) c.in-None.is) c.nothing_there.ensures
