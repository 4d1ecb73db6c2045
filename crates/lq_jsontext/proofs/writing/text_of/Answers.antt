use Rattle.std.proofs.Common.{ap, ◌∙◌}
use Rattle.serde_json.specs.Written.{compact_text, has_float}
use Rattle.lq_jsontext.specs.JsonText.{json_text}
use Rattle.lq_jsontext.proofs.NoFloats.{no_float}
use Rattle.lq_jsontext.proofs.writing.text_of.Goals as goal

pub returns-clause-text : goal.returns-clause-text
unfolding json_text
returns-clause-text c =
    let same = c.in_ok-value.ensures in
    c.in_ok-to_string.ensures.text (ap has_float same ∙ no_float c.args.tree.now) ∙ ap compact_text same
