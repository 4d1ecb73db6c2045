use Rattle.std.proofs.Common.{rules, ◌≡◌, true}
use Rattle.lq_yaml.specs.Meaning.{is_whole}
use Rattle.lq_yaml.proofs.Digits.{parsed}
use Rattle.lq_yaml.proofs.plain.whole_of.Goals as goal

pub returns : goal.returns
returns c =
    let whole : is_whole c.args.text.now ≡ true = search rules in
    parsed c.args.text.now c.parse.result c.ok.result c.parse.ensures.value.0 whole c.ok.ensures.value
