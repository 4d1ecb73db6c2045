use Rattle.std.proofs.Common.{rules, ◌≡◌, ◌∙◌, arith, ap, sym, None, option_map}
use Rattle.std.proofs.lemmas.Str.Pattern.{split_parts}
use Rattle.lq_props.proofs.Cuts.{cut_is, replaced_last}
use Rattle.lq_sources.proofs.values.is_plain_text.Goals as goal

pub returns : goal.returns
returns c = λ value is.
    let none : c.split_once.result ≡ None = search rules in
    replaced_last value c.args.text.now (sym (cut_is 125 c.args.text.now _ (split_parts 125 c.args.text.now _ c.split_once.ensures.cases (omega arith))) ∙ ap (λ found. option_map (λ x. (x.0.now, x.1.now)) found) none)
