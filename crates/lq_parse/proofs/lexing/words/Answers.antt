use Rattle.std.proofs.Common.{rules, ◌≡◌, ◌∙◌, List, Some, ap, length, sym}
use Rattle.lq_model.specs.declared.word.Word.{Word}
use Rattle.lq_parse.specs.Kinds.{words_kept}
use Rattle.lq_parse.proofs.WordSteps.{done, step, stuck}
use Rattle.lq_parse.proofs.Utf8.{passed_more, passed_utf8}
use Rattle.lq_parse.proofs.lexing.words.Goals as goal

pub push_word-requires-clause-utf8 : goal.push_word-requires-clause-utf8
push_word-requires-clause-utf8 c =
    passed_utf8 c.args.dialect c.in-Some.lexeme.sort c.args.text.now c.loop-rest.rest.now c.in-Some.lexeme.bytes.now c.in-Some.lexeme.rest.now c.requires c.loop-rest.invariant.1
    (search rules) (search rules) (search rules) (search rules)

pub returns-in_default : goal.returns-in_default
returns-in_default c = stuck c.args.dialect _ (words_kept c.loop-rest.kinds c.loop-rest.texts) c.loop-rest.rest.now c.loop-rest.invariant.0 (search rules)

pub loop-rest-preserved : goal.loop-rest-preserved
loop-rest-preserved c = (
  step c.args.dialect _ (words_kept c.loop-rest.kinds c.loop-rest.texts) (words_kept c.push_word.new.kinds c.push_word.new.texts) c.loop-rest.rest.now c.in-Some.lexeme.sort c.in-Some.lexeme.bytes.now c.in-Some.lexeme.rest.now
      c.loop-rest.invariant.0 (search rules) (search rules),
  passed_more c.args.text.now c.loop-rest.rest.now c.in-Some.lexeme.bytes.now c.in-Some.lexeme.rest.now c.loop-rest.invariant.1 (search rules),
  search rules,
)

pub returns : goal.returns
returns c =
    let none : length c.loop-rest.rest.now ≡ 0 = search rules in
    let made : c.new.result ≡ words_kept c.loop-rest.kinds c.loop-rest.texts = search rules in
    done c.args.dialect _ (words_kept c.loop-rest.kinds c.loop-rest.texts) c.loop-rest.rest.now c.loop-rest.invariant.0 none ∙ ap (λ (ws : List Word). Some ws) (sym made)
