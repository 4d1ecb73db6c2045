use Rattle.std.proofs.Common.{rules, ◌≡◌, true, false}
use Rattle.lq_parse.specs.Kinds.{has_text}
use Rattle.lq_parse.proofs.Kept.{keeps_none, keeps_text}
use Rattle.lq_parse.proofs.lexing.keep.Goals as goal

pub returns-in_ok-push-2-clause-even : goal.returns-in_ok-push-2-clause-even
returns-in_ok-push-2-clause-even c =
    let is : has_text c.args.word.kind ≡ true = search rules in
    (keeps_text c.args.word c.args.kinds.now c.push.new.self c.args.texts.now c.push-then-has_text.new.self is c.requires.even (search rules) (search rules)).even

pub returns-in_ok-push-2-clause-words : goal.returns-in_ok-push-2-clause-words
returns-in_ok-push-2-clause-words c =
    let is : has_text c.args.word.kind ≡ true = search rules in
    (keeps_text c.args.word c.args.kinds.now c.push.new.self c.args.texts.now c.push-then-has_text.new.self is c.requires.even (search rules) (search rules)).words

pub returns-else-has_text-clause-even : goal.returns-else-has_text-clause-even
returns-else-has_text-clause-even c =
    let is : has_text c.args.word.kind ≡ false = search rules in
    (keeps_none c.args.word c.args.kinds.now c.push.new.self c.args.texts.now c.args.texts.now is c.requires.text c.requires.even (search rules) (search rules)).even

pub returns-else-has_text-clause-words : goal.returns-else-has_text-clause-words
returns-else-has_text-clause-words c =
    let is : has_text c.args.word.kind ≡ false = search rules in
    (keeps_none c.args.word c.args.kinds.now c.push.new.self c.args.texts.now c.args.texts.now is c.requires.text c.requires.even (search rules) (search rules)).words
