use Rattle.std.proofs.Common.{rules, ap, ◌∙◌, append_assoc}
use Rattle.lq_model.specs.TestText.{test_text, test_text_of_and, test_text_of_not, test_text_of_or}
use Rattle.lq_sql.proofs.test.TestSpell.+spell.Goals as goal

pub returns-in_ok-spell-in-And-2 : goal.returns-in_ok-spell-in-And-2
returns-in_ok-spell-in-And-2 t c =
    rw (ap (test_text c.args.style.dialect) c.in-And.is ∙ test_text_of_and c.args.style.dialect c.in-And.a c.in-And.b) (search (rules, append_assoc))

pub returns-in_ok-spell-in-Or-2 : goal.returns-in_ok-spell-in-Or-2
returns-in_ok-spell-in-Or-2 t c =
    rw (ap (test_text c.args.style.dialect) c.in-Or.is ∙ test_text_of_or c.args.style.dialect c.in-Or.a c.in-Or.b) (search (rules, append_assoc))

pub returns-in_ok-spell-in-Not : goal.returns-in_ok-spell-in-Not
returns-in_ok-spell-in-Not t c =
    rw (ap (test_text c.args.style.dialect) c.in-Not.is ∙ test_text_of_not c.args.style.dialect c.in-Not.a) (search (rules, append_assoc))
