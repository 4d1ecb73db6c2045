use Rattle.lq_parse.proofs.ReadBack.{tests_read}
use Rattle.lq_parse.proofs.laws.tests_read_back.Goals as goal

pub returns : goal.returns
returns c =
    tests_read (record {
      go_on = c.lexemes_go_on.ensures;
      names = c.names_are_read.ensures;
      strings = c.texts_are_read.ensures;
      fixed = c.fixed_reads_back.ensures;
      spells = c.spells_gives_number_of.ensures;
    })
