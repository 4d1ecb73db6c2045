use Rattle.lq_parse.proofs.QueryAgain.{queries_read}
use Rattle.lq_parse.proofs.laws.queries_read_back.Goals as goal

pub returns : goal.returns
returns c =
    queries_read (record {
      go_on = c.lexemes_go_on.ensures;
      names = c.names_are_read.ensures;
      strings = c.texts_are_read.ensures;
      fixed = c.fixed_reads_back.ensures;
      spells = c.spells_gives_number_of.ensures;
    })
