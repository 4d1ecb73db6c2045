use Rattle.lq_parse.proofs.Precedence.{not_and_or_bind_in_turn}
use Rattle.lq_parse.proofs.laws.not_and_or_bind_in_turn.Goals as goal

pub returns : goal.returns
returns c =
    not_and_or_bind_in_turn (record {
      go_on = c.lexemes_go_on.ensures;
      names = c.names_are_read.ensures;
      strings = c.texts_are_read.ensures;
      fixed = c.fixed_reads_back.ensures;
      spells = c.spells_gives_number_of.ensures;
    })
