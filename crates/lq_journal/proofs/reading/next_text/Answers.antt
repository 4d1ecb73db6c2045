use Rattle.std.proofs.Common.{◌-◌, length, take, drop}
use Rattle.std.proofs.lemmas.List.{take_rest}
use Rattle.lq_journal.proofs.Read.{text_cut}
use Rattle.lq_journal.proofs.reading.next_text.Goals as goal

pub returns : goal.returns
returns c =
    text_cut c.args.bytes.now (take (length c.args.bytes.now - 4) (drop 4 c.args.bytes.now)) c.split_at.result.0.now c.split_at.result.1.now c.in-Some.len
    c.in-Some.ensures.2 c.in-Some.ensures.0 (take_rest c.args.bytes.now 4) c.split_at.ensures.front c.split_at.ensures.back c.if-len-rest.false
