use Rattle.std.proofs.Common.{ap, sym, ◌∙◌}
use Rattle.lq_players.proofs.Results.{ok_map}
use Rattle.lq_players.specs.AtOnce.{listed_by, sets_of}
use Rattle.lq_players.proofs.at_once.AtOnce.listed.Goals as goal

pub returns-in-Status : goal.returns-in-Status
returns-in-Status c = ok_map c.pending_of.result _ _ c.pending_of.ensures (λ list is. is ∙ sym (ap (λ what. listed_by what (sets_of c.args.self.now) c.args.rows.now) c.in-Status.is))

pub returns-in-Validate : goal.returns-in-Validate
returns-in-Validate c = c.new.ensures ∙ sym (ap (λ what. listed_by what (sets_of c.args.self.now) c.args.rows.now) c.in-Validate.is)

pub returns-in-Tag : goal.returns-in-Tag
returns-in-Tag c = c.new-in-Tag.ensures ∙ sym (ap (λ what. listed_by what (sets_of c.args.self.now) c.args.rows.now) c.in-Tag.is)

pub returns-in-Release : goal.returns-in-Release
returns-in-Release c = c.new-in-Release.ensures ∙ sym (ap (λ what. listed_by what (sets_of c.args.self.now) c.args.rows.now) c.in-Release.is)
