use Rattle.std.proofs.Common.{rules, ◌≡◌}
use Rattle.std.specs.List.{insert}
use Rattle.lq_parts.specs.Taken.{place_of}
use Rattle.lq_parts.specs.Steps.{Entries}
use Rattle.lq_parts.proofs.StepLemmas as lemma
use Rattle.lq_parts.proofs.tables.put_in.Goals as goal

pub returns-clause-tables : goal.returns-clause-tables
returns-clause-tables c =
    let es : Entries = c.args.entries.now.items in
    let at : c.place-at.result ≡ place_of c.args.name es = search rules in
    let items : c.insert.new.self.items ≡ insert es c.place-at.result (c.args.name, c.args.held) = search rules in
    rw (items, at) (lemma.put_tables c.args.name c.args.held es c.requires.absent)

pub returns-clause-ordered : goal.returns-clause-ordered
returns-clause-ordered c =
    let es : Entries = c.args.entries.now.items in
    let at : c.place-at.result ≡ place_of c.args.name es = search rules in
    let items : c.insert.new.self.items ≡ insert es c.place-at.result (c.args.name, c.args.held) = search rules in
    rw (items, at) (lemma.put_ordered c.args.name c.args.held es c.requires.absent c.requires.ordered)
