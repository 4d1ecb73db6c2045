use Rattle.std.proofs.Common.{rules, sym, true, ◌≡◌}
use Rattle.std.specs.List.{list_any}
use Rattle.lq_model.specs.Catalogue.{is_null, picked}
use Rattle.lq_rows.proofs.SeenLemmas as lemma
use Rattle.lq_keyops.proofs.equal.was_met.Goals as goal

pub returns-then-has_null : goal.returns-then-has_null
returns-then-has_null c =
    let null : list_any is_null (picked c.args.columns.now c.args.names.now c.args.row.now) ≡ true = search rules in
    record {
      was = λ none. sym (none _ null);
      after = lemma.null_added _ c.args.met.now null;
    }

pub returns-clause-after : goal.returns-clause-after
returns-clause-after c = lemma.added _ c.args.met.now c.insert.new.self (search rules) (search rules)
