use Rattle.std.proofs.Common.{rules, true, ◌≡◌}
use Rattle.std.proofs.lemmas.List.Sorted.{IsPartitionPoint-from_clause}
use Rattle.std.specs.Ordering.{is_lt}
use Rattle.lq_base.specs.Name.{name_cmp}
use Rattle.lq_parts.proofs.EntryLemmas.{parted, place_end, place_is}
use Rattle.lq_parts.proofs.entries.place.Goals as goal

pub returns-then-is_lt-clause-value : goal.returns-then-is_lt-clause-value
returns-then-is_lt-clause-value g c =
    let less : is_lt (name_cmp c.in-Some.last.now.0 c.args.name.now) ≡ true = search rules in
    place_end c.args.name.now c.args.entries.now c.in-Some.field-0-1.now c.in-Some.last.now c.requires c.in-Some.ensures.cases.0 less

pub returns-clause-value : goal.returns-clause-value
returns-clause-value g c =
    let n = c.args.name.now in
    let es = c.args.entries.now in
    let point = IsPartitionPoint-from_clause (λ e. is_lt (name_cmp e.0 n)) es _ c.partition_point.ensures.partitioned (parted n es c.requires) (λ a r q k. search rules) in
    place_is n es c.partition_point.result c.partition_point.ensures.bound point.0 point.1
