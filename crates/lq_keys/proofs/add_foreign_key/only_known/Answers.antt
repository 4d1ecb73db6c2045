use Rattle.lq_keys.proofs.add_foreign_key.only_known.Goals as goal

pub returns : goal.returns
returns c = rw (
  ← c.is_false_at.ensures,
  ← c.or_remarks.ensures,
  ← c.is_false_at-2.ensures,
  ← c.or_remarks-2.ensures,
  ← c.is_true_at.ensures,
  ← c.or_remarks-3.ensures,
  ← c.is_idle_at.ensures,
  ← c.or_remarks-4.ensures,
) c.known.ensures
