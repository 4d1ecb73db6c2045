use Rattle.std.proofs.Common.{◌++◌}
use Rattle.std.proofs.lemmas.List.{append-nil}
use Rattle.lq_words.specs.Words.{place_text}
use Rattle.lq_report.proofs.Appended.{on_ok, one}
use Rattle.lq_report.proofs.parts.append_place.Goals as goal

pub returns-in-None : goal.returns-in-None
returns-in-None c = on_ok c.push_all.result c.push_all.ensures.ok (λ is. one _ _ _ (c.args.before.now ++ (place_text c.args.place ++ c.args.after.now)) is (simp (append-nil, c.in-None.is)))
