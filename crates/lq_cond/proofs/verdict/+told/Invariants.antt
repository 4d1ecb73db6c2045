use Rattle.std.proofs.Common.{◌++◌, ◌≡◌, drop, map}
use Rattle.lq_cond.specs.Told.{told}
use Rattle.lq_verdicts.specs.Verdict.{each_told, map_told}
use Rattle.lq_cond.proofs.verdict.+told.Given as goal

abbrev pub invariant-each_told-loop-cond : goal.invariant-each_told-loop-cond
invariant-each_told-loop-cond g l =
    each_told (map (λ cond. told l.fn.dialect cond (g.K.Look.catalogue l.fn.look) l.fn.rows) l.conds)
    ≡ map_told (λ bs. l.all ++ bs) (each_told (map (λ cond. told l.fn.dialect cond (g.K.Look.catalogue l.fn.look) l.fn.rows) (drop l.cond-index l.conds)))
