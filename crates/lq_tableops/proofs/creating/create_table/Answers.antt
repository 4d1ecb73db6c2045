use Rattle.std.proofs.Common.{Err, None, Ok, ap, subst, sym, ◌∙◌, ◌≡◌}
use Rattle.lq_chain.specs.History.{History, changed}
use Rattle.lq_model.specs.Catalogue.{Catalogue, table_of, with_new}
use Rattle.lq_model.specs.Tables as spec
use Rattle.lq_decide.specs.Faults.{create_table_faults}
use Rattle.lq_decide.proofs.Tables.{create_table_judged}
use Rattle.lq_model.specs.Plan.{decide}
use Rattle.lq_rows.specs.Stored.{Answers}
use Rattle.lq_rows.proofs.Continued.{goes_on}
use Rattle.lq_arm.proofs.Arms as arm
use Rattle.lq_tableops.proofs.CreateLemmas as lemma
use Rattle.lq_tableops.proofs.creating.create_table.Goals as goal

pub returns-in-Err : goal.returns-in-Err
returns-in-Err c =
    let db = c.args.parts.now.now in
    let new = c.args.new.now in
    let plan = spec.create_table c.args.by c.args.dialect new.name.now new.columns.now new.key.now new.uniques.now new.foreign.now db in
    let faults = create_table_faults new.name.now new.columns.now new.key.now new.uniques.now new.foreign.now db in
    subst (λ (h : History Catalogue). Answers (decide plan) c.args.parts.now h (Err c.in-Err.fault)) (sym c.in_ok-tests.ensures.same) (arm.arm_refused plan faults c.args.parts.now c.in_ok-tests.tests c.verdict.result c.in-Err.fault
    (create_table_judged c.args.by c.args.dialect new.name.now new.columns.now new.key.now new.uniques.now new.foreign.now db c.requires) c.in_ok-tests.ensures.tests c.verdict.ensures c.in-Err.is)

pub put_table-requires : goal.put_table-requires
put_table-requires c =
    let db = c.args.parts.now.now in
    let new = c.args.new.now in
    subst (λ (h : History Catalogue). table_of h.now c.in_ok-name.name ≡ None) (sym c.in_ok-tests.ensures.same) (subst (λ n. table_of db n ≡ None) (sym c.in_ok-name.ensures)
    (lemma.is_free c.args.by c.args.dialect new.name.now new.columns.now new.key.now new.uniques.now new.foreign.now db c.in_ok-tests.tests c.verdict.result c.in_ok-tests.ensures.tests c.verdict.ensures c.in-Ok.is))

pub returns : goal.returns
returns c =
    let db = c.args.parts.now.now in
    let new = c.args.new.now in
    let plan = spec.create_table c.args.by c.args.dialect new.name.now new.columns.now new.key.now new.uniques.now new.foreign.now db in
    let faults = create_table_faults new.name.now new.columns.now new.key.now new.uniques.now new.foreign.now db in
    let same = lemma.put_is c.args.by c.args.dialect new.name.now new.columns.now new.key.now new.uniques.now new.foreign.now db c.in_ok-name.name c.in_ok-made.made c.in_ok-shape.shape c.in_ok-held.held c.in_ok-name.ensures c.in_ok-made.ensures c.in_ok-shape.ensures c.in_ok-held.ensures in
    let put = c.in_ok-put_table.ensures.ok ∙ ap (λ (h : History Catalogue). changed h (with_new h.now c.in_ok-name.name c.in_ok-held.held.now)) c.in_ok-tests.ensures.same in
    rw (put) (
      arm.arm_passes plan faults c.in_ok-tests.tests c.verdict.result (create_table_judged c.args.by c.args.dialect new.name.now new.columns.now new.key.now new.uniques.now new.foreign.now db c.requires) c.in_ok-tests.ensures.tests c.verdict.ensures c.in-Ok.is
          ∙ ap (λ e. Ok (e, 0)) (sym same),
      goes_on c.args.parts.now _,
    )
