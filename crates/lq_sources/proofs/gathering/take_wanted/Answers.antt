use Rattle.std.proofs.Common.{Err, ap, refl, rules, subst, sym, ◌∙◌, ◌≡◌, ◌⊎◌}
use Rattle.lq_sources.specs.Items.{SoFar, so_far, with_file}
use Rattle.lq_sources.specs.Walk.{held}
use Rattle.lq_sources.specs.declared.fault.LoadFault.TheVariants.{OutOfMemory}
use Rattle.lq_sources.proofs.Steps.{AtWanted, Turn, wanted_init, wanted_next, wanted_not_taken}
use Rattle.lq_sources.proofs.gathering.take_wanted.Goals as goal

pub loop-wants-init : goal.loop-wants-init
loop-wants-init g c = (
  wanted_init (g.G.Gather.means c.args.gather.now) c.args.is_root c.args.path.now c.args.i c.args.entry.now.0 c.args.entry.now.1 _ _ (held c.args.reading.now c.args.gathered.now) c.new-given.result c.in_ok-wants.wants c.try_item.new.gathered c.new-given.ensures
      (ap (λ bs. Turn (g.G.Gather.means c.args.gather.now) c.args.is_root c.args.path.now c.args.i c.args.entry.now.0 c.args.entry.now.1 bs c.args.gathered.now) (sym c.as_slice.ensures) ∙ c.in_ok-wants.ensures),
  refl,
)

pub loop-wants-preserved : goal.loop-wants-preserved
loop-wants-preserved g c =
    let inv = c.loop-wants.invariant in
    let at = subst (λ w. AtWanted (g.G.Gather.means c.args.gather.now) c.args.is_root c.args.path.now c.args.i c.args.entry.now.0 c.args.entry.now.1 (g.F.Files.told c.args.files.now) (g.F.Files.told c.loop-wants.files) (g.F.Files.faults c.args.files.now) (g.F.Files.faults c.loop-wants.files) (held c.args.reading.now c.args.gathered.now) c.loop-wants.given (so_far c.loop-wants.reading) c.loop-wants.gathered w) c.in-Some.is inv.0 in (
      wanted_next (g.G.Gather.means c.args.gather.now) c.args.is_root c.args.path.now c.args.i c.args.entry.now.0 c.args.entry.now.1 (g.F.Files.told c.args.files.now) (g.F.Files.told c.loop-wants.files) _ (g.F.Files.faults c.args.files.now) (g.F.Files.faults c.loop-wants.files) _ (held c.args.reading.now c.args.gathered.now)
          c.loop-wants.given c.push.new.self (so_far c.loop-wants.reading) (so_far c.count_file.new.self) c.loop-wants.gathered c.in-Some.it c.in_ok-bytes.bytes c.in_ok-next.next c.try_item-in-Some.new.gathered at c.in_ok-bytes.ensures.told c.in_ok-bytes.ensures.later c.in_ok-bytes.ensures.few
          (c.count_file.ensures ∙ ap (λ n. with_file n (so_far c.loop-wants.reading)) c.len.ensures) c.in_ok-push.ensures.ok c.in_ok-bytes.ensures.found
          (ap (λ bs. Turn (g.G.Gather.means c.args.gather.now) c.args.is_root c.args.path.now c.args.i c.args.entry.now.0 c.args.entry.now.1 bs c.loop-wants.gathered) (sym c.as_slice-in-Some.ensures) ∙ c.in_ok-next.ensures),
      ap (λ (s : SoFar). s.sets) c.count_file.ensures ∙ inv.1,
    )

pub returns-in_err-next-clause-reads : goal.returns-in_err-next-clause-reads
returns-in_err-next-clause-reads g c =
    let inv = c.loop-wants.invariant in
    let at = subst (λ w. AtWanted (g.G.Gather.means c.args.gather.now) c.args.is_root c.args.path.now c.args.i c.args.entry.now.0 c.args.entry.now.1 (g.F.Files.told c.args.files.now) (g.F.Files.told c.loop-wants.files) (g.F.Files.faults c.args.files.now) (g.F.Files.faults c.loop-wants.files) (held c.args.reading.now c.args.gathered.now) c.loop-wants.given (so_far c.loop-wants.reading) c.loop-wants.gathered w) c.in-Some.is inv.0 in
    wanted_not_taken (g.G.Gather.means c.args.gather.now) c.args.is_root c.args.path.now c.args.i c.args.entry.now.0 c.args.entry.now.1 (g.F.Files.told c.args.files.now) (g.F.Files.told c.loop-wants.files) (g.F.Files.faults c.args.files.now) (g.F.Files.faults c.loop-wants.files) (held c.args.reading.now c.args.gathered.now)
    c.loop-wants.given c.push.new.self (so_far c.loop-wants.reading) c.loop-wants.gathered c.in-Some.it c.in_ok-bytes.bytes _ c.in_err-next.field-0.0 _ (search rules) at c.in_ok-bytes.ensures.few c.in_ok-push.ensures.ok c.in_ok-bytes.ensures.found
    (subst (λ bs. (c.in_err-next.field-0.0 ≡ OutOfMemory) ⊎ (Turn (g.G.Gather.means c.args.gather.now) c.args.is_root c.args.path.now c.args.i c.args.entry.now.0 c.args.entry.now.1 bs c.loop-wants.gathered ≡ Err c.in_err-next.field-0.0)) c.as_slice-in-Some.ensures c.in_err-next.ensures.0)
