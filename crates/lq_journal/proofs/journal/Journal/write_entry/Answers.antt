use Rattle.std.proofs.Common.{◌+◌, ◌≤◌, arith, subst, sym, IfSome}
use Rattle.lq_frames.specs.Body.{size_of, Stands}
use Rattle.lq_journal.proofs.Opened.{ready_stands}
use Rattle.lq_journal.proofs.journal.Journal.write_entry.Goals as goal

pub write_entry-requires-clause-stands : goal.write_entry-requires-clause-stands
write_entry-requires-clause-stands g c = ready_stands _ c.args.self.now c.requires.ready

pub returns-clause-ready : goal.returns-clause-ready
returns-clause-ready g c =
    let journal = c.args.self.now in
    let old = c.requires.ready.loaded in
    let least = old.used_least in
    let fits : journal.used + size_of (g.B.Encoded.says c.args.entry.now) ≤ journal.limit = c.requires.fits in
    record {
      loaded = record {
        limit_least = old.limit_least;
        limit_most = old.limit_most;
        used_least = omega (arith, least);
        used_most = rw (c.size.ensures.value) fits;
        stands = rw (c.size.ensures.value) (subst (λ p. IfSome (g.D.Disk.told c.write_entry.new.disk) (Stands p journal.dialect journal.limit (journal.used + size_of (g.B.Encoded.says c.args.entry.now)))) (sym c.requires.ready.prepared)
            c.in_ok-write_entry.ensures.stands);
      };
      prepared = c.requires.ready.prepared;
    }
