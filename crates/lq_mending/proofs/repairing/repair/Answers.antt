use Rattle.std.proofs.Common.{ap, arith, refl, rules}
use Rattle.std.specs.Prelude.{Err, [], length, ◌++◌, ◌∷◌, ◌≡◌}
use Rattle.laws_repair.specs.Repair.{repair_calls, undo_calls}
use Rattle.lq_run.proofs.Counting.{rose_later}
use Rattle.lq_run.proofs.Since.{leave_none}
use Rattle.lq_turns.specs.Script.{closing}
use Rattle.lq_turns.specs.Session.{session_on}
use Rattle.lq_mending.proofs.Barred.{front_keeps}
use Rattle.lq_mending.proofs.Behind.{behind, full, leaves, moments}
use Rattle.lq_mending.proofs.Fitting.{repair_fits}
use Rattle.lq_mending.proofs.Whole.{begins, database_rests, disk_end, ends_freed, freed_crash, freed_so, goes_on, no_rest, one_crash, spelled_before, stops, stops_so}
use Rattle.lq_mending.specs.Comes.{LeftOf, at_end}
use Rattle.lq_mending.proofs.repairing.repair.Goals as goal

pub loop-statement-init : goal.loop-statement-init
loop-statement-init g c = record {
  valid = c.requires.valid;
  spelled = c.requires.statements;
  got = λ start s rests. begins c.args.of.now.dialect c.args.of.now.who.now c.args.of.now.identity.now c.args.session c.args.statements.now start (g.S.Store.state c.args.store.now) s rests;
  crash = λ start s tail rests. leave_none start.entries (LeftOf c.args.of.now.dialect (at_end c.args.of.now.dialect (undo_calls c.args.of.now.dialect c.args.of.now.who.now c.args.of.now.identity.now 1 c.args.statements.now) tail s)) (g.S.Store.crashes c.args.store.now);
  later = search rules;
}

pub take_back-requires-clause-statement : goal.take_back-requires-clause-statement
take_back-requires-clause-statement g c =
    let is : c.loop-statement.rest.now ≡ c.in-Some.before.now ++ c.in-Some.statement.now ∷ [] = search rules in
    (spelled_before c.args.of.now.dialect c.args.of.now.who.now c.args.of.now.identity.now c.args.session c.loop-statement.rest.now c.in-Some.before.now c.in-Some.statement.now (length c.loop-statement.rest.now) is refl c.loop-statement.invariant.spelled).1

pub take_back-requires-clause-rests : goal.take_back-requires-clause-rests
take_back-requires-clause-rests g c =
    let k = c.requires.may in
    let got = c.loop-statement.invariant.got (g.S.Store.state c.args.store.now) (session_on k.database) (database_rests c.args.of.now.dialect c.args.session (g.S.Store.state c.args.store.now) k.database k.has k.row) in
    record { start = (g.S.Store.state c.args.store.now); session = got.session; is = got.rests }

pub loop-statement-preserved : goal.loop-statement-preserved
loop-statement-preserved g c =
    let is : c.loop-statement.rest.now ≡ c.in-Some.before.now ++ c.in-Some.statement.now ∷ [] = search rules in
    record {
      valid = c.in-Ok.ensures.valid;
      spelled = (spelled_before c.args.of.now.dialect c.args.of.now.who.now c.args.of.now.identity.now c.args.session c.loop-statement.rest.now c.in-Some.before.now c.in-Some.statement.now (length c.loop-statement.rest.now) is refl c.loop-statement.invariant.spelled).0;
      got = λ start s rests. goes_on c.args.of.now.dialect c.args.of.now.who.now c.args.of.now.identity.now c.args.session c.loop-statement.rest.now c.in-Some.before.now c.in-Some.statement.now (length c.loop-statement.rest.now) is refl c.args.statements.now start (g.S.Store.state c.loop-statement.store) (g.S.Store.state c.take_back.new.store) s (c.loop-statement.invariant.got start s rests) c.in-Ok.ensures.takes;
      crash = λ start s tail rests. one_crash c.args.of.now.dialect c.args.of.now.who.now c.args.of.now.identity.now c.args.session c.loop-statement.rest.now c.in-Some.before.now c.in-Some.statement.now (length c.loop-statement.rest.now) is refl c.args.statements.now start (g.S.Store.state c.loop-statement.store) s tail (g.S.Store.crashes c.args.store.now) (g.S.Store.crashes c.loop-statement.store) (g.S.Store.crashes c.take_back.new.store) (c.loop-statement.invariant.got start s rests) c.take_back.ensures.crash (c.loop-statement.invariant.crash start s tail rests);
      later = omega (arith, c.loop-statement.invariant.later, c.take_back.ensures.later);
    }

pub free-requires-clause-rests : goal.free-requires-clause-rests
free-requires-clause-rests g c =
    let k = c.requires.may in
    let got = c.loop-statement.invariant.got (g.S.Store.state c.args.store.now) (session_on k.database) (database_rests c.args.of.now.dialect c.args.session (g.S.Store.state c.args.store.now) k.database k.has k.row) in
    record { start = (g.S.Store.state c.args.store.now); session = got.session; is = got.rests }

pub returns-in-Err-clause-leaves : goal.returns-in-Err-clause-leaves
returns-in-Err-clause-leaves g c = λ database has row.
    let is : c.loop-statement.rest.now ≡ c.in-Some.before.now ++ c.in-Some.statement.now ∷ [] = search rules in
    let d = c.args.of.now.dialect in
    let calls = repair_calls d c.args.of.now.who.now c.args.of.now.identity.now c.args.statements.now database in
    let fit = repair_fits d c.args.of.now.who.now c.args.of.now.identity.now c.args.statements.now database c.requires.statements row in
    let rests = database_rests d c.args.session (g.S.Store.state c.args.store.now) database has row in
    let got = c.loop-statement.invariant.got (g.S.Store.state c.args.store.now) (session_on database) rests in
    leaves c.statements_read_back.ensures d c.args.session (g.S.Store.state c.args.store.now) (g.S.Store.state c.take_back.new.store) database has calls fit c.in-Err.end (stops c.args.of.now.dialect c.args.of.now.who.now c.args.of.now.identity.now c.args.session c.loop-statement.rest.now c.in-Some.before.now c.in-Some.statement.now (length c.loop-statement.rest.now) is refl c.args.statements.now (g.S.Store.state c.args.store.now) (g.S.Store.state c.loop-statement.store) (g.S.Store.state c.take_back.new.store) (session_on database) c.in-Err.end got c.in-Err.ensures.takes)

pub returns-in-Err-clause-behind : goal.returns-in-Err-clause-behind
returns-in-Err-clause-behind g c = λ database has row.
    let is : c.loop-statement.rest.now ≡ c.in-Some.before.now ++ c.in-Some.statement.now ∷ [] = search rules in
    let d = c.args.of.now.dialect in
    let calls = repair_calls d c.args.of.now.who.now c.args.of.now.identity.now c.args.statements.now database in
    let fit = repair_fits d c.args.of.now.who.now c.args.of.now.identity.now c.args.statements.now database c.requires.statements row in
    let rests = database_rests d c.args.session (g.S.Store.state c.args.store.now) database has row in
    let got = c.loop-statement.invariant.got (g.S.Store.state c.args.store.now) (session_on database) rests in
    behind c.statements_read_back.ensures d c.args.session (g.S.Store.state c.args.store.now) (g.S.Store.state c.take_back.new.store) database has calls fit c.in-Err.end (stops c.args.of.now.dialect c.args.of.now.who.now c.args.of.now.identity.now c.args.session c.loop-statement.rest.now c.in-Some.before.now c.in-Some.statement.now (length c.loop-statement.rest.now) is refl c.args.statements.now (g.S.Store.state c.args.store.now) (g.S.Store.state c.loop-statement.store) (g.S.Store.state c.take_back.new.store) (session_on database) c.in-Err.end got c.in-Err.ensures.takes)

pub returns-in-Err-clause-full : goal.returns-in-Err-clause-full
returns-in-Err-clause-full g c = λ database has row marked.
    let is : c.loop-statement.rest.now ≡ c.in-Some.before.now ++ c.in-Some.statement.now ∷ [] = search rules in
    let d = c.args.of.now.dialect in
    let calls = repair_calls d c.args.of.now.who.now c.args.of.now.identity.now c.args.statements.now database in
    let fit = repair_fits d c.args.of.now.who.now c.args.of.now.identity.now c.args.statements.now database c.requires.statements row in
    let rests = database_rests d c.args.session (g.S.Store.state c.args.store.now) database has row in
    let got = c.loop-statement.invariant.got (g.S.Store.state c.args.store.now) (session_on database) rests in
    full c.statements_read_back.ensures d c.args.session (g.S.Store.state c.args.store.now) (g.S.Store.state c.take_back.new.store) database has calls fit (λ now front deeds more is led. front_keeps d c.args.of.now.who.now c.args.of.now.identity.now c.args.statements.now database now front deeds more marked is led) c.in-Err.end (stops c.args.of.now.dialect c.args.of.now.who.now c.args.of.now.identity.now c.args.session c.loop-statement.rest.now c.in-Some.before.now c.in-Some.statement.now (length c.loop-statement.rest.now) is refl c.args.statements.now (g.S.Store.state c.args.store.now) (g.S.Store.state c.loop-statement.store) (g.S.Store.state c.take_back.new.store) (session_on database) c.in-Err.end got c.in-Err.ensures.takes)

pub returns-in-Err-clause-any_moment : goal.returns-in-Err-clause-any_moment
returns-in-Err-clause-any_moment g c = λ database has row.
    let is : c.loop-statement.rest.now ≡ c.in-Some.before.now ++ c.in-Some.statement.now ∷ [] = search rules in
    let d = c.args.of.now.dialect in
    let calls = repair_calls d c.args.of.now.who.now c.args.of.now.identity.now c.args.statements.now database in
    let fit = repair_fits d c.args.of.now.who.now c.args.of.now.identity.now c.args.statements.now database c.requires.statements row in
    let rests = database_rests d c.args.session (g.S.Store.state c.args.store.now) database has row in
    let got = c.loop-statement.invariant.got (g.S.Store.state c.args.store.now) (session_on database) rests in
    moments c.statements_read_back.ensures d c.args.session (g.S.Store.state c.args.store.now) (g.S.Store.state c.take_back.new.store) database has calls fit (g.S.Store.crashes c.args.store.now) (g.S.Store.crashes c.take_back.new.store)
    (one_crash c.args.of.now.dialect c.args.of.now.who.now c.args.of.now.identity.now c.args.session c.loop-statement.rest.now c.in-Some.before.now c.in-Some.statement.now (length c.loop-statement.rest.now) is refl c.args.statements.now (g.S.Store.state c.args.store.now) (g.S.Store.state c.loop-statement.store) (session_on database) (closing ∷ []) (g.S.Store.crashes c.args.store.now) (g.S.Store.crashes c.loop-statement.store) (g.S.Store.crashes c.take_back.new.store) got c.take_back.ensures.crash (c.loop-statement.invariant.crash (g.S.Store.state c.args.store.now) (session_on database) (closing ∷ []) rests))

pub returns-in-Err-clause-tells : goal.returns-in-Err-clause-tells
returns-in-Err-clause-tells g c = λ database has row.
    let is : c.loop-statement.rest.now ≡ c.in-Some.before.now ++ c.in-Some.statement.now ∷ [] = search rules in
    let rests = database_rests c.args.of.now.dialect c.args.session (g.S.Store.state c.args.store.now) database has row in
    let got = c.loop-statement.invariant.got (g.S.Store.state c.args.store.now) (session_on database) rests in
    stops_so c.args.of.now.dialect c.args.of.now.who.now c.args.of.now.identity.now c.args.session c.loop-statement.rest.now c.in-Some.before.now c.in-Some.statement.now (length c.loop-statement.rest.now) is refl c.args.statements.now (g.S.Store.state c.args.store.now) (g.S.Store.state c.loop-statement.store) (session_on database) c.in-Err.end got c.in-Err.ensures.tells

pub returns-in-Err-clause-later : goal.returns-in-Err-clause-later
returns-in-Err-clause-later g c = omega (arith, c.loop-statement.invariant.later, c.take_back.ensures.later)

pub returns-clause-leaves : goal.returns-clause-leaves
returns-clause-leaves g c = λ database has row.
    let none = no_rest c.loop-statement.rest.now (search rules) in
    let d = c.args.of.now.dialect in
    let calls = repair_calls d c.args.of.now.who.now c.args.of.now.identity.now c.args.statements.now database in
    let fit = repair_fits d c.args.of.now.who.now c.args.of.now.identity.now c.args.statements.now database c.requires.statements row in
    let rests = database_rests d c.args.session (g.S.Store.state c.args.store.now) database has row in
    let got = c.loop-statement.invariant.got (g.S.Store.state c.args.store.now) (session_on database) rests in
    leaves c.statements_read_back.ensures d c.args.session (g.S.Store.state c.args.store.now) (g.S.Store.state c.free.new.store) database has calls fit c.free.result (ends_freed c.args.of.now.dialect c.args.of.now.who.now c.args.of.now.identity.now c.args.session c.args.statements.now c.loop-statement.rest.now (g.S.Store.state c.args.store.now) (g.S.Store.state c.loop-statement.store) (g.S.Store.state c.free.new.store) (session_on database) c.free.result none got c.free.ensures.frees)

pub returns-clause-behind : goal.returns-clause-behind
returns-clause-behind g c = λ database has row.
    let none = no_rest c.loop-statement.rest.now (search rules) in
    let d = c.args.of.now.dialect in
    let calls = repair_calls d c.args.of.now.who.now c.args.of.now.identity.now c.args.statements.now database in
    let fit = repair_fits d c.args.of.now.who.now c.args.of.now.identity.now c.args.statements.now database c.requires.statements row in
    let rests = database_rests d c.args.session (g.S.Store.state c.args.store.now) database has row in
    let got = c.loop-statement.invariant.got (g.S.Store.state c.args.store.now) (session_on database) rests in
    behind c.statements_read_back.ensures d c.args.session (g.S.Store.state c.args.store.now) (g.S.Store.state c.free.new.store) database has calls fit c.free.result (ends_freed c.args.of.now.dialect c.args.of.now.who.now c.args.of.now.identity.now c.args.session c.args.statements.now c.loop-statement.rest.now (g.S.Store.state c.args.store.now) (g.S.Store.state c.loop-statement.store) (g.S.Store.state c.free.new.store) (session_on database) c.free.result none got c.free.ensures.frees)

pub returns-clause-full : goal.returns-clause-full
returns-clause-full g c = λ database has row marked.
    let none = no_rest c.loop-statement.rest.now (search rules) in
    let d = c.args.of.now.dialect in
    let calls = repair_calls d c.args.of.now.who.now c.args.of.now.identity.now c.args.statements.now database in
    let fit = repair_fits d c.args.of.now.who.now c.args.of.now.identity.now c.args.statements.now database c.requires.statements row in
    let rests = database_rests d c.args.session (g.S.Store.state c.args.store.now) database has row in
    let got = c.loop-statement.invariant.got (g.S.Store.state c.args.store.now) (session_on database) rests in
    full c.statements_read_back.ensures d c.args.session (g.S.Store.state c.args.store.now) (g.S.Store.state c.free.new.store) database has calls fit (λ now front deeds more is led. front_keeps d c.args.of.now.who.now c.args.of.now.identity.now c.args.statements.now database now front deeds more marked is led) c.free.result (ends_freed c.args.of.now.dialect c.args.of.now.who.now c.args.of.now.identity.now c.args.session c.args.statements.now c.loop-statement.rest.now (g.S.Store.state c.args.store.now) (g.S.Store.state c.loop-statement.store) (g.S.Store.state c.free.new.store) (session_on database) c.free.result none got c.free.ensures.frees)

pub returns-clause-any_moment : goal.returns-clause-any_moment
returns-clause-any_moment g c = λ database has row.
    let none = no_rest c.loop-statement.rest.now (search rules) in
    let d = c.args.of.now.dialect in
    let calls = repair_calls d c.args.of.now.who.now c.args.of.now.identity.now c.args.statements.now database in
    let fit = repair_fits d c.args.of.now.who.now c.args.of.now.identity.now c.args.statements.now database c.requires.statements row in
    let rests = database_rests d c.args.session (g.S.Store.state c.args.store.now) database has row in
    let got = c.loop-statement.invariant.got (g.S.Store.state c.args.store.now) (session_on database) rests in
    moments c.statements_read_back.ensures d c.args.session (g.S.Store.state c.args.store.now) (g.S.Store.state c.free.new.store) database has calls fit (g.S.Store.crashes c.args.store.now) (g.S.Store.crashes c.free.new.store)
    (freed_crash c.args.of.now.dialect c.args.of.now.who.now c.args.of.now.identity.now c.args.session c.args.statements.now c.loop-statement.rest.now (g.S.Store.state c.args.store.now) (g.S.Store.state c.loop-statement.store) (session_on database) (g.S.Store.crashes c.args.store.now) (g.S.Store.crashes c.loop-statement.store) (g.S.Store.crashes c.free.new.store) none got c.free.ensures.crash (c.loop-statement.invariant.crash (g.S.Store.state c.args.store.now) (session_on database) (closing ∷ []) rests))

pub returns-clause-tells : goal.returns-clause-tells
returns-clause-tells g c = λ database has row.
    let none = no_rest c.loop-statement.rest.now (search rules) in
    let rests = database_rests c.args.of.now.dialect c.args.session (g.S.Store.state c.args.store.now) database has row in
    let got = c.loop-statement.invariant.got (g.S.Store.state c.args.store.now) (session_on database) rests in
    freed_so c.args.of.now.dialect c.args.of.now.who.now c.args.of.now.identity.now c.args.session c.args.statements.now c.loop-statement.rest.now (g.S.Store.state c.args.store.now) (g.S.Store.state c.loop-statement.store) (g.S.Store.state c.free.new.store) (session_on database) c.free.result none got c.free.ensures.frees

pub returns-clause-later : goal.returns-clause-later
returns-clause-later g c = omega (arith, c.loop-statement.invariant.later, c.free.ensures.later)

pub returns-clause-rose : goal.returns-clause-rose
returns-clause-rose g c = λ is. rose_later (g.S.Store.faults c.args.store.now) (g.S.Store.faults c.loop-statement.store) (g.S.Store.faults c.free.new.store) c.loop-statement.invariant.later (c.free.ensures.rose is)

pub returns-in-Err-clause-rose : goal.returns-in-Err-clause-rose
returns-in-Err-clause-rose g c = λ is. rose_later (g.S.Store.faults c.args.store.now) (g.S.Store.faults c.loop-statement.store) (g.S.Store.faults c.take_back.new.store) c.loop-statement.invariant.later (c.in-Err.ensures.rose (ap Err (disk_end c.in-Err.end is)))
