use Rattle.std.proofs.Common.{Some, refl, subst, sym, ◌≡◌}
use Rattle.std.specs.Prelude.{[]}
use Rattle.laws_repair.specs.Repair.{back_calls}
use Rattle.lq_reverse.specs.Back.{back}
use Rattle.lq_run.proofs.Since.{leave_none}
use Rattle.lq_mending.proofs.Taken.{comes_at, disk, full, full_crash, full_open, goes, lack, lack_crash, lack_open, nobody, refused, refused_crash, refused_open, refused_so, taking_crash}
use Rattle.lq_mending.proofs.Onward.{end_before}
use Rattle.lq_mending.specs.Comes.{refused_from}
use Rattle.lq_mending.proofs.taking_back.take_back.Goals as goal

pub make_all-requires-clause-comes : goal.make_all-requires-clause-comes
make_all-requires-clause-comes g c =
    let k = c.requires.rests in
    record { stamp = nobody; start = k.start; session = k.session; at = comes_at c.args.of.now.dialect c.args.of.now.who.now c.args.of.now.identity.now c.args.number c.args.statement.now c.requires.statement c.args.session c.in-Ok.hand c.in-Ok.ensures.inside c.in-Ok.ensures.calls c.in-Ok.ensures.turns k.start (g.S.Store.state c.args.store.now) k.session k.is }

pub returns-in_default-clause-takes : goal.returns-in_default-clause-takes
returns-in_default-clause-takes g c = λ start s rests tail. record { session = s; came = record { calls = []; is = refl }; before = end_before c.args.of.now.dialect (back_calls c.args.of.now.who.now c.args.of.now.identity.now c.args.number (back c.args.of.now.dialect c.args.statement.now)) tail s; stands = rests.stands; shut = rests.shut }

pub returns-in_default-clause-crash : goal.returns-in_default-clause-crash
returns-in_default-clause-crash g c = λ start s tail rests. leave_none start.entries _ (g.S.Store.crashes c.args.store.now)

pub returns-in-All-clause-takes : goal.returns-in-All-clause-takes
returns-in-All-clause-takes g c = λ start s rests. goes c.args.of.now.dialect c.args.of.now.who.now c.args.of.now.identity.now c.args.number c.args.statement.now c.requires.statement c.args.session c.in-Ok.hand c.in-Ok.ensures.inside c.in-Ok.ensures.calls c.in-Ok.ensures.turns start (g.S.Store.state c.args.store.now) (g.S.Store.state c.make_all.new.store) s rests c.make_all.new.hand c.in-All.ensures.ends

pub returns-in-All-clause-crash : goal.returns-in-All-clause-crash
returns-in-All-clause-crash g c = λ start s tail rests. taking_crash c.args.of.now.dialect c.args.of.now.who.now c.args.of.now.identity.now c.args.number c.args.statement.now c.requires.statement c.args.session c.in-Ok.hand c.in-Ok.ensures.inside c.in-Ok.ensures.calls c.in-Ok.ensures.turns (g.S.Store.state c.args.store.now) (g.S.Store.crashes c.args.store.now) (g.S.Store.crashes c.make_all.new.store) c.make_all.ensures.crash start s tail rests

pub returns-in-Disk-clause-takes : goal.returns-in-Disk-clause-takes
returns-in-Disk-clause-takes g c = λ start s rests. disk c.args.of.now.dialect c.args.of.now.who.now c.args.of.now.identity.now c.args.number c.args.statement.now c.requires.statement c.args.session c.in-Ok.hand c.in-Ok.ensures.inside c.in-Ok.ensures.calls c.in-Ok.ensures.turns start (g.S.Store.state c.args.store.now) (g.S.Store.state c.make_all.new.store) s rests c.make_all.new.hand c.in-Disk.ensures.ends

pub returns-in-Disk-clause-crash : goal.returns-in-Disk-clause-crash
returns-in-Disk-clause-crash g c = λ start s tail rests. taking_crash c.args.of.now.dialect c.args.of.now.who.now c.args.of.now.identity.now c.args.number c.args.statement.now c.requires.statement c.args.session c.in-Ok.hand c.in-Ok.ensures.inside c.in-Ok.ensures.calls c.in-Ok.ensures.turns (g.S.Store.state c.args.store.now) (g.S.Store.crashes c.args.store.now) (g.S.Store.crashes c.make_all.new.store) c.make_all.ensures.crash start s tail rests

pub abort-requires-clause-live : goal.abort-requires-clause-live
abort-requires-clause-live g c = let k = c.requires.rests in (refused_open c.args.of.now.dialect c.args.of.now.who.now c.args.of.now.identity.now c.args.number c.args.statement.now c.requires.statement c.args.session c.in-Ok.hand c.in-Ok.ensures.inside c.in-Ok.ensures.calls c.in-Ok.ensures.turns k.start (g.S.Store.state c.args.store.now) (g.S.Store.state c.make_all.new.store) k.session k.is c.in-Refused.reason c.make_all.new.hand c.in-Refused.ensures.ends).0

pub abort-requires-clause-open_here : goal.abort-requires-clause-open_here
abort-requires-clause-open_here g c = let k = c.requires.rests in (refused_open c.args.of.now.dialect c.args.of.now.who.now c.args.of.now.identity.now c.args.number c.args.statement.now c.requires.statement c.args.session c.in-Ok.hand c.in-Ok.ensures.inside c.in-Ok.ensures.calls c.in-Ok.ensures.turns k.start (g.S.Store.state c.args.store.now) (g.S.Store.state c.make_all.new.store) k.session k.is c.in-Refused.reason c.make_all.new.hand c.in-Refused.ensures.ends).1

pub returns-in-Refused-clause-takes : goal.returns-in-Refused-clause-takes
returns-in-Refused-clause-takes g c = λ start s rests tail. refused c.args.of.now.dialect c.args.of.now.who.now c.args.of.now.identity.now c.args.number c.args.statement.now c.requires.statement c.args.session c.in-Ok.hand c.in-Ok.ensures.inside c.in-Ok.ensures.calls c.in-Ok.ensures.turns start (g.S.Store.state c.args.store.now) (g.S.Store.state c.make_all.new.store) s rests c.in-Refused.reason c.make_all.new.hand (g.S.Store.state c.abort.new.store) c.in-Refused.ensures.ends c.abort.ensures.does (c.refusal_of.result) tail

pub returns-in-Refused-clause-crash : goal.returns-in-Refused-clause-crash
returns-in-Refused-clause-crash g c = λ start s tail rests. refused_crash c.args.of.now.dialect c.args.of.now.who.now c.args.of.now.identity.now c.args.number c.args.statement.now c.requires.statement c.args.session c.in-Ok.hand c.in-Ok.ensures.inside c.in-Ok.ensures.calls c.in-Ok.ensures.turns (g.S.Store.state c.args.store.now) (g.S.Store.state c.make_all.new.store) (g.S.Store.crashes c.args.store.now) (g.S.Store.crashes c.make_all.new.store) (g.S.Store.crashes c.abort.new.store)
    c.make_all.ensures.crash c.abort.ensures.crash start s tail rests c.in-Refused.reason c.make_all.new.hand c.in-Refused.ensures.ends

pub abort-requires-in-Full-clause-live : goal.abort-requires-in-Full-clause-live
abort-requires-in-Full-clause-live g c = let k = c.requires.rests in (full_open c.args.of.now.dialect c.args.of.now.who.now c.args.of.now.identity.now c.args.number c.args.statement.now c.requires.statement c.args.session c.in-Ok.hand c.in-Ok.ensures.inside c.in-Ok.ensures.calls c.in-Ok.ensures.turns k.start (g.S.Store.state c.args.store.now) (g.S.Store.state c.make_all.new.store) k.session k.is c.in-Full.used c.in-Full.next c.make_all.new.hand c.in-Full.ensures.ends).0

pub abort-requires-in-Full-clause-open_here : goal.abort-requires-in-Full-clause-open_here
abort-requires-in-Full-clause-open_here g c = let k = c.requires.rests in (full_open c.args.of.now.dialect c.args.of.now.who.now c.args.of.now.identity.now c.args.number c.args.statement.now c.requires.statement c.args.session c.in-Ok.hand c.in-Ok.ensures.inside c.in-Ok.ensures.calls c.in-Ok.ensures.turns k.start (g.S.Store.state c.args.store.now) (g.S.Store.state c.make_all.new.store) k.session k.is c.in-Full.used c.in-Full.next c.make_all.new.hand c.in-Full.ensures.ends).1

pub returns-in-Full-clause-takes : goal.returns-in-Full-clause-takes
returns-in-Full-clause-takes g c = λ start s rests tail. full c.args.of.now.dialect c.args.of.now.who.now c.args.of.now.identity.now c.args.number c.args.statement.now c.requires.statement c.args.session c.in-Ok.hand c.in-Ok.ensures.inside c.in-Ok.ensures.calls c.in-Ok.ensures.turns start (g.S.Store.state c.args.store.now) (g.S.Store.state c.make_all.new.store) s rests c.in-Full.used c.in-Full.next c.make_all.new.hand (g.S.Store.state c.abort-in-Full.new.store) c.in-Full.ensures.ends c.abort-in-Full.ensures.does tail

pub returns-in-Full-clause-crash : goal.returns-in-Full-clause-crash
returns-in-Full-clause-crash g c = λ start s tail rests. full_crash c.args.of.now.dialect c.args.of.now.who.now c.args.of.now.identity.now c.args.number c.args.statement.now c.requires.statement c.args.session c.in-Ok.hand c.in-Ok.ensures.inside c.in-Ok.ensures.calls c.in-Ok.ensures.turns (g.S.Store.state c.args.store.now) (g.S.Store.state c.make_all.new.store) (g.S.Store.crashes c.args.store.now) (g.S.Store.crashes c.make_all.new.store) (g.S.Store.crashes c.abort-in-Full.new.store)
    c.make_all.ensures.crash c.abort-in-Full.ensures.crash start s tail rests c.in-Full.used c.in-Full.next c.make_all.new.hand c.in-Full.ensures.ends

pub abort-requires-in-OutOfMemory-clause-live : goal.abort-requires-in-OutOfMemory-clause-live
abort-requires-in-OutOfMemory-clause-live g c = let k = c.requires.rests in (lack_open c.args.of.now.dialect c.args.of.now.who.now c.args.of.now.identity.now c.args.number c.args.statement.now c.requires.statement c.args.session c.in-Ok.hand c.in-Ok.ensures.inside c.in-Ok.ensures.calls c.in-Ok.ensures.turns k.start (g.S.Store.state c.args.store.now) (g.S.Store.state c.make_all.new.store) k.session k.is c.make_all.new.hand c.in-OutOfMemory.ensures.ends).0

pub abort-requires-in-OutOfMemory-clause-open_here : goal.abort-requires-in-OutOfMemory-clause-open_here
abort-requires-in-OutOfMemory-clause-open_here g c = let k = c.requires.rests in (lack_open c.args.of.now.dialect c.args.of.now.who.now c.args.of.now.identity.now c.args.number c.args.statement.now c.requires.statement c.args.session c.in-Ok.hand c.in-Ok.ensures.inside c.in-Ok.ensures.calls c.in-Ok.ensures.turns k.start (g.S.Store.state c.args.store.now) (g.S.Store.state c.make_all.new.store) k.session k.is c.make_all.new.hand c.in-OutOfMemory.ensures.ends).1

pub returns-clause-takes : goal.returns-clause-takes
returns-clause-takes g c = λ start s rests tail. lack c.args.of.now.dialect c.args.of.now.who.now c.args.of.now.identity.now c.args.number c.args.statement.now c.requires.statement c.args.session c.in-Ok.hand c.in-Ok.ensures.inside c.in-Ok.ensures.calls c.in-Ok.ensures.turns start (g.S.Store.state c.args.store.now) (g.S.Store.state c.make_all.new.store) s rests c.make_all.new.hand (g.S.Store.state c.abort-in-OutOfMemory.new.store) c.in-OutOfMemory.ensures.ends c.abort-in-OutOfMemory.ensures.does tail

pub returns-clause-crash : goal.returns-clause-crash
returns-clause-crash g c = λ start s tail rests. lack_crash c.args.of.now.dialect c.args.of.now.who.now c.args.of.now.identity.now c.args.number c.args.statement.now c.requires.statement c.args.session c.in-Ok.hand c.in-Ok.ensures.inside c.in-Ok.ensures.calls c.in-Ok.ensures.turns (g.S.Store.state c.args.store.now) (g.S.Store.state c.make_all.new.store) (g.S.Store.crashes c.args.store.now) (g.S.Store.crashes c.make_all.new.store) (g.S.Store.crashes c.abort-in-OutOfMemory.new.store)
    c.make_all.ensures.crash c.abort-in-OutOfMemory.ensures.crash start s tail rests c.make_all.new.hand c.in-OutOfMemory.ensures.ends

pub returns-in-Refused-clause-tells : goal.returns-in-Refused-clause-tells
returns-in-Refused-clause-tells g c = λ start s rests more.
    subst (λ r. refused_from c.args.of.now.dialect more c.args.number (back c.args.of.now.dialect c.args.statement.now) s.seen.users ≡ Some r) (sym c.refusal_of.ensures)
    (refused_so c.args.of.now.dialect c.args.of.now.who.now c.args.of.now.identity.now c.args.number c.args.statement.now c.requires.statement c.args.session c.in-Ok.hand c.in-Ok.ensures.inside c.in-Ok.ensures.calls c.in-Ok.ensures.turns start (g.S.Store.state c.args.store.now) (g.S.Store.state c.make_all.new.store) s rests c.in-Refused.reason c.make_all.new.hand c.in-Refused.ensures.ends more)
