use Rattle.lq_run.proofs.Takes.{take_crash, take_fault, take_lack, take_on, take_refused}
use Rattle.lq_run.proofs.Beside.{next_on}
use Rattle.lq_store.specs.Journal.{is_open}
use Rattle.lq_run.proofs.hand.take.Goals as goal

pub returns-in-On-clause-takes : goal.returns-in-On-clause-takes
returns-in-On-clause-takes g c = λ stamp.
    take_on _ _ stamp c.args.session c.args.hand.now _ c.in-Some.call _ _ c.requires.inside c.in-Some.ensures (c.in-On.ensures.makes stamp)

pub returns-in-Refused-clause-takes : goal.returns-in-Refused-clause-takes
returns-in-Refused-clause-takes g c = λ stamp.
    take_refused _ _ stamp c.args.session c.args.hand.now _ c.in-Some.call _ _ c.requires.inside c.in-Some.ensures c.in-Refused.reason (c.in-Refused.ensures.makes stamp)

pub returns-in-Failed-clause-takes : goal.returns-in-Failed-clause-takes
returns-in-Failed-clause-takes g c = λ stamp.
    take_fault _ _ stamp c.args.session c.args.hand.now _ c.in-Some.call _ _ c.requires.inside c.in-Some.ensures c.in-Failed.fault (c.in-Failed.ensures.makes stamp)

pub returns-clause-takes : goal.returns-clause-takes
returns-clause-takes g c = λ stamp.
    take_lack _ _ stamp c.args.session c.args.hand.now _ c.in-Some.call _ _ c.requires.inside c.in-Some.ensures (c.in-Lack.ensures.makes stamp)

pub returns-in-On-clause-crash : goal.returns-in-On-clause-crash
returns-in-On-clause-crash g c = λ stamp.
    take_crash _ _ stamp c.args.session c.args.hand.now _ c.in-Some.call (g.S.Store.state c.args.store.now) (g.S.Store.state c.args.store.now) c.requires.inside c.in-Some.ensures _ _ c.in-On.ensures.crash

pub returns-in-Refused-clause-crash : goal.returns-in-Refused-clause-crash
returns-in-Refused-clause-crash g c = λ stamp.
    take_crash _ _ stamp c.args.session c.args.hand.now _ c.in-Some.call (g.S.Store.state c.args.store.now) (g.S.Store.state c.args.store.now) c.requires.inside c.in-Some.ensures _ _ c.in-Refused.ensures.crash

pub returns-in-Failed-clause-crash : goal.returns-in-Failed-clause-crash
returns-in-Failed-clause-crash g c = λ stamp.
    take_crash _ _ stamp c.args.session c.args.hand.now _ c.in-Some.call (g.S.Store.state c.args.store.now) (g.S.Store.state c.args.store.now) c.requires.inside c.in-Some.ensures _ _ c.in-Failed.ensures.crash

pub returns-clause-crash : goal.returns-clause-crash
returns-clause-crash g c = λ stamp.
    take_crash _ _ stamp c.args.session c.args.hand.now _ c.in-Some.call (g.S.Store.state c.args.store.now) (g.S.Store.state c.args.store.now) c.requires.inside c.in-Some.ensures _ _ c.in-Lack.ensures.crash

pub returns-in-On-clause-asks : goal.returns-in-On-clause-asks
returns-in-On-clause-asks g c = λ none live. next_on c.args.dialect (is_open c.args.session (g.S.Store.state c.args.store.now).begun) (is_open c.args.session (g.S.Store.state c.make.new.store).begun) c.args.hand.now.calls _ c.in-Some.call c.in-Some.ensures c.requires.turns (c.in-On.ensures.leaves_open none live)

pub returns-in-Refused-clause-asks : goal.returns-in-Refused-clause-asks
returns-in-Refused-clause-asks g c = λ none live. c.in-Refused.ensures.leaves_open none live

pub returns-in-Failed-clause-asks : goal.returns-in-Failed-clause-asks
returns-in-Failed-clause-asks g c = λ none live. c.in-Failed.ensures.leaves_open none live

pub returns-clause-asks : goal.returns-clause-asks
returns-clause-asks g c = λ none live. c.in-Lack.ensures.leaves_open none live
