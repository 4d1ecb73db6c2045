use Rattle.lq_back.proofs.Indexed.{found_none, found_place}
use Rattle.lq_back.proofs.set_index.place_of.Goals as goal
use Rattle.lq_track.specs.Log.{identity_of}

pub returns-in-Some : goal.returns-in-Some
returns-in-Some c = λ xs has. found_place xs (identity_of c.args.row.now) c.args.index.now (c.as_str.result, c.as_str-2.result, c.as_str-3.result) has c.as_str-3.ensures c.as_str.ensures c.as_str-2.ensures c.get.result c.get.ensures.value c.in-Some.place c.in-Some.is

pub returns-in-None : goal.returns-in-None
returns-in-None c = λ xs has. found_none xs (identity_of c.args.row.now) c.args.index.now (c.as_str.result, c.as_str-2.result, c.as_str-3.result) has c.as_str-3.ensures c.as_str.ensures c.as_str-2.ensures c.get.result c.get.ensures.value c.in-None.is
