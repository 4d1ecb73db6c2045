-- What the items of a value have said so far.
use Rattle.std.specs.List.{flat_map}
use Rattle.std.specs.Prelude.{List, [], ◌++◌}
use Rattle.lq_base.specs.declared.run.OnFail.TheVariants.{Halt}
use Rattle.lq_cond.specs.Reading.{conds_of, last_stated, on_error_of, on_fail_of}
use Rattle.lq_cond.specs.declared.cond.Cond.{And}
use Rattle.lq_cond.specs.declared.cond.Reaction.{Reaction}
use Rattle.lq_cond.specs.declared.setting.Setting.{Setting}
use Rattle.lq_cond.specs.declared.setting.Stated.{Stated}

abbrev pub nothing_stated : Stated
nothing_stated = record { conds = []; on_fail = Halt; on_error = Halt }

abbrev pub and_more : Stated → List Setting → Stated
and_more s settings = record {
  conds = s.conds ++ flat_map conds_of settings;
  on_fail = last_stated on_fail_of s.on_fail settings;
  on_error = last_stated on_error_of s.on_error settings;
}

abbrev pub reaction_stated : Stated → Reaction
reaction_stated s = record { cond = And s.conds; on_fail = s.on_fail; on_error = s.on_error }
