-- That a name is there where one is stated or stands by default, and that a list of names is one in statements.
use Rattle.std.specs.Option.{unwrap_or}
use Rattle.std.specs.Prelude.{List, None, Option, Some, [], true, ◌∷◌, ◌≡◌}
use Rattle.lq_base.specs.Name.{is_name}
use Rattle.lq_base.specs.Number.{if_there}
use Rattle.lq_base.specs.declared.name.Name.{Name}
use Rattle.lq_model.specs.Step.{is_name_list}
use Rattle.lq_tree.specs.Items.{are_some}

pub named : (stated : Option Name) (n : Name) → if_there is_name stated ≡ true → is_name n ≡ true → is_name (unwrap_or stated n) ≡ true
named None n h k = k
named (Some m) n h k = h

pub listed : (ns : List Name) → are_some is_name ns ≡ true → is_name_list ns ≡ true
listed [] h = h
listed (n ∷ ns) h = h
