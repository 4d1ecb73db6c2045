-- The first statements of changes are taken back.
use Rattle.std.proofs.Common.{ap, subst, sym, ◌∙◌}
use Rattle.std.proofs.lemmas.List.{append-nil}
use Rattle.std.specs.List.{flat_map, list_all}
use Rattle.std.specs.Prelude.{Bool, Err, List, None, Ok, Option, Result, Some, [], option_and_then, option_map, refl, true, ◌&&◌, ◌++◌, ◌∷◌, ◌≡◌}
use Rattle.lq_base.specs.declared.dialect.Dialect.{Dialect}
use Rattle.lq_base.specs.declared.reason.Reason.{Reason}
use Rattle.lq_model.proofs.Effects.{Both, ran_both, run_keeps}
use Rattle.lq_model.proofs.Lists.{and_left, and_right}
use Rattle.lq_model.specs.Catalogue.{Catalogue}
use Rattle.lq_model.specs.Sound.{IsSound}
use Rattle.lq_model.specs.Step.{run}
use Rattle.lq_model.specs.declared.caller.By.TheVariants.{User}
use Rattle.lq_model.specs.declared.statement.Statement.{Statement}
use Rattle.lq_reverse.proofs.Parts.{Before, Behind, Cut, cut, no_part, part_both}
use Rattle.lq_reverse.specs.Back.{PartsBack, backs}
use Rattle.lq_turns.specs.Set.{all_fresh, inverses, statements_of, IsKept, Meaning}
use Rattle.laws_repair.specs.Repair.{PartsReturn}

-- both have what takes them back
record HaveBoth (one more : Option (List Statement)) : Type 0 where
  first : List Statement
  others : List Statement
  one_is : one ≡ Some first
  more_is : more ≡ Some others

both_there : (one more : Option (List Statement)) (all : List Statement) → option_and_then (λ (ms : List Statement). option_map (λ (fs : List Statement). ms ++ fs) one) more ≡ Some all → HaveBoth one more
both_there (Some f) (Some o) all is = record { first = f; others = o; one_is = refl; more_is = refl }
both_there None (Some o) all is = absurd Prim.cc
both_there one None all is = absurd Prim.cc

fresh_on : {Key : Type 0} (d : Dialect) (m : Meaning Key) (xs : List Key) (r : Result Catalogue Reason) (e : Catalogue) → r ≡ Ok e → elim r as (λ _. Bool) [ Ok c ↦ all_fresh d m xs c | Err reason ↦ true ] ≡ true → all_fresh d m xs e ≡ true
fresh_on d m xs r e is all = ap (λ q. elim q as (λ _. Bool) [ Ok c ↦ all_fresh d m xs c | Err reason ↦ true ]) (sym is) ∙ all

pub parts_return : {Key : Type 0} (m : Meaning Key) → IsKept m → PartsReturn m
parts_return m keeps parts d [] c p undoing first rest read sound fresh inverse are ran = no_part d first rest c p are ran
parts_return m keeps parts d (x ∷ xs) c p undoing first rest read sound fresh inverse are ran =
    let own = both_there (m.inverse d x) (inverses d m xs) undoing inverse in
    let right = and_left (m.is_for d x) _ read in
    let new = and_left (m.fresh d x c) _ fresh in
    (elim (cut (m.gives d x) (statements_of d m xs) first rest are) as (λ _. run User d (backs d first) p ≡ Ok c) [
      | Before more is ↦ parts d x c p own.first first more right sound new own.one_is is ran
      | Behind more is others ↦ subst (λ us. run User d us c ≡ Ok p → run User d (backs d us) p ≡ Ok c) (sym is) (λ it.
          let b : Both d (m.gives d x) more c p = ran_both d (m.gives d x) more c p it in
          let fine : IsSound d b.between = run_keeps d (m.gives d x) c b.between (keeps.spelled d x right) sound b.front in
          let effect = sym (keeps.does d x c right sound) ∙ b.front in
          let later = parts_return m keeps parts d xs b.between p own.others more rest (and_right (m.is_for d x) _ read) fine (fresh_on d m xs (m.effect d x c) b.between effect (and_right (m.fresh d x c) _ fresh)) own.more_is others b.back in
          part_both d (m.gives d x) more c b.between p later (parts d x c b.between own.first (m.gives d x) [] right sound new own.one_is (sym (append-nil (m.gives d x))) b.front)) ran
    ])
