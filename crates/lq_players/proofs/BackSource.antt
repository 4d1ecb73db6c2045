-- A rollback as the source of its turns.
use Rattle.std.proofs.Common.{ap, subst, sym, ◌∙◌}
use Rattle.std.specs.List.{list_all}
use Rattle.std.specs.Prelude.{None, Option, Some, [], reverse, true, ◌≡◌}
use Rattle.lq_back.specs.Reversal.{goes_back, row_way}
use Rattle.lq_back.specs.declared.row_turns.RowTurns.{RowTurns}
use Rattle.lq_base.specs.declared.dialect.Dialect.{Dialect}
use Rattle.lq_players.specs.RollingBack.{IsRead, are_read, back_way, turns_left, turns_way}
use Rattle.lq_players.specs.declared.rolling_back.RollingBack.{RollingBack}
use Rattle.lq_hand.specs.Way.{Enters, GivesUp, Looks}
use Rattle.lq_hand.specs.declared.source.Entered.TheVariants.{NoTurn}
use Rattle.lq_hand.specs.declared.source.Entered.{Entered}
use Rattle.lq_any.specs.declared.any_change.AnyChange.{AnyChange}
use Rattle.lq_model.specs.Catalogue.{Catalogue}
use Rattle.lq_seen.specs.Telling.{Account}
use Rattle.lq_seen.specs.View.{any_meaning}
use Rattle.lq_turns.specs.Deed.{Contents, contents_of}
use Rattle.lq_turns.specs.Rest.{OfRows, Turns}
use Rattle.lq_turns.specs.declared.stamp.Stamp.{Stamp}

-- it has turns, and their source goes on
module _ (s : RollingBack) (source new : RowTurns) (is : s.turns ≡ Some source) where
  abbrev after : RollingBack
  after = record s { turns = Some new }

  abbrev left_of : RowTurns → Turns AnyChange
  left_of it = OfRows (reverse it.turns)

  pub source_read : (d : Dialect) → IsRead s d → list_all (goes_back d) (reverse source.turns) ≡ true
  source_read d read = subst (λ (t : Option RowTurns). are_read t d) is read.turns

  pub still_read : (d : Dialect) → IsRead s d → list_all (goes_back d) (reverse new.turns) ≡ true → IsRead after d
  still_read d read now = record { options = read.options; changelog = read.changelog; turns = now }

  pub left_same : left_of new ≡ left_of source → left_of new ≡ turns_left s.turns
  left_same same = same ∙ sym (ap turns_left is)

  pub enters_on : (d : Dialect) (stamp : Stamp) (seen : Catalogue) (r : Entered) → Enters d any_meaning stamp (left_of source) (row_way source d stamp) seen r (left_of new) (row_way new d stamp)
      → Enters d any_meaning stamp (turns_left s.turns) (back_way s d stamp) seen r (left_of new) (row_way new d stamp)
  enters_on d stamp seen r enters =
      subst (λ (t : Option RowTurns). Enters d any_meaning stamp (turns_left t) (turns_way t d stamp) seen r (left_of new) (row_way new d stamp)) (sym is) enters

  module _ (d : Dialect) (stamp : Stamp) (told : Account) where
    pub looks_on : (seen : Catalogue) → Looks d seen (row_way source d stamp told) (row_way new d stamp told) → Looks d seen (back_way s d stamp told) (row_way new d stamp told)
    looks_on seen looks = subst (λ (t : Option RowTurns). Looks d seen (turns_way t d stamp told) (row_way new d stamp told)) (sym is) looks

    pub knows_on : (c : Contents) → ((row_way source d stamp told).awaits [] c → (row_way new d stamp told).knows c) → (back_way s d stamp told).awaits [] c → (row_way new d stamp told).knows c
    knows_on c knows awaits = knows (subst (λ (t : Option RowTurns). (turns_way t d stamp told).awaits [] c) is awaits)

    pub gives_up_on : GivesUp (row_way source d stamp told) (row_way new d stamp told) → GivesUp (back_way s d stamp told) (row_way new d stamp told)
    gives_up_on gives_up = subst (λ (t : Option RowTurns). GivesUp (turns_way t d stamp told) (row_way new d stamp told)) (sym is) gives_up

-- it has none, and knows of no contents
module _ (s : RollingBack) (none : s.turns ≡ None) where
  pub enters_none : (d : Dialect) (stamp : Stamp) (seen : Catalogue) → Enters d any_meaning stamp (turns_left s.turns) (back_way s d stamp) seen NoTurn (turns_left s.turns) (back_way s d stamp)
  enters_none d stamp seen = λ database stands told knows. absurd (subst (λ (t : Option RowTurns). (turns_way t d stamp told).knows (contents_of database)) none knows)

  module _ (d : Dialect) (stamp : Stamp) (told : Account) where
    pub looks_none : (seen : Catalogue) → Looks d seen (back_way s d stamp told) (back_way s d stamp told)
    looks_none seen =
        let waits : Looks d seen (turns_way None d stamp told) (turns_way None d stamp told) = record { knows = λ c it. it; awaits = λ database stands more c it. it; yields = λ goes_on refusal c it. it } in
        subst (λ (t : Option RowTurns). Looks d seen (turns_way t d stamp told) (turns_way t d stamp told)) (sym none) waits

    pub knows_none : (c : Contents) → (back_way s d stamp told).awaits [] c → (back_way s d stamp told).knows c
    knows_none c awaits = absurd (subst (λ (t : Option RowTurns). (turns_way t d stamp told).awaits [] c) none awaits)

    pub gives_up_none : GivesUp (back_way s d stamp told) (back_way s d stamp told)
    gives_up_none =
        let waits : GivesUp (turns_way None d stamp told) (turns_way None d stamp told) = record { goes_on = λ refusal c it. it; stops = λ refusal c it. it } in
        subst (λ (t : Option RowTurns). GivesUp (turns_way t d stamp told) (turns_way t d stamp told)) (sym none) waits
