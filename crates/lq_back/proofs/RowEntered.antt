-- A row's turn is entered.
use Rattle.std.proofs.Common.{ap, inr, sym, subst, refl, None, Option, Some, if◌then◌else◌, option_map, ◌≡◌, ◌∙◌, ◌++◌, true, false, List, [], ◌∷◌}
use Rattle.std.proofs.lemmas.List.{append-nil}
use Rattle.std.specs.List.{list_all}
use Rattle.std.specs.Prelude.{reverse}
use Rattle.lq_base.specs.declared.dialect.Dialect.{Dialect}
use Rattle.lq_base.specs.declared.identity.Identity.{Identity}
use Rattle.lq_base.specs.declared.run.Happened.{Happened}
use Rattle.lq_base.specs.declared.run.Printed.{Printed}
use Rattle.lq_base.specs.declared.run.Why.{Why}
use Rattle.lq_hand.proofs.Expected.{HoldsAtEnd, turn_expected}
use Rattle.lq_hand.specs.Way.{no_progress, Enters, IsTurn, GivesUp, refusal_at_end, refused_in, seen_along}
use Rattle.lq_hand.specs.Hand.{calls_left, hand_place, place_of, IsWritable}
use Rattle.lq_hand.specs.declared.hand.Hand.{Hand}
use Rattle.lq_hand.specs.declared.source.Entered.TheVariants.{Lack, NoTurn, Turn as InHand}
use Rattle.lq_any.specs.AnyChangeLaws.{does, restores, spelled}
use Rattle.lq_any.specs.declared.any_change.AnyChange.{AnyChange}
use Rattle.lq_model.proofs.Lists.{and_left, and_right}
use Rattle.lq_model.specs.Catalogue.{Catalogue}
use Rattle.lq_model.specs.Step.{is_statement}
use Rattle.lq_model.specs.declared.statement.Statement.{Statement}
use Rattle.lq_back.proofs.Ways.{last_first}
use Rattle.lq_seen.proofs.Leading.{Adds, leads_end, leads_on}
use Rattle.lq_seen.proofs.Shown.{all_shown, more_shown}
use Rattle.lq_back.specs.Reversal.{LeadsBack, goes_back, is_deletion, printed, rolled_back, row_way}
use Rattle.lq_seen.specs.Telling.{Account, shown, with_texts, Leads, Reports, bounded}
use Rattle.lq_seen.specs.declared.outcome.Outcome.{Outcome}
use Rattle.lq_back.specs.declared.row_turns.RowTurns.{RowTurns}
use Rattle.lq_seen.specs.View.{any_meaning}
use Rattle.lq_turns.proofs.Entered.{enters_row}
use Rattle.lq_turns.specs.Deed.{Contents, contents_of}
use Rattle.lq_turns.specs.Rest.{Inside, OfRows, Turns, between, rest}
use Rattle.lq_turns.specs.Set.{IsKept}
use Rattle.lq_turns.specs.Printed.{printed_as, printed_back}
use Rattle.lq_turns.specs.Script.{all_rolled, rolled_as}
use Rattle.lq_turns.specs.Settle.{unless_stopped}
use Rattle.lq_turns.specs.Turn.{Ending, Finished, Refused, ending, turn_calls}
use Rattle.lq_turns.specs.declared.call.Call.{Call}
use Rattle.lq_turns.specs.declared.deed.Deed.TheVariants.{Rows}
use Rattle.lq_turns.specs.declared.deed.OnRows.{OnRows}
use Rattle.lq_turns.specs.declared.deed.OnRows.TheVariants.{Cleared, Deleted, Filled, Inserted, Renewed, Tagged}
use Rattle.lq_turns.specs.declared.stamp.Stamp.{Stamp}
use Rattle.lq_turns.specs.declared.stop.Stop.TheVariants.{Refused as Stopped}
use Rattle.lq_turns.specs.declared.turn.Turn.{Turn}

abbrev pub left_of : List Turn → Turns AnyChange
left_of turns = OfRows (reverse turns)

kept : IsKept any_meaning
kept = record { spelled = spelled; does = does; restores = restores }

module _ (d : Dialect) (stamp : Stamp) (seen : Catalogue) where
  -- the calls to come, where nothing is begun
  abbrev calls_to_come : List Turn → Contents → List Call
  calls_to_come turns c = rest d any_meaning stamp (between (OfRows turns)) (c, c)

  pub none_left : (before after : RowTurns) → before.turns ≡ [] → after.outcome ≡ before.outcome → Enters d any_meaning stamp (left_of before.turns) (row_way before d stamp) seen NoTurn (left_of after.turns) (row_way after d stamp)
  none_left before after none same database stands told knows =
      let c = contents_of database in
      let all : Reports before.outcome told None = record {
        tells = leads_end before.outcome c told.settled (subst (λ (turns : List Turn). Leads before.outcome (all_rolled d (reverse turns) c) told.settled) none knows.settles);
        prints = all_shown before.prints d before.outcome.printed told.printed
            (subst (λ (turns : List Turn). before.outcome.printed ++ shown before.prints d (printed_back d (reverse turns) c) ≡ told.printed) none knows.prints);
      } in (
        ap (λ (turns : List Turn). rest d any_meaning stamp (between (left_of turns)) (c, c)) none,
        subst (λ o. Reports o told None) (sym same) all,
      )

  -- there was no memory for it
  pub row_lacks : (before after : RowTurns) → after.outcome.warned ≡ before.outcome.warned → Enters d any_meaning stamp (left_of before.turns) (row_way before d stamp) seen Lack (left_of after.turns) (row_way after d stamp)
  row_lacks before after same database stands told knows =
      let more = (all_rolled d (reverse before.turns) (contents_of database)).warned in
      inr (inr (inr (inr (more, ap (λ (ws : List (Option Identity × Why)). ws ++ more) same ∙ knows.settles.warned))))

  module _ (before after : List Turn) (turn : Turn) (is : before ≡ after ++ turn ∷ []) (hand : Hand) (its : IsTurn d hand) (calls : calls_left hand ≡ turn_calls d stamp.who turn) (stops : hand.goes_on ≡ false) where
    placed : (c : Contents) → rest d any_meaning stamp (place_of hand (left_of after)) (c, c) ≡ rest d any_meaning stamp (Inside (turn_calls d stamp.who turn) false (left_of after)) (c, c)
    placed c =
        ap (λ p. rest d any_meaning stamp (hand_place p (calls_left hand) hand.goes_on (left_of after)) (c, c)) its.inside
        ∙ (ap (λ cs. rest d any_meaning stamp (Inside cs hand.goes_on (left_of after)) (c, c)) calls
        ∙ ap (λ b. rest d any_meaning stamp (Inside (turn_calls d stamp.who turn) b (left_of after)) (c, c)) stops)

    module _ (source : RowTurns) (was : source.turns ≡ before) (outcome : Outcome) (adds : Adds (rolled_back turn ∷ []) [] 0 source.outcome outcome)
        (keeps : outcome.printed ≡ source.outcome.printed ++ (if source.prints then printed d turn ∷ [] else []))
        (counted : (c : Contents) → refused_in d (calls_left hand) no_progress c ≡ refusal_at_end (ending d turn c)) where
      abbrev now : RowTurns
      now = record source { turns = after; outcome = outcome }

      abbrev Before : Account → Ending → Type 0
      Before told e = Leads source.outcome (unless_stopped (rolled_as turn e) (all_rolled d (reverse after))) told.settled

      abbrev Prints : Account → Ending → Type 0
      Prints told e = source.outcome.printed ++ shown source.prints d (printed_as turn e (printed_back d (reverse after))) ≡ told.printed

      holds_by : (told : Account) (c : Contents) (e : Ending) → Before told e → Prints told e → HoldsAtEnd (row_way now d stamp told) false (seen_along d turn.statements c.users) e
      holds_by told c (Finished e) leads prints = record {
        settles = leads_on source.outcome outcome (rolled_back turn ∷ []) [] e 0 (all_rolled d (reverse after) e) told.settled adds leads;
        prints = more_shown source.prints d source.outcome.printed outcome.printed told.printed ((turn.identity, turn.statements) ∷ []) (printed_back d (reverse after) e) keeps prints;
      }
      holds_by told c (Refused e refusal) leads prints = record {
        stops = refl;
        front = source.outcome.happened;
        last = rolled_back turn;
        told_last = adds.happened;
        texts = source.outcome.printed;
        its = printed d turn;
        kept_last = keeps;
        then_told = record {
          tells = record {
            happened = sym (append-nil source.outcome.happened) ∙ leads.happened;
            warned = adds.warned ∙ leads.warned;
            not_fresh = adds.not_fresh leads.so_far leads.counted ∙ ap bounded leads.not_fresh;
            stop = sym leads.stop;
          };
          prints = all_shown source.prints d source.outcome.printed told.printed prints;
        };
      }

      holds : (told : Account) (c : Contents) → LeadsBack source d told c → HoldsAtEnd (row_way now d stamp told) hand.goes_on (seen_along d turn.statements c.users) (ending d turn c)
      holds told c knows =
          let turned : reverse source.turns ≡ turn ∷ reverse after = ap reverse was ∙ last_first before after turn is in
          subst (λ on. HoldsAtEnd (row_way now d stamp told) on (seen_along d turn.statements c.users) (ending d turn c)) (sym stops)
          (holds_by told c (ending d turn c) (subst (λ (turns : List Turn). Leads source.outcome (all_rolled d turns c) told.settled) turned knows.settles)
          (subst (λ (turns : List Turn). source.outcome.printed ++ shown source.prints d (printed_back d turns c) ≡ told.printed) turned knows.prints))

      pub row_entered : Enters d any_meaning stamp (left_of before) (row_way source d stamp) seen (InHand hand) (left_of after) (row_way now d stamp)
      row_entered = (
        its,
        λ database stands told knows. (
          ap (λ (turns : List Turn). calls_to_come turns (contents_of database)) (last_first before after turn is)
              ∙ (enters_row d any_meaning kept stamp turn (reverse after) (contents_of database) ∙ sym (placed (contents_of database))),
          turn_expected d stamp.who turn (contents_of database) (row_way now d stamp told) hand.goes_on (calls_left hand) calls (counted (contents_of database)) (holds told (contents_of database) knows),
        ),
      )

-- it hears of a refusal
module _ (s : RowTurns) (now : Outcome) (taken : (front : List Happened) (last : Happened) → s.outcome.happened ≡ front ++ last ∷ [] → (now.happened ≡ front) × (now.stopped_at ≡ Some last.identity))
    (forgot : (texts : List Printed) (its : Printed) → s.outcome.printed ≡ texts ++ (if s.prints then its ∷ [] else []) → now.printed ≡ texts) (not_fresh : now.not_fresh ≡ s.outcome.not_fresh) (warned : now.warned ≡ s.outcome.warned) where
  pub stops_at : (d : Dialect) (stamp : Stamp) (told : Account) → GivesUp (row_way s d stamp told) (row_way (record s { outcome = now }) d stamp told)
  stops_at d stamp told = record {
    goes_on = λ refusal c y. absurd (clash y.stops);
    stops = λ refusal c y.
        let is = taken y.front y.last y.told_last in record {
          tells = record {
            happened = is.0 ∙ y.then_told.tells.happened;
            warned = warned ∙ y.then_told.tells.warned;
            not_fresh = not_fresh ∙ y.then_told.tells.not_fresh;
            stop = y.then_told.tells.stop ∙ sym (ap (λ (o : Option Identity). option_map (λ of. Stopped of refusal) o) is.1);
          };
          prints = forgot y.texts y.its y.kept_last ∙ y.then_told.prints;
        };
  } where
    clash : true ≡ false → ⊥
    clash h = Prim.cc

-- what is left was read for the dialect

module _ (d : Dialect) (before after : List Turn) (turn : Turn) (is : before ≡ after ++ turn ∷ []) (read : list_all (goes_back d) (reverse before) ≡ true) where
  both_read : list_all (goes_back d) (turn ∷ reverse after) ≡ true
  both_read = ap (list_all (goes_back d)) (sym (last_first before after turn is)) ∙ read

  pub turn_read : goes_back d turn ≡ true
  turn_read = and_left (goes_back d turn) _ both_read

  pub rest_read : list_all (goes_back d) (reverse after) ≡ true
  rest_read = and_right (goes_back d turn) _ both_read

  pub statements_read : list_all (is_statement d) turn.statements ≡ true
  statements_read = and_right (is_deletion turn.row) _ turn_read

deleted : (d : Dialect) (row : OnRows) → is_deletion row ≡ true → IsWritable d (Rows row)
deleted d (Deleted of) is = tt
deleted d (Inserted row) is = absurd Prim.cc
deleted d (Renewed row) is = absurd Prim.cc
deleted d (Filled of sum) is = absurd Prim.cc
deleted d (Tagged of tag) is = absurd Prim.cc
deleted d Cleared is = absurd Prim.cc

pub row_written : (d : Dialect) (turn : Turn) → goes_back d turn ≡ true → IsWritable d (Rows turn.row)
row_written d turn back = deleted d turn.row (and_left (is_deletion turn.row) _ back)

pub none_read : (d : Dialect) (turns : List Turn) → turns ≡ [] → list_all (goes_back d) (reverse turns) ≡ true
none_read d turns none = ap (λ (ts : List Turn). list_all (goes_back d) (reverse ts)) none

-- what is told of it

pub printed_is : (d : Dialect) (turn : Turn) (before new : List Printed) (statements : List Statement) → new ≡ before ++ with_texts d (turn.identity, statements) ∷ [] → statements ≡ turn.statements → new ≡ before ++ printed d turn ∷ []
printed_is d turn before new statements pushed same = pushed ∙ ap (λ (ss : List Statement). before ++ with_texts d (turn.identity, ss) ∷ []) same
