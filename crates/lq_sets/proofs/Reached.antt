-- What the turns that were skipped left, up to the one that is entered.
use Rattle.std.proofs.Common.{ap, inr, sym, subst, refl, ◌≡◌, ◌∙◌, ◌∷◌, ◌++◌, ◌<◌, Bool, List, [], length, nat_lt, reverse, true, drop, None}
use Rattle.std.proofs.lemmas.Bool.{ltb-true}
use Rattle.std.proofs.lemmas.List.{reverse-append}
use Rattle.std.specs.List.{list_all}
use Rattle.lq_base.specs.declared.dialect.Dialect.{Dialect}
use Rattle.lq_base.specs.declared.identity.Identity.{Identity}
use Rattle.lq_hand.specs.Way.{Enters, rest_at}
use Rattle.lq_hand.specs.declared.hand.Hand.{Hand}
use Rattle.lq_hand.specs.declared.source.Entered.TheVariants as entered
use Rattle.lq_model.proofs.Lists.{all-append_left, all-append_right, and_left}
use Rattle.lq_model.specs.Catalogue.{Catalogue}
use Rattle.lq_model.specs.declared.statement.Statement.{Statement}
use Rattle.lq_plan.specs.declared.turns.Item.{Item}
use Rattle.lq_seen.proofs.Leading.{leads_end}
use Rattle.lq_seen.proofs.Shown.{all_shown}
use Rattle.lq_sets.proofs.Planned.{none_left, none_printed, none_settled}
use Rattle.lq_sets.specs.SetTurns.{ArePlanned, CameTo, IsReadFor, Knows, set_way, sets_left}
use Rattle.lq_seen.specs.Telling.{Account, shown, Leads, Reports}
use Rattle.lq_seen.specs.View.{any_meaning}
use Rattle.lq_sets.specs.declared.set_turns.SetTurns.{SetTurns}
use Rattle.lq_sets.specs.declared.set_turns.Tried.TheVariants.{Halted, Lack, Skipped, Turn as Tried}
use Rattle.lq_track.specs.Database.{Database}
use Rattle.lq_turns.specs.Deed.{contents_of}
use Rattle.lq_turns.specs.Schedule.{StandsFor}
use Rattle.lq_turns.specs.Rest.{OfSets, between}
use Rattle.lq_turns.specs.Script.{closing}
use Rattle.lq_turns.specs.declared.call.Call.{Call}
use Rattle.lq_turns.specs.declared.stamp.Stamp.{Stamp}

module _ (d : Dialect) (stamp : Stamp) (seen : Catalogue) where
  abbrev pub to_come : SetTurns → Database → List Call
  to_come s database = rest_at d any_meaning stamp (between (OfSets (sets_left s))) (contents_of database)

  abbrev pub KnowsIt : SetTurns → Database → Account → Type 0
  KnowsIt s database told = Knows s d stamp told (contents_of database)

  -- the same calls are to come as in the beginning, and the contents are known still
  pub record Reached (first now : SetTurns) : Type 0 where
    pub goes : (database : Database) → StandsFor d seen database → (told : Account) → KnowsIt first database told → (to_come first database ≡ to_come now database) × KnowsIt now database told

  pub begins : (s : SetTurns) → Reached s s
  begins s = record { goes = λ database stands told knows. (refl, knows) }

  module _ (first now : SetTurns) (reached : Reached first now) where
    -- the next item is popped
    popped : (item : Item) (rest : List Item) → now.items ≡ rest ++ item ∷ [] → (database : Database) → ArePlanned now.next (sets_left now) (reverse now.items) now.last database.rows → ArePlanned now.next (sets_left now) (item ∷ reverse rest) now.last database.rows
    popped item rest is database planned = subst (λ items. ArePlanned now.next (sets_left now) items now.last database.rows) (ap reverse is ∙ reverse-append rest (item ∷ [])) planned

    module _ (item : Item) (rest : List Item) (is : now.items ≡ rest ++ item ∷ []) (after : SetTurns) where
      pub goes_on : CameTo d stamp seen (record now { items = rest }) after item Skipped → Reached first after
      goes_on came = record {
        goes = λ database stands told knows.
            let so_far = reached.goes database stands told knows in
            let next = came database told stands (popped item rest is database so_far.1.planned) so_far.1.leads so_far.1.prints in
            (so_far.0 ∙ next.0, next.1);
      }

      pub enters_one : (hand : Hand) → CameTo d stamp seen (record now { items = rest }) after item (Tried hand) → Enters d any_meaning stamp (OfSets (sets_left first)) (set_way first d stamp) seen (entered.Turn hand) (OfSets (sets_left after)) (set_way after d stamp)
      enters_one hand came = (
        came.0,
        λ database stands told knows.
            let so_far = reached.goes database stands told knows in
            let next = came.1 database told stands (popped item rest is database so_far.1.planned) so_far.1.leads so_far.1.prints in
            (so_far.0 ∙ next.0, next.1),
      )

      pub halts : CameTo d stamp seen (record now { items = rest }) after item Halted → (database : Database) → StandsFor d seen database → (told : Account) → KnowsIt first database told → (to_come first database ≡ closing ∷ []) × Reports after.outcome told None
      halts came database stands told knows =
          let so_far = reached.goes database stands told knows in
          let next = came database told stands (popped item rest is database so_far.1.planned) so_far.1.leads so_far.1.prints in
          (so_far.0 ∙ next.0, next.1)

      pub lacks : CameTo d stamp seen (record now { items = rest }) after item Lack → Enters d any_meaning stamp (OfSets (sets_left first)) (set_way first d stamp) seen entered.Lack (OfSets (sets_left after)) (set_way after d stamp)
      lacks came database stands told knows =
          let so_far = reached.goes database stands told knows in
          inr (inr (inr (inr (came database told stands (popped item rest is database so_far.1.planned) so_far.1.leads so_far.1.prints))))

    -- no item is left
    pub ends : now.items ≡ [] → (database : Database) → StandsFor d seen database → (told : Account) → KnowsIt first database told → (to_come first database ≡ closing ∷ []) × Reports now.outcome told None
    ends none database stands told knows =
        let so_far = reached.goes database stands told knows in
        let work = so_far.1.planned.work ∙ ap reverse none in
        let c = contents_of database in (
          so_far.0 ∙ ap (λ (calls : List Call). calls ++ closing ∷ []) (none_left now.options database.rows d stamp c refl (drop now.next now.changelog.sets) now.next work),
          record {
            tells = leads_end now.outcome c told.settled (subst (λ s. Leads now.outcome s told.settled) (none_settled now.options database.rows d stamp c refl (drop now.next now.changelog.sets) now.next work) so_far.1.leads);
            prints = all_shown now.prints d now.outcome.printed told.printed
                (subst (λ (ran : List (Identity × List Statement)). now.outcome.printed ++ shown now.prints d ran ≡ told.printed) (none_printed now.options database.rows d stamp c refl (drop now.next now.changelog.sets) now.next work) so_far.1.prints);
          },
        )

-- the item that is popped is a place of the changelog

abbrev is_place : SetTurns → Item → Bool
is_place s item = nat_lt item.index (length s.changelog.sets)

module _ (s : SetTurns) (d : Dialect) (reads : IsReadFor s d) (item : Item) (rest : List Item) (is : s.items ≡ rest ++ item ∷ []) where
  all_places : list_all (is_place s) (rest ++ item ∷ []) ≡ true
  all_places = ap (list_all (is_place s)) (sym is) ∙ reads.within

  pub popped_place : item.index < length s.changelog.sets
  popped_place = ltb-true item.index (length s.changelog.sets) (and_left (is_place s item) true (all-append_right (is_place s) rest (item ∷ []) all_places))

  pub reads_rest : IsReadFor (record s { items = rest }) d
  reads_rest = record { dialect = reads.dialect; read = reads.read; within = all-append_left (is_place s) rest (item ∷ []) all_places; room = reads.room }
