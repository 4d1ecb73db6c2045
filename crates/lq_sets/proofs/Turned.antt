-- What the turn of a changeset in hand comes to, as it is told.
use Rattle.std.proofs.Common.{ap, arith, sym, subst, refl, ◌≡◌, ◌≤◌, ◌∙◌, ◌+◌, ◌++◌, ◌∷◌, Bool, true, false, List, [], None, Option, Some, min, reverse, ℕ}
use Rattle.std.proofs.lemmas.List.{append-nil}
use Rattle.lq_base.specs.declared.dialect.Dialect.{Dialect}
use Rattle.lq_base.specs.declared.identity.Identity.{Identity}
use Rattle.lq_base.specs.declared.run.Happened.{Happened}
use Rattle.lq_base.specs.declared.run.Printed.{Printed}
use Rattle.lq_hand.specs.Way.{GivesUp, Looks, Way}
use Rattle.lq_any.specs.declared.any_change.AnyChange.{AnyChange}
use Rattle.lq_model.specs.Catalogue.{Catalogue}
use Rattle.lq_seen.proofs.Leading.{bounded_right, leads_same, plus_none}
use Rattle.lq_sets.proofs.Stale.{first_alike}
use Rattle.lq_sets.specs.Counting.{AreAlike, HasLooked, after_first, changes_before, counted_in, counts_to, stale_in}
use Rattle.lq_sets.specs.SetTurns.{ArePlanned, Awaits, Knows, YieldsAs, YieldsTo, if_kept, set_way, sets_left, to_print, to_settle, with_count}
use Rattle.lq_seen.specs.Telling.{Account, IsTakenBack, Leads, Reports, bounded, happened_instead, happens, stopped_instead}
use Rattle.lq_sets.specs.declared.in_hand.InHand.{InHand}
use Rattle.lq_seen.specs.declared.outcome.Outcome.{Outcome}
use Rattle.lq_sets.specs.declared.set_turns.SetTurns.{SetTurns}
use Rattle.lq_track.specs.Database.{Database}
use Rattle.lq_turns.specs.Deed.{Contents}
use Rattle.lq_turns.specs.Schedule.{StandsFor}
use Rattle.lq_turns.specs.declared.choice.Choice.{Choice}
use Rattle.lq_turns.specs.declared.stamp.Stamp.{Stamp}
use Rattle.lq_turns.specs.declared.stop.Refusal.{Refusal}
use Rattle.lq_turns.specs.declared.stop.Stop.TheVariants.{Refused}
use Rattle.std.specs.Prelude.{option_map}

some_is : {a b : InHand} → (let o : Option InHand = Some a in o) ≡ Some b → a ≡ b
some_is h = Prim.cc

none_some : (t : InHand) → (let o : Option InHand = None in o) ≡ Some t → ⊥
none_some t h = Prim.cc

module _ (s : SetTurns) (d : Dialect) (stamp : Stamp) (told : Account) where
  -- it was refused

  module _ (t : InHand) (in_hand : s.turn ≡ Some t) (left : Option InHand) (texts : List Printed) (forgot : (before : List Printed) (its : Printed) → s.outcome.printed ≡ before ++ if_kept s.prints t.choice its → texts ≡ before)
      (now : Outcome) (taken : happens t.choice ≡ true → IsTakenBack t.identity t.stops (record (s.outcome) { printed = texts }) now) where
    abbrev given : SetTurns
    given = record s { turn = left; outcome = now }

    abbrev Kept : InHand → Type 0
    Kept turn = IsTakenBack turn.identity turn.stops (record (s.outcome) { printed = texts }) now

    same : (on : Bool) (refusal : Refusal) (c : Contents) (y : YieldsTo s d stamp told on refusal c) → t ≡ y.turn
    same on refusal c y = some_is (sym in_hand ∙ y.is)

    back : (on : Bool) (refusal : Refusal) (c : Contents) (y : YieldsTo s d stamp told on refusal c) → Kept y.turn
    back on refusal c y = subst Kept (same on refusal c y) (taken (ap (λ (z : InHand). happens z.choice) (same on refusal c y) ∙ y.happens_by))

    -- its texts are gone
    texts_back : (on : Bool) (refusal : Refusal) (c : Contents) (y : YieldsTo s d stamp told on refusal c) → now.printed ≡ y.texts
    texts_back on refusal c y =
        let is = back on refusal c y in
        is.printed ∙ forgot y.texts y.its (y.kept_last ∙ ap (λ (z : InHand). y.texts ++ if_kept s.prints z.choice y.its) (sym (same on refusal c y)))

    goes : (refusal : Refusal) (c : Contents) → YieldsTo s d stamp told true refusal c → Knows given d stamp told c
    goes refusal c y =
        let is = back true refusal c y in record {
          planned = y.then_told.0;
          leads = leads_same (record (s.outcome) { happened = y.front ++ happened_instead y.turn.identity false }) now (to_settle s d stamp told c) told.settled
              (is.happened y.front y.last y.told_last ∙ ap (λ b. y.front ++ happened_instead y.turn.identity b) y.stops) is.warned is.not_fresh is.halted (is.stopped_at ∙ ap (λ b. stopped_instead y.turn.identity b s.outcome.stopped_at) y.stops) y.then_told.1;
          prints = ap (λ (ps : List Printed). ps ++ to_print s d stamp told c) (texts_back true refusal c y) ∙ y.then_told.2;
        }

    stops : (refusal : Refusal) (c : Contents) → YieldsTo s d stamp told false refusal c → Reports now told (Some refusal)
    stops refusal c y =
        let is = back false refusal c y in
        let tells = y.then_told.0 in record {
          tells = record {
            happened = is.happened y.front y.last y.told_last ∙ ap (λ b. y.front ++ happened_instead y.turn.identity b) y.stops ∙ append-nil y.front ∙ tells.happened;
            warned = is.warned ∙ tells.warned;
            not_fresh = is.not_fresh ∙ tells.not_fresh;
            stop = tells.stop ∙ sym (ap (λ (o : Option Identity). option_map (λ of. Refused of refusal) o) (is.stopped_at ∙ ap (λ b. stopped_instead y.turn.identity b s.outcome.stopped_at) y.stops));
          };
          prints = texts_back false refusal c y ∙ y.then_told.1;
        }

    pub gives_up : GivesUp (set_way s d stamp told) (set_way given d stamp told)
    gives_up = record { goes_on = goes; stops = stops }

  -- no turn was in hand
  pub gives_nothing : (way : Way) → s.turn ≡ None → GivesUp (set_way s d stamp told) way
  gives_nothing way none = record { goes_on = λ refusal c y. absurd (none_some y.turn (sym none ∙ y.is)); stops = λ refusal c y. absurd (none_some y.turn (sym none ∙ y.is)) }

  -- it has finished, and what it counted is added
  pub finishes : (turn : Option InHand) (last count : ℕ) (c : Contents) → last ≡ min s.last_after 2147483647 → count ≡ counted_in s.turn s.outcome.not_fresh → Awaits s d stamp told [] c
      → Knows (record s { turn = turn; last = last; outcome = record (s.outcome) { not_fresh = count } }) d stamp told c
  finishes turn last count c is counts awaits =
      let at : s.last_after ≤ 2147483647 = awaits.knows.planned.small in
      let same : s.last_after ≡ last = omega arith in
      let xs = changes_before s.changelog.sets s.next in
      let counted : count ≡ bounded (s.outcome.not_fresh + awaits.turn.not_fresh) = counts ∙ ap (λ (o : Option InHand). counted_in o s.outcome.not_fresh) awaits.is in
      let all : bounded (s.outcome.not_fresh + counts_to d xs awaits.turn []) ≡ bounded (s.outcome.not_fresh + awaits.turn.not_fresh)
      = ap (λ (n : ℕ). bounded (s.outcome.not_fresh + bounded n)) (sym (plus_none awaits.turn.not_fresh)) ∙ bounded_right s.outcome.not_fresh awaits.turn.not_fresh in
      record {
        planned = subst (λ n. ArePlanned s.next (sets_left s) (reverse s.items) n c.rows) same awaits.knows.planned;
        leads = leads_same (with_count s (counts_to d xs awaits.turn [])).outcome (record (s.outcome) { not_fresh = count }) (to_settle s d stamp told c) told.settled refl refl (counted ∙ sym all) refl refl awaits.knows.leads;
        prints = awaits.knows.prints;
      }

  -- it is looked at what a statement sees

  pub looks_past : (seen : Catalogue) → s.turn ≡ None → Looks d seen (set_way s d stamp told) (set_way s d stamp told)
  looks_past seen none = record { knows = λ c h. h; awaits = λ database stands more c h. absurd (none_some h.turn (sym none ∙ h.is)); yields = λ on refusal c h. h }

  module _ (seen : Catalogue) (t now : InHand) (in_hand : s.turn ≡ Some t) (same : (now.identity ≡ t.identity) × (now.choice ≡ t.choice) × (now.stops ≡ t.stops)) where
    abbrev on : SetTurns
    on = record s { turn = Some now }

    abbrev changes : List AnyChange
    changes = changes_before s.changelog.sets s.next

    -- what it will have counted is the same for those that are seen and for the users' objects in them
    counts_on : HasLooked d changes seen t now → (database : Database) → StandsFor d seen database → (sees : List Catalogue) (c : Contents) (h : Awaits s d stamp told (database.users ∷ sees) c)
        → counts_to d changes now sees ≡ counts_to d changes h.turn (database.users ∷ sees)
    counts_on looked database stands sees c h =
        let bs = reverse h.turn.beginnings in
        let is : t ≡ h.turn = some_is (sym in_hand ∙ h.is) in
        looked.counts sees
        ∙ (ap (λ (z : InHand). counts_to d changes z (seen ∷ sees)) is
        ∙ ap (λ (n : ℕ). bounded (h.turn.not_fresh + (n + stale_in d changes (after_first bs) sees))) (first_alike d changes bs h.alike seen database stands))

    pub looks_on : HasLooked d changes seen t now → Looks d seen (set_way s d stamp told) (set_way on d stamp told)
    looks_on looked = record {
      knows = λ c h. record { planned = h.planned; leads = h.leads; prints = h.prints };
      awaits = λ database stands sees c h.
          let is : t ≡ h.turn = some_is (sym in_hand ∙ h.is) in
          let same_count : counts_to d changes now sees ≡ counts_to d changes h.turn (database.users ∷ sees) = counts_on looked database stands sees c h in
          record {
            turn = now;
            is = refl;
            alike = looked.alike (subst (λ (z : InHand). AreAlike d changes (reverse z.beginnings)) (sym is) h.alike);
            knows = record {
              planned = h.knows.planned;
              leads = subst (λ (n : ℕ). Leads (with_count s n).outcome (to_settle s d stamp told c) told.settled) (sym same_count) h.knows.leads;
              prints = h.knows.prints;
            };
          };
      yields = λ goes_on refusal c y.
          let is : t ≡ y.turn = some_is (sym in_hand ∙ y.is) in record {
            turn = now;
            is = refl;
            stops = same.2 ∙ ap (λ (z : InHand). z.stops) is ∙ y.stops;
            happens_by = ap happens (same.1 ∙ ap (λ (z : InHand). z.choice) is) ∙ y.happens_by;
            front = y.front;
            last = y.last;
            told_last = y.told_last;
            texts = y.texts;
            its = y.its;
            kept_last = y.kept_last ∙ ap (λ (q : Choice). y.texts ++ if_kept s.prints q y.its) (sym (same.1 ∙ ap (λ (z : InHand). z.choice) is));
            then_told = subst (λ of. YieldsAs on d stamp told goes_on of y.front y.texts refusal c) (sym (same.0 ∙ ap (λ (z : InHand). z.identity) is)) (as_well goes_on y.turn.identity y.front y.texts refusal c y.then_told);
          };
    } where
      as_well : (goes_on : Bool) (of : Identity) (front : List Happened) (texts : List Printed) (refusal : Refusal) (c : Contents) → YieldsAs s d stamp told goes_on of front texts refusal c → YieldsAs on d stamp told goes_on of front texts refusal c
      as_well true of front texts refusal c y = y
      as_well false of front texts refusal c y = y
