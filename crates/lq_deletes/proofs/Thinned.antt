-- Tables that keep the rows that stay, table by table.
use Rattle.std.proofs.Common.{ap, subst, sym, ◌∙◌}
use Rattle.std.specs.FinMap.Entries.{is_sorted}
use Rattle.std.specs.List.{filter, list_any}
use Rattle.std.specs.Map.{lookup, set_value}
use Rattle.std.specs.Option.{unwrap_or}
use Rattle.std.specs.Prelude.{Bool, List, None, Option, Some, T, [], cond, false, is_some, length, map, not, refl, suc, true, ◌&&◌, ◌∷◌, ◌≡◌}
use Rattle.lq_base.specs.Name.{is_named, name_cmp}
use Rattle.lq_base.specs.declared.name.Name.{Name}
use Rattle.lq_chain.specs.Marks.{kept_rows}
use Rattle.lq_chain.specs.History.{History, changed}
use Rattle.lq_model.specs.Catalogue.{Catalogue, Table, no_table, the_table, with_table}
use Rattle.lq_model.proofs.Lists.{filter_kept, named_itself, or_left, or_right, other_way, whether}
use Rattle.lq_model.proofs.Maps.{below_gone}
use Rattle.lq_rows.specs.Stored.{with_all}
use Rattle.lq_deletes.specs.Places.{AreMarked, thinned, with_thinned, Choice}
use Rattle.lq_deletes.proofs.Rounds.{kept_of}

-- rows kept by a test's marks are those that pass it
pub kept_by_marks : {X : Type 0} (p : X → Bool) (xs : List X) → kept_rows (map p xs) xs ≡ filter p xs
kept_by_marks p [] = refl
kept_by_marks p (x ∷ xs) = ap (λ ys. cond (p x) (x ∷ ys) ys) (kept_by_marks p xs)

pub as_many : {X Y : Type 0} (f : X → Y) (xs : List X) → length (map f xs) ≡ length xs
as_many f [] = refl
as_many f (x ∷ xs) = ap suc (as_many f xs)

first : (a b : Bool) → T (a && b) → T a
first true b p = tt
first false b p = p

second : (a b : Bool) → T (a && b) → T b
second true b p = p
second false b p = absurd p

-- no entry is of the name
abbrev is_apart : Name → List (Name × List Bool) → Bool
is_apart n xs = list_any (λ x. is_named x.0 n) xs

-- a first entry of another name stays
module _ (e : Name × Table) where
  thinned_past : (xs : List (Name × List Bool)) (es : List (Name × Table)) → is_apart e.0 xs ≡ false → thinned xs (e ∷ es) ≡ e ∷ thinned xs es
  thinned_past [] es none = refl
  thinned_past (x ∷ xs) es none =
      rw (or_left (is_named x.0 e.0) _ none) (thinned_past xs (set_value (is_named x.0) es (with_all (kept_rows x.1) (unwrap_or (lookup (is_named x.0) es) no_table))) (or_right (is_named x.0 e.0) _ none))

  marked_past : (xs : List (Name × List Bool)) (es : List (Name × Table)) → is_apart e.0 xs ≡ false → AreMarked xs es → AreMarked xs (e ∷ es)
  marked_past [] es none marked = tt
  marked_past (x ∷ xs) es none marked =
      rw (or_left (is_named x.0 e.0) _ none) (marked.0, marked.1, marked_past xs (set_value (is_named x.0) es (with_all (kept_rows x.1) (unwrap_or (lookup (is_named x.0) es) no_table))) (or_right (is_named x.0 e.0) _ none) marked.2)

  -- the first entry is thinned by its own marks
  thinned_first : (ms : List Bool) (xs : List (Name × List Bool)) (es : List (Name × Table)) → thinned ((e.0, ms) ∷ xs) (e ∷ es) ≡ thinned xs ((e.0, with_all (kept_rows ms) e.1) ∷ es)
  thinned_first ms xs es = ap (λ (b : Bool). thinned xs (cond b ((e.0, with_all (kept_rows ms) (unwrap_or (cond b (Some e.1) (lookup (is_named e.0) es)) no_table)) ∷ es) (e ∷ set_value (is_named e.0) es (with_all (kept_rows ms) (unwrap_or (cond b (Some e.1) (lookup (is_named e.0) es)) no_table))))) (named_itself e.0)

  marked_first : (ms : List Bool) (xs : List (Name × List Bool)) (es : List (Name × Table)) → length ms ≡ length e.1.rows → AreMarked xs ((e.0, with_all (kept_rows ms) e.1) ∷ es) → AreMarked ((e.0, ms) ∷ xs) (e ∷ es)
  marked_first ms xs es each more = subst (λ (b : Bool). (is_some (cond b (Some e.1) (lookup (is_named e.0) es)) ≡ true) × (length ms ≡ length (unwrap_or (cond b (Some e.1) (lookup (is_named e.0) es)) no_table).rows) × AreMarked xs (cond b ((e.0, with_all (kept_rows ms) (unwrap_or (cond b (Some e.1) (lookup (is_named e.0) es)) no_table)) ∷ es) (e ∷ set_value (is_named e.0) es (with_all (kept_rows ms) (unwrap_or (cond b (Some e.1) (lookup (is_named e.0) es)) no_table))))) (sym (named_itself e.0)) (refl, each, more)

module _ (stay : Choice) where
  -- a row of the table goes
  abbrev pub drops_in : Name × Table → Bool
  drops_in e = list_any (λ r. not (stay e.0 r)) e.1.rows

  -- for each row of the table whether it stays
  abbrev pub staying : Name × Table → Name × List Bool
  staying e = (e.0, map (stay e.0) e.1.rows)

  -- the same for the tables of which a row goes
  abbrev pub chosen : List (Name × Table) → List (Name × List Bool)
  chosen es = map staying (filter drops_in es)

  -- a table is of none of the tables after it
  chosen_apart : (n : Name) (es : List (Name × Table)) → lookup (is_named n) es ≡ None → is_apart n (chosen es) ≡ false
  chosen_apart n [] none = refl
  chosen_apart n (e ∷ es) none = whether (is_named n e.0)
      (λ is. absurd (clash (sym (ap (λ b. cond b (Some e.1) (lookup (is_named n) es)) is) ∙ none)))
      (λ other. at (drops_in e) (other_way n e.0 other) (chosen_apart n es (sym (ap (λ b. cond b (Some e.1) (lookup (is_named n) es)) other) ∙ none))) where
        clash : (let o : Option Table = Some e.1 in o) ≡ None → ⊥
        clash h = Prim.cc h

        at : (b : Bool) → is_named e.0 n ≡ false → is_apart n (chosen es) ≡ false → is_apart n (map staying (cond b (e ∷ filter drops_in es) (filter drops_in es))) ≡ false
        at true apart more = rw (apart) more
        at false apart more = more

  rest_is : (e : Name × Table) → (e.0, with_all (kept_rows (staying e).1) e.1) ≡ kept_of stay e
  rest_is e = ap (λ rows. (e.0, record e.1 { rows = rows })) (kept_by_marks (stay e.0) e.1.rows)

  rest_same : (e : Name × Table) → drops_in e ≡ false → kept_of stay e ≡ e
  rest_same e none = ap (λ rows. (e.0, record e.1 { rows = rows })) (filter_kept (stay e.0) e.1.rows none)

  apart_after : (e : Name × Table) (es : List (Name × Table)) → T (is_sorted name_cmp (e ∷ es)) → is_apart e.0 (chosen es) ≡ false
  apart_after e es rise = chosen_apart e.0 es (below_gone e.0 es (first _ _ rise))

  pub chosen_some : (e : Name × Table) (es : List (Name × Table)) → drops_in e ≡ true → chosen (e ∷ es) ≡ staying e ∷ chosen es
  chosen_some e es some = ap (λ (b : Bool). map staying (cond b (e ∷ filter drops_in es) (filter drops_in es))) some

  pub chosen_none : (e : Name × Table) (es : List (Name × Table)) → drops_in e ≡ false → chosen (e ∷ es) ≡ chosen es
  chosen_none e es none = ap (λ (b : Bool). map staying (cond b (e ∷ filter drops_in es) (filter drops_in es))) none

  pub thinned_is : (es : List (Name × Table)) → T (is_sorted name_cmp es) → thinned (chosen es) es ≡ map (kept_of stay) es
  thinned_is [] rise = refl
  thinned_is (e ∷ es) rise =
      let more = thinned_is es (second _ _ rise) in
      let apart = apart_after e es rise in
      whether (drops_in e)
      (λ some. ap (λ xs. thinned xs (e ∷ es)) (chosen_some e es some) ∙ thinned_first e (staying e).1 (chosen es) es ∙ thinned_past (e.0, with_all (kept_rows (staying e).1) e.1) (chosen es) es apart ∙ ap (λ x. x ∷ thinned (chosen es) es) (rest_is e) ∙ ap (λ xs. kept_of stay e ∷ xs) more)
      (λ none. ap (λ xs. thinned xs (e ∷ es)) (chosen_none e es none) ∙ thinned_past e (chosen es) es apart ∙ ap (λ x. x ∷ thinned (chosen es) es) (sym (rest_same e none)) ∙ ap (λ xs. kept_of stay e ∷ xs) more)

  pub are_marked : (es : List (Name × Table)) → T (is_sorted name_cmp es) → AreMarked (chosen es) es
  are_marked [] rise = tt
  are_marked (e ∷ es) rise =
      let more = are_marked es (second _ _ rise) in
      let apart = apart_after e es rise in
      whether (drops_in e)
      (λ some. subst (λ xs. AreMarked xs (e ∷ es)) (sym (chosen_some e es some)) (marked_first e (staying e).1 (chosen es) es (as_many (stay e.0) e.1.rows) (marked_past (e.0, with_all (kept_rows (staying e).1) e.1) (chosen es) es apart more)))
      (λ none. subst (λ xs. AreMarked xs (e ∷ es)) (sym (chosen_none e es none)) (marked_past e (chosen es) es apart more))

-- one table more is thinned

pub thin_step : (h e : History Catalogue) (x : Name × List Bool) (xs : List (Name × List Bool)) → e ≡ changed h (with_table h.now x.0 (with_all (kept_rows x.1) (the_table h.now x.0))) → with_thinned xs e.now ≡ with_thinned (x ∷ xs) h.now
thin_step h e x xs is = ap (λ (g : History Catalogue). with_thinned xs g.now) is

pub marked_step : (h e : History Catalogue) (x : Name × List Bool) (xs : List (Name × List Bool)) → e ≡ changed h (with_table h.now x.0 (with_all (kept_rows x.1) (the_table h.now x.0))) → AreMarked (x ∷ xs) h.now.tables → AreMarked xs e.now.tables
marked_step h e x xs is marked = subst (λ (g : History Catalogue). AreMarked xs g.now.tables) (sym is) marked.2
