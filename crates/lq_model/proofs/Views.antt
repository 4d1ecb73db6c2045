-- Views: what takes their making and renaming back, and that they keep a catalogue sound.
use Rattle.std.proofs.Common.{ap, arith, sym, ◌∙◌}
use Rattle.std.proofs.Math.Path.{subst}
use Rattle.std.specs.BTreeMap.{insert_entry}
use Rattle.std.specs.List.{list_all, list_any}
use Rattle.std.specs.List.Sorted.{IsStrictlySortedBy}
use Rattle.std.specs.Map.{keys_of, lookup, remove_entry}
use Rattle.std.specs.Prelude.{Bool, List, None, Ok, Option, Some, [], cond, false, is_none, is_some, map, not, refl, true, ℕ, ◌&&◌, ◌++◌, ◌+◌, ◌||◌, ◌∷◌, ◌≡◌}
use Rattle.lq_base.specs.Name.{is_name, is_named, is_object, name_cmp}
use Rattle.lq_base.specs.declared.dialect.Dialect.{Dialect}
use Rattle.lq_base.specs.declared.name.Name.{Name}
use Rattle.lq_model.specs.Catalogue.{Catalogue, Sequence, Table, View, table_of, the_table, view_of, with_view, without_view, is_empty, repeats, same_names, times, column_missing, has_column}
use Rattle.lq_model.specs.NameSpaces.{AreApart, is_taken, object_names, is_reserved, is_tracking, takes_lock_key}
use Rattle.lq_model.specs.Views.{listed, create_view, drop_view, is_count, new_view}
use Rattle.lq_model.specs.Tables.{rename_view, view_renamed}
use Rattle.lq_model.specs.Sound.{IsSound, IsSoundTable, are_columns, is_view, may_name}
use Rattle.lq_model.specs.Step.{is_query, is_wanted, step}
use Rattle.lq_model.specs.TakesBack.{no_view_yet}
use Rattle.lq_model.specs.Truth.{names_in}
use Rattle.lq_model.specs.declared.caller.By.{By}
use Rattle.lq_model.specs.declared.caller.By.TheVariants.{Program, User}
use Rattle.lq_model.specs.declared.column.Column.{Column}
use Rattle.lq_model.specs.declared.query.Query.{Query}
use Rattle.lq_model.specs.declared.query.Wanted.{Wanted}
use Rattle.lq_model.specs.declared.query.Wanted.TheVariants as wanted
use Rattle.lq_model.specs.declared.statement.Statement.TheVariants.{CreateView, DropView, RenameView}
use Rattle.lq_model.proofs.Counts.{keys-insert, keys-remove, once}
use Rattle.lq_model.proofs.CreateDrop.{remove_entry-insert_entry}
use Rattle.lq_model.proofs.CreateKeeps.{some_columns}
use Rattle.lq_model.proofs.Decide.{accepted, accepts, here}
use Rattle.lq_model.proofs.Lists.{all_none, and_left, and_no_right, and_right, and_true, any_none, named_itself, not_true, or_false, or_left, or_right, other_way, true_false}
use Rattle.lq_model.proofs.Maps.{any_none-insert_entry, any_none-remove_entry, at_lookup, lookup-insert_entry, lookup-remove_entry, same_maps, sorted-insert_entry, sorted-remove_entry, sorted_entries, sorted_keys}
use Rattle.lq_model.proofs.MovedEntries.{moved, moved_back, moved_keys, moved_none, moved_rise, moved_there, names_apart}
use Rattle.lq_model.proofs.PublicNames.{schemas_less, schemas_new}
use Rattle.lq_model.proofs.Sequences.{free_view, some_there, swap_lock, swap_reserved}
use Rattle.lq_model.proofs.Shaped.{IsShaped, keeps, shape_of}
use Rattle.lq_model.proofs.Spaces.{IsNamed, gone_apart, made_apart, moved_apart, moved_same, old_free}
use Rattle.lq_model.proofs.Times.{times-append}

-- a value put in the place of one that was there
over_is : {X : Type 0} (k : Name) (x : X) (es : List (Name × X)) → IsStrictlySortedBy name_cmp (keys_of es) → insert_entry name_cmp es k x ≡ insert_entry name_cmp (remove_entry (is_named k) es) k x
over_is k x es rise =
    let sorted = sorted_entries es rise in
    same_maps (insert_entry name_cmp es k x) (insert_entry name_cmp (remove_entry (is_named k) es) k x) (sorted-insert_entry es k x sorted) (sorted-insert_entry (remove_entry (is_named k) es) k x (sorted-remove_entry k es sorted))
    (λ q. lookup-insert_entry es k x q ∙ elim (is_named q k) as (λ b. is_named q k ≡ b → cond b (Some x) (lookup (is_named q) es) ≡ cond b (Some x) (cond (is_named k q) None (lookup (is_named q) es))) [
      | true ↦ λ p. refl
      | false ↦ λ p. sym (ap (λ b. cond b None (lookup (is_named q) es)) (other_way q k p))
    ] refl ∙ sym (lookup-insert_entry (remove_entry (is_named k) es) k x q ∙ ap (cond (is_named q k) (Some x)) (lookup-remove_entry k es q sorted)))

-- another map of views
views_named : (c : Catalogue) (vs : List (Name × View)) (less more : Name → ℕ) → ((n : Name) → times n (map (λ (x : Name × View). x.0) vs) + less n ≡ times n (map (λ (x : Name × View). x.0) c.views) + more n) → IsNamed c (record c { views = vs }) less more
views_named c vs less more h = record {
  objects = λ n.
      let tables = map (λ (x : Name × Table). x.0) c.tables in
      let others = map (λ (x : Name × Sequence). x.0) c.sequences in
      let old = map (λ (x : Name × View). x.0) c.views in
      let new = map (λ (x : Name × View). x.0) vs in
      let a = times-append n tables (new ++ others) in
      let b = times-append n new others in
      let p = times-append n tables (old ++ others) in
      let q = times-append n old others in
      let x = h n in
      omega (arith, a, b, p, q, x);
  inner = λ n. refl;
  foreign = λ n. refl;
}

views_shaped : (d : Dialect) (c : Catalogue) (vs : List (Name × View)) → IsShaped d c → IsStrictlySortedBy name_cmp (keys_of vs) → AreApart d (record c { views = vs }) → may_name d (object_names (record c { views = vs })) ≡ true → list_any (λ (x : Name × View). not (is_view c x.1)) vs ≡ false → IsShaped d (record c { views = vs })
views_shaped d c vs shape rise apart schemas none = record {
  ordered = shape.ordered;
  ordered_views = rise;
  ordered_sequences = shape.ordered_sequences;
  tables = shape.tables;
  views = all_none (λ (x : Name × View). is_view c x.1) vs none;
  apart = apart;
  schemas = schemas;
  steps = shape.steps;
  sequences = shape.sequences;
  alike = shape.alike;
}

-- none of the views is unsound
no_bad : (d : Dialect) (c : Catalogue) → IsSound d c → list_any (λ (x : Name × View). not (is_view c x.1)) c.views ≡ false
no_bad d c sound = any_none (λ (x : Name × View). not (is_view c x.1)) (λ (x : Name × View). is_view c x.1) c.views (λ x h. not_true _ h) sound.views

-- DROP VIEW

pub drop_view_keeps : (by : By) (d : Dialect) (v : Name) (c e : Catalogue) (k : ℕ) → IsSound d c → step by d (DropView v) c ≡ Ok (e, k) → IsSound d e
drop_view_keeps by d v c e k sound made =
    let p = drop_view by d v c in
    let ok = accepted p e k made in
    let vs = remove_entry (is_named v) c.views in
    let it = some_there (view_of c v) ok.missing in
    let named = views_named c vs (λ n. once (is_named n v)) (λ n. 0) (λ n. let x = keys-remove (λ (y : Name × View). []) n c.views v it.0 it.1 in omega (arith, x)) in
    keeps d p e k made (views_shaped d c vs (shape_of d c sound) (sorted_keys vs (sorted-remove_entry v c.views (sorted_entries c.views sound.ordered_views)))
    (gone_apart d c (without_view c v) v named sound.apart) (schemas_less d c (without_view c v) (λ n. once (is_named n v)) named sound.schemas) (any_none-remove_entry (is_named v) (λ (x : Name × View). not (is_view c x.1)) c.views (no_bad d c sound)))

reserved_one : (by : By) (a b : Name) → is_reserved by (a ∷ b ∷ []) ≡ false → is_reserved by (a ∷ []) ≡ false
reserved_one User a b h = or_false _ _ (or_left (is_tracking a) _ h) refl
reserved_one Program a b h = refl

none_at : (o : Option View) → is_none o ≡ true → o ≡ None
none_at None h = refl
none_at (Some x) h = true_false h refl

-- where none is replaced, the name was free
none_before : (by : By) (d : Dialect) (v : Name) (q : Query) (replace : Bool) (c : Catalogue) → (not replace || no_view_yet v c) ≡ true → (create_view by d v q replace c).exists ≡ false → view_of c v ≡ None
none_before by d v q true c fresh free = none_at (view_of c v) fresh
none_before by d v q false c fresh free = free_view d v c (or_left (is_taken d v c) (takes_lock_key by d (v ∷ [])) (or_left (is_taken d v c || takes_lock_key by d (v ∷ [])) _ free))

pub drop_view_after : (d : Dialect) (v : Name) (q : Query) (replace : Bool) (by : By) (c e : Catalogue) (k : ℕ) → IsSound d c → (not replace || no_view_yet v c) ≡ true → step by d (CreateView v q replace) c ≡ Ok (e, k) → step by d (DropView v) e ≡ Ok (c, 0)
drop_view_after d v q replace by c e k sound fresh made =
    let it = new_view q (the_table c q.table) in
    let ok = accepted (create_view by d v q replace c) e k made in
    let none = none_before by d v q replace c fresh ok.exists in
    ap (step by d (DropView v)) (sym ok.result)
    ∙ accepts d (drop_view by d v (with_view c v it)) c sound (ap (λ vs. record c { views = vs }) (remove_entry-insert_entry v it c.views none))
    (record {
      reserved = reserved_one by v q.table ok.reserved;
      missing = ap is_none (lookup-insert_entry c.views v it v ∙ ap (λ b. cond b (Some it) (view_of c v)) (named_itself v));
      exists = refl;
      depends = refl;
      wrong = refl;
      wide = refl;
    })

-- CREATE VIEW

same_names_itself : (ns : List Name) → same_names ns ns ≡ true
same_names_itself [] = refl
same_names_itself (n ∷ ns) = and_true _ _ (named_itself n) (same_names_itself ns)

listed_some : (d : Dialect) (it : Table) (w : Wanted) → IsSoundTable d it → is_wanted w ≡ true → is_count w ≡ false → not (is_empty (listed w it.columns)) ≡ true
listed_some d it wanted.All fine valid count = ap not (some_columns (λ (x : Column). x.name) it.columns fine.some)
listed_some d it wanted.Count fine valid count = true_false refl count
listed_some d it (wanted.Columns ns) fine valid count = and_left (not (is_empty ns)) _ valid

pub create_view_keeps : (by : By) (d : Dialect) (v : Name) (q : Query) (replace : Bool) (c e : Catalogue) (k : ℕ) → is_object d v ≡ true → is_query d q ≡ true → IsSound d c → step by d (CreateView v q replace) c ≡ Ok (e, k) → IsSound d e
create_view_keeps by d v q replace c e k object valid sound made =
    let it = the_table c q.table in
    let names = listed q.wanted it.columns in
    let p = create_view by d v q replace c in
    let ok = accepted p e k made in
    let there = here c q.table (or_left _ _ ok.missing) in
    let fine = sound.tables q.table it there in
    let new = new_view q it in
    let vs = insert_entry name_cmp c.views v new in
    let missing = or_right (is_none (table_of c q.table)) _ ok.missing in
    let are : are_columns it names ≡ true = and_true _ _ (listed_some d it q.wanted fine (and_left (is_wanted q.wanted) _ valid) (or_left (is_count q.wanted) _ ok.wrong))
    (and_true _ _ (ap not (or_right (not (replace && is_some (view_of c v)) && (is_taken d v c || takes_lock_key by d (v ∷ []))) (repeats names) ok.exists)) (all_none (has_column it) names (or_left (column_missing it names) _ missing))) in
    let is : is_view c new ≡ true = and_true _ _ (ap (λ o. is_some o) there) (and_true _ _ are (and_true _ _ (all_none (has_column it) (names_in q.test) (or_right (column_missing it names) _ missing))
    (and_true _ _ (same_names_itself names) (and_true _ _ (and_right (list_all is_name (names_in q.test)) _ (and_right (is_object d q.table) _ (and_right (is_wanted q.wanted) _ valid))) (ap not (or_right (is_count q.wanted) _ ok.wrong)))))) in
    let rise = sorted_keys vs (sorted-insert_entry c.views v new (sorted_entries c.views sound.ordered_views)) in
    let none = any_none-insert_entry (λ (x : Name × View). not (is_view c x.1)) c.views v new (λ n. refl) (not_true _ is) (no_bad d c sound) in
    keeps d p e k made (views_shaped d c vs (shape_of d c sound) rise (apart_now (view_of c v) refl new (or_left _ (repeats names) ok.exists)) (schemas_now (view_of c v) refl new) none)
  where
    new_named : view_of c v ≡ None → (new : View) → IsNamed c (with_view c v new) (λ n. 0) (λ n. once (is_named n v))
    new_named none new = views_named c (insert_entry name_cmp c.views v new) (λ n. 0) (λ n. once (is_named n v)) (λ n. let x = keys-insert (λ (y : Name × View). []) n c.views v new none in omega (arith, x))

    over_named : (old : View) → view_of c v ≡ Some old → (new : View) → IsNamed c (with_view c v new) (λ n. 0) (λ n. 0)
    over_named old has new = views_named c (insert_entry name_cmp c.views v new) (λ n. 0) (λ n. 0) (λ n.
        let rest = remove_entry (is_named v) c.views in
        let sorted = sorted_entries c.views sound.ordered_views in
        let none = lookup-remove_entry v c.views v sorted ∙ ap (λ b. cond b None (view_of c v)) (named_itself v) in
        let x = keys-insert (λ (y : Name × View). []) n rest v new none in
        let y = keys-remove (λ (y : Name × View). []) n c.views v old has in
        let z : times n (map (λ (x : Name × View). x.0) (insert_entry name_cmp c.views v new)) ≡ times n (map (λ (x : Name × View). x.0) (insert_entry name_cmp rest v new)) = ap (λ es. times n (map (λ (x : Name × View). x.0) es)) (over_is v new c.views sound.ordered_views) in
        omega (arith, x, y, z))

    apart_now : (o : Option View) → view_of c v ≡ o → (new : View) → (not (replace && is_some (view_of c v)) && (is_taken d v c || takes_lock_key by d (v ∷ []))) ≡ false → AreApart d (with_view c v new)
    apart_now None none new exists = made_apart d c (with_view c v new) v (new_named none new)
        (or_left (is_taken d v c) (takes_lock_key by d (v ∷ [])) (ap (λ b. not b && (is_taken d v c || takes_lock_key by d (v ∷ []))) (sym (and_no_right replace (is_some (view_of c v)) (ap (λ o. is_some o) none))) ∙ exists)) sound.apart
    apart_now (Some old) has new exists = moved_same d c (with_view c v new) (over_named old has new) sound.apart

    schemas_now : (o : Option View) → view_of c v ≡ o → (new : View) → may_name d (object_names (with_view c v new)) ≡ true
    schemas_now None none new = schemas_new d c (with_view c v new) (λ n. 0) v object (new_named none new) sound.schemas
    schemas_now (Some old) has new = schemas_less d c (with_view c v new) (λ n. 0) (over_named old has new) sound.schemas

-- RENAME

module _ (d : Dialect) (a b : Name) (c : Catalogue) (sound : IsSound d c) (it : View) (there : view_of c a ≡ Some it) (free : is_taken d b c ≡ false) where
  pub none_yet : view_of c b ≡ None
  none_yet = free_view d b c free

  abbrev pub view_moved : Catalogue
  view_moved = record c { views = moved c.views a b it sound.ordered_views there (free_view d b c free) }

  pub view_renamed_is : view_renamed a b c ≡ view_moved
  view_renamed_is = ap (λ o. elim o [ None ↦ c | Some v ↦ with_view (without_view c a) b v ]) there

  pub view_back_is : view_renamed b a view_moved ≡ c
  view_back_is = ap (λ o. elim o [ None ↦ view_moved | Some v ↦ with_view (without_view view_moved b) a v ]) (moved_there c.views a b it sound.ordered_views there none_yet)
      ∙ ap (λ vs. record c { views = vs }) (moved_back c.views a b it sound.ordered_views there none_yet)

  names_apart_here : is_named a b ≡ false
  names_apart_here = names_apart c.views a b it sound.ordered_views there none_yet

  named_here : IsNamed c view_moved (λ n. once (is_named n a)) (λ n. once (is_named n b))
  named_here = views_named c view_moved.views (λ n. once (is_named n a)) (λ n. once (is_named n b)) (moved_keys c.views a b it sound.ordered_views there none_yet)

  pub old_name_free : is_taken d a view_moved ≡ false
  old_name_free = old_free d c view_moved a b names_apart_here named_here sound.apart

  pub view_back : (by : By) → is_reserved by (b ∷ a ∷ []) ≡ false → takes_lock_key by d (b ∷ a ∷ []) ≡ false → step by d (RenameView b a) (view_renamed a b c) ≡ Ok (c, 0)
  view_back by reserved lock = ap (step by d (RenameView b a)) view_renamed_is
      ∙ accepts d (rename_view by d b a view_moved) c sound view_back_is
      (record {
        reserved = reserved;
        missing = ap is_none (moved_there c.views a b it sound.ordered_views there none_yet);
        exists = or_false _ _ old_name_free lock;
        depends = refl;
        wrong = refl;
        wide = refl;
      })

  pub view_shaped : is_object d b ≡ true → IsShaped d (view_renamed a b c)
  view_shaped object = subst (IsShaped d) (sym view_renamed_is) (views_shaped d c view_moved.views (shape_of d c sound) (moved_rise c.views a b it sound.ordered_views there none_yet)
      (moved_apart d c view_moved a b names_apart_here named_here free sound.apart)
      (schemas_new d c view_moved (λ n. once (is_named n a)) b object named_here sound.schemas)
      (moved_none c.views a b it sound.ordered_views there none_yet (λ v. not (is_view c v)) (at_lookup (is_named a) (λ v. not (is_view c v)) c.views it (no_bad d c sound) there) (no_bad d c sound)))

pub rename_view_after : (d : Dialect) (a b : Name) (by : By) (c e : Catalogue) (k : ℕ) → IsSound d c → step by d (RenameView a b) c ≡ Ok (e, k) → step by d (RenameView b a) e ≡ Ok (c, 0)
rename_view_after d a b by c e k sound made =
    let ok = accepted (rename_view by d a b c) e k made in
    let it = some_there (view_of c a) ok.missing in
    ap (step by d (RenameView b a)) (sym ok.result) ∙ view_back d a b c sound it.0 it.1 (or_left (is_taken d b c) _ ok.exists) by (swap_reserved by a b ok.reserved) (swap_lock by d a b (or_right (is_taken d b c) _ ok.exists))

pub rename_view_keeps : (by : By) (d : Dialect) (a b : Name) (c e : Catalogue) (k : ℕ) → is_object d b ≡ true → IsSound d c → step by d (RenameView a b) c ≡ Ok (e, k) → IsSound d e
rename_view_keeps by d a b c e k object sound made =
    let p = rename_view by d a b c in
    let ok = accepted p e k made in
    let it = some_there (view_of c a) ok.missing in
    keeps d p e k made (view_shaped d a b c sound it.0 it.1 (or_left (is_taken d b c) _ ok.exists) object)
