-- Lemmas on the names that the users' objects have.
use Rattle.std.proofs.Common.{Bool, List, ap, false, not, refl, sym, true, [], cond, map, ◌&&◌, ◌++◌, ◌∙◌, ◌∷◌, ◌≡◌, ◌||◌}
use Rattle.std.specs.FinMap.Entries.{below_all, is_sorted}
use Rattle.std.specs.List.{flat_map, list_any}
use Rattle.std.specs.Map.{remove_entry}
use Rattle.std.specs.Ordering.{is_eq, is_lt}
use Rattle.std.specs.Prelude.{T}
use Rattle.std.specs.declared.cmp.Ordering.TheVariants.{Equal, Greater, Less}
use Rattle.lq_base.specs.Name.{is_named, name_cmp}
use Rattle.lq_base.specs.declared.name.Name.{Name}
use Rattle.lq_engine.specs.State.{is_tracking_table}
use Rattle.lq_model.specs.Catalogue.{Catalogue, Sequence, Table, View, is_in, foreign_names, inner_names, key_list}
use Rattle.lq_model.specs.NameSpaces.{names_inside, object_names, shared_names, is_reserved, is_tracking}
use Rattle.lq_model.specs.declared.caller.By.TheVariants.{User}
use Rattle.lq_model.specs.declared.constraint.ForeignKey.{ForeignKey}
use Rattle.lq_model.specs.declared.constraint.Key.{Key}
use Rattle.lq_model.specs.declared.constraint.Unique.{Unique}
use Rattle.lq_model.specs.declared.index.Index.{Index}
use Rattle.lq_model.proofs.Absent.{any-flat_map}
use Rattle.lq_model.proofs.Lists.{any-append, any-map, any_same, same_name}
use Rattle.lq_model.proofs.Maps.{sorted-remove_entry}
use Rattle.lq_parts.specs.Taken.{IsOrdered}
use Rattle.lq_store.specs.Journal.{names_tracking, names_within}
use Rattle.lq_track.specs.Database.{users_of}
use Rattle.lq_track.specs.Lock.{lock_table}
use Rattle.lq_track.specs.Log.{log_table}

or_none : (b : Bool) → (b || false) ≡ b
or_none true = refl
or_none false = refl

pub reserved_alone : (n : Name) → is_reserved User (n ∷ []) ≡ is_tracking n
reserved_alone n = or_none (is_tracking n)

first : (a b : Bool) → T (a && b) → T a
first true b p = tt
first false b p = p

second : (a b : Bool) → T (a && b) → T b
second true b p = p
second false b p = absurd p

-- no name is below itself
not_itself : (k e : Name) → T (is_lt (name_cmp k e)) → is_named k e ≡ false
not_itself k e h =
    elim (name_cmp k e) as (λ r. T (is_lt r) → is_eq r ≡ false) [
      | Less ↦ λ p. refl
      | Equal ↦ λ p. absurd p
      | Greater ↦ λ p. refl
    ] h

module _ {X : Type 0} where
  -- what stands behind an entry has not its name
  others : (k : Name) (p : Name × X → Bool) (es : List (Name × X)) → T (below_all name_cmp k es) → list_any p es ≡ list_any (λ e. not (is_named k e.0) && p e) es
  others k p [] h = refl
  others k p (e ∷ es) h =
      ap (λ b. (not b && p e) || list_any p es) (sym (not_itself k e.0 (first _ _ h)))
      ∙ ap (λ b. (not (is_named k e.0) && p e) || b) (others k p es (second (is_lt (name_cmp k e.0)) _ h))

  -- without the entry of a name
  pub any_without : (k : Name) (p : Name × X → Bool) (es : List (Name × X)) → T (is_sorted name_cmp es) → list_any p (remove_entry (is_named k) es) ≡ list_any (λ e. not (is_named k e.0) && p e) es
  any_without k p [] h = refl
  any_without k p (e ∷ es) h =
      elim (is_named k e.0) as (λ b. is_named k e.0 ≡ b → list_any p (cond b es (e ∷ remove_entry (is_named k) es)) ≡ ((not b && p e) || list_any (λ x. not (is_named k x.0) && p x) es)) [
        | true ↦ λ is. rw (same_name k e.0 is) (others e.0 p es (first _ _ h))
        | false ↦ λ is. ap (λ b. p e || b) (any_without k p es (second (below_all name_cmp e.0 es) _ h))
      ] refl

neither : (a b x : Bool) → (not b && (not a && x)) ≡ (not (b || a) && x)
neither a true x = refl
neither a false x = refl

-- the tables of the users
pub users_tables : (p : Name × Table → Bool) (c : Catalogue) → IsOrdered c.tables → list_any (λ e. not (is_tracking_table e.0) && p e) c.tables ≡ list_any p (users_of c).tables
users_tables p c h =
    sym (any_without lock_table p (remove_entry (is_named log_table) c.tables) (sorted-remove_entry log_table c.tables h)
    ∙ any_without log_table (λ (e : Name × Table). not (is_named lock_table e.0) && p e) c.tables h
    ∙ any_same (λ (e : Name × Table). not (is_named log_table e.0) && (not (is_named lock_table e.0) && p e)) (λ (e : Name × Table). not (is_tracking_table e.0) && p e) c.tables (λ e. neither (is_named lock_table e.0) (is_named log_table e.0) (p e)))

pub objects_are : (s : Name → Bool) (c : Catalogue) → IsOrdered c.tables
    → (list_any (λ e. not (is_tracking_table e.0) && s e.0) c.tables || (list_any (λ e. s e.0) c.views || list_any (λ e. s e.0) c.sequences)) ≡ list_any s (object_names (users_of c))
objects_are s c h =
    let views = map (λ (e : Name × View). e.0) c.views in
    let sequences = map (λ (e : Name × Sequence). e.0) c.sequences in
    let tables = map (λ (e : Name × Table). e.0) (users_of c).tables in
    sym (any-append s tables (views ++ sequences)
    ∙ ap (λ b. b || list_any s (views ++ sequences)) (any-map s (λ (e : Name × Table). e.0) (users_of c).tables ∙ sym (users_tables (λ e. s e.0) c h))
    ∙ ap (λ b. list_any (λ (e : Name × Table). not (is_tracking_table e.0) && s e.0) c.tables || b) (any-append s views sequences
    ∙ ap (λ b. b || list_any s sequences) (any-map s (λ (e : Name × View). e.0) c.views)
    ∙ ap (λ b. list_any (λ (e : Name × View). s e.0) c.views || b) (any-map s (λ (e : Name × Sequence). e.0) c.sequences)))

-- the names of a table, sort by sort

pub inner_are : (s : Name → Bool) (it : Table) → (list_any (λ k. s k.name) (key_list it.key) || (list_any (λ u. s u.name) it.uniques || list_any (λ i. s i.name) it.indexes)) ≡ list_any s (inner_names it)
inner_are s it =
    let uniques = map (λ (u : Unique). u.name) it.uniques in
    let indexes = map (λ (i : Index). i.name) it.indexes in
    sym (any-append s (map (λ (k : Key). k.name) (key_list it.key)) (uniques ++ indexes)
    ∙ ap (λ b. b || list_any s (uniques ++ indexes)) (any-map s (λ (k : Key). k.name) (key_list it.key))
    ∙ ap (λ b. list_any (λ (k : Key). s k.name) (key_list it.key) || b) (any-append s uniques indexes ∙ ap (λ b. b || list_any s indexes) (any-map s (λ (u : Unique). u.name) it.uniques)
    ∙ ap (λ b. list_any (λ (u : Unique). s u.name) it.uniques || b) (any-map s (λ (i : Index). i.name) it.indexes)))

pub within_are : (s : Name → Bool) (it : Table) → (list_any s (inner_names it) || (list_any (λ f. s f.name) it.foreign || list_any (λ f. s f.table) it.foreign)) ≡ list_any s (names_within it)
within_are s it =
    let aims = map (λ (f : ForeignKey). f.table) it.foreign in
    sym (any-append s (inner_names it) (foreign_names it ++ aims)
    ∙ ap (λ b. list_any s (inner_names it) || b) (any-append s (foreign_names it) aims
    ∙ ap (λ b. b || list_any s aims) (any-map s (λ (f : ForeignKey). f.name) it.foreign)
    ∙ ap (λ b. list_any (λ (f : ForeignKey). s f.name) it.foreign || b) (any-map s (λ (f : ForeignKey). f.table) it.foreign)))

pub shared_are : (n : Name) (c : Catalogue) → IsOrdered c.tables
    → (list_any (is_named n) (object_names (users_of c)) || list_any (λ e. not (is_tracking_table e.0) && list_any (is_named n) (names_inside e)) c.tables) ≡ is_in n (shared_names (users_of c))
shared_are n c h =
    sym (any-append (is_named n) (object_names (users_of c)) (flat_map names_inside (users_of c).tables)
    ∙ ap (λ b. list_any (is_named n) (object_names (users_of c)) || b) (any-flat_map (is_named n) names_inside (users_of c).tables ∙ sym (users_tables (λ e. list_any (is_named n) (names_inside e)) c h)))

pub tracking_are : (c : Catalogue) → IsOrdered c.tables
    → (list_any is_tracking (object_names (users_of c)) || (list_any (λ e. not (is_tracking_table e.0) && list_any is_tracking (names_within e.1)) c.tables || list_any (λ e. is_tracking e.1.query.table) c.views)) ≡ names_tracking (users_of c)
tracking_are c h =
    ap (λ b. list_any is_tracking (object_names (users_of c)) || (b || list_any (λ (e : Name × View). is_tracking e.1.query.table) c.views))
    (users_tables (λ e. list_any is_tracking (names_within e.1)) c h)
