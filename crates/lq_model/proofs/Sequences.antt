-- Sequences: what takes their making and renaming back, and that they keep a catalogue sound.
use Rattle.std.proofs.Common.{ap, arith, sym, ◌∙◌}
use Rattle.std.proofs.Math.Path.{subst}
use Rattle.std.specs.BTreeMap.{insert_entry}
use Rattle.std.specs.List.{flat_map, list_any}
use Rattle.std.specs.List.Sorted.{IsStrictlySortedBy}
use Rattle.std.specs.Map.{keys_of, remove_entry}
use Rattle.std.specs.Ordering.{int_eq}
use Rattle.std.specs.Prelude.{List, None, Ok, Option, Some, [], cond, false, is_none, map, pos, refl, true, ℕ, ℤ, ◌++◌, ◌+◌, ◌||◌, ◌∷◌, ◌≡◌}
use Rattle.lq_base.specs.Name.{is_named, is_object, name_cmp}
use Rattle.lq_base.specs.declared.dialect.Dialect.{Dialect}
use Rattle.lq_base.specs.declared.dialect.Dialect.TheVariants.{Mysql, Postgresql}
use Rattle.lq_base.specs.declared.literal.Literal.TheVariants as literal
use Rattle.lq_base.specs.declared.name.Name.{Name}
use Rattle.lq_model.specs.Catalogue.{Catalogue, Sequence, Table, View, sequence_of, view_of, with_sequence, without_sequence, is_in, times}
use Rattle.lq_model.specs.NameSpaces.{AreApart, is_taken, names_inside, object_names, is_reserved, is_tracking, lock_key, takes_lock_key}
use Rattle.lq_model.specs.Views.{create_sequence, drop_sequence, rename_sequence, sequence_renamed}
use Rattle.lq_model.specs.Sound.{IsSound, may_have}
use Rattle.lq_model.specs.Comparison.{is_literal}
use Rattle.lq_model.specs.Step.{is_pg, is_statement, step}
use Rattle.lq_model.specs.declared.caller.By.{By}
use Rattle.lq_model.specs.declared.caller.By.TheVariants.{Program, User}
use Rattle.lq_model.specs.declared.statement.Statement.TheVariants.{CreateSequence, DropSequence, RenameSequence}
use Rattle.lq_model.proofs.Counts.{keys-insert, keys-remove, once}
use Rattle.lq_model.proofs.CreateDrop.{remove_entry-insert_entry}
use Rattle.lq_model.proofs.Decide.{accepted, accepts}
use Rattle.lq_model.proofs.Kept.{not_so_true}
use Rattle.lq_model.proofs.Lists.{and_left, and_right, any-append, named_itself, or_false, or_left, or_right, true_false}
use Rattle.lq_model.proofs.Maps.{any_none-insert_entry, any_none-remove_entry, at_lookup, found, lookup-insert_entry, none_if, sorted-insert_entry, sorted-remove_entry, sorted_entries, sorted_keys}
use Rattle.lq_model.proofs.MovedEntries.{moved, moved_back, moved_keys, moved_none, moved_rise, moved_there, names_apart}
use Rattle.lq_model.proofs.PublicNames.{schemas_sequences}
use Rattle.lq_model.proofs.Shaped.{IsShaped, keeps, shape_of}
use Rattle.lq_model.proofs.Spaces.{IsNamed, gone_apart, made_apart, moved_apart, old_free}
use Rattle.lq_model.proofs.Times.{times-append}

first_reserved : (by : By) (a b : Name) → is_reserved by (a ∷ b ∷ []) ≡ false → is_reserved by (b ∷ a ∷ []) ≡ false
first_reserved User a b h = or_false _ _ (or_left (is_tracking b) _ (or_right (is_tracking a) _ h)) (or_false _ _ (or_left (is_tracking a) _ h) refl)
first_reserved Program a b h = refl

pub swap_reserved : (by : By) (a b : Name) → is_reserved by (a ∷ b ∷ []) ≡ false → is_reserved by (b ∷ a ∷ []) ≡ false
swap_reserved by a b h = first_reserved by a b h

pub swap_lock : (by : By) (d : Dialect) (a b : Name) → takes_lock_key by d (a ∷ b ∷ []) ≡ false → takes_lock_key by d (b ∷ a ∷ []) ≡ false
swap_lock User Postgresql a b h = or_false _ _ (or_left (is_named lock_key b) _ (or_right (is_named lock_key a) _ h)) (or_false _ _ (or_left (is_named lock_key a) _ h) refl)
swap_lock User Mysql a b h = refl
swap_lock Program d a b h = refl

-- what stands at a name that is free
pub free_objects : (d : Dialect) (n : Name) (c : Catalogue) → is_taken d n c ≡ false → is_in n (object_names c) ≡ false
free_objects Postgresql n c free = or_left _ _ (sym (any-append (is_named n) (object_names c) (flat_map names_inside c.tables)) ∙ free)
free_objects Mysql n c free = free

pub free_rest : (d : Dialect) (n : Name) (c : Catalogue) → is_taken d n c ≡ false → (is_in n (map (λ (x : Name × View). x.0) c.views) || is_in n (map (λ (x : Name × Sequence). x.0) c.sequences)) ≡ false
free_rest d n c free =
    let tables = map (λ (x : Name × Table). x.0) c.tables in
    let views = map (λ (x : Name × View). x.0) c.views in
    let sequences = map (λ (x : Name × Sequence). x.0) c.sequences in
    sym (any-append (is_named n) views sequences) ∙ or_right (is_in n tables) _ (sym (any-append (is_named n) tables (views ++ sequences)) ∙ free_objects d n c free)

pub free_view : (d : Dialect) (n : Name) (c : Catalogue) → is_taken d n c ≡ false → view_of c n ≡ None
free_view d n c free = none_if _ (sym (found n c.views) ∙ or_left _ (is_in n (map (λ (x : Name × Sequence). x.0) c.sequences)) (free_rest d n c free))

pub free_sequence : (d : Dialect) (n : Name) (c : Catalogue) → is_taken d n c ≡ false → sequence_of c n ≡ None
free_sequence d n c free = none_if _ (sym (found n c.sequences) ∙ or_right (is_in n (map (λ (x : Name × View). x.0) c.views)) _ (free_rest d n c free))

pub some_there : {A : Type 0} (o : Option A) → is_none o ≡ false → (x : A) × (o ≡ Some x)
some_there None h = true_false refl h
some_there (Some x) h = (x, refl)

-- CREATE SEQUENCE

pub drop_sequence_after : (d : Dialect) (s : Name) (start size : ℤ) (by : By) (c e : Catalogue) (k : ℕ) → IsSound d c → step by d (CreateSequence s start size) c ≡ Ok (e, k) → step by d (DropSequence s) e ≡ Ok (c, 0)
drop_sequence_after d s start size by c e k sound made =
    let it : Sequence = record { start = start; step = size } in
    let ok = accepted (create_sequence by d s start size c) e k made in
    let none = free_sequence d s c (or_left (is_taken d s c) _ ok.exists) in
    ap (step by d (DropSequence s)) (sym ok.result)
    ∙ accepts d (drop_sequence by d s (with_sequence c s it)) c sound (ap (λ ss. record c { sequences = ss }) (remove_entry-insert_entry s it c.sequences none))
    (record {
      reserved = ok.reserved;
      missing = ap is_none (lookup-insert_entry c.sequences s it s ∙ ap (λ b. cond b (Some it) (sequence_of c s)) (named_itself s));
      exists = refl;
      depends = refl;
      wrong = refl;
      wide = refl;
    })

sequences_named : (c : Catalogue) (ss : List (Name × Sequence)) (less more : Name → ℕ) → ((n : Name) → times n (map (λ (x : Name × Sequence). x.0) ss) + less n ≡ times n (map (λ (x : Name × Sequence). x.0) c.sequences) + more n) → IsNamed c (record c { sequences = ss }) less more
sequences_named c ss less more h = record {
  objects = λ n.
      let tables = map (λ (x : Name × Table). x.0) c.tables in
      let views = map (λ (x : Name × View). x.0) c.views in
      let old = map (λ (x : Name × Sequence). x.0) c.sequences in
      let new = map (λ (x : Name × Sequence). x.0) ss in
      let a = times-append n tables (views ++ new) in
      let b = times-append n views new in
      let p = times-append n tables (views ++ old) in
      let q = times-append n views old in
      let x = h n in
      omega (arith, a, b, p, q, x);
  inner = λ n. refl;
  foreign = λ n. refl;
}

-- other sequences
sequences_shaped : (d : Dialect) (c : Catalogue) (ss : List (Name × Sequence)) → IsShaped d c → IsStrictlySortedBy name_cmp (keys_of ss) → AreApart d (record c { sequences = ss }) → list_any (λ (x : Name × Sequence). int_eq x.1.step (pos 0)) ss ≡ false → may_have d ss ≡ true → IsShaped d (record c { sequences = ss })
sequences_shaped d c ss shape rise apart steps may = record {
  ordered = shape.ordered;
  ordered_views = shape.ordered_views;
  ordered_sequences = rise;
  tables = shape.tables;
  views = shape.views;
  apart = apart;
  schemas = schemas_sequences d c ss shape.sequences may shape.schemas;
  steps = steps;
  sequences = may;
  alike = shape.alike;
}

may_pg : (d : Dialect) (ss : List (Name × Sequence)) → is_pg d ≡ true → may_have d ss ≡ true
may_pg Postgresql ss h = refl
may_pg Mysql ss h = true_false h refl

pub create_sequence_keeps : (by : By) (d : Dialect) (s : Name) (start size : ℤ) (c e : Catalogue) (k : ℕ) → is_statement d (CreateSequence s start size) ≡ true → IsSound d c → step by d (CreateSequence s start size) c ≡ Ok (e, k) → IsSound d e
create_sequence_keeps by d s start size c e k valid sound made =
    let it : Sequence = record { start = start; step = size } in
    let p = create_sequence by d s start size c in
    let ok = accepted p e k made in
    let free = or_left (is_taken d s c) _ ok.exists in
    let none = free_sequence d s c free in
    let ss = insert_entry name_cmp c.sequences s it in
    let named = sequences_named c ss (λ n. 0) (λ n. once (is_named n s)) (λ n. let x = keys-insert (λ (y : Name × Sequence). []) n c.sequences s it none in omega (arith, x)) in
    let nonzero = not_so_true _ (and_right (is_literal (literal.Int size)) _ (and_right (is_literal (literal.Int start)) _ (and_right (is_object d s) _ (and_right (is_pg d) _ valid)))) in
    keeps d p e k made (sequences_shaped d c ss (shape_of d c sound) (sorted_keys ss (sorted-insert_entry c.sequences s it (sorted_entries c.sequences sound.ordered_sequences)))
    (made_apart d c (with_sequence c s it) s named free sound.apart)
    (any_none-insert_entry (λ (x : Name × Sequence). int_eq x.1.step (pos 0)) c.sequences s it (λ n. refl) nonzero sound.steps) (may_pg d ss (and_left (is_pg d) _ valid)))

pub drop_sequence_keeps : (by : By) (d : Dialect) (s : Name) (c e : Catalogue) (k : ℕ) → is_statement d (DropSequence s) ≡ true → IsSound d c → step by d (DropSequence s) c ≡ Ok (e, k) → IsSound d e
drop_sequence_keeps by d s c e k valid sound made =
    let p = drop_sequence by d s c in
    let ok = accepted p e k made in
    let ss = remove_entry (is_named s) c.sequences in
    let it = some_there (sequence_of c s) ok.missing in
    let named = sequences_named c ss (λ n. once (is_named n s)) (λ n. 0) (λ n. let x = keys-remove (λ (y : Name × Sequence). []) n c.sequences s it.0 it.1 in omega (arith, x)) in
    keeps d p e k made (sequences_shaped d c ss (shape_of d c sound) (sorted_keys ss (sorted-remove_entry s c.sequences (sorted_entries c.sequences sound.ordered_sequences)))
    (gone_apart d c (without_sequence c s) s named sound.apart)
    (any_none-remove_entry (is_named s) (λ (x : Name × Sequence). int_eq x.1.step (pos 0)) c.sequences sound.steps) (may_pg d ss (and_left (is_pg d) _ valid)))

-- RENAME

module _ (d : Dialect) (a b : Name) (c : Catalogue) (sound : IsSound d c) (it : Sequence) (there : sequence_of c a ≡ Some it) (free : is_taken d b c ≡ false) where
  abbrev pub after : Catalogue
  after = record c { sequences = moved c.sequences a b it sound.ordered_sequences there (free_sequence d b c free) }

  none : sequence_of c b ≡ None
  none = free_sequence d b c free

  renamed_is : sequence_renamed a b c ≡ after
  renamed_is = ap (λ o. elim o [ None ↦ c | Some s ↦ with_sequence (without_sequence c a) b s ]) there

  named : IsNamed c after (λ n. once (is_named n a)) (λ n. once (is_named n b))
  named = sequences_named c after.sequences (λ n. once (is_named n a)) (λ n. once (is_named n b)) (moved_keys c.sequences a b it sound.ordered_sequences there none)

  apart : is_named a b ≡ false
  apart = names_apart c.sequences a b it sound.ordered_sequences there none

  pub sequence_back : (by : By) → is_reserved by (b ∷ a ∷ []) ≡ false → takes_lock_key by d (b ∷ a ∷ []) ≡ false → step by d (RenameSequence b a) (sequence_renamed a b c) ≡ Ok (c, 0)
  sequence_back by reserved lock = ap (step by d (RenameSequence b a)) renamed_is
      ∙ accepts d (rename_sequence by d b a after) c sound
      (ap (λ o. elim o [ None ↦ after | Some s ↦ with_sequence (without_sequence after b) a s ]) (moved_there c.sequences a b it sound.ordered_sequences there none)
      ∙ ap (λ ss. record c { sequences = ss }) (moved_back c.sequences a b it sound.ordered_sequences there none))
      (record {
        reserved = reserved;
        missing = ap is_none (moved_there c.sequences a b it sound.ordered_sequences there none);
        exists = or_false _ _ (old_free d c after a b apart named sound.apart) lock;
        depends = refl;
        wrong = refl;
        wide = refl;
      })

  pub sequence_shaped : is_pg d ≡ true → IsShaped d (sequence_renamed a b c)
  sequence_shaped pg = subst (IsShaped d) (sym renamed_is) (sequences_shaped d c after.sequences (shape_of d c sound) (moved_rise c.sequences a b it sound.ordered_sequences there none)
      (moved_apart d c after a b apart named free sound.apart)
      (moved_none c.sequences a b it sound.ordered_sequences there none (λ s. int_eq s.step (pos 0)) (at_lookup (is_named a) (λ s. int_eq s.step (pos 0)) c.sequences it sound.steps there) sound.steps) (may_pg d after.sequences pg))

pub rename_sequence_after : (d : Dialect) (a b : Name) (by : By) (c e : Catalogue) (k : ℕ) → IsSound d c → step by d (RenameSequence a b) c ≡ Ok (e, k) → step by d (RenameSequence b a) e ≡ Ok (c, 0)
rename_sequence_after d a b by c e k sound made =
    let ok = accepted (rename_sequence by d a b c) e k made in
    let it = some_there (sequence_of c a) ok.missing in
    ap (step by d (RenameSequence b a)) (sym ok.result) ∙ sequence_back d a b c sound it.0 it.1 (or_left (is_taken d b c) _ ok.exists) by (swap_reserved by a b ok.reserved) (swap_lock by d a b (or_right (is_taken d b c) _ ok.exists))

pub rename_sequence_keeps : (by : By) (d : Dialect) (a b : Name) (c e : Catalogue) (k : ℕ) → is_statement d (RenameSequence a b) ≡ true → IsSound d c → step by d (RenameSequence a b) c ≡ Ok (e, k) → IsSound d e
rename_sequence_keeps by d a b c e k valid sound made =
    let p = rename_sequence by d a b c in
    let ok = accepted p e k made in
    let it = some_there (sequence_of c a) ok.missing in
    keeps d p e k made (sequence_shaped d a b c sound it.0 it.1 (or_left (is_taken d b c) _ ok.exists) (and_left (is_pg d) _ valid))
