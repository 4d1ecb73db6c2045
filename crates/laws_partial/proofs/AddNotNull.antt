-- That a part of an addNotNullConstraint is taken back.
use Rattle.std.proofs.Common.{ap, inl, inr, length, subst, sym, ◌∙◌}
use Rattle.std.proofs.lemmas.List.{append-nil}
use Rattle.std.specs.List.{filter, list_any}
use Rattle.std.specs.Option.{option_map, option_to_list, unwrap_or}
use Rattle.std.specs.Prelude.{Bool, List, None, Ok, Option, Some, [], false, is_none, not, refl, true, ℕ, ◌&&◌, ◌++◌, ◌||◌, ◌∷◌, ◌≡◌}
use Rattle.lq_base.specs.Number.{if_there}
use Rattle.lq_base.specs.declared.dialect.Dialect.{Dialect}
use Rattle.lq_base.specs.declared.dialect.Dialect.TheVariants.{Mysql, Postgresql}
use Rattle.lq_base.specs.declared.literal.Literal.TheVariants as literal
use Rattle.lq_base.specs.declared.name.Name.{Name}
use Rattle.lq_model.proofs.Decide.{accepted, counted, here}
use Rattle.lq_model.proofs.Effects.{Ran, one_step}
use Rattle.lq_model.proofs.Lists.{and_left, and_right, not_false, or_left, or_right, true_false}
use Rattle.lq_model.proofs.NoRowTaken.{update_of_none}
use Rattle.lq_model.specs.Catalogue.{Catalogue, table_of, the_table, at_table, column_at, has_null_in, by_name, is_null, has_column}
use Rattle.lq_model.specs.Sound.{IsSound}
use Rattle.lq_model.specs.Step.{plan, run, step}
use Rattle.lq_model.specs.declared.caller.By.TheVariants.{User}
use Rattle.lq_model.specs.declared.statement.Statement.{Statement}
use Rattle.lq_model.specs.declared.statement.Statement.TheVariants.{Update}
use Rattle.lq_model.specs.declared.test.Operand.TheVariants as operand
use Rattle.lq_model.specs.declared.test.Test.{IsNull}
use Rattle.lq_nullable.specs.AddNotNull.{effect, fills, gives, inverse, is_for, is_fresh, sets, does, restores}
use Rattle.lq_nullable.specs.Nullable.{is_new, kind_stated}
use Rattle.lq_nullable.specs.declared.add_not_null.AddNotNullConstraint.{AddNotNullConstraint}
use Rattle.lq_reverse.proofs.Parts.{one_part}
use Rattle.lq_reverse.specs.Back.{PartsBack, back, backs}

-- the statement that fills the nulls
abbrev fill : Name → Name → List ℕ → Statement
fill t n value = Update t ((n, literal.Text value) ∷ []) (Some (IsNull (operand.Column n)))

-- a column that is there and has no null: no row is taken
none_taken : {A : Type 0} (p : A → Bool) (xs : List A) → list_any p xs ≡ false → length (filter p xs) ≡ 0
none_taken p [] h = refl
none_taken p (x ∷ xs) h = rw (or_left (p x) _ h) (none_taken p xs (or_right (p x) _ h))

fill_of_none : (d : Dialect) (t n : Name) (value : List ℕ) (c mid : Catalogue) (k : ℕ) → unwrap_or (at_table (has_null_in n) c t) false ≡ false → step User d (fill t n value) c ≡ Ok (mid, k) → mid ≡ c
fill_of_none d t n value c mid k none made =
    let ok = accepted (plan User d (fill t n value) c) mid k made in
    let there : table_of c t ≡ Some (the_table c t) = here c t (or_left _ _ ok.missing) in
    let has : has_column (the_table c t) n ≡ true = not_false _ (or_left _ _ (or_left _ _ (or_right _ _ ok.missing))) in
    let nulls : list_any (λ row. is_null (by_name (the_table c t).columns row n)) (the_table c t).rows ≡ false
    = second _ _ has (ap (λ o. unwrap_or (option_map (has_null_in n) o) false) (sym there) ∙ none) in
    let count : k ≡ 0 = sym (counted (plan User d (fill t n value) c) mid k made) ∙ none_taken (λ row. is_null (by_name (the_table c t).columns row n)) (the_table c t).rows nulls in
    update_of_none User d t ((n, literal.Text value) ∷ []) (Some (IsNull (operand.Column n))) c mid (made ∙ ap (λ m. Ok (mid, m)) count)
  where
    second : (a b : Bool) → a ≡ true → (a && b) ≡ false → b ≡ false
    second true b h k = k
    second false b h k = true_false h refl

not_true_false : (b : Bool) → (false || not b) ≡ true → b ≡ false
not_true_false true h = absurd Prim.cc
not_true_false false h = refl

full : (d : Dialect) (x : AddNotNullConstraint) (c : Catalogue) (v : List ℕ) → x.default_null_value ≡ Some v → is_fresh d x c ≡ true → unwrap_or (at_table (has_null_in x.column_name) c x.table_name) false ≡ false
full d x c v is new = not_true_false _ (ap (λ o. is_none o || not (unwrap_or (at_table (has_null_in x.column_name) c x.table_name) false)) (sym is) ∙ and_right (if_there (is_new d (kind_stated x.column_data_type) false) (column_at c x.table_name x.column_name)) _ new)

sets_back : (d : Dialect) (x : AddNotNullConstraint) → option_to_list (back d (sets d x false)) ≡ sets d x true ∷ []
sets_back Postgresql x = refl
sets_back Mysql x = refl

pub parts : PartsBack is_for gives is_fresh inverse
parts d x c p undoing first rest right sound new taken are ran = by x.default_null_value refl first are ran where
  whole : (e : Catalogue) → run User d (gives d x) c ≡ Ok e → run User d (option_to_list (back d (sets d x false))) e ≡ Ok c
  whole e it = ap (λ us. run User d us e) (sets_back d x) ∙ restores d x c e (sets d x true ∷ []) right sound new (sym (does d x c right sound) ∙ it) refl

  by : (v : Option (List ℕ)) → x.default_null_value ≡ v → (first : List Statement) → fills x.table_name x.column_name v ++ sets d x false ∷ [] ≡ first ++ rest → run User d first c ≡ Ok p → run User d (backs d first) p ≡ Ok c
  by None is first are it = one_part d (sets d x false) first rest c p are (λ all. whole p (ap (λ v. run User d (fills x.table_name x.column_name v ++ sets d x false ∷ []) c) is ∙ all)) it
  by (Some value) is [] are it = sym it
  by (Some value) is (s ∷ []) are it =
      let same : fill x.table_name x.column_name value ≡ s = Prim.cc in
      subst (λ u. run User d (u ∷ []) c ≡ Ok p → run User d (backs d (u ∷ [])) p ≡ Ok c) same
      (λ one. let made = one_step d (fill x.table_name x.column_name value) c p one in ap (λ e. Ok e) (fill_of_none d x.table_name x.column_name value c p made.0 (full d x c value is new) made.1)) it
  by (Some value) is (s ∷ u ∷ []) are it =
      let same : fill x.table_name x.column_name value ≡ s = Prim.cc in
      let also : sets d x false ≡ u = Prim.cc in
      subst (λ w. run User d (s ∷ w ∷ []) c ≡ Ok p → run User d (backs d (s ∷ w ∷ [])) p ≡ Ok c) also
      (subst (λ w. run User d (w ∷ sets d x false ∷ []) c ≡ Ok p → run User d (backs d (w ∷ sets d x false ∷ [])) p ≡ Ok c) same
      (λ both. ap (λ us. run User d us p) (append-nil (option_to_list (back d (sets d x false)))) ∙ whole p (ap (λ v. run User d (fills x.table_name x.column_name v ++ sets d x false ∷ []) c) is ∙ both))) it
  by (Some value) is (s ∷ u ∷ w ∷ first) are it = absurd Prim.cc
