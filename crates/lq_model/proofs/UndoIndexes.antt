-- An index that is made can be dropped.
use Rattle.std.proofs.Common.{ap, sym, ◌∙◌}
use Rattle.std.specs.List.{list_any}
use Rattle.std.specs.Map.{lookup, set_value}
use Rattle.std.specs.Prelude.{Bool, List, None, Ok, Some, [], cond, false, map, refl, true, ℕ, ◌++◌, ◌||◌, ◌∷◌, ◌≡◌}
use Rattle.lq_base.specs.Name.{beside, is_named}
use Rattle.lq_base.specs.declared.dialect.Dialect.TheVariants.{Postgresql}
use Rattle.lq_base.specs.declared.name.Name.{Name}
use Rattle.lq_model.specs.Constraints.{create_index, drop_index, has_index_in, without_index_in}
use Rattle.lq_model.specs.Catalogue.{Catalogue, Table, the_table, with_table, is_in, inner_names, key_list}
use Rattle.lq_model.specs.NameSpaces.{names_inside, object_names, shared_names, is_reserved, is_tracking}
use Rattle.lq_model.specs.Sound.{IsSound}
use Rattle.lq_model.specs.Step.{step}
use Rattle.lq_model.specs.declared.caller.By.{By}
use Rattle.lq_model.specs.declared.caller.By.TheVariants.{Program, User}
use Rattle.lq_model.specs.declared.index.Index.{Index}
use Rattle.lq_model.specs.declared.statement.Statement.TheVariants.{CreateIndex, DropIndex}
use Rattle.lq_model.proofs.Absent.{any-flat_map}
use Rattle.lq_model.proofs.Decide.{accepted, accepts, here}
use Rattle.lq_model.proofs.Lists.{any-append, any-map, any_less, not_true, or_false, or_left, or_right, same_name}
use Rattle.lq_model.proofs.Maps.{not_some, some_same}
use Rattle.lq_model.proofs.UndoConstraints.{in_last, last_goes, others_stay}
use Rattle.lq_model.proofs.Places.{untracked_beside}

no_index : (n : Name) (c : Catalogue) → is_in n (shared_names c) ≡ false → list_any (λ e. has_index_in n e.0 e.1) c.tables ≡ false
no_index n c out = any_less _ (λ e. is_in n (names_inside e)) c.tables (λ e h.
    let q : Name → Bool = λ m. is_named n (beside e.0 m) in
    any-map (is_named n) (λ (i : Index). beside e.0 i.name) e.1.indexes ∙ sym (any-map q (λ (i : Index). i.name) e.1.indexes)
    ∙ or_right _ _ (sym (any-append q (map (λ u. u.name) e.1.uniques) _) ∙ or_right _ _ (sym (any-append q (map (λ k. k.name) (key_list e.1.key)) _)
    ∙ (sym (any-map (is_named n) (beside e.0) (inner_names e.1)) ∙ h))))
    (sym (any-flat_map (is_named n) names_inside c.tables) ∙ or_right _ _ (sym (any-append (is_named n) (object_names c) _) ∙ out))

-- what no entry has, none has at its name
at_name : (t : Name) (p : Name → Table → Bool) (es : List (Name × Table)) (x : Table) → list_any (λ e. p e.0 e.1) es ≡ false → lookup (is_named t) es ≡ Some x → p t x ≡ false
at_name t p [] x none h = not_some (sym h)
at_name t p (e ∷ es) x none h =
    elim (is_named t e.0) as (λ b. is_named t e.0 ≡ b → cond b (Some e.1) (lookup (is_named t) es) ≡ Some x → p t x ≡ false) [
      | true ↦ λ r q. ap (λ m. p m x) (same_name t e.0 r) ∙ ap (p e.0) (some_same (sym q)) ∙ or_left (p e.0 e.1) _ none
      | false ↦ λ r q. at_name t p es x (or_right (p e.0 e.1) _ none) q
    ] refl h

stays : (n t : Name) (it : Table) → has_index_in n t it ≡ false → without_index_in n t it ≡ it
stays n t it out = ap (λ x. record it { indexes = x }) (others_stay n (λ (i : Index). beside t i.name) it.indexes out)

all_stay : (n : Name) (es : List (Name × Table)) → list_any (λ e. has_index_in n e.0 e.1) es ≡ false → map (λ e. (e.0, without_index_in n e.0 e.1)) es ≡ es
all_stay n [] out = refl
all_stay n (e ∷ es) out = ap (λ x. (e.0, x) ∷ map (λ y. (y.0, without_index_in n y.0 y.1)) es) (stays n e.0 e.1 (or_left (has_index_in n e.0 e.1) _ out)) ∙ ap (λ xs. e ∷ xs) (all_stay n es (or_right (has_index_in n e.0 e.1) _ out))

goes : (n t : Name) (x y : Table) (es : List (Name × Table)) → lookup (is_named t) es ≡ Some x → without_index_in n t y ≡ x → list_any (λ e. has_index_in n e.0 e.1) es ≡ false → map (λ e. (e.0, without_index_in n e.0 e.1)) (set_value (is_named t) es y) ≡ es
goes n t x y [] h back out = not_some (sym h)
goes n t x y (e ∷ es) h back out =
    elim (is_named t e.0) as (λ b. is_named t e.0 ≡ b → cond b (Some e.1) (lookup (is_named t) es) ≡ Some x → map (λ z. (z.0, without_index_in n z.0 z.1)) (cond b ((e.0, y) ∷ es) (e ∷ set_value (is_named t) es y)) ≡ e ∷ es) [
      | true ↦ λ p q. ap (λ z. (e.0, z) ∷ map (λ w. (w.0, without_index_in n w.0 w.1)) es) (ap (λ m. without_index_in n m y) (sym (same_name t e.0 p)) ∙ back ∙ sym (some_same q)) ∙ ap (λ xs. e ∷ xs) (all_stay n es (or_right (has_index_in n e.0 e.1) _ out))
      | false ↦ λ p q. ap (λ z. (e.0, z) ∷ map (λ w. (w.0, without_index_in n w.0 w.1)) (set_value (is_named t) es y)) (stays n e.0 e.1 (or_left (has_index_in n e.0 e.1) _ out)) ∙ ap (λ xs. e ∷ xs) (goes n t x y es q back (or_right (has_index_in n e.0 e.1) _ out))
    ] refl h

there_now : (n t : Name) (x y : Table) (es : List (Name × Table)) → lookup (is_named t) es ≡ Some x → has_index_in n t y ≡ true → list_any (λ e. has_index_in n e.0 e.1) (set_value (is_named t) es y) ≡ true
there_now n t x y [] h is = not_some (sym h)
there_now n t x y (e ∷ es) h is =
    elim (is_named t e.0) as (λ b. is_named t e.0 ≡ b → cond b (Some e.1) (lookup (is_named t) es) ≡ Some x → list_any (λ z. has_index_in n z.0 z.1) (cond b ((e.0, y) ∷ es) (e ∷ set_value (is_named t) es y)) ≡ true) [
      | true ↦ λ p q. ap (λ b. b || list_any (λ z. has_index_in n z.0 z.1) es) (ap (λ m. has_index_in n m y) (sym (same_name t e.0 p)) ∙ is)
      | false ↦ λ p q. elim (has_index_in n e.0 e.1) as (λ b. (b || list_any (λ z. has_index_in n z.0 z.1) (set_value (is_named t) es y)) ≡ true) [ true ↦ refl | false ↦ there_now n t x y es q is ]
    ] refl h

reserved_index : (by : By) (t n : Name) → is_reserved by (t ∷ n ∷ []) ≡ false → is_reserved by (beside t n ∷ []) ≡ false
reserved_index User t n h = or_false _ _ (untracked_beside t n (or_left (is_tracking n) _ (or_right (is_tracking t) _ h))) refl
reserved_index Program t n h = refl

pub drop_after_index : (t : Name) (i : Index) (by : By) (c e : Catalogue) (k : ℕ) → IsSound Postgresql c → step by Postgresql (CreateIndex t i) c ≡ Ok (e, k) → step by Postgresql (DropIndex (beside t i.name) None) e ≡ Ok (c, 0)
drop_after_index t i by c e k sound made =
    let it = the_table c t in
    let n = beside t i.name in
    let ok = accepted (create_index by Postgresql t i c) e k made in
    let there = here c t (or_left _ _ ok.missing) in
    let new = record it { indexes = it.indexes ++ i ∷ [] } in
    let none = no_index n c (or_left (is_in n (shared_names c)) _ ok.exists) in
    ap (step by Postgresql (DropIndex n None)) (sym ok.result)
    ∙ accepts Postgresql (drop_index by Postgresql n None (with_table c t new)) c sound
    (ap (λ ts. record c { tables = ts }) (goes n t it new c.tables there
    (ap (λ x. record it { indexes = x }) (last_goes n (λ (x : Index). beside t x.name) it.indexes i refl (at_name t (has_index_in n) c.tables it none there))) none))
    (record {
      reserved = reserved_index by t i.name ok.reserved;
      missing = not_true _ (there_now n t it new c.tables there (in_last n (λ (x : Index). beside t x.name) it.indexes i refl));
      exists = refl;
      depends = refl;
      wrong = refl;
      wide = refl;
    })
