-- A MODIFY of a plain column of the same kind that another MODIFY takes back.
use Rattle.std.proofs.Common.{ap, sym, ◌∙◌}
use Rattle.std.proofs.lemmas.Bool.{eq-eqb}
use Rattle.std.specs.List.{list_any}
use Rattle.std.specs.Prelude.{Bool, List, None, Ok, Option, Some, [], cond, false, is_none, map, not, refl, true, ℕ, ◌&&◌, ◌||◌, ◌∷◌, ◌≡◌}
use Rattle.lq_base.specs.Name.{is_named}
use Rattle.lq_base.specs.Value.{is_value_of}
use Rattle.lq_base.specs.declared.dialect.Dialect.{Dialect}
use Rattle.lq_base.specs.declared.kind.Kind.{Kind}
use Rattle.lq_base.specs.declared.kind.Kind.TheVariants as kind
use Rattle.lq_base.specs.declared.name.Name.{Name}
use Rattle.lq_base.specs.declared.value.Value.{Value}
use Rattle.lq_model.specs.Catalogue.{Catalogue, Table, table_of, the_table, is_in, by_name, has_column}
use Rattle.lq_model.specs.Tables.{changed_at, is_variant, modified, modify, with_changed, is_aimed, is_in_foreign, is_in_key, is_shown}
use Rattle.lq_model.specs.Kinds.{equal_kinds, kind_of, same_kind}
use Rattle.lq_model.specs.Sound.{IsSound}
use Rattle.lq_model.specs.Step.{step}
use Rattle.lq_model.specs.TakesBack.{is_each, is_plain_of}
use Rattle.lq_model.specs.declared.caller.By.{By}
use Rattle.lq_model.specs.declared.column.Column.{Column}
use Rattle.lq_model.specs.declared.statement.Statement.TheVariants.{Modify}
use Rattle.lq_model.proofs.Between.{name_kept}
use Rattle.lq_model.proofs.Decide.{IsAccepted, accepted, accepts, here}
use Rattle.lq_model.proofs.EqualKinds.{equal_kind}
use Rattle.lq_model.proofs.Kept.{not_so_true}
use Rattle.lq_model.proofs.Lists.{all_more, and_left, and_right, and_true, any_same, not_false, or_false, or_left, or_right, true_false}
use Rattle.lq_model.proofs.UndoChanges.{back_again, changed_once, not_in_key, now, still_there}

equal_itself : (k : Kind) → equal_kinds k k ≡ true
equal_itself kind.Int = refl
equal_itself kind.BigInt = refl
equal_itself kind.Boolean = refl
equal_itself kind.Text = refl
equal_itself kind.Moment = refl
equal_itself (kind.Varchar n) = eq-eqb n n refl
equal_itself (kind.Decimal p s) = and_true _ _ (eq-eqb p p refl) (eq-eqb s s refl)

kind_now : (n : Name) (k : Kind) (b : Bool) (cs : List Column) → is_in n (map (λ c. c.name) cs) ≡ true → kind_of n (map (changed_at n (modified k b)) cs) ≡ Some k
kind_now n k b [] h = true_false refl (sym h)
kind_now n k b (c ∷ cs) h = elim (is_named n c.name) as (λ x. is_named n c.name ≡ x → (x || is_in n (map (λ c. c.name) cs)) ≡ true → kind_of n (cond x (modified k b c) c ∷ map (changed_at n (modified k b)) cs) ≡ Some k) [
  | true ↦ λ p q. ap (λ y. cond y (Some k) (kind_of n (map (changed_at n (modified k b)) cs))) p
  | false ↦ λ p q. ap (λ y. cond y (Some c.kind) (kind_of n (map (changed_at n (modified k b)) cs))) p ∙ kind_now n k b cs q
] refl h

by_name_still : (n m : Name) (f : Column → Column) (same : (c : Column) → (f c).name ≡ c.name) (cs : List Column) (row : List Value) → by_name (map (changed_at n f) cs) row m ≡ by_name cs row m
by_name_still n m f same [] row = refl
by_name_still n m f same (c ∷ cs) [] = refl
by_name_still n m f same (c ∷ cs) (v ∷ row) = ap (λ x. cond (is_named m x) v (by_name (map (changed_at n f) cs) row m)) (name_kept n f same c) ∙ ap (cond (is_named m c.name) v) (by_name_still n m f same cs row)

module _ (d : Dialect) (t n : Name) (k : Kind) (b : Bool) (by : By) (c e : Catalogue) (count : ℕ) (sound : IsSound d c) (fresh : is_each t n (λ x. is_plain_of k x && cond b (not x.nullable) x.nullable) c ≡ true) (made : step by d (Modify t n k b) c ≡ Ok (e, count)) where
  abbrev old : Table
  old = the_table c t

  abbrev f' : Column → Column
  f' = modified k b

  abbrev g' : Column → Column
  g' = modified k (not b)

  abbrev q' : Column → Bool
  q' x = is_plain_of k x && cond b (not x.nullable) x.nullable

  ok : IsAccepted (modify by d t n k b c) e
  ok = accepted (modify by d t n k b c) e count made

  there : table_of c t ≡ Some old
  there = here c t (or_left _ _ ok.missing)

  has : has_column old n ≡ true
  has = not_false _ (or_right _ _ ok.missing)

  was : (x : Bool) → cond b (not x) x ≡ true → not b ≡ x
  was x h = elim b as (λ y. cond y (not x) x ≡ true → not y ≡ x) [ true ↦ λ p. sym (not_so_true x p) | false ↦ λ p. sym p ] h

  none_of : (o : Option Value) → is_none o ≡ true → o ≡ None
  none_of None h = refl
  none_of (Some v) h = true_false h refl

  turn : (x : Column) → q' x ≡ true → g' (f' x) ≡ x
  turn x h =
      let plain = and_left (is_plain_of k x) _ h in
      let rest = and_right (equal_kinds x.kind k) _ plain in
      ap (λ y. record x { kind = y; nullable = not b; default = None; numbered = false }) (sym (equal_kind x.kind k (and_left (equal_kinds x.kind k) _ plain)))
      ∙ ap (λ y. record x { nullable = y; default = None; numbered = false }) (was x.nullable (and_right (is_plain_of k x) _ h))
      ∙ ap (λ y. record x { default = y; numbered = false }) (sym (none_of x.default (and_left (is_none x.default) _ rest)))
      ∙ ap (λ y. record x { numbered = y }) (sym (not_so_true _ (and_right (is_none x.default) _ rest)))

  abbrev mid : Catalogue
  mid = changed_once d c t n f' g' (λ x. refl) q' sound there has fresh turn

  now_is : the_table mid t ≡ with_changed n f' old
  now_is = now d c t n f' g' (λ x. refl) q' sound there has fresh turn

  free_of_key : (not b && is_in_key old n) ≡ false
  free_of_key = elim b as (λ y. is_each t n (λ x. is_plain_of k x && cond y (not x.nullable) x.nullable) c ≡ true → (not y && is_in_key old n) ≡ false) [
    | true ↦ λ h. refl
    | false ↦ λ h. not_in_key d n old (sound.tables t old there) (all_more _ _ old.columns (λ x p. nullable_if x p) h) has
  ] fresh
    where
      nullable_if : (x : Column) → (not (is_named n x.name) || (is_plain_of k x && x.nullable)) ≡ true → (not (is_named n x.name) || x.nullable) ≡ true
      nullable_if x p = elim (not (is_named n x.name)) as (λ y. (y || (is_plain_of k x && x.nullable)) ≡ true → (y || x.nullable) ≡ true) [ true ↦ λ q. refl | false ↦ λ q. and_right (is_plain_of k x) _ q ] p

  same_kind_now : not (same_kind (kind_of n (the_table mid t).columns) (Some k)) ≡ false
  same_kind_now = ap (λ x. not (same_kind (kind_of n x.columns) (Some k))) now_is ∙ ap (λ o. not (same_kind o (Some k))) (kind_now n k b old.columns has) ∙ ap not (equal_itself k)

  value_still : (p : Value → Bool) → list_any (λ r. not (p (by_name old.columns r n))) old.rows ≡ false → list_any (λ r. not (p (by_name (the_table mid t).columns r n))) (the_table mid t).rows ≡ false
  value_still p h = ap (λ x. list_any (λ r. not (p (by_name x.columns r n))) x.rows) now_is ∙ any_same _ _ old.rows (λ r. ap (λ v. not (p v)) (by_name_still n n f' (λ x. refl) old.columns r)) ∙ h

  pub modify_back : step by d (Modify t n k (not b)) e ≡ Ok (c, 0)
  modify_back =
      ap (step by d (Modify t n k (not b))) (sym ok.result)
      ∙ accepts d (modify by d t n k (not b) mid) c sound (back_again d c t n f' g' (λ x. refl) q' sound there has fresh turn)
      (record {
        reserved = ok.reserved;
        missing = still_there d c t n f' g' (λ x. refl) q' sound there has fresh turn;
        exists = refl;
        depends = or_false _ _ (ap (λ x. not b && is_in_key x n) now_is ∙ free_of_key) (ap (λ x. x && (is_shown mid t n || (is_in_foreign (the_table mid t) n || is_aimed mid t n))) same_kind_now);
        wrong = value_still (is_variant k) ok.wrong;
        wide = value_still (is_value_of k) ok.wide;
      })
