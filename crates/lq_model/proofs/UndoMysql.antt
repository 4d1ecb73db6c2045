-- What MySQL's own statements take back.
use Rattle.std.proofs.Common.{ap, sym, ◌∙◌}
use Rattle.std.specs.List.{list_any}
use Rattle.std.specs.Prelude.{Ok, Some, [], false, is_none, map, not, refl, true, ℕ, ◌∷◌, ◌≡◌}
use Rattle.lq_base.specs.Name.{is_named}
use Rattle.lq_base.specs.declared.dialect.Dialect.{Dialect}
use Rattle.lq_base.specs.declared.dialect.Dialect.TheVariants.{Mysql}
use Rattle.lq_base.specs.declared.name.Name.{Name}
use Rattle.lq_model.specs.Constraints.{add_foreign_key, add_primary_key, add_unique, create_index, with_foreign, with_index, with_key, with_unique, drop_foreign_key, drop_index, drop_primary_key, drop_unique, has_index, without_foreign, without_index, without_its_key, without_unique}
use Rattle.lq_model.specs.Catalogue.{Catalogue, Table, table_of, the_table, with_table, is_in, foreign_names}
use Rattle.lq_model.specs.NameSpaces.{all_foreign_names, foreign_taken, index_taken, unique_taken, is_reserved, is_tracking}
use Rattle.lq_model.specs.Tables.{has_numbered}
use Rattle.lq_model.specs.Plan.{Plan, decide}
use Rattle.lq_model.specs.Sound.{IsSound}
use Rattle.lq_model.specs.Step.{step}
use Rattle.lq_model.specs.TakesBack.{is_firm}
use Rattle.lq_model.specs.declared.caller.By.{By}
use Rattle.lq_model.specs.declared.caller.By.TheVariants.{Program, User}
use Rattle.lq_model.specs.declared.column.Column.{Column}
use Rattle.lq_model.specs.declared.constraint.ForeignKey.{ForeignKey}
use Rattle.lq_model.specs.declared.constraint.Key.{Key}
use Rattle.lq_model.specs.declared.constraint.Unique.{Unique}
use Rattle.lq_model.specs.declared.index.Index.{Index}
use Rattle.lq_model.specs.declared.statement.Statement.TheVariants.{AddForeignKey, AddPrimaryKey, AddUnique, CreateIndex, DropForeignKey, DropIndex, DropPrimaryKey, DropUnique}
use Rattle.lq_model.proofs.Absent.{any-flat_map}
use Rattle.lq_model.proofs.AddKeeps.{no_number, no_option}
use Rattle.lq_model.proofs.Decide.{IsFree, accepted, accepts, here}
use Rattle.lq_model.proofs.Kept.{the_table-with_table, with_table-itself, with_table-with_table}
use Rattle.lq_model.proofs.Lists.{any-append, not_true, or_false, or_left, or_right}
use Rattle.lq_model.proofs.Maps.{at_lookup, lookup-set_value}
use Rattle.lq_model.proofs.UndoConstraints.{in_last, keyed_same, last_goes, reserved_less}

-- what drops something of a table, where that gives the table back
undone : (d : Dialect) (p : Plan) (t : Name) (it : Table) (c : Catalogue) (f : Table → Table) → IsSound d c → table_of c t ≡ Some (the_table c t) → p.result ≡ with_table (with_table c t it) t (f (the_table (with_table c t it) t)) → f it ≡ the_table c t → IsFree p → decide p ≡ Ok (c, p.count)
undone d p t it c f sound there result back free = accepts d p c sound
    (result ∙ ap (λ x. with_table (with_table c t it) t (f x)) (the_table-with_table c t it there) ∙ with_table-with_table c t it (f it) ∙ ap (with_table c t) back ∙ with_table-itself c t there) free

pub drop_unique_after : (t : Name) (u : Unique) (by : By) (c e : Catalogue) (k : ℕ) → IsSound Mysql c → step by Mysql (AddUnique t u) c ≡ Ok (e, k) → step by Mysql (DropUnique t u.name) e ≡ Ok (c, 0)
drop_unique_after t u by c e k sound made =
    let it = the_table c t in
    let ok = accepted (add_unique by Mysql t u c) e k made in
    let there = here c t (or_left _ _ ok.missing) in
    let new = with_unique u it in
    let now = the_table-with_table c t new there in
    let out = or_left (is_in u.name (map (λ (x : Unique). x.name) it.uniques)) _ (sym (any-append (is_named u.name) (map (λ (x : Unique). x.name) it.uniques) (map (λ (x : Index). x.name) it.indexes)) ∙ or_left (unique_taken Mysql t it u.name c) _ ok.exists) in
    ap (step by Mysql (DropUnique t u.name)) (sym ok.result)
    ∙ undone Mysql (drop_unique by Mysql t u.name (with_table c t new)) t new c (without_unique u.name) sound there refl
    (ap (λ x. record it { uniques = x }) (last_goes u.name (λ (x : Unique). x.name) it.uniques u refl out))
    (record {
      reserved = ok.reserved;
      missing = or_false _ _ (ap is_none (lookup-set_value (is_named t) c.tables it new there)) (ap (λ x. not (is_in u.name (map (λ (y : Unique). y.name) x.uniques))) now ∙ not_true _ (in_last u.name (λ (x : Unique). x.name) it.uniques u refl));
      exists = refl;
      depends = refl;
      wrong = refl;
      wide = refl;
    })

-- no foreign key of one table has the name where none of any table has
no_foreign : (n t : Name) (c : Catalogue) → table_of c t ≡ Some (the_table c t) → is_in n (all_foreign_names c) ≡ false → is_in n (foreign_names (the_table c t)) ≡ false
no_foreign n t c there out = at_lookup (is_named t) (λ x. is_in n (foreign_names x)) c.tables (the_table c t) (sym (any-flat_map (is_named n) (λ (x : Name × Table). foreign_names x.1) c.tables) ∙ out) there

pub drop_foreign_key_after : (t : Name) (f : ForeignKey) (by : By) (c e : Catalogue) (k : ℕ) → IsSound Mysql c → step by Mysql (AddForeignKey t f) c ≡ Ok (e, k) → step by Mysql (DropForeignKey t f.name) e ≡ Ok (c, 0)
drop_foreign_key_after t f by c e k sound made =
    let it = the_table c t in
    let ok = accepted (add_foreign_key by Mysql t f c) e k made in
    let there = here c t (or_left _ _ ok.missing) in
    let new = with_foreign f it in
    let now = the_table-with_table c t new there in
    let out = no_foreign f.name t c there (or_left (foreign_taken Mysql it f.name c) _ ok.exists) in
    ap (step by Mysql (DropForeignKey t f.name)) (sym ok.result)
    ∙ undone Mysql (drop_foreign_key by Mysql t f.name (with_table c t new)) t new c (without_foreign f.name) sound there refl
    (ap (λ x. record it { foreign = x }) (last_goes f.name (λ (x : ForeignKey). x.name) it.foreign f refl out))
    (record {
      reserved = reserved_less by t f.name f.table ok.reserved;
      missing = or_false _ _ (ap is_none (lookup-set_value (is_named t) c.tables it new there)) (ap (λ x. not (is_in f.name (foreign_names x))) now ∙ not_true _ (in_last f.name (λ (x : ForeignKey). x.name) it.foreign f refl));
      exists = refl;
      depends = refl;
      wrong = refl;
      wide = refl;
    })

pub drop_primary_key_after : (t : Name) (k : Key) (by : By) (c e : Catalogue) (n : ℕ) → IsSound Mysql c → is_firm t k.columns c ≡ true → step by Mysql (AddPrimaryKey t k) c ≡ Ok (e, n) → step by Mysql (DropPrimaryKey t) e ≡ Ok (c, 0)
drop_primary_key_after t k by c e n sound fresh made =
    let it = the_table c t in
    let ok = accepted (add_primary_key by Mysql t k c) e n made in
    let there = here c t (or_left _ _ ok.missing) in
    let new = with_key k it in
    let now = the_table-with_table c t new there in
    let none = no_option it.key (or_left _ _ ok.exists) in
    let same = keyed_same k it.columns fresh in
    ap (step by Mysql (DropPrimaryKey t)) (sym ok.result)
    ∙ undone Mysql (drop_primary_key by Mysql t (with_table c t new)) t new c without_its_key sound there refl
    (ap (λ o. record new { key = o }) (sym none) ∙ ap (λ cs. record it { columns = cs }) same)
    (record {
      reserved = first_reserved by t k.name ok.reserved;
      missing = or_false _ _ (ap is_none (lookup-set_value (is_named t) c.tables it new there)) (ap (λ x. is_none x.key) now);
      exists = refl;
      depends = ap (λ x. has_numbered x) now ∙ ap (λ cs. list_any (λ (x : Column). x.numbered) cs) same ∙ no_number Mysql it (sound.tables t it there) none;
      wrong = refl;
      wide = refl;
    })
  where
    first_reserved : (by : By) (a b : Name) → is_reserved by (a ∷ b ∷ []) ≡ false → is_reserved by (a ∷ []) ≡ false
    first_reserved User a b h = or_false _ _ (or_left (is_tracking a) _ h) refl
    first_reserved Program a b h = refl

pub drop_index_after : (t : Name) (i : Index) (by : By) (c e : Catalogue) (k : ℕ) → IsSound Mysql c → step by Mysql (CreateIndex t i) c ≡ Ok (e, k) → step by Mysql (DropIndex i.name (Some t)) e ≡ Ok (c, 0)
drop_index_after t i by c e k sound made =
    let it = the_table c t in
    let ok = accepted (create_index by Mysql t i c) e k made in
    let there = here c t (or_left _ _ ok.missing) in
    let new = with_index i it in
    let now = the_table-with_table c t new there in
    let out = or_right (is_in i.name (map (λ (x : Unique). x.name) it.uniques)) _ (sym (any-append (is_named i.name) (map (λ (x : Unique). x.name) it.uniques) (map (λ (x : Index). x.name) it.indexes)) ∙ or_left (index_taken Mysql t it i.name c) _ ok.exists) in
    ap (step by Mysql (DropIndex i.name (Some t))) (sym ok.result)
    ∙ undone Mysql (drop_index by Mysql i.name (Some t) (with_table c t new)) t new c (without_index i.name) sound there refl
    (ap (λ x. record it { indexes = x }) (last_goes i.name (λ (x : Index). x.name) it.indexes i refl out))
    (record {
      reserved = ok.reserved;
      missing = or_false _ _ (ap is_none (lookup-set_value (is_named t) c.tables it new there)) (ap (λ x. not (has_index i.name x)) now ∙ not_true _ (in_last i.name (λ (x : Index). x.name) it.indexes i refl));
      exists = refl;
      depends = refl;
      wrong = refl;
      wide = refl;
    })
