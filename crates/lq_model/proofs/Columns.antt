-- A column of a sound table is the only one of its name; a table that is set twice.
use Rattle.std.proofs.Common.{ap, sym, ◌∙◌}
use Rattle.std.specs.List.{find, list_all}
use Rattle.std.specs.Option.{option_and_then, unwrap_or}
use Rattle.std.specs.Prelude.{Bool, List, None, Option, Some, [], cond, false, map, not, refl, true, ◌||◌, ◌∷◌, ◌≡◌}
use Rattle.lq_base.specs.Name.{is_named}
use Rattle.lq_base.specs.declared.dialect.Dialect.{Dialect}
use Rattle.lq_base.specs.declared.name.Name.{Name}
use Rattle.lq_model.specs.Catalogue.{Catalogue, Table, no_table, table_of, the_table, with_table, column_at, is_in, repeats}
use Rattle.lq_model.specs.Sound.{IsSound}
use Rattle.lq_model.specs.TakesBack.{is_each}
use Rattle.lq_model.specs.declared.column.Column.{Column}
use Rattle.lq_model.proofs.Kept.{the_table-with_table, with_table-with_table}
use Rattle.lq_model.proofs.Lists.{or_left, or_right, same_name}
use Rattle.lq_base.specs.Number.{if_there}

none_named : (n : Name) (p : Column → Bool) (cs : List Column) → is_in n (map (λ x. x.name) cs) ≡ false → list_all (λ x. not (is_named n x.name) || p x) cs ≡ true
none_named n p [] out = refl
none_named n p (c ∷ cs) out = rw (or_left (is_named n c.name) _ out) (none_named n p cs (or_right (is_named n c.name) _ out))

first_is_each : (n : Name) (p : Column → Bool) (cs : List Column) → repeats (map (λ x. x.name) cs) ≡ false → if_there p (find (λ x. is_named n x.name) cs) ≡ true → list_all (λ x. not (is_named n x.name) || p x) cs ≡ true
first_is_each n p [] apart h = refl
first_is_each n p (c ∷ cs) apart h = by (is_named n c.name) refl h (λ k. first_is_each n p cs (or_right (is_in c.name (map (λ x. x.name) cs)) _ apart) k) where
  by : (b : Bool) → is_named n c.name ≡ b → if_there p (cond b (Some c) (find (λ x. is_named n x.name) cs)) ≡ true → (if_there p (find (λ x. is_named n x.name) cs) ≡ true → list_all (λ x. not (is_named n x.name) || p x) cs ≡ true) → list_all (λ x. not (is_named n x.name) || p x) (c ∷ cs) ≡ true
  by true is k later = rw (is, k) (none_named n p cs (ap (λ m. is_in m (map (λ x. x.name) cs)) (same_name n c.name is) ∙ or_left (is_in c.name (map (λ x. x.name) cs)) _ apart))
  by false is k later = rw is (later k)

pub each_of_first : (d : Dialect) (c : Catalogue) (t n : Name) (p : Column → Bool) → IsSound d c → if_there p (column_at c t n) ≡ true → is_each t n p c ≡ true
each_of_first d c t n p sound h = by (table_of c t) refl h where
  by : (o : Option Table) → table_of c t ≡ o → if_there p (option_and_then (λ it. find (λ x. is_named n x.name) it.columns) o) ≡ true → list_all (λ x. not (is_named n x.name) || p x) (unwrap_or o no_table).columns ≡ true
  by None is k = refl
  by (Some it) is k = first_is_each n p it.columns (sound.tables t it is).differ k

-- a table that is set and then changed
pub set_again : (c mid e : Catalogue) (t : Name) (a : Table) (f : Table → Table) → table_of c t ≡ Some (the_table c t) → with_table c t a ≡ mid → with_table mid t (f (the_table mid t)) ≡ e → with_table c t (f a) ≡ e
set_again c mid e t a f there is h =
    ap (λ it. with_table c t (f it)) (sym (the_table-with_table c t a there))
    ∙ sym (with_table-with_table c t a (f (the_table (with_table c t a) t)))
    ∙ ap (λ m. with_table m t (f (the_table m t))) is
    ∙ h
