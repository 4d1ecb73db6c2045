-- An entry of a map that gets another name.
use Rattle.std.proofs.Common.{ap, arith, sym, ◌∙◌}
use Rattle.std.specs.BTreeMap.{insert_entry}
use Rattle.std.specs.FinMap.Entries.{is_sorted}
use Rattle.std.specs.List.{list_any}
use Rattle.std.specs.List.Sorted.{IsStrictlySortedBy}
use Rattle.std.specs.Map.{keys_of, lookup, remove_entry}
use Rattle.std.specs.Prelude.{Bool, List, None, Some, T, [], cond, false, map, refl, true, ◌+◌, ◌≡◌}
use Rattle.lq_base.specs.Name.{is_named, name_cmp}
use Rattle.lq_base.specs.declared.name.Name.{Name}
use Rattle.lq_model.specs.Catalogue.{times}
use Rattle.lq_model.proofs.Counts.{keys-insert, keys-remove, once}
use Rattle.lq_model.proofs.Lists.{named_itself, other_way, same_name, whether}
use Rattle.lq_model.proofs.Maps.{any_none-insert_entry, any_none-remove_entry, lookup-insert_entry, lookup-remove_entry, not_some, same_maps, sorted-insert_entry, sorted-remove_entry, sorted_entries, sorted_keys}

module _ {X : Type 0} (es : List (Name × X)) (a b : Name) (x : X) (rise : IsStrictlySortedBy name_cmp (keys_of es)) (there : lookup (is_named a) es ≡ Some x) (gone : lookup (is_named b) es ≡ None) where
  abbrev pub moved : List (Name × X)
  moved = insert_entry name_cmp (remove_entry (is_named a) es) b x

  sorted : T (is_sorted name_cmp es)
  sorted = sorted_entries es rise

  sorted-moved : T (is_sorted name_cmp moved)
  sorted-moved = sorted-insert_entry (remove_entry (is_named a) es) b x (sorted-remove_entry a es sorted)

  pub moved_rise : IsStrictlySortedBy name_cmp (keys_of moved)
  moved_rise = sorted_keys moved sorted-moved

  pub names_apart : is_named a b ≡ false
  names_apart = whether (is_named a b) (λ p. not_some (sym there ∙ ap (λ n. lookup (is_named n) es) (same_name a b p) ∙ gone)) (λ p. p)

  moved_looked : (q : Name) → lookup (is_named q) moved ≡ cond (is_named q b) (Some x) (cond (is_named a q) None (lookup (is_named q) es))
  moved_looked q = lookup-insert_entry (remove_entry (is_named a) es) b x q ∙ ap (cond (is_named q b) (Some x)) (lookup-remove_entry a es q sorted)

  pub moved_there : lookup (is_named b) moved ≡ Some x
  moved_there = moved_looked b ∙ ap (λ r. cond r (Some x) (cond (is_named a b) None (lookup (is_named b) es))) (named_itself b)

  back_looked : (q : Name) → lookup (is_named q) (insert_entry name_cmp (remove_entry (is_named b) moved) a x) ≡ lookup (is_named q) es
  back_looked q =
      lookup-insert_entry (remove_entry (is_named b) moved) a x q
      ∙ ap (cond (is_named q a) (Some x)) (lookup-remove_entry b moved q sorted-moved ∙ ap (cond (is_named b q) None) (moved_looked q))
      ∙ elim (is_named q a) as (λ r. is_named q a ≡ r → cond r (Some x) (cond (is_named b q) None (cond (is_named q b) (Some x) (cond (is_named a q) None (lookup (is_named q) es)))) ≡ lookup (is_named q) es) [
        | true ↦ λ p. sym there ∙ ap (λ n. lookup (is_named n) es) (sym (same_name q a p))
        | false ↦ λ p. elim (is_named b q) as (λ r. is_named b q ≡ r → cond r None (cond (is_named q b) (Some x) (cond (is_named a q) None (lookup (is_named q) es))) ≡ lookup (is_named q) es) [
          | true ↦ λ r. sym gone ∙ ap (λ n. lookup (is_named n) es) (same_name b q r)
          | false ↦ λ r. ap (λ y. cond y (Some x) (cond (is_named a q) None (lookup (is_named q) es))) (other_way b q r) ∙ ap (λ y. cond y None (lookup (is_named q) es)) (other_way q a p)
        ] refl
      ] refl

  -- and gets its old one back
  pub moved_back : insert_entry name_cmp (remove_entry (is_named b) moved) a x ≡ es
  moved_back = same_maps (insert_entry name_cmp (remove_entry (is_named b) moved) a x) es (sorted-insert_entry (remove_entry (is_named b) moved) a x (sorted-remove_entry b moved sorted-moved)) sorted back_looked

  gone_still : lookup (is_named b) (remove_entry (is_named a) es) ≡ None
  gone_still = lookup-remove_entry a es b sorted ∙ ap (λ r. cond r None (lookup (is_named b) es)) names_apart ∙ gone

  pub moved_keys : (n : Name) → times n (map (λ (e : Name × X). e.0) moved) + once (is_named n a) ≡ times n (map (λ (e : Name × X). e.0) es) + once (is_named n b)
  moved_keys n =
      let p = keys-insert (λ (y : Name × X). []) n (remove_entry (is_named a) es) b x gone_still in
      let q = keys-remove (λ (y : Name × X). []) n es a x there in
      omega (arith, p, q)

  pub moved_none : (p : X → Bool) → p x ≡ false → list_any (λ (e : Name × X). p e.1) es ≡ false → list_any (λ (e : Name × X). p e.1) moved ≡ false
  moved_none p new none = any_none-insert_entry (λ e. p e.1) (remove_entry (is_named a) es) b x (λ n. refl) new (any_none-remove_entry (is_named a) (λ (e : Name × X). p e.1) es none)
