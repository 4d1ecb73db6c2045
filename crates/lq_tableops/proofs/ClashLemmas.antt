-- Lemmas on names that are taken.
use Rattle.std.proofs.Common.{Bool, List, [], ap, false, map, refl, sym, ◌∙◌, ◌∷◌, ◌≡◌, ◌||◌}
use Rattle.std.specs.List.{list_any}
use denote.Ref.{Bor}
use Rattle.lq_base.specs.Name.{beside, is_named}
use Rattle.lq_base.specs.declared.dialect.Dialect.TheVariants.{Postgresql}
use Rattle.lq_base.specs.declared.name.Name.{Name}
use Rattle.lq_decide.proofs.Lists.{or-false}
use Rattle.lq_model.specs.Catalogue.{Catalogue, is_in, placed}
use Rattle.lq_model.specs.NameSpaces.{shared_names, is_reserved, is_tracking, lock_key, takes_lock_key}
use Rattle.lq_model.specs.declared.caller.By.{By}
use Rattle.lq_model.specs.declared.caller.By.TheVariants.{Program, User}
use Rattle.lq_model.proofs.Lists.{any-map, any_same}

none_of : {A : Type 0} (xs : List A) → list_any (λ x. false) xs ≡ false
none_of [] = refl
none_of (x ∷ xs) = none_of xs

-- one of the names is reserved, name by name
pub reserved_is : (by : By) (ns : List Name) → list_any (λ n. is_reserved by (n ∷ [])) ns ≡ is_reserved by ns
reserved_is User ns = any_same (λ n. is_reserved User (n ∷ [])) is_tracking ns (λ n. or-false (is_tracking n))
reserved_is Program ns = none_of ns

pub reserved_of : (by : By) (ns : List (Bor Name)) → list_any (λ n. is_reserved by (n.now ∷ [])) ns ≡ is_reserved by (map (λ n. n.now) ns)
reserved_of by ns = sym (any-map (λ n. is_reserved by (n ∷ [])) (λ (n : Bor Name). n.now) ns) ∙ reserved_is by (map (λ n. n.now) ns)

-- ---- names inside a table

any_inside : (p : Name → Bool) (t : Name) (ns : List (Bor Name)) → list_any (λ n. p (beside t n.now)) ns ≡ list_any p (placed t (map (λ n. n.now) ns))
any_inside p t [] = refl
any_inside p t (n ∷ ns) = ap (λ b. p (beside t n.now) || b) (any_inside p t ns)

pub shared_inside : (c : Catalogue) (t : Name) (ns : List (Bor Name)) → list_any (λ n. is_in (beside t n.now) (shared_names c)) ns ≡ list_any (λ n. is_in n (shared_names c)) (placed t (map (λ n. n.now) ns))
shared_inside c t ns = any_inside (λ n. is_in n (shared_names c)) t ns

pub own_inside : (t : Name) (ns : List (Bor Name)) → list_any (λ n. is_named t (beside t n.now)) ns ≡ is_in t (placed t (map (λ n. n.now) ns))
own_inside t ns = any_inside (is_named t) t ns

pub lock_key_inside : (t : Name) (ns : List (Bor Name)) → (is_named lock_key t || list_any (λ n. is_named lock_key (beside t n.now)) ns) ≡ takes_lock_key User Postgresql (t ∷ placed t (map (λ n. n.now) ns))
lock_key_inside t ns = ap (λ b. is_named lock_key t || b) (any_inside (is_named lock_key) t ns)
