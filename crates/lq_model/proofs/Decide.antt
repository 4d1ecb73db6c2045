-- How a plan is decided.
use Rattle.std.proofs.Common.{ap, sym, ◌∙◌}
use Rattle.std.specs.List.{list_any}
use Rattle.std.specs.Option.{unwrap_or}
use Rattle.std.specs.Prelude.{Bool, Err, List, None, Ok, Result, Some, [], cond, false, is_none, not, refl, true, ℕ, ◌&&◌, ◌∷◌, ◌≡◌}
use Rattle.lq_base.specs.declared.dialect.Dialect.{Dialect}
use Rattle.lq_base.specs.declared.name.Name.{Name}
use Rattle.lq_base.specs.declared.reason.Reason.{Reason}
use Rattle.lq_base.specs.declared.reason.Reason.TheVariants as reason
use Rattle.lq_model.specs.Catalogue.{Catalogue, no_table, table_of, the_table, is_in}
use Rattle.lq_model.specs.Plan.{Plan, against, decide, lacks_parents, leaves_children, NoneHolds, unless, has_null, has_orphan, has_orphans, has_twins, is_loose, is_overfull}
use Rattle.lq_model.specs.Sound.{IsSound}
use Rattle.lq_model.proofs.Lists.{and_no_right, any_less, or_false, or_left, or_right, true_false}

ok_same : {A : Type 0} {x y : A} → (let r : Result A Reason = Ok x in r) ≡ Ok y → x ≡ y
ok_same e = Prim.cc

not_ok : {A : Type 0} {r : Reason} {y : A} → (let z : Result A Reason = Err r in z) ≡ Ok y → ⊥
not_ok e = Prim.cc

pub unless-none : {A : Type 0} (cs : List (Bool × Reason)) (x : A) → NoneHolds cs → unless cs x ≡ Ok x
unless-none [] x h = refl
unless-none (c ∷ cs) x h = ap (λ b. cond b (Err c.1) (unless cs x)) h.0 ∙ unless-none cs x h.1

pub none_from_unless : {A : Type 0} (cs : List (Bool × Reason)) (x y : A) → unless cs x ≡ Ok y → NoneHolds cs × (x ≡ y)
none_from_unless [] x y e = (tt, ok_same e)
none_from_unless (c ∷ cs) x y e =
    elim c.0 as (λ b. cond b (Err c.1) (unless cs x) ≡ Ok y → ((b ≡ false) × NoneHolds cs) × (x ≡ y)) [
      | true ↦ λ q. absurd (not_ok q)
      | false ↦ λ q. let r = none_from_unless cs x y q in ((refl, r.0), r.1)
    ] e

-- what a plan that is accepted passed
pub record IsAccepted (p : Plan) (c : Catalogue) : Type 0 where
  pub reserved : p.reserved ≡ false
  pub missing : p.missing ≡ false
  pub exists : p.exists ≡ false
  pub depends : p.depends ≡ false
  pub wrong : p.wrong ≡ false
  pub wide : p.wide ≡ false
  pub aimed : is_loose p.result ≡ false
  pub no_null : has_null p.result ≡ false
  pub no_twins : has_twins p.result ≡ false
  pub childless : lacks_parents p.named p.result ≡ false
  pub kept : leaves_children p.named p.result ≡ false
  pub small : is_overfull p.result ≡ false
  pub result : p.result ≡ c

pub accepted : (p : Plan) (c : Catalogue) (n : ℕ) → decide p ≡ Ok (c, n) → IsAccepted p c
unfolding decide
accepted p c n e =
    let f = none_from_unless (against p) (p.result, p.count) (c, n) e in
    let h = f.0 in
    record {
      reserved = h.0;
      missing = h.1.0;
      exists = h.1.1.0;
      depends = or_left p.depends _ h.1.1.1.0;
      wrong = h.1.1.1.1.0;
      wide = h.1.1.1.1.1.0;
      aimed = or_right p.depends _ h.1.1.1.0;
      no_null = h.1.1.1.1.1.1.0;
      no_twins = h.1.1.1.1.1.1.1.0;
      childless = h.1.1.1.1.1.1.1.1.0;
      kept = h.1.1.1.1.1.1.1.1.1.0;
      small = h.1.1.1.1.1.1.1.1.1.1.0;
      result = ap (λ r. r.0) f.1;
    }

pub counted : (p : Plan) (c : Catalogue) (n : ℕ) → decide p ≡ Ok (c, n) → p.count ≡ n
unfolding decide
counted p c n e = ap (λ r. r.1) (none_from_unless (against p) (p.result, p.count) (c, n) e).1

-- nothing that the statement itself does is against it
pub record IsFree (p : Plan) : Type 0 where
  pub reserved : p.reserved ≡ false
  pub missing : p.missing ≡ false
  pub exists : p.exists ≡ false
  pub depends : p.depends ≡ false
  pub wrong : p.wrong ≡ false
  pub wide : p.wide ≡ false

-- what leads to a sound catalogue is accepted where nothing else is against it
pub accepts : (d : Dialect) (p : Plan) (c : Catalogue) → IsSound d c → p.result ≡ c → IsFree p → decide p ≡ Ok (c, p.count)
unfolding decide
accepts d p c sound is free =
    unless-none (against p) (p.result, p.count) (
      free.reserved,
      (
        free.missing,
        (
          free.exists,
          (
            or_false p.depends _ free.depends (ap is_loose is ∙ sound.aimed),
            (
              free.wrong,
              (
                free.wide,
                (
                  ap has_null is ∙ sound.no_null,
                  (
                    ap has_twins is ∙ sound.no_twins,
                    (
                      ap (lacks_parents p.named) is ∙ any_less _ (λ e. has_orphan c e.1) c.tables (λ e none. and_no_right (is_in e.0 p.named) _ none) sound.parents,
                      (
                        ap (leaves_children p.named) is ∙ any_less _ (λ e. has_orphan c e.1) c.tables (λ e none. and_no_right (not (is_in e.0 p.named)) _ none) sound.parents,
                        (
                          ap is_overfull is ∙ sound.small,
                          tt,
                        ),
                      ),
                    ),
                  ),
                ),
              ),
            ),
          ),
        ),
      ),
    )
    ∙ ap (λ x. Ok (x, p.count)) is

-- the table is there
pub here : (c : Catalogue) (t : Name) → is_none (table_of c t) ≡ false → table_of c t ≡ Some (the_table c t)
here c t h = elim (table_of c t) as (λ o. is_none o ≡ false → o ≡ Some (unwrap_or o no_table)) [
  | None ↦ λ q. true_false refl q
  | Some it ↦ λ q. refl
] h

-- what a statement's result was tested for
pub record IsSettled (c : Catalogue) : Type 0 where
  pub aimed : is_loose c ≡ false
  pub no_null : has_null c ≡ false
  pub no_twins : has_twins c ≡ false
  pub parents : has_orphans c ≡ false
  pub small : is_overfull c ≡ false

in_either : {A : Type 0} (p q : A → Bool) (xs : List A) → list_any (λ x. p x && q x) xs ≡ false → list_any (λ x. not (p x) && q x) xs ≡ false → list_any q xs ≡ false
in_either p q [] a b = refl
in_either p q (x ∷ xs) a b = or_false _ _ (at (p x) (or_left (p x && q x) _ a) (or_left (not (p x) && q x) _ b)) (in_either p q xs (or_right (p x && q x) _ a) (or_right (not (p x) && q x) _ b)) where
  at : (r : Bool) → (r && q x) ≡ false → (not r && q x) ≡ false → q x ≡ false
  at true h k = h
  at false h k = k

pub settled : (p : Plan) (c : Catalogue) → IsAccepted p c → IsSettled c
settled p c ok = record {
  aimed = ap is_loose (sym ok.result) ∙ ok.aimed;
  no_null = ap has_null (sym ok.result) ∙ ok.no_null;
  no_twins = ap has_twins (sym ok.result) ∙ ok.no_twins;
  parents = ap has_orphans (sym ok.result) ∙ in_either (λ e. is_in e.0 p.named) (λ e. has_orphan p.result e.1) p.result.tables ok.childless ok.kept;
  small = ap is_overfull (sym ok.result) ∙ ok.small;
}

-- what passes the tests of a result is accepted where nothing else is against it
pub settles : (p : Plan) → IsSettled p.result → IsFree p → decide p ≡ Ok (p.result, p.count)
unfolding decide
settles p tested free =
    unless-none (against p) (p.result, p.count) (
      free.reserved,
      (
        free.missing,
        (
          free.exists,
          (
            or_false p.depends _ free.depends tested.aimed,
            (
              free.wrong,
              (
                free.wide,
                (
                  tested.no_null,
                  (
                    tested.no_twins,
                    (
                      any_less _ (λ e. has_orphan p.result e.1) p.result.tables (λ e none. and_no_right (is_in e.0 p.named) _ none) tested.parents,
                      (
                        any_less _ (λ e. has_orphan p.result e.1) p.result.tables (λ e none. and_no_right (not (is_in e.0 p.named)) _ none) tested.parents,
                        (
                          tested.small,
                          tt,
                        ),
                      ),
                    ),
                  ),
                ),
              ),
            ),
          ),
        ),
      ),
    )

-- how a plan is refused

pub refuses_missing : (p : Plan) → p.reserved ≡ false → p.missing ≡ true → decide p ≡ Err reason.Missing
unfolding decide
refuses_missing p a b = rw (a, b) refl

pub refuses_exists : (p : Plan) → p.reserved ≡ false → p.missing ≡ false → p.exists ≡ true → decide p ≡ Err reason.Exists
unfolding decide
refuses_exists p a b c = rw (a, b, c) refl

pub refuses_depends : (p : Plan) → p.reserved ≡ false → p.missing ≡ false → p.exists ≡ false → p.depends ≡ true → decide p ≡ Err reason.Depends
unfolding decide
refuses_depends p a b c d = rw (a, b, c, d) refl
