-- Names in the spaces where a table, view or sequence is made, renamed or dropped.
use Rattle.std.proofs.Common.{ap, arith, ◌∙◌}
use Rattle.std.specs.List.{flat_map}
use Rattle.std.specs.Prelude.{false, ℕ, ◌+◌, ◌≡◌}
use Rattle.lq_base.specs.Name.{is_named}
use Rattle.lq_base.specs.declared.dialect.Dialect.{Dialect}
use Rattle.lq_base.specs.declared.dialect.Dialect.TheVariants.{Mysql, Postgresql}
use Rattle.lq_base.specs.declared.name.Name.{Name}
use Rattle.lq_model.specs.Catalogue.{Catalogue, times}
use Rattle.lq_model.specs.NameSpaces.{AreApart, all_foreign_names, is_taken, names_inside, object_names, shared_names}
use Rattle.lq_model.proofs.Counts.{once, swapped}
use Rattle.lq_model.proofs.Lists.{named_itself, same_name}
use Rattle.lq_model.proofs.Times.{none_times, one_more, times-append, times_none}

-- the spaces of a catalogue e whose object names are those of c with n times more and less, and whose tables name the same
pub record IsNamed (c e : Catalogue) (less more : Name → ℕ) : Type 0 where
  pub objects : (n : Name) → times n (object_names e) + less n ≡ times n (object_names c) + more n
  pub inner : (n : Name) → times n (flat_map names_inside e.tables) ≡ times n (flat_map names_inside c.tables)
  pub foreign : (n : Name) → times n (all_foreign_names e) ≡ times n (all_foreign_names c)

shared_named : (c e : Catalogue) (less more : Name → ℕ) → IsNamed c e less more → (n : Name) → times n (shared_names e) + less n ≡ times n (shared_names c) + more n
shared_named c e less more is n =
    let o = is.objects n in
    let i = is.inner n in
    let p = times-append n (object_names e) (flat_map names_inside e.tables) in
    let q = times-append n (object_names c) (flat_map names_inside c.tables) in
    omega (arith, o, i, p, q)

-- one name more, that was free
pub made_apart : (d : Dialect) (c e : Catalogue) (b : Name) → IsNamed c e (λ n. 0) (λ n. once (is_named n b)) → is_taken d b c ≡ false → AreApart d c → AreApart d e
made_apart Postgresql c e b is free h = λ n. one_more n b (times n (shared_names e)) (shared_names c) free (h n) (let s = shared_named c e (λ n. 0) (λ n. once (is_named n b)) is n in omega (arith, s))
made_apart Mysql c e b is free h = (
  λ n. one_more n b (times n (object_names e)) (object_names c) free (h.0 n) (let s = is.objects n in omega (arith, s)),
  λ n. let f = is.foreign n in let x = h.1 n in omega (arith, f, x),
)

-- one name less
pub gone_apart : (d : Dialect) (c e : Catalogue) (a : Name) → IsNamed c e (λ n. once (is_named n a)) (λ n. 0) → AreApart d c → AreApart d e
gone_apart Postgresql c e a is h = λ n. let s = shared_named c e (λ n. once (is_named n a)) (λ n. 0) is n in let x = h n in omega (arith, s, x)
gone_apart Mysql c e a is h = (λ n. let s = is.objects n in let x = h.0 n in omega (arith, s, x), λ n. let f = is.foreign n in let x = h.1 n in omega (arith, f, x))

-- one name for another, that was free
pub moved_apart : (d : Dialect) (c e : Catalogue) (a b : Name) → is_named a b ≡ false → IsNamed c e (λ n. once (is_named n a)) (λ n. once (is_named n b)) → is_taken d b c ≡ false → AreApart d c → AreApart d e
moved_apart Postgresql c e a b apart is free h = λ n. swapped n a b (times n (shared_names c)) (times n (shared_names e)) (h n) apart (λ r. ap (λ m. times m (shared_names c)) (same_name n b r) ∙ times_none b (shared_names c) free) (shared_named c e (λ n. once (is_named n a)) (λ n. once (is_named n b)) is n)
moved_apart Mysql c e a b apart is free h = (
  λ n. swapped n a b (times n (object_names c)) (times n (object_names e)) (h.0 n) apart (λ r. ap (λ m. times m (object_names c)) (same_name n b r) ∙ times_none b (object_names c) free) (is.objects n),
  λ n. let f = is.foreign n in let x = h.1 n in omega (arith, f, x),
)

-- and the old name is free
pub old_free : (d : Dialect) (c e : Catalogue) (a b : Name) → is_named a b ≡ false → IsNamed c e (λ n. once (is_named n a)) (λ n. once (is_named n b)) → AreApart d c → is_taken d a e ≡ false
old_free Postgresql c e a b apart is h =
    let s = shared_named c e (λ n. once (is_named n a)) (λ n. once (is_named n b)) is a in
    let x = h a in
    let p : once (is_named a a) ≡ 1 = ap once (named_itself a) in
    let q : once (is_named a b) ≡ 0 = ap once apart in
    none_times a (shared_names e) (omega (arith, s, x, p, q))
old_free Mysql c e a b apart is h =
    let s = is.objects a in
    let x = h.0 a in
    let p : once (is_named a a) ≡ 1 = ap once (named_itself a) in
    let q : once (is_named a b) ≡ 0 = ap once apart in
    none_times a (object_names e) (omega (arith, s, x, p, q))

-- the same names
pub moved_same : (d : Dialect) (c e : Catalogue) → IsNamed c e (λ n. 0) (λ n. 0) → AreApart d c → AreApart d e
moved_same Postgresql c e is h = λ n. let s = shared_named c e (λ n. 0) (λ n. 0) is n in let x = h n in omega (arith, s, x)
moved_same Mysql c e is h = (λ n. let s = is.objects n in let x = h.0 n in omega (arith, s, x), λ n. let f = is.foreign n in let x = h.1 n in omega (arith, f, x))
