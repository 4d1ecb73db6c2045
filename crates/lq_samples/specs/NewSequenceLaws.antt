-- That a change that makes a sequence keeps its promises.
use Rattle.std.proofs.Common.{ap, subst, sym, ◌∙◌}
use Rattle.std.specs.List.{list_all}
use Rattle.std.specs.Prelude.{Bool, Err, Ok, Option, Result, Some, [], codes, false, pos, refl, true, ℕ, ◌||◌, ◌∷◌, ◌≡◌}
use Rattle.lq_base.proofs.BesideLemmas.{object_of_name}
use Rattle.lq_base.specs.Name.{is_named, is_object}
use Rattle.lq_base.specs.declared.dialect.Dialect.{Dialect}
use Rattle.lq_base.specs.declared.dialect.Dialect.TheVariants.{Mysql, Postgresql}
use Rattle.lq_base.specs.declared.reason.Reason.{Reason}
use Rattle.lq_base.specs.declared.reason.Reason.TheVariants as reason
use Rattle.lq_model.proofs.Decide.{refuses_exists, settles}
use Rattle.lq_model.proofs.Lists.{and_true}
use Rattle.lq_model.proofs.Sequences.{drop_sequence_after}
use Rattle.lq_model.proofs.Told.{keys_told, text_told}
use Rattle.lq_model.specs.Catalogue.{Catalogue}
use Rattle.lq_model.specs.Changes.{AreReturns, AreStatements, AreTold, HaveEffect, TakeBack}
use Rattle.lq_model.specs.NameSpaces.{is_taken, is_tracking, lock_key}
use Rattle.lq_model.specs.Plan.{Plan, decide, unless}
use Rattle.lq_model.specs.Step.{is_statement, run, step}
use Rattle.lq_model.specs.TakesBack.{DropSequenceTakesBack, nth_value}
use Rattle.lq_model.specs.Views.{create_sequence}
use Rattle.lq_model.specs.declared.caller.By.TheVariants.{User}
use Rattle.lq_model.specs.declared.statement.Statement.{Statement}
use Rattle.lq_model.specs.declared.statement.Statement.TheVariants.{CreateSequence, DropSequence}
use Rattle.lq_samples.specs.NewSequence.{canonical_of, effect, gives, inverse, is_for, is_fresh, rows}

ok_same : {X Y : Type 0} {x y : X} → (let r : Result X Y = Ok x in r) ≡ Ok y → x ≡ y
ok_same h = Prim.cc

some_same : {X : Type 0} {x y : X} → (let o : Option X = Some x in o) ≡ Some y → x ≡ y
some_same h = Prim.cc

pub spelled : AreStatements is_for gives
spelled Postgresql name h = and_true (is_statement Postgresql (CreateSequence name (pos 1) (pos 1))) true (and_true (is_object Postgresql name) _ (object_of_name Postgresql name h) refl) refl
spelled Mysql name h = absurd Prim.cc

pub returned : AreReturns is_for inverse
returned Postgresql name undoing h taken = subst (λ ss. list_all (is_statement Postgresql) ss ≡ true) (some_same taken) (and_true (is_statement Postgresql (DropSequence name)) true (object_of_name Postgresql name h) refl)
returned Mysql name undoing h taken = absurd Prim.cc

or_nothing : (b : Bool) → (b || false) ≡ b
or_nothing true = refl
or_nothing false = refl

refuses_reserved : (p : Plan) → p.reserved ≡ true → decide p ≡ Err reason.Reserved
unfolding decide
refuses_reserved p is = rw is refl

-- what a run of one statement makes of its answer
abbrev once : Result (Catalogue × ℕ) Reason → Result Catalogue Reason
once (Ok p) = Ok p.0
once (Err q) = Err q

pub does : HaveEffect is_for gives effect
does Postgresql name c h sound = decided (is_tracking name) (is_taken Postgresql name c || is_named lock_key name) refl refl where
  made : Plan
  made = create_sequence User Postgresql name (pos 1) (pos 1) c

  reserved : (b : Bool) → is_tracking name ≡ b → made.reserved ≡ b
  reserved b is = or_nothing (is_tracking name) ∙ is

  exists : (b : Bool) → (is_taken Postgresql name c || is_named lock_key name) ≡ b → made.exists ≡ b
  exists b is = ap (λ x. is_taken Postgresql name c || x) (or_nothing (is_named lock_key name)) ∙ is

  decided : (r x : Bool) → is_tracking name ≡ r → (is_taken Postgresql name c || is_named lock_key name) ≡ x → once (decide made) ≡ unless ((r, reason.Reserved) ∷ (x, reason.Exists) ∷ []) made.result
  decided true x a b = ap once (refuses_reserved made (reserved true a))
  decided false true a b = ap once (refuses_exists made (reserved false a) refl (exists true b))
  decided false false a b = ap once (settles made (record {
    aimed = sound.aimed;
    no_null = sound.no_null;
    no_twins = sound.no_twins;
    parents = sound.parents;
    small = sound.small;
  }) (record {
    reserved = reserved false a;
    missing = refl;
    exists = exists false b;
    depends = refl;
    wrong = refl;
    wide = refl;
  }))
does Mysql name c h sound = absurd Prim.cc

-- so a run of one statement that ends is that statement
one_made : (d : Dialect) (s : Statement) (c e : Catalogue) → run User d (s ∷ []) c ≡ Ok e → (n : ℕ) × (step User d s c ≡ Ok (e, n))
one_made d s c e h = by (step User d s c) refl h where
  by : (r : Result (Catalogue × ℕ) Reason) → step User d s c ≡ r → once r ≡ Ok e → (n : ℕ) × (step User d s c ≡ Ok (e, n))
  by (Ok p) is h = (p.1, is ∙ ap (λ x. Ok (x, p.1)) (ok_same h))
  by (Err q) is h = absurd Prim.cc

-- by the law that DROP SEQUENCE takes CREATE SEQUENCE back
restored : DropSequenceTakesBack → TakeBack is_for effect is_fresh inverse
restored takes_back d name c e undoing h sound fresh is taken =
    let made = one_made d (CreateSequence name (pos 1) (pos 1)) c e (does d name c h sound ∙ is) in
    ap (λ ss. run User d ss e) (sym (some_same taken)) ∙ ap once (takes_back d name (pos 1) (pos 1) User c e made.0 sound made.1)

pub restores : TakeBack is_for effect is_fresh inverse
restores = restored drop_sequence_after

pub told : AreTold is_for canonical_of
told d x y read also same = text_told (ap (nth_value 0) (keys_told (codes "createSequence") (codes "createSequence") (rows x) (rows y) refl refl same))
