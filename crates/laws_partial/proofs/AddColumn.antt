-- That a part of an addColumn is taken back.
use Rattle.std.proofs.Common.{ap, inl, inr, subst, sym, ◌∙◌}
use Rattle.std.specs.List.{flat_map, list_all}
use Rattle.std.specs.Option.{option_to_list}
use Rattle.std.specs.Prelude.{Bool, List, None, Ok, Option, Some, [], false, if◌then◌else◌, refl, true, ℕ, ◌++◌, ◌∷◌, ◌≡◌}
use Rattle.std.proofs.lemmas.List.{append-nil}
use Rattle.lq_base.specs.declared.dialect.Dialect.{Dialect}
use Rattle.lq_base.specs.declared.dialect.Dialect.TheVariants.{Mysql, Postgresql}
use Rattle.lq_base.specs.declared.name.Name.{Name}
use Rattle.lq_model.proofs.AddDropColumn.{drop_widened, widened_by_add}
use Rattle.lq_model.proofs.Between.{widened_by_update}
use Rattle.lq_model.proofs.Decide.{accepted}
use Rattle.lq_model.proofs.Effects.{Both, Ran, goes_on, ok_same, one_back, one_run, one_step, ran_both, ran_first, run_both, run_keeps}
use Rattle.lq_model.proofs.Lists.{all-append_left, all-append_right, and_right}
use Rattle.lq_model.proofs.UndoConstraints.{drop_after_foreign_key, drop_after_unique}
use Rattle.lq_model.proofs.UndoMysql.{drop_foreign_key_after, drop_unique_after}
use Rattle.lq_model.specs.Catalogue.{Catalogue, IsWidened}
use Rattle.lq_model.specs.NameSpaces.{is_reserved}
use Rattle.lq_model.specs.Sound.{IsSound}
use Rattle.lq_model.specs.Step.{is_statement, plan, run, step}
use Rattle.lq_model.specs.declared.caller.By.TheVariants.{User}
use Rattle.lq_model.specs.declared.constraint.ForeignKey.{ForeignKey}
use Rattle.lq_model.specs.declared.constraint.Unique.{Unique}
use Rattle.lq_model.specs.declared.statement.Statement.{Statement}
use Rattle.lq_model.specs.declared.statement.Statement.TheVariants as statement
use Rattle.laws_partial.proofs.Loosened.{kind_loosened, loosened}
use Rattle.lq_reverse.proofs.Parts.{Before, Behind, Cut, cut, no_part, one_front, one_part, part_both}
use Rattle.lq_reverse.specs.Back.{PartsBack, back, backs}
use Rattle.lq_tables.specs.AddColumn.{column_gives, def_of, firms, foreign_of, gives, inverse, is_firm, is_for, is_fresh, joins, refers, sets, unique_of}
use Rattle.lq_tables.specs.AddColumnLaws.{spelled}
use Rattle.lq_tables.specs.declared.add_column.AddedColumn.{AddedColumn}
use Rattle.lq_tree.specs.Values.{literal_of}
use Rattle.lq_tree.specs.declared.values.GivenValue.{GivenValue}

-- what followed on the column is taken back, and there is one column more still
record IsWide (d : Dialect) (t n : Name) (c p : Catalogue) (ss : List Statement) : Type 0 where
  left : Catalogue
  ran : run User d (backs d ss) p ≡ Ok left
  wide : IsWidened t n c left

-- the column, its value, and that it is NOT NULL

nothing_left : (d : Dialect) (t n : Name) (c m p : Catalogue) → IsWidened t n c m → run User d [] m ≡ Ok p → IsWide d t n c p []
nothing_left d t n c m p wide ran = record { left = p; ran = refl; wide = subst (IsWidened t n c) (ok_same ran) wide }

firm_part : (d : Dialect) (t : Name) (x : AddedColumn) (c m p : Catalogue) (more rest : List Statement) → IsSound d c → IsSound d p → IsWidened t x.name c m → firms d t x ≡ more ++ rest → run User d more m ≡ Ok p → IsWide d t x.name c p more
firm_part Postgresql t x c m p more rest sound fine wide are ran = (elim (one_front (statement.SetNotNull t x.name) more rest are) as (λ _. IsWide Postgresql t x.name c p more) [
  | inl none ↦ subst (λ ss. run User Postgresql ss m ≡ Ok p → IsWide Postgresql t x.name c p ss) (sym none) (nothing_left Postgresql t x.name c m p wide) ran
  | inr all ↦ subst (λ ss. run User Postgresql ss m ≡ Ok p → IsWide Postgresql t x.name c p ss) (sym all) (λ it.
      let made = one_step Postgresql (statement.SetNotNull t x.name) m p it in
      let free = loosened User Postgresql t x.name c m p made.0 sound fine wide made.1 in
      record { left = free.0; ran = one_run Postgresql (statement.DropNotNull t x.name) p free.0 0 free.1; wide = free.2 }) ran
])
firm_part Mysql t x c m p more rest sound fine wide are ran = (elim (one_front (statement.Modify t x.name x.kind false) more rest are) as (λ _. IsWide Mysql t x.name c p more) [
  | inl none ↦ subst (λ ss. run User Mysql ss m ≡ Ok p → IsWide Mysql t x.name c p ss) (sym none) (nothing_left Mysql t x.name c m p wide) ran
  | inr all ↦ subst (λ ss. run User Mysql ss m ≡ Ok p → IsWide Mysql t x.name c p ss) (sym all) (λ it.
      let made = one_step Mysql (statement.Modify t x.name x.kind false) m p it in
      let free = kind_loosened User Mysql t x.name x.kind c m p made.0 sound fine wide made.1 in
      record { left = free.0; ran = one_run Mysql (statement.Modify t x.name x.kind true) p free.0 0 free.1; wide = free.2 }) ran
])

sets_part : (d : Dialect) (t : Name) (x : AddedColumn) (v : Option GivenValue) (b : Bool) (c m p : Catalogue) (more rest : List Statement) → IsSound d c → IsSound d p → IsWidened t x.name c m → sets d t x v b ≡ more ++ rest → run User d more m ≡ Ok p → IsWide d t x.name c p more
sets_part d t x v b c m p [] rest sound fine wide are ran = nothing_left d t x.name c m p wide ran
sets_part d t x None b c m p (s ∷ more) rest sound fine wide are ran = absurd Prim.cc
sets_part d t x (Some v) b c m p (s ∷ more) rest sound fine wide are ran =
    let update = statement.Update t ((x.name, literal_of v) ∷ []) None in
    let same : update ≡ s = Prim.cc in
    let others : (if b then firms d t x else []) ≡ more ++ rest = Prim.cc in
    subst (λ u. run User d (u ∷ more) m ≡ Ok p → IsWide d t x.name c p (u ∷ more)) same (λ it.
    let r : Ran d update more m p = ran_first d update more m p it in
    let w = by b r.mid others (widened_by_update User d t x.name (literal_of v) None c m r.mid r.count sound wide r.first) r.others in
    record { left = w.left; ran = ap (λ us. run User d us p) (append-nil (backs d more)) ∙ w.ran; wide = w.wide }) ran
  where
    by : (b : Bool) (n : Catalogue) → (if b then firms d t x else []) ≡ more ++ rest → IsWidened t x.name c n → run User d more n ≡ Ok p → IsWide d t x.name c p more
    by true n others w it = firm_part d t x c n p more rest sound fine w others it
    by false n others w it = none more others it where
      none : (more : List Statement) → (let nothing : List Statement = [] in nothing) ≡ more ++ rest → run User d more n ≡ Ok p → IsWide d t x.name c p more
      none [] others it = nothing_left d t x.name c n p w it
      none (s ∷ more) others it = absurd Prim.cc

abbrev made : Dialect → Name → AddedColumn → List Statement
made d t x = statement.AddColumn t (def_of x) ∷ sets d t x x.value (is_firm x)

made_part : (d : Dialect) (t : Name) (x : AddedColumn) (c p : Catalogue) (first rest : List Statement) → IsSound d c → list_all (is_statement d) (made d t x) ≡ true → made d t x ≡ first ++ rest → run User d first c ≡ Ok p → run User d (backs d first) p ≡ Ok c
made_part d t x c p [] rest sound spelled are ran = sym ran
made_part d t x c p (s ∷ more) rest sound spelled are ran =
    let add = statement.AddColumn t (def_of x) in
    let same : add ≡ s = Prim.cc in
    let others : sets d t x x.value (is_firm x) ≡ more ++ rest = Prim.cc in
    subst (λ u. run User d (u ∷ more) c ≡ Ok p → run User d (backs d (u ∷ more)) p ≡ Ok c) same (λ it.
    let r : Ran d add more c p = ran_first d add more c p it in
    let ok = accepted (plan User d add c) r.mid r.count r.first in
    let begin : list_all (is_statement d) (add ∷ more) ≡ true = all-append_left (is_statement d) (add ∷ more) rest (subst (λ ss. list_all (is_statement d) (add ∷ ss) ≡ true) others spelled) in
    let fine : IsSound d p = run_keeps d (add ∷ more) c p begin sound it in
    let w = sets_part d t x x.value (is_firm x) c r.mid p more rest sound fine (widened_by_add User d t (def_of x) c r.mid r.count r.first) others r.others in
    run_both d (backs d more) (statement.DropColumn t x.name ∷ []) p w.left w.ran
    ∙ one_run d (statement.DropColumn t x.name) w.left c 0 (drop_widened User d t x.name c w.left sound w.wide ok.reserved)) ran

-- its unique constraint and its foreign key

joins_part : (d : Dialect) (t : Name) (u : Option Unique) (c p : Catalogue) (first rest : List Statement) → IsSound d c → joins t u ≡ first ++ rest → run User d first c ≡ Ok p → run User d (backs d first) p ≡ Ok c
joins_part d t None c p first rest sound are ran = no_part d first rest c p are ran
joins_part Postgresql t (Some u) c p first rest sound are ran = one_part Postgresql (statement.AddUnique t u) first rest c p are (one_back Postgresql (statement.AddUnique t u) (statement.DropConstraint t u.name) (drop_after_unique t u) c p sound) ran
joins_part Mysql t (Some u) c p first rest sound are ran = one_part Mysql (statement.AddUnique t u) first rest c p are (one_back Mysql (statement.AddUnique t u) (statement.DropUnique t u.name) (drop_unique_after t u) c p sound) ran

refers_part : (d : Dialect) (t : Name) (f : Option ForeignKey) (c p : Catalogue) (first rest : List Statement) → IsSound d c → refers t f ≡ first ++ rest → run User d first c ≡ Ok p → run User d (backs d first) p ≡ Ok c
refers_part d t None c p first rest sound are ran = no_part d first rest c p are ran
refers_part Postgresql t (Some f) c p first rest sound are ran = one_part Postgresql (statement.AddForeignKey t f) first rest c p are (one_back Postgresql (statement.AddForeignKey t f) (statement.DropConstraint t f.name) (drop_after_foreign_key t f) c p sound) ran
refers_part Mysql t (Some f) c p first rest sound are ran = one_part Mysql (statement.AddForeignKey t f) first rest c p are (one_back Mysql (statement.AddForeignKey t f) (statement.DropForeignKey t f.name) (drop_foreign_key_after t f) c p sound) ran

-- parts of two lists, one after the other

abbrev PartOf : Dialect → List Statement → Type 0
PartOf d ss = (c p : Catalogue) (first rest : List Statement) → IsSound d c → ss ≡ first ++ rest → run User d first c ≡ Ok p → run User d (backs d first) p ≡ Ok c

both : (d : Dialect) (ss ts : List Statement) → list_all (is_statement d) ss ≡ true → PartOf d ss → PartOf d ts → PartOf d (ss ++ ts)
both d ss ts spelled before behind c p first rest sound are ran = (elim (cut ss ts first rest are) as (λ _. run User d (backs d first) p ≡ Ok c) [
  | Before more is ↦ before c p first more sound is ran
  | Behind more is others ↦ subst (λ us. run User d us c ≡ Ok p → run User d (backs d us) p ≡ Ok c) (sym is) (λ it.
      let b : Both d ss more c p = ran_both d ss more c p it in
      let fine : IsSound d b.between = run_keeps d ss c b.between spelled sound b.front in
      part_both d ss more c b.between p (behind b.between p more rest fine others b.back) (before c b.between ss [] sound (sym (append-nil ss)) b.front)) ran
])

column_part : (d : Dialect) (t : Name) (x : AddedColumn) → list_all (is_statement d) (column_gives d t x) ≡ true → PartOf d (column_gives d t x)
column_part d t x fine =
    let u = joins t (unique_of t x) in
    let f = refers t (foreign_of t x) in
    let begin : list_all (is_statement d) (made d t x) ≡ true = all-append_left (is_statement d) (made d t x) (u ++ f) fine in
    let end : list_all (is_statement d) (u ++ f) ≡ true = all-append_right (is_statement d) (made d t x) (u ++ f) fine in
    both d (made d t x) (u ++ f) begin (λ c p first rest sound are ran. made_part d t x c p first rest sound begin are ran)
    (both d u f (all-append_left (is_statement d) u f end) (joins_part d t (unique_of t x)) (refers_part d t (foreign_of t x)))

all_parts : (d : Dialect) (t : Name) (xs : List AddedColumn) → list_all (is_statement d) (flat_map (column_gives d t) xs) ≡ true → PartOf d (flat_map (column_gives d t) xs)
all_parts d t [] fine = λ c p first rest sound are ran. no_part d first rest c p are ran
all_parts d t (x ∷ xs) fine =
    let begin = all-append_left (is_statement d) (column_gives d t x) (flat_map (column_gives d t) xs) fine in
    both d (column_gives d t x) (flat_map (column_gives d t) xs) begin (column_part d t x begin)
    (all_parts d t xs (all-append_right (is_statement d) (column_gives d t x) (flat_map (column_gives d t) xs) fine))

pub parts : PartsBack is_for gives is_fresh inverse
parts d x c p undoing first rest right sound new taken are ran = all_parts d x.table_name x.columns (spelled d x right) c p first rest sound are ran
