-- The calls that take statements back, laid down one after another.
use Rattle.std.proofs.Common.{ap, refl, ◌∙◌}
use Rattle.std.proofs.lemmas.List.{append-nil}
use Rattle.std.specs.Ordering.{int_eq}
use Rattle.std.specs.Prelude.{Bool, List, None, Option, Some, [], false, not, pos, reverse, true, ℕ, ◌&&◌, ◌++◌, ◌∷◌, ◌≡◌}
use Rattle.laws_repair.specs.Repair.{back_calls, marked_text}
use Rattle.lq_base.specs.declared.dialect.Dialect.{Dialect}
use Rattle.lq_base.specs.declared.dialect.Dialect.TheVariants.{Mysql, Postgresql}
use Rattle.lq_base.specs.Kind.{is_kind}
use Rattle.lq_base.specs.Name.{beside, is_beside, is_name, is_name_key, is_named, is_object, place_of}
use Rattle.lq_base.specs.declared.identity.Identity.{Identity}
use Rattle.lq_base.specs.declared.literal.Literal.TheVariants as literal
use Rattle.lq_base.specs.declared.name.Name.{Name}
use Rattle.lq_laying.proofs.Laying.{then_lays}
use Rattle.lq_hand.specs.Hand.{AreTurns}
use Rattle.lq_laying.specs.Laying.{Lays}
use Rattle.lq_model.proofs.Lists.{and_left, and_right, and_true, named_itself, same_name}
use Rattle.lq_model.specs.Kinds.{literal_of}
use Rattle.lq_model.specs.Sound.{is_key_name}
use Rattle.lq_model.specs.Comparison.{is_literal}
use Rattle.lq_model.specs.Step.{is_foreign, is_index, is_key, is_name_list, is_pg, is_query, is_statement}
use Rattle.lq_model.specs.declared.constraint.ForeignKey.{ForeignKey}
use Rattle.lq_model.specs.declared.index.Index.{Index}
use Rattle.lq_model.specs.declared.statement.Statement.{Statement}
use Rattle.lq_model.specs.declared.statement.Statement.TheVariants.{AddColumn, AddForeignKey, AddPrimaryKey, AddUnique, CreateIndex, CreateSequence, CreateTable, CreateView, DropNotNull, Modify, RenameColumn, RenameSequence, RenameTable, RenameView, SetDefault, SetNotNull}
use Rattle.lq_reverse.specs.Back.{back}
use Rattle.lq_turns.specs.declared.call.Call.{Call}
use Rattle.lq_turns.specs.declared.call.Call.TheVariants.{Begin, Commit, Execute}
use Rattle.lq_turns.specs.declared.deed.Deed.TheVariants.{Locks, Users}
use Rattle.lq_turns.specs.declared.deed.OnLock.TheVariants.{Marked}
use Rattle.lq_base.proofs.NameLemmas.{beside_named}

-- the last of a transaction's calls is laid first
pub transaction_laid : (who : List ℕ) (of : Identity) (n : ℕ) (s : Statement) (a b c e f : List Call) → Lays (Commit ∷ []) a b → Lays (Execute (Users s) ∷ []) b c
    → Lays (Execute (Locks (Marked (marked_text true who of n))) ∷ []) c e → Lays (Begin ∷ []) e f → Lays (back_calls who of n (Some s)) a f
transaction_laid who of n s a b c e f first second third fourth =
    then_lays (Begin ∷ []) (Execute (Locks (Marked (marked_text true who of n))) ∷ Execute (Users s) ∷ Commit ∷ []) a e f
    (then_lays (Execute (Locks (Marked (marked_text true who of n))) ∷ []) (Execute (Users s) ∷ Commit ∷ []) a c e
    (then_lays (Execute (Users s) ∷ []) (Commit ∷ []) a b c first second) third) fourth

-- what takes a statement back is of its dialect

abbrev pub IsSpelled : Dialect → Option Statement → Type 0
IsSpelled d None = Unit {0}
IsSpelled d (Some s) = is_statement d s ≡ true

swapped : (a b : Bool) → (a && b) ≡ true → (b && a) ≡ true
swapped a b is = and_true b a (and_right a b is) (and_left a b is)

-- of what is named, and of its table
both_names : (a b more : Bool) → (a && (b && more)) ≡ true → (a && b) ≡ true
both_names a b more is = and_true a b (and_left a (b && more) is) (and_left b more (and_right a (b && more) is))

turned : (a b c : Bool) → (a && (b && c)) ≡ true → (a && (c && b)) ≡ true
turned a b c is = and_true a (c && b) (and_left a (b && c) is) (swapped b c (and_right a (b && c) is))

index_named : (d : Dialect) (t : Name) (i : Index) → (is_object d t && is_index i) ≡ true → is_name i.name ≡ true
index_named d t i is = and_left (is_name i.name) (is_name_list i.columns) (and_right (is_object d t) (is_index i) is)

foreign_named : (d : Dialect) (t : Name) (f : ForeignKey) → (is_object d t && is_foreign d f) ≡ true → (is_object d t && is_name f.name) ≡ true
foreign_named d t f is = both_names (is_object d t) (is_name f.name) (is_name_list f.columns && (is_object d f.table && is_name_list f.targets)) is

beside_back : (a b : Name) → is_beside a b ≡ true → is_beside b a ≡ true
beside_back a b is = ap (is_named (place_of b)) (same_name (place_of a) (place_of b) is) ∙ named_itself (place_of b)

renamed_back : (d : Dialect) (a b : Name) → (is_object d a && (is_object d b && is_beside a b)) ≡ true → (is_object d b && (is_object d a && is_beside b a)) ≡ true
renamed_back d a b is =
    let rest : (is_object d b && is_beside a b) ≡ true = and_right (is_object d a) _ is in
    and_true (is_object d b) _ (and_left (is_object d b) _ rest) (and_true (is_object d a) _ (and_left (is_object d a) _ is) (beside_back a b (and_right (is_object d b) _ rest)))

pub back_spelled : (d : Dialect) (s : Statement) → is_statement d s ≡ true → IsSpelled d (back d s)
back_spelled d (CreateTable t defs key uniques foreign) is = and_left (is_object d t) _ is
back_spelled d (CreateView v q replace) is = and_left (is_object d v) (is_query d q) is
back_spelled d (CreateSequence s start size) is = both_names (is_pg d) (is_object d s) (is_literal (literal.Int start) && (is_literal (literal.Int size) && not (int_eq size (pos 0)))) is
back_spelled d (AddColumn t def) is = both_names (is_object d t) (is_name def.name) (is_kind def.kind && is_literal (literal_of def)) is
back_spelled d (RenameTable a b) is = renamed_back d a b is
back_spelled d (RenameColumn t a b) is = turned (is_object d t) (is_name a) (is_name b) is
back_spelled d (RenameView a b) is = and_true (is_pg d) _ (and_left (is_pg d) _ is) (renamed_back d a b (and_right (is_pg d) _ is))
back_spelled d (RenameSequence a b) is = and_true (is_pg d) _ (and_left (is_pg d) _ is) (renamed_back d a b (and_right (is_pg d) _ is))
back_spelled d (SetNotNull t n) is = is
back_spelled d (DropNotNull t n) is = is
back_spelled d (Modify t n k nullable) is = is
back_spelled d (SetDefault t n l) is = both_names (is_object d t) (is_name n) (is_literal l) is
back_spelled Postgresql (CreateIndex t i) is = and_true (is_name_key (beside t i.name)) true (beside_named t i.name (and_left (is_object Postgresql t) _ is) (index_named Postgresql t i is)) refl
back_spelled Mysql (CreateIndex t i) is = and_true (is_name i.name) (is_name t) (index_named Mysql t i is) (and_left (is_name t) (is_index i) is)
back_spelled Postgresql (AddPrimaryKey t k) is = both_names (is_object Postgresql t) (is_name k.name) (is_key_name Postgresql k.name && is_name_list k.columns) is
back_spelled Mysql (AddPrimaryKey t k) is = and_left (is_name t) (is_key Mysql k) is
back_spelled Postgresql (AddUnique t u) is = both_names (is_object Postgresql t) (is_name u.name) (is_name_list u.columns) is
back_spelled Mysql (AddUnique t u) is = both_names (is_name t) (is_name u.name) (is_name_list u.columns) is
back_spelled Postgresql (AddForeignKey t f) is = foreign_named Postgresql t f is
back_spelled Mysql (AddForeignKey t f) is = foreign_named Mysql t f is
back_spelled d s is = tt

-- it is a transaction
pub one_turn : (d : Dialect) (who : List ℕ) (of : Identity) (k : ℕ) (s : Statement) → is_statement d s ≡ true → AreTurns d false (back_calls who of k (back d s))
one_turn d who of k s is = by (back d s) (back_spelled d s is) where
  by : (o : Option Statement) → IsSpelled d o → AreTurns d false (back_calls who of k o)
  by None is = refl
  by (Some s) is = (refl, ((refl, tt), ((refl, is), (refl, refl))))

-- laid down where nothing lies
pub alone : (calls before after : List Call) → before ≡ [] → Lays calls before after → reverse after ≡ calls
alone calls before after none lays = lays ∙ (ap (λ cs. calls ++ reverse cs) none ∙ append-nil calls)
