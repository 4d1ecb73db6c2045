-- CREATE TABLE and what ADD adds are read from their texts.
use Rattle.std.proofs.Common.{◌≡◌, ◌≤◌, ℕ, suc, nat_le, Bool, true, false, List, [], ◌∷◌, ◌++◌, length, map, Option, Some, None, inl, inr, ap, ◌∙◌, sym, refl, arith, append_assoc, append-nil}
use Rattle.std.specs.List.{flat_map}
use Rattle.std.proofs.lemmas.Bool.{le-leb, leb-true}
use Rattle.lq_base.specs.Kind.{is_kind}
use Rattle.lq_base.specs.Name.{parts_of}
use Rattle.lq_base.specs.declared.dialect.Dialect.{Dialect}
use Rattle.lq_base.specs.declared.dialect.Dialect.TheVariants.{Postgresql, Mysql}
use Rattle.lq_base.specs.declared.kind.Kind.{Kind}
use Rattle.lq_base.specs.declared.kind.Kind.TheVariants as kinds
use Rattle.lq_base.specs.declared.literal.Literal.{Literal}
use Rattle.lq_model.specs.TestText as text
use Rattle.lq_model.specs.SqlAlter.{add, add_column, add_constraint, alter, alter_table}
use Rattle.lq_model.specs.SqlTable.{column_foreign, column_key, column_unique, are_ordered, column_item, columns_in, create_table, foreign_in, keys_in, only, rank, table_item, table_of, uniques_in}
use Rattle.lq_model.specs.SqlConstraint.{begins_constraint}
use Rattle.lq_model.specs.SqlStatement.{create, statement}
use Rattle.lq_model.specs.SqlParser.{after, enclosed, ended, expect, kind, same_kind, sees}
use Rattle.lq_model.specs.SqlText.{statement_in}
use Rattle.lq_model.specs.SqlWord.{bare, kind_of_word, words}
use Rattle.lq_model.specs.StatementText.{column_text, foreign_text, key_in_table, table_text, text_of, unique_text}
use Rattle.lq_model.specs.Catalogue.{key_list}
use Rattle.lq_model.specs.TestText.{after_commas, listed}
use Rattle.lq_model.specs.declared.column.ColumnDef.{ColumnDef}
use Rattle.lq_model.specs.declared.constraint.ForeignKey.{ForeignKey}
use Rattle.lq_model.specs.declared.constraint.Key.{Key}
use Rattle.lq_model.specs.declared.constraint.Unique.{Unique}
use Rattle.lq_model.specs.declared.statement.Statement.TheVariants.{AddColumn, AddForeignKey, AddPrimaryKey, AddUnique, CreateTable}
use Rattle.lq_model.specs.declared.table_item.TableConstraint.TheVariants as constraint
use Rattle.lq_model.specs.declared.table_item.TableItem.{TableItem}
use Rattle.lq_model.specs.declared.table_item.TableItem.TheVariants as item
use Rattle.lq_model.specs.declared.word.Word.{Word}
use Rattle.lq_model.specs.declared.word.WordKind.TheVariants as word
use Rattle.lq_parse.proofs.Bytes.{Stops}
use Rattle.lq_parse.proofs.Fronts.{Says}
use Rattle.lq_parse.proofs.Lists.{EachItem, IsAgainBefore, listed_says, separated_before, tail_says, tail_stops, tail_words}
use Rattle.lq_parse.proofs.Objects.{IsReadName, IsReadObject, name_long, name_word, object_again, words_in}
use Rattle.lq_parse.proofs.QueryAgain.{names_words}
use Rattle.lq_parse.proofs.Spoken.{Below}
use Rattle.lq_statement.proofs.Order.{are_ordered_from, ordered_is}
use Rattle.lq_statement.proofs.ColumnAgain.{CanDefault, EndsItem, IsDefault, added_again, column_same, column_says, column_words, default_words, null_words, number_words, stated_again}
use Rattle.lq_statement.proofs.ConstraintAgain.{cascade_words, IsReadForeign, IsReadKey, IsReadUnique, foreign_again, foreign_says, foreign_words, key_again, key_says, key_word, key_words, unique_again, unique_says, unique_words}
use Rattle.lq_statement.proofs.KindTexts.{kind_words}
use Rattle.lq_statement.proofs.ListsAgain.{literal_long}
use Rattle.lq_statement.proofs.Named.{of_table}
use Rattle.lq_statement.proofs.Phrases as say
use Rattle.lq_statement.proofs.Said.{Closed, Tail, cl, ct, oc, oo, opened, ready, same_words}
use Rattle.lq_statement.proofs.Whole.{named, read_back}

at_end : EndsItem []
at_end = inr (inr refl)

-- ADD

abbrev pub IsReadColumn : ColumnDef → Type 0
IsReadColumn c = IsReadName c.name × ((is_kind c.kind ≡ true) × (CanDefault c.default × IsDefault c.default))

pub add_column_back : Below → (d : Dialect) (t : List ℕ) (c : ColumnDef) → IsReadObject d t → IsReadColumn c → statement_in d (text_of d (AddColumn t c)) ≡ Some (AddColumn t c)
unfolding text.words kind_of_word statement alter alter_table add add_column sees same_kind after expect ended
add_column_back below d t c h is =
    read_back d (AddColumn t c) _ (oc (cl (of_table below d t) (say.add_column below d)) (record { these = column_words d c; is = λ rest stop. column_says below d c rest is.1.0 is.1.1.0 stop }))
    (rw (object_again d t (bare word.Add ∷ bare word.Column ∷ column_words d c []) h refl, added_again d c [] is.0 is.1.0 is.1.1.1 at_end) refl)

pub add_key_back : Below → (d : Dialect) (t : List ℕ) (k : Key) → IsReadObject d t → IsReadKey d k → statement_in d (text_of d (AddPrimaryKey t k)) ≡ Some (AddPrimaryKey t k)
unfolding text.words kind_of_word statement alter alter_table add add_constraint sees same_kind after expect ended
add_key_back below Postgresql t k h is = read_back Postgresql (AddPrimaryKey t k) _ (ready (oo (cl (of_table below Postgresql t) (say.add below Postgresql)) (record { these = key_words Postgresql k; is = key_says below Postgresql k }))) (rw (object_again Postgresql t (bare word.Add ∷ key_words Postgresql k []) h refl, key_again Postgresql t k [] is) refl)
add_key_back below Mysql t k h is = read_back Mysql (AddPrimaryKey t k) _ (ready (oo (cl (of_table below Mysql t) (say.add below Mysql)) (record { these = key_words Mysql k; is = key_says below Mysql k }))) (rw (object_again Mysql t (bare word.Add ∷ key_words Mysql k []) h refl, key_again Mysql t k [] is) refl)

pub add_unique_back : Below → (d : Dialect) (t : List ℕ) (u : Unique) → IsReadObject d t → IsReadUnique u → statement_in d (text_of d (AddUnique t u)) ≡ Some (AddUnique t u)
unfolding text.words kind_of_word statement alter alter_table add add_constraint sees same_kind after expect ended
add_unique_back below d t u h is = read_back d (AddUnique t u) _ (ready (oo (cl (of_table below d t) (say.add below d)) (record { these = unique_words u; is = unique_says below d u }))) (rw (object_again d t (bare word.Add ∷ unique_words u []) h refl, unique_again d t u [] is) refl)

pub add_foreign_back : Below → (d : Dialect) (t : List ℕ) (f : ForeignKey) → IsReadObject d t → IsReadForeign d f → statement_in d (text_of d (AddForeignKey t f)) ≡ Some (AddForeignKey t f)
unfolding text.words kind_of_word statement alter alter_table add add_constraint sees same_kind after expect ended
add_foreign_back below d t f h is = read_back d (AddForeignKey t f) _ (oc (cl (of_table below d t) (say.add below d)) (record { these = foreign_words d f; is = λ rest stop. foreign_says below d f rest stop })) (rw (object_again d t (bare word.Add ∷ foreign_words d f []) h refl, foreign_again d t f [] is at_end) refl)

-- the items of CREATE TABLE

abbrev pub column_alone : ColumnDef → TableItem
column_alone c = item.Column c None None None

abbrev pub key_item : Key → TableItem
key_item k = item.Constraint (constraint.Key k)

abbrev pub unique_item : Unique → TableItem
unique_item u = item.Constraint (constraint.Unique u)

abbrev pub foreign_item : ForeignKey → TableItem
foreign_item f = item.Constraint (constraint.Foreign f)

abbrev pub item_words : Dialect → TableItem → List Word → List Word
item_words d (item.Column c key unique foreign) rest = column_words d c rest
item_words d (item.Constraint (constraint.Key k)) rest = key_words d k rest
item_words d (item.Constraint (constraint.Unique u)) rest = unique_words u rest
item_words d (item.Constraint (constraint.Foreign f)) rest = foreign_words d f rest

abbrev pub IsItem : Dialect → TableItem → Type 0
IsItem d (item.Column c key unique foreign) = IsReadColumn c × ((key ≡ None) × ((unique ≡ None) × (foreign ≡ None)))
IsItem d (item.Constraint (constraint.Key k)) = IsReadKey d k
IsItem d (item.Constraint (constraint.Unique u)) = IsReadUnique u
IsItem d (item.Constraint (constraint.Foreign f)) = IsReadForeign d f

-- a name begins no constraint
no_constraint : (n : List ℕ) (o : Option (List ℕ × List ℕ)) (rest : List Word) → begins_constraint (kind (words_in n o rest)) ≡ false
no_constraint n None rest = refl
no_constraint n (Some parts) rest = refl

item_again : (d : Dialect) (t : List ℕ) (i : TableItem) (rest : List Word) → IsItem d i → EndsItem rest → table_item d t (item_words d i rest) ≡ Some (i, rest)
unfolding table_item column_item column_key column_unique column_foreign
item_again d t (item.Column c None None None) rest h end = rw (no_constraint c.name (parts_of c.name) (kind_words d c.kind (number_words d c.numbered (null_words c.nullable (default_words c.default rest)))), stated_again d c rest h.0.0 h.0.1.0 h.0.1.1.1 end) (ap (λ z. Some (column_alone z, rest)) (column_same c))
item_again Postgresql t (item.Constraint (constraint.Key k)) rest h end = rw (key_again Postgresql t k rest h) refl
item_again Mysql t (item.Constraint (constraint.Key k)) rest h end = rw (key_again Mysql t k rest h) refl
item_again d t (item.Constraint (constraint.Unique u)) rest h end = rw (unique_again d t u rest h) refl
item_again d t (item.Constraint (constraint.Foreign f)) rest h end = rw (foreign_again d t f rest h end) refl
item_again d t (item.Column c (Some k) unique foreign) rest h end = let no : Some k ≡ None = h.1.0 in absurd cc
item_again d t (item.Column c None (Some u) foreign) rest h end = let no : Some u ≡ None = h.1.1.0 in absurd cc
item_again d t (item.Column c None None (Some f)) rest h end = let no : Some f ≡ None = h.1.1.1 in absurd cc

-- each item has a word at least
names_long : (ns : List (List ℕ)) (rest : List Word) → length rest ≤ length (names_words ns rest)
names_long [] rest = omega arith
names_long (n ∷ ns) rest = let more = names_tail ns rest in omega (arith, more, name_long n (tail_words name_word ns rest))
  where
    names_tail : (ns : List (List ℕ)) (rest : List Word) → length rest ≤ length (tail_words name_word ns rest)
    names_tail [] rest = omega arith
    names_tail (n ∷ ns) rest = let more = names_tail ns rest in omega (arith, more, name_long n (tail_words name_word ns rest))

default_long : (default : Option Literal) (rest : List Word) → length rest ≤ length (default_words default rest)
default_long None rest = omega arith
default_long (Some l) rest = let more = literal_long l rest in omega (arith, more)

null_long : (nullable : Bool) (rest : List Word) → length rest ≤ length (null_words nullable rest)
null_long true rest = omega arith
null_long false rest = omega arith

number_long : (d : Dialect) (numbered : Bool) (rest : List Word) → length rest ≤ length (number_words d numbered rest)
number_long d false rest = omega arith
number_long Postgresql true rest = omega arith
number_long Mysql true rest = omega arith

kind_long : (d : Dialect) (k : Kind) (rest : List Word) → length rest ≤ length (kind_words d k rest)
kind_long Postgresql kinds.Int rest = omega arith
kind_long Mysql kinds.Int rest = omega arith
kind_long d kinds.BigInt rest = omega arith
kind_long d kinds.Boolean rest = omega arith
kind_long d (kinds.Varchar n) rest = omega arith
kind_long d kinds.Text rest = omega arith
kind_long Postgresql kinds.Moment rest = omega arith
kind_long Mysql kinds.Moment rest = omega arith
kind_long d (kinds.Decimal p s) rest = omega arith

cascade_long : (d : Dialect) (cascade : Bool) (rest : List Word) → length rest ≤ length (cascade_words d cascade rest)
cascade_long d false rest = omega arith
cascade_long d true rest = omega arith

item_long : (d : Dialect) (i : TableItem) (rest : List Word) → suc (length rest) ≤ length (item_words d i rest)
item_long d (item.Column c key unique foreign) rest =
    let a = default_long c.default rest in
    let b = null_long c.nullable (default_words c.default rest) in
    let e = number_long d c.numbered (null_words c.nullable (default_words c.default rest)) in
    let f = kind_long d c.kind (number_words d c.numbered (null_words c.nullable (default_words c.default rest))) in
    let g = name_long c.name (kind_words d c.kind (number_words d c.numbered (null_words c.nullable (default_words c.default rest)))) in
    omega (arith, a, b, e, f, g)
item_long Postgresql (item.Constraint (constraint.Key k)) rest =
    let a = names_long k.columns (bare word.Close ∷ rest) in
    let b = name_long k.name (bare word.Primary ∷ key_word Postgresql ∷ bare word.Open ∷ names_words k.columns (bare word.Close ∷ rest)) in
    omega (arith, a, b)
item_long Mysql (item.Constraint (constraint.Key k)) rest = let a = names_long k.columns (bare word.Close ∷ rest) in omega (arith, a)
item_long d (item.Constraint (constraint.Unique u)) rest =
    let a = names_long u.columns (bare word.Close ∷ rest) in
    let b = name_long u.name (bare word.Unique ∷ bare word.Open ∷ names_words u.columns (bare word.Close ∷ rest)) in
    omega (arith, a, b)
item_long d (item.Constraint (constraint.Foreign f)) rest =
    let a = cascade_long d f.cascade rest in
    let b = names_long f.targets (bare word.Close ∷ cascade_words d f.cascade rest) in
    let e = names_long f.columns (bare word.Close ∷ bare word.References ∷ name_word f.table (bare word.Open ∷ names_words f.targets (bare word.Close ∷ cascade_words d f.cascade rest))) in
    let g = name_long f.table (bare word.Open ∷ names_words f.targets (bare word.Close ∷ cascade_words d f.cascade rest)) in
    let h = name_long f.name (bare word.Foreign ∷ key_word d ∷ bare word.Open ∷ names_words f.columns (bare word.Close ∷ bare word.References ∷ name_word f.table (bare word.Open ∷ names_words f.targets (bare word.Close ∷ cascade_words d f.cascade rest)))) in
    omega (arith, a, b, e, g, h)

-- lists of items, each before what ends one

items_are_again : (d : Dialect) (t : List ℕ) → IsAgainBefore EndsItem (IsItem d) (table_item d t) (item_words d)
items_are_again d t = record { read = λ i rest is end. item_again d t i rest is end; long = item_long d; comma = λ rest. inl refl }

no_comma : (rest : List Word) → sees word.Comma (bare word.Close ∷ rest) ≡ false
unfolding sees same_kind
no_comma rest = refl

items_again : (d : Dialect) (t : List ℕ) (x : TableItem) (xs : List TableItem) (rest : List Word) → IsItem d x → EachItem (IsItem d) xs
    → enclosed (table_item d t) (bare word.Open ∷ item_words d x (tail_words (item_words d) xs (bare word.Close ∷ rest))) ≡ Some (x ∷ xs, rest)
unfolding enclosed expect sees same_kind
items_again d t x xs rest one each =
    rw (separated_before EndsItem (IsItem d) (table_item d t) (item_words d) (items_are_again d t) x xs (bare word.Close ∷ rest) one each (inr (inl refl)) (no_comma rest)) refl

-- all the items of a table

abbrev all_items : List ColumnDef → Option Key → List Unique → List ForeignKey → List TableItem
all_items columns key uniques foreign = map column_alone columns ++ (map key_item (key_list key) ++ (map unique_item uniques ++ map foreign_item foreign))

over_both : {B : Type 0} (f : TableItem → List B) (xs ys : List TableItem) → flat_map f (xs ++ ys) ≡ flat_map f xs ++ flat_map f ys
over_both f [] ys = refl
over_both f (x ∷ xs) ys = ap (λ z. f x ++ z) (over_both f xs ys) ∙ sym (append_assoc (f x) (flat_map f xs) (flat_map f ys))

over_own : {A : Type 0} (f : TableItem → List A) (g : A → TableItem) → ((a : A) → f (g a) ≡ a ∷ []) → (xs : List A) → flat_map f (map g xs) ≡ xs
over_own f g own [] = refl
over_own f g own (x ∷ xs) = rw (own x, over_own f g own xs) refl

over_other : {A B : Type 0} (f : TableItem → List B) (g : A → TableItem) → ((a : A) → f (g a) ≡ []) → (xs : List A) → flat_map f (map g xs) ≡ []
over_other f g other [] = refl
over_other f g other (x ∷ xs) = rw (other x) (over_other f g other xs)

over_items : {B : Type 0} (f : TableItem → List B) (cs : List ColumnDef) (key : Option Key) (us : List Unique) (fs : List ForeignKey) (a b c e : List B)
    → flat_map f (map column_alone cs) ≡ a → flat_map f (map key_item (key_list key)) ≡ b → flat_map f (map unique_item us) ≡ c → flat_map f (map foreign_item fs) ≡ e
    → flat_map f (all_items cs key us fs) ≡ a ++ (b ++ (c ++ e))
over_items f cs key us fs a b c e is_a is_b is_c is_e =
    over_both f (map column_alone cs) (map key_item (key_list key) ++ (map unique_item us ++ map foreign_item fs))
    ∙ ap (λ z. flat_map f (map column_alone cs) ++ z) (over_both f (map key_item (key_list key)) (map unique_item us ++ map foreign_item fs) ∙ ap (λ z. flat_map f (map key_item (key_list key)) ++ z) (over_both f (map unique_item us) (map foreign_item fs)))
    ∙ rw (is_a, is_b, is_c, is_e) refl

columns_of : (cs : List ColumnDef) (key : Option Key) (us : List Unique) (fs : List ForeignKey) → flat_map columns_in (all_items cs key us fs) ≡ cs
columns_of cs key us fs =
    over_items columns_in cs key us fs cs [] [] [] (over_own columns_in column_alone (λ a. refl) cs) (over_other columns_in key_item (λ a. refl) (key_list key)) (over_other columns_in unique_item (λ a. refl) us) (over_other columns_in foreign_item (λ a. refl) fs)
    ∙ append-nil cs

keys_of : (cs : List ColumnDef) (key : Option Key) (us : List Unique) (fs : List ForeignKey) → flat_map keys_in (all_items cs key us fs) ≡ key_list key
keys_of cs key us fs =
    over_items keys_in cs key us fs [] (key_list key) [] [] (over_other keys_in column_alone (λ a. refl) cs) (over_own keys_in key_item (λ a. refl) (key_list key)) (over_other keys_in unique_item (λ a. refl) us) (over_other keys_in foreign_item (λ a. refl) fs)
    ∙ append-nil (key_list key)

uniques_of : (cs : List ColumnDef) (key : Option Key) (us : List Unique) (fs : List ForeignKey) → flat_map uniques_in (all_items cs key us fs) ≡ us
uniques_of cs key us fs =
    over_items uniques_in cs key us fs [] [] us [] (over_other uniques_in column_alone (λ a. refl) cs) (over_other uniques_in key_item (λ a. refl) (key_list key)) (over_own uniques_in unique_item (λ a. refl) us) (over_other uniques_in foreign_item (λ a. refl) fs)
    ∙ append-nil us

foreign_of : (cs : List ColumnDef) (key : Option Key) (us : List Unique) (fs : List ForeignKey) → flat_map foreign_in (all_items cs key us fs) ≡ fs
foreign_of cs key us fs =
    over_items foreign_in cs key us fs [] [] [] fs (over_other foreign_in column_alone (λ a. refl) cs) (over_other foreign_in key_item (λ a. refl) (key_list key)) (over_other foreign_in unique_item (λ a. refl) us) (over_own foreign_in foreign_item (λ a. refl) fs)

-- they are in order

ordered_after : {A : Type 0} (g : A → TableItem) (r : ℕ) → ((a : A) → rank (g a) ≡ r) → (rest : List TableItem) → ((n : ℕ) → nat_le n r ≡ true → are_ordered_from n rest ≡ true)
    → (xs : List A) (n : ℕ) → nat_le n r ≡ true → are_ordered_from n (map g xs ++ rest) ≡ true
ordered_after g r is rest more [] n le = more n le
ordered_after g r is rest more (x ∷ xs) n le = rw (is x, le) (ordered_after g r is rest more xs r (le-leb r r (omega arith)))

nat_le_up : (n r s : ℕ) → r ≤ s → nat_le n r ≡ true → nat_le n s ≡ true
nat_le_up n r s up le = let low : n ≤ r = leb-true n r le in le-leb n s (omega arith)

foreign_ordered : (fs : List ForeignKey) (n : ℕ) → nat_le n 3 ≡ true → are_ordered_from n (map foreign_item fs) ≡ true
foreign_ordered [] n le = refl
foreign_ordered (f ∷ fs) n le = rw le (foreign_ordered fs 3 refl)

items_ordered : (cs : List ColumnDef) (key : Option Key) (us : List Unique) (fs : List ForeignKey) → are_ordered (all_items cs key us fs) ≡ true
items_ordered cs key us fs =
    sym (ordered_is (all_items cs key us fs))
    ∙ ordered_after column_alone 0 (λ a. refl) _ (λ n le. ordered_after key_item 1 (λ a. refl) _ (λ m up. ordered_after unique_item 2 (λ a. refl) _ (λ l high. foreign_ordered fs l (nat_le_up l 2 3 (omega arith) high)) us m (nat_le_up m 1 2 (omega arith) up)) (key_list key) n (nat_le_up n 0 1 (omega arith) le)) cs 0 refl

only_key : (key : Option Key) → only (key_list key) ≡ Some key
only_key None = refl
only_key (Some k) = refl

table_again : (t : List ℕ) (c : ColumnDef) (cs : List ColumnDef) (key : Option Key) (us : List Unique) (fs : List ForeignKey) → table_of t (all_items (c ∷ cs) key us fs) ≡ Some (CreateTable t (c ∷ cs) key us fs)
unfolding table_of
table_again t c cs key us fs =
    by (all_items (c ∷ cs) key us fs) (items_ordered (c ∷ cs) key us fs) (columns_of (c ∷ cs) key us fs) (keys_of (c ∷ cs) key us fs) (uniques_of (c ∷ cs) key us fs) (foreign_of (c ∷ cs) key us fs)
  where
    by : (items : List TableItem) → are_ordered items ≡ true → flat_map columns_in items ≡ c ∷ cs → flat_map keys_in items ≡ key_list key → flat_map uniques_in items ≡ us → flat_map foreign_in items ≡ fs
        → table_of t items ≡ Some (CreateTable t (c ∷ cs) key us fs)
    by items ordered is_c is_k is_u is_f = rw (ordered, is_c, is_k, only_key key, is_c, is_u, is_f) refl

-- the words of a table

tail_both : (d : Dialect) (xs ys : List TableItem) (rest : List Word) → tail_words (item_words d) (xs ++ ys) rest ≡ tail_words (item_words d) xs (tail_words (item_words d) ys rest)
tail_both d [] ys rest = refl
tail_both d (x ∷ xs) ys rest = ap (λ z. bare word.Comma ∷ item_words d x z) (tail_both d xs ys rest)

tail_map : {A : Type 0} (d : Dialect) (g : A → TableItem) (w : A → List Word → List Word) → ((a : A) (rest : List Word) → item_words d (g a) rest ≡ w a rest) → (xs : List A) (rest : List Word) → tail_words (item_words d) (map g xs) rest ≡ tail_words w xs rest
tail_map d g w same [] rest = refl
tail_map d g w same (x ∷ xs) rest = ap (λ z. bare word.Comma ∷ z) (ap (item_words d (g x)) (tail_map d g w same xs rest) ∙ same x (tail_words w xs rest))

abbrev table_words : Dialect → ColumnDef → List ColumnDef → Option Key → List Unique → List ForeignKey → List Word → List Word
table_words d c cs key us fs rest = column_words d c (tail_words (column_words d) cs (tail_words (key_words d) (key_list key) (tail_words unique_words us (tail_words (foreign_words d) fs rest))))

words_same : (d : Dialect) (c : ColumnDef) (cs : List ColumnDef) (key : Option Key) (us : List Unique) (fs : List ForeignKey) (rest : List Word)
    → item_words d (column_alone c) (tail_words (item_words d) (map column_alone cs ++ (map key_item (key_list key) ++ (map unique_item us ++ map foreign_item fs))) rest) ≡ table_words d c cs key us fs rest
words_same d c cs key us fs rest = ap (column_words d c)
    (tail_both d (map column_alone cs) (map key_item (key_list key) ++ (map unique_item us ++ map foreign_item fs)) rest
    ∙ tail_map d column_alone (column_words d) (λ a more. refl) cs _
    ∙ ap (tail_words (column_words d) cs) (tail_both d (map key_item (key_list key)) (map unique_item us ++ map foreign_item fs) rest ∙ tail_map d key_item (key_words d) (λ a more. refl) (key_list key) _
    ∙ ap (tail_words (key_words d) (key_list key)) (tail_both d (map unique_item us) (map foreign_item fs) rest ∙ tail_map d unique_item unique_words (λ a more. refl) us _
    ∙ ap (tail_words unique_words us) (tail_map d foreign_item (foreign_words d) (λ a more. refl) fs rest))))

-- what is asked of the parts of a table

abbrev CanColumn : ColumnDef → Type 0
CanColumn c = (is_kind c.kind ≡ true) × CanDefault c.default

abbrev Anything : {A : Type 0} → A → Type 0
Anything a = Unit {0}

each_thing : {A : Type 0} (xs : List A) → EachItem Anything xs
each_thing [] = tt
each_thing (x ∷ xs) = (tt, each_thing xs)

each_can : (cs : List ColumnDef) → EachItem IsReadColumn cs → EachItem CanColumn cs
each_can [] h = tt
each_can (c ∷ cs) h = ((h.0.1.0, h.0.1.1.0), each_can cs h.1)

key_is : Below → (d : Dialect) (key : Option Key) (rest : List ℕ) → Stops rest → Says d (key_in_table d key) (tail_words (key_words d) (key_list key)) rest
unfolding text.words kind_of_word
key_is below d None rest stop = same_words (words d rest)
key_is below d (Some k) rest stop = (oo (opened (say.comma below d)) (record { these = key_words d k; is = key_says below d k })).is rest

key_stops : (d : Dialect) (key : Option Key) (rest : List ℕ) → Stops rest → Stops (key_in_table d key ++ rest)
unfolding text.words
key_stops d None rest stop = stop
key_stops d (Some k) rest stop = refl

table_says : Below → (d : Dialect) (c : ColumnDef) (cs : List ColumnDef) (key : Option Key) (us : List Unique) (fs : List ForeignKey) (rest : List ℕ) → IsReadColumn c → EachItem IsReadColumn cs → Stops rest
    → Says d (table_text d (c ∷ cs) key us fs) (table_words d c cs key us fs) rest
table_says below d c cs key us fs rest one each stop =
    let columns : Closed d (listed (map (column_text d) (c ∷ cs))) = record { these = λ ws. column_words d c (tail_words (column_words d) cs ws); is = λ more end. listed_says below d CanColumn (column_text d) (column_words d) (λ x after can ends. column_says below d x after can.0 can.1 ends) c cs more (one.1.0, one.1.1.0) (each_can cs each) end } in
    let keys : Tail d (key_in_table d key) = record { these = tail_words (key_words d) (key_list key); is = key_is below d key; stops = key_stops d key } in
    let uniques : Tail d (after_commas (map (unique_text d) us)) = record { these = tail_words unique_words us; is = λ more end. tail_says below d Anything (unique_text d) unique_words (λ x after can ends. unique_says below d x after) us more (each_thing us) end; stops = tail_stops (unique_text d) us } in
    let foreign : Tail d (after_commas (map (foreign_text d) fs)) = record { these = tail_words (foreign_words d) fs; is = λ more end. tail_says below d Anything (foreign_text d) (foreign_words d) (λ x after can ends. foreign_says below d x after ends) fs more (each_thing fs) end; stops = tail_stops (foreign_text d) fs } in
    (ct {a = listed (map (column_text d) (c ∷ cs)) ++ key_in_table d key ++ after_commas (map (unique_text d) us)} {b = after_commas (map (foreign_text d) fs)}
    (ct {a = listed (map (column_text d) (c ∷ cs)) ++ key_in_table d key} {b = after_commas (map (unique_text d) us)} (ct {a = listed (map (column_text d) (c ∷ cs))} {b = key_in_table d key} columns keys) uniques) foreign).is rest stop

pub create_table_back : Below → (d : Dialect) (t : List ℕ) (c : ColumnDef) (cs : List ColumnDef) (key : Option Key) (us : List Unique) (fs : List ForeignKey) → IsReadObject d t → IsReadColumn c → EachItem (IsItem d) (map column_alone cs ++ (map key_item (key_list key) ++ (map unique_item us ++ map foreign_item fs))) → EachItem IsReadColumn cs
    → statement_in d (text_of d (CreateTable t (c ∷ cs) key us fs)) ≡ Some (CreateTable t (c ∷ cs) key us fs)
unfolding text.words kind_of_word statement create create_table sees same_kind after expect ended
create_table_back below d t c cs key us fs h one each columns =
    read_back d (CreateTable t (c ∷ cs) key us fs) _
    (ready (cl (oc (cl (oc (say.create_table below d) (named below d t)) (say.open_next below d)) (record { these = table_words d c cs key us fs; is = λ rest stop. table_says below d c cs key us fs rest one columns stop })) (say.close below d)))
    (rw (object_again d t (bare word.Open ∷ table_words d c cs key us fs (bare word.Close ∷ [])) h refl, sym (words_same d c cs key us fs (bare word.Close ∷ [])), items_again d t (column_alone c) (map column_alone cs ++ (map key_item (key_list key) ++ (map unique_item us ++ map foreign_item fs))) [] (one, (refl, (refl, refl))) each, table_again t c cs key us fs) refl)
