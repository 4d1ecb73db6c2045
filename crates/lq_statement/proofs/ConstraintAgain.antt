-- The text of a constraint has its words, and is read from them.
use Rattle.std.proofs.Common.{◌≡◌, ℕ, Bool, true, false, List, [], ◌∷◌, ◌++◌, Some, inl, inr, ap, sym, refl}
use Rattle.std.specs.Prelude.{codes}
use Rattle.lq_base.specs.declared.dialect.Dialect.{Dialect}
use Rattle.lq_base.specs.declared.dialect.Dialect.TheVariants.{Postgresql, Mysql}
use Rattle.lq_model.specs.Sound.{key_name, primary}
use Rattle.lq_model.specs.TestText as text
use Rattle.lq_model.specs.SqlConstraint.{foreign, key, on_delete, stated_name, table_constraint, unique}
use Rattle.lq_model.specs.SqlParser.{after, enclosed, expect, same_kind, sees}
use Rattle.lq_model.specs.SqlPart.{name, name_of}
use Rattle.lq_model.specs.SqlWord.{bare, folded, kind_of_word, with_text, words}
use Rattle.lq_model.specs.StatementText.{foreign_text, key_text, targets_text, unique_text, words_if}
use Rattle.lq_model.specs.TestText.{names_text}
use Rattle.lq_model.specs.declared.constraint.ForeignKey.{ForeignKey}
use Rattle.lq_model.specs.declared.constraint.Key.{Key}
use Rattle.lq_model.specs.declared.constraint.Unique.{Unique}
use Rattle.lq_model.specs.declared.phrase.Phrase.TheVariants as phrase
use Rattle.lq_model.specs.declared.table_item.TableConstraint.TheVariants as constraint
use Rattle.lq_model.specs.declared.word.Word.{Word}
use Rattle.lq_model.specs.declared.word.WordKind.TheVariants as word
use Rattle.lq_parse.proofs.Bytes.{Stops}
use Rattle.lq_parse.proofs.Fronts.{Says}
use Rattle.lq_parse.proofs.Lists.{EachItem}
use Rattle.lq_parse.proofs.Objects.{IsReadName, IsReadObject, name_read, name_word, object_again}
use Rattle.lq_parse.proofs.QueryAgain.{names_say, names_words}
use Rattle.lq_parse.proofs.Spoken.{Below}
use Rattle.lq_statement.proofs.ColumnAgain.{EndsItem}
use Rattle.lq_statement.proofs.ListsAgain.{names_again}
use Rattle.lq_statement.proofs.Phrases as say
use Rattle.lq_statement.proofs.Said.{Closed, Lead, Tail, cl, oc, oo, opened, ot, same_words}
use Rattle.lq_statement.proofs.Whole.{named}

names_is : Below → (d : Dialect) (ns : List (List ℕ)) (rest : List ℕ) → Stops rest → Says d (names_text d ns) (names_words ns) rest
names_is below d [] rest stop = same_words (words d rest)
names_is below d (n ∷ ns) rest stop = names_say below d n ns rest stop

abbrev names_all : Below → (d : Dialect) (ns : List (List ℕ)) → Closed d (names_text d ns)
names_all below d ns = record { these = names_words ns; is = names_is below d ns }

abbrev pub key_word : Dialect → Word
key_word d = with_text word.Key (folded d (codes "KEY"))

abbrev pub key_words : Dialect → Key → List Word → List Word
key_words Postgresql k rest = bare word.Constraint ∷ name_word k.name (bare word.Primary ∷ key_word Postgresql ∷ bare word.Open ∷ names_words k.columns (bare word.Close ∷ rest))
key_words Mysql k rest = bare word.Primary ∷ key_word Mysql ∷ bare word.Open ∷ names_words k.columns (bare word.Close ∷ rest)

abbrev pub unique_words : Unique → List Word → List Word
unique_words u rest = bare word.Constraint ∷ name_word u.name (bare word.Unique ∷ bare word.Open ∷ names_words u.columns (bare word.Close ∷ rest))

abbrev pub cascade_words : Dialect → Bool → List Word → List Word
cascade_words d false rest = rest
cascade_words d true rest = bare word.On ∷ bare word.Delete ∷ with_text word.Cascade (folded d (codes "CASCADE")) ∷ rest

abbrev pub foreign_words : Dialect → ForeignKey → List Word → List Word
foreign_words d f rest =
    bare word.Constraint ∷ name_word f.name (bare word.Foreign ∷ key_word d ∷ bare word.Open ∷ names_words f.columns (bare word.Close ∷ bare word.References ∷ name_word f.table (bare word.Open ∷ names_words f.targets (bare word.Close ∷ cascade_words d f.cascade rest))))

pub key_says : Below → (d : Dialect) (k : Key) (rest : List ℕ) → Says d (key_text d k) (key_words d k) rest
unfolding key_text text.words kind_of_word
key_says below Postgresql k rest = (cl (oc (oo (cl (oc (say.constraint below Postgresql) (named below Postgresql k.name)) (say.blank below Postgresql)) (say.primary_key below Postgresql)) (names_all below Postgresql k.columns)) (say.close below Postgresql)).is rest
key_says below Mysql k rest = (cl (oc (say.primary_key below Mysql) (names_all below Mysql k.columns)) (say.close below Mysql)).is rest

pub unique_says : Below → (d : Dialect) (u : Unique) (rest : List ℕ) → Says d (unique_text d u) (unique_words u) rest
unfolding unique_text text.words kind_of_word
unique_says below d u rest = (cl (oc (cl (oc (say.constraint below d) (named below d u.name)) (say.unique below d)) (names_all below d u.columns)) (say.close below d)).is rest

cascade_is : Below → (d : Dialect) (cascade : Bool) (rest : List ℕ) → Stops rest → Says d (words_if cascade phrase.OnDeleteCascade) (cascade_words d cascade) rest
unfolding text.words kind_of_word
cascade_is below d false rest stop = same_words (words d rest)
cascade_is below d true rest stop = (say.on_delete_cascade below d).is rest stop

cascade_stops : (cascade : Bool) (rest : List ℕ) → Stops rest → Stops (words_if cascade phrase.OnDeleteCascade ++ rest)
unfolding text.words
cascade_stops false rest stop = stop
cascade_stops true rest stop = refl

abbrev targets_said : Below → (d : Dialect) (f : ForeignKey) → Lead d (targets_text d f)
unfolding text.words kind_of_word
targets_said below d f =
    let part = cl (oc (cl (oc (opened (say.references below d)) (named below d f.table)) (say.open_next below d)) (names_all below d f.targets)) (say.close below d) in
    record { these = part.these; is = part.is; stops = λ rest. refl }

pub foreign_says : Below → (d : Dialect) (f : ForeignKey) (rest : List ℕ) → Stops rest → Says d (foreign_text d f) (foreign_words d f) rest
unfolding foreign_text text.words kind_of_word
foreign_says below d f rest stop =
    let cascade : Tail d (words_if f.cascade phrase.OnDeleteCascade) = record { these = cascade_words d f.cascade; is = cascade_is below d f.cascade; stops = cascade_stops f.cascade } in
    (ot {b = words_if f.cascade phrase.OnDeleteCascade} (cl (oc (cl (oc (say.constraint below d) (named below d f.name)) (say.foreign_key below d)) (names_all below d f.columns)) (targets_said below d f)) cascade).is rest stop

-- and back

-- some names, each as it is read
abbrev pub SomeNames : List (List ℕ) → Type 0
SomeNames [] = ⊥
SomeNames (n ∷ ns) = IsReadName n × EachItem IsReadName ns

enclosed_names : (ns : List (List ℕ)) (rest : List Word) → SomeNames ns → enclosed name (bare word.Open ∷ names_words ns (bare word.Close ∷ rest)) ≡ Some (ns, rest)
enclosed_names [] rest some = absurd some
enclosed_names (n ∷ ns) rest some = names_again n ns rest some.0 some.1

abbrev pub IsReadKey : Dialect → Key → Type 0
IsReadKey Postgresql k = IsReadName k.name × SomeNames k.columns
IsReadKey Mysql k = (k.name ≡ primary) × SomeNames k.columns

pub key_again : (d : Dialect) (t : List ℕ) (k : Key) (rest : List Word) → IsReadKey d k → table_constraint d t (key_words d k rest) ≡ Some (constraint.Key k, rest)
unfolding table_constraint stated_name key key_name name_of expect sees after same_kind
key_again Postgresql t k rest h = rw (name_read k.name (bare word.Primary ∷ key_word Postgresql ∷ bare word.Open ∷ names_words k.columns (bare word.Close ∷ rest)) h.0, enclosed_names k.columns rest h.1) refl
key_again Mysql t k rest h = rw (enclosed_names k.columns rest h.1) (ap (λ n. Some (constraint.Key (record { name = n; columns = k.columns }), rest)) (sym h.0))

abbrev pub IsReadUnique : Unique → Type 0
IsReadUnique u = IsReadName u.name × SomeNames u.columns

pub unique_again : (d : Dialect) (t : List ℕ) (u : Unique) (rest : List Word) → IsReadUnique u → table_constraint d t (unique_words u rest) ≡ Some (constraint.Unique u, rest)
unfolding table_constraint stated_name unique expect sees after same_kind
unique_again d t u rest h = rw (name_read u.name (bare word.Unique ∷ bare word.Open ∷ names_words u.columns (bare word.Close ∷ rest)) h.0, enclosed_names u.columns rest h.1) refl

abbrev pub IsReadForeign : Dialect → ForeignKey → Type 0
IsReadForeign d f = IsReadName f.name × (SomeNames f.columns × (IsReadObject d f.table × SomeNames f.targets))

delete_again : (d : Dialect) (cascade : Bool) (rest : List Word) → EndsItem rest → on_delete (cascade_words d cascade rest) ≡ Some (cascade, rest)
unfolding on_delete expect sees after same_kind
delete_again d true rest end = refl
delete_again d false rest (inl e) = rw e refl
delete_again d false rest (inr (inl e)) = rw e refl
delete_again d false rest (inr (inr e)) = rw e refl

pub foreign_again : (d : Dialect) (t : List ℕ) (f : ForeignKey) (rest : List Word) → IsReadForeign d f → EndsItem rest → table_constraint d t (foreign_words d f rest) ≡ Some (constraint.Foreign f, rest)
unfolding table_constraint stated_name foreign expect sees after same_kind
foreign_again d t f rest h end =
    rw (
      name_read f.name (bare word.Foreign ∷ key_word d ∷ bare word.Open ∷ names_words f.columns (bare word.Close ∷ bare word.References ∷ name_word f.table (bare word.Open ∷ names_words f.targets (bare word.Close ∷ cascade_words d f.cascade rest)))) h.0,
      enclosed_names f.columns (bare word.References ∷ name_word f.table (bare word.Open ∷ names_words f.targets (bare word.Close ∷ cascade_words d f.cascade rest))) h.1.0,
      object_again d f.table (bare word.Open ∷ names_words f.targets (bare word.Close ∷ cascade_words d f.cascade rest)) h.1.1.0 refl,
      enclosed_names f.targets (cascade_words d f.cascade rest) h.1.1.1,
      delete_again d f.cascade rest end,
    ) refl
