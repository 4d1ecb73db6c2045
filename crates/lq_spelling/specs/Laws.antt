-- How the text of a statement and of a query may be spelled.
use Rattle.std.specs.Prelude.{List, Some, [], false, true, ℕ, ◌++◌, ◌∷◌, ◌≡◌, ◌⊎◌}
use Rattle.std.specs.Str.{str_eq_ignore_ascii_case}
use Rattle.lq_base.specs.declared.dialect.Dialect.{Dialect}
use Rattle.lq_model.specs.SqlParser.{same_kind}
use Rattle.lq_model.specs.SqlText.{query_in, statement_in}
use Rattle.lq_model.specs.SqlWord.{may_be_name, with_text, words}
use Rattle.lq_model.specs.declared.query.Query.{Query}
use Rattle.lq_model.specs.declared.statement.Statement.{Statement}
use Rattle.lq_model.specs.declared.word.Word.{Word}
use Rattle.lq_model.specs.declared.word.WordKind.{WordKind}
use Rattle.lq_model.specs.declared.word.WordKind.TheVariants as word

-- a word of this kind, as it is, or as a name that has left out its quotes
abbrev pub IsBare : WordKind → WordKind → Type 0
IsBare quoted plain = (quoted ≡ plain) ⊎ ((quoted ≡ word.Quoted) × (may_be_name plain ≡ true))

-- the same words, of which some names have left out their quotes
abbrev pub AreBare : List Word → List Word → Type 0
AreBare [] [] = Unit {0}
AreBare (v ∷ vs) (w ∷ ws) = IsBare v.kind w.kind × (v.text ≡ w.text) × AreBare vs ws
AreBare _ _ = ⊥

-- names that stand in their quotes may stand without them, where they are words that are not reserved
abbrev pub QuotesMayBeLeftOut : Type 0
QuotesMayBeLeftOut = (d : Dialect) (a b : List ℕ) (quoted plain : List Word) → AreBare quoted plain → words d a ≡ Some quoted → words d b ≡ Some plain
    → ((s : Statement) → statement_in d a ≡ Some s → statement_in d b ≡ Some s) × ((q : Query) → query_in d a ≡ Some q → query_in d b ≡ Some q)

-- the same word in another case
abbrev pub InAnyCase : Word → Word → Type 0
InAnyCase w v = (v.kind ≡ w.kind) × (str_eq_ignore_ascii_case w.text v.text ≡ true)

-- each unquoted word of a statement's text that is not reserved is a name, which may stand in its quotes, or a word of the statements or of the kinds, which may stand in any ASCII case
abbrev pub UnquotedWordsServe : Type 0
UnquotedWordsServe = (d : Dialect) (a : List ℕ) (front back : List Word) (w : Word) (s : Statement) → may_be_name w.kind ≡ true → same_kind w.kind word.Quoted ≡ false
    → words d a ≡ Some (front ++ (w ∷ back)) → statement_in d a ≡ Some s
    → ((b : List ℕ) → words d b ≡ Some (front ++ (with_text word.Quoted w.text ∷ back)) → statement_in d b ≡ Some s)
    ⊎ ((b : List ℕ) (v : Word) → InAnyCase w v → words d b ≡ Some (front ++ (v ∷ back)) → statement_in d b ≡ Some s)

-- likewise of a query's
abbrev pub QueryWordsServe : Type 0
QueryWordsServe = (d : Dialect) (a : List ℕ) (front back : List Word) (w : Word) (q : Query) → may_be_name w.kind ≡ true → same_kind w.kind word.Quoted ≡ false
    → words d a ≡ Some (front ++ (w ∷ back)) → query_in d a ≡ Some q
    → ((b : List ℕ) → words d b ≡ Some (front ++ (with_text word.Quoted w.text ∷ back)) → query_in d b ≡ Some q)
    ⊎ ((b : List ℕ) (v : Word) → InAnyCase w v → words d b ≡ Some (front ++ (v ∷ back)) → query_in d b ≡ Some q)
