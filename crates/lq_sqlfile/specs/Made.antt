-- What the lines of formatted SQL are made of, and what they say. A text is its bytes in UTF-8.
use Rattle.std.specs.List.{list_all}
use Rattle.std.specs.Prelude.{Bool, List, None, Option, Some, [], codes, false, is_some, not, true, ℕ, ◌&&◌, ◌++◌, ◌==◌, ◌∷◌, ◌≡◌, ◌⊎◌}
use Rattle.lq_base.specs.Kind.{is_blank}
use Rattle.lq_sqlfile.specs.Words.{after, attribute_words, condition_words, directive_of, has_name, is_word, known, plain_part, value_of}
use Rattle.lq_sqlfile.specs.declared.part.Directive.{Directive}
use Rattle.lq_sqlfile.specs.declared.part.Directive.TheVariants as directive
use Rattle.lq_sqlfile.specs.declared.part.Part.{Part}
use Rattle.lq_sqlfile.specs.declared.part.Part.TheVariants as part
use Rattle.lq_sqlfile.specs.declared.part.Part.TheVariants.{Body, ChangeSet, Check, Comment, Conditions, Note, Rollback}

-- ---- words and blanks

-- spaces and tabs alone
abbrev pub AreBlanks : List ℕ → Type 0
AreBlanks text = list_all is_blank text ≡ true

-- no such byte
abbrev pub Lacks : (ℕ → Bool) → List ℕ → Type 0
Lacks p text = list_all (λ b. not (p b)) text ≡ true

abbrev pub LacksMark : ℕ → List ℕ → Type 0
LacksMark mark text = Lacks (λ b. b == mark) text

-- the text does not begin with a blank
abbrev pub begins_plain : List ℕ → Bool
begins_plain [] = true
begins_plain (b ∷ bs) = not (is_blank b)

abbrev pub is_gap : List ℕ → List ℕ → Bool
is_gap [] [] = true
is_gap [] (b ∷ bs) = false
is_gap (c ∷ cs) text = list_all is_blank (c ∷ cs) && begins_plain text

-- all the blanks between a word and the text behind it: at least one, if there is such a text
abbrev pub IsGap : List ℕ → List ℕ → Type 0
IsGap gap text = is_gap gap text ≡ true

-- ---- values and attributes

-- a value, and how it is written: in double quotes, which it lacks, or without, and then it has no blank and does not begin with a double quote
abbrev pub IsValue : List ℕ → List ℕ → Type 0
IsValue written value =
    ((written ≡ codes "\"" ++ (value ++ codes "\"")) × LacksMark 34 value)
    ⊎ ((written ≡ value) × Lacks is_blank value × (is_some (after (codes "\"") value) ≡ false))

-- a name, `:` and a value, the blanks behind it and what follows
abbrev pub IsPair : List ℕ → List ℕ → List ℕ → List ℕ → Type 0
IsPair text name value rest =
    (written gap : List ℕ) × (text ≡ name ++ (codes ":" ++ (written ++ (gap ++ rest)))) × LacksMark 58 name × IsValue written value × IsGap gap rest

-- the names and values of a text, added to those that are given before: each name is one of the words in any ASCII case, is kept as that word, and is given once
pub data AreAttributes (words : List (List ℕ)) : List (List ℕ × List ℕ) → List ℕ → List (List ℕ × List ℕ) → Type 0 where
  none : {given : List (List ℕ × List ℕ)} {text : List ℕ} {all : List (List ℕ × List ℕ)} → text ≡ [] → all ≡ given → AreAttributes words given text all
  more : {given : List (List ℕ × List ℕ)} {text : List ℕ} {all : List (List ℕ × List ℕ)} (name word value rest : List ℕ)
      → IsPair text name value rest → known words name ≡ Some word → has_name word given ≡ false
      → AreAttributes words (given ++ (word, value) ∷ []) rest all → AreAttributes words given text all

-- ---- directives

-- a line with `--`, the first word behind that, and the text behind the word
abbrev pub IsMarked : List ℕ → List ℕ → List ℕ → Type 0
IsMarked line name text =
    (indent gap space : List ℕ) × (line ≡ indent ++ (codes "--" ++ (gap ++ (name ++ (space ++ text)))))
    × AreBlanks indent × AreBlanks gap × (begins_plain (name ++ (space ++ text)) ≡ true) × Lacks is_blank name × IsGap space text

-- a line that has no `--` behind the blanks that it begins with
abbrev pub IsUnmarked : List ℕ → Type 0
IsUnmarked line = (indent rest : List ℕ) × (line ≡ indent ++ rest) × AreBlanks indent × (begins_plain rest ≡ true) × (is_some (after (codes "--") rest) ≡ false)

-- `AUTHOR:ID name:value ..`
abbrev pub IsHeading : List ℕ → Part → Type 0
IsHeading text said =
    (author id gap pairs : List ℕ) × (given : List (List ℕ × List ℕ)) × (text ≡ author ++ (codes ":" ++ (id ++ (gap ++ pairs)))) × LacksMark 58 author × Lacks is_blank id × IsGap gap pairs
    × AreAttributes attribute_words [] pairs given × (said ≡ part.ChangeSet (record { author = author; id = id; attributes = given }))

-- `onFail:X onError:Y`, either or both
abbrev pub AreConditions : List ℕ → Part → Type 0
AreConditions text said = (first : List ℕ × List ℕ) × (more : List (List ℕ × List ℕ)) × AreAttributes condition_words [] text (first ∷ more) × (said ≡ part.Conditions (first ∷ more))

-- `expectedResult:N QUERY`
abbrev pub IsCheck : List ℕ → Part → Type 0
IsCheck text said = (name expected query : List ℕ) × IsPair text name expected query × (is_word name (codes "expectedResult") ≡ true) × (said ≡ part.Check expected query)

-- what the text behind a directive's word says
abbrev pub Says : Directive → List ℕ → Part → Type 0
Says directive.ChangeSet text said = IsHeading text said
Says directive.Comment text said = said ≡ part.Comment text
Says directive.Conditions text said = AreConditions text said
Says directive.Check text said = IsCheck text said
Says directive.Rollback text said = said ≡ part.Rollback text
Says directive.OtherCondition text said = ⊥

-- what a line says: its directive; and where it has none it is a comment of SQL, if `--` stands at its very front, and else a line of the body
pub data IsPart (line : List ℕ) (said : Part) : Type 0 where
  with_word : (name text : List ℕ) (which : Directive) → IsMarked line name text → directive_of name ≡ Some which → Says which text said → IsPart line said
  other_word : (name text : List ℕ) → IsMarked line name text → directive_of name ≡ None → said ≡ plain_part line → IsPart line said
  body : IsUnmarked line → said ≡ part.Body line → IsPart line said

-- behind this word, in any ASCII case
abbrev pub IsBehind : List ℕ → List ℕ → List ℕ → Type 0
IsBehind word text rest = (name gap : List ℕ) × (text ≡ name ++ (gap ++ rest)) × Lacks is_blank name × (is_word name word ≡ true) × IsGap gap rest

-- the first line: `--liquibase formatted sql`, and perhaps the logical path
abbrev pub IsHeader : List ℕ → Option (List ℕ) → Type 0
IsHeader line logical =
    (name second third pairs : List ℕ) × (given : List (List ℕ × List ℕ)) × IsMarked line name second × (is_word name (codes "liquibase") ≡ true)
    × IsBehind (codes "formatted") second third × IsBehind (codes "sql") third pairs
    × AreAttributes (codes "logicalFilePath" ∷ []) [] pairs given × (logical ≡ value_of (codes "logicalFilePath") given)

-- Lines and what they say, each form once.

-- the line says nothing that a file may say
abbrev pub IsWrongLine : List ℕ → Type 0
IsWrongLine line = (said : Part) → ¬ (IsPart line said)

pub record LineExamples : Type 0 where
  pub heading : IsPart (codes "--changeset bob:1") (ChangeSet (record { author = codes "bob"; id = codes "1"; attributes = [] }))
  -- any case, blanks before and behind `--`, an author of two words, quotes, an empty value
  pub attributes : IsPart (codes "  -- ChangeSet Bob Ro:a-1  DBMS:  context:\"a and b\" ")
      (ChangeSet (record { author = codes "Bob Ro"; id = codes "a-1"; attributes = (codes "dbms", []) ∷ (codes "context", codes "a and b") ∷ [] }))
  pub comment : IsPart (codes "--comment: first") (Comment (codes "first"))
  pub no_comment : IsPart (codes "--comment") (Comment [])
  pub conditions : IsPart (codes "--preconditions onError:WARN onFail:MARK_RAN") (Conditions ((codes "onError", codes "WARN") ∷ (codes "onFail", codes "MARK_RAN") ∷ []))
  pub check : IsPart (codes "--precondition-sql-check expectedResult:0 SELECT COUNT(*) FROM t") (Check (codes "0") (codes "SELECT COUNT(*) FROM t"))
  pub rollback : IsPart (codes "--rollback   DROP TABLE t ") (Rollback (codes "DROP TABLE t "))
  pub no_rollback : IsPart (codes "--rollback") (Rollback [])
  pub note : IsPart (codes "-- a note") Note
  pub longer_word : IsPart (codes "--changesets bob:1") Note
  pub indented : IsPart (codes " -- a note") (Body (codes " -- a note"))
  pub body : IsPart (codes "SELECT 1 -- one") (Body (codes "SELECT 1 -- one"))
  pub empty : IsPart [] (Body [])
  pub no_colon : IsWrongLine (codes "--changeset bob")
  pub unknown : IsWrongLine (codes "--changeset bob:1 colour:red")
  pub twice : IsWrongLine (codes "--changeset bob:1 dbms:a DBMS:b")
  pub open_quote : IsWrongLine (codes "--changeset bob:1 dbms:\"a")
  pub behind_quote : IsWrongLine (codes "--changeset bob:1 dbms:\"a\"b")
  pub no_pair : IsWrongLine (codes "--preconditions")
  pub no_result : IsWrongLine (codes "--precondition-sql-check SELECT 1")
  pub other_condition : IsWrongLine (codes "--precondition-table-exists t")

pub record HeaderExamples : Type 0 where
  pub plain : IsHeader (codes "--liquibase formatted sql") None
  pub spaced : IsHeader (codes " -- LiquiBase  Formatted SQL ") None
  pub path : IsHeader (codes "--liquibase formatted sql logicalFilePath:\"a b.sql\"") (Some (codes "a b.sql"))
