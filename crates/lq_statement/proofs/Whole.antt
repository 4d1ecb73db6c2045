-- A whole text is read as its words are.
use Rattle.std.proofs.Common.{◌≡◌, ℕ, List, [], ◌∷◌, Some}
use Rattle.lq_base.specs.declared.dialect.Dialect.{Dialect}
use Rattle.lq_model.specs.TestText.{name_text, quoted_text}
use Rattle.lq_model.specs.SqlParser.{to_end}
use Rattle.lq_model.specs.SqlStatement.{statement}
use Rattle.lq_model.specs.SqlText.{statement_in}
use Rattle.lq_model.specs.SqlWord.{with_text}
use Rattle.lq_model.specs.declared.statement.Statement.{Statement}
use Rattle.lq_model.specs.declared.word.Word.{Word}
use Rattle.lq_model.specs.declared.word.WordKind.TheVariants as word
use Rattle.lq_parse.proofs.Fronts.{Says}
use Rattle.lq_parse.proofs.Objects.{name_word}
use Rattle.lq_parse.proofs.Quotes.{name_says, quoted_text_says}
use Rattle.lq_parse.proofs.ReadBack.{all_words, whole_is}
use Rattle.lq_parse.proofs.Spoken.{Below}
use Rattle.lq_statement.proofs.Said.{Closed}

abbrev pub named : Below → (d : Dialect) (n : List ℕ) → Closed d (name_text d n)
named below d n = record { these = name_word n; is = λ rest stop. name_says below.go_on below.names d n rest stop }

-- a text in the quotes of names
abbrev pub quoted : Below → (d : Dialect) (n : List ℕ) → Closed d (quoted_text d n)
quoted below d n = record { these = λ ws. with_text word.Quoted n ∷ ws; is = λ rest stop. quoted_text_says below.go_on below.names d n rest stop }

pub read_says : (d : Dialect) (s : Statement) (bytes : List ℕ) (these : List Word → List Word) → Says d bytes these [] → to_end (statement d) (these []) ≡ Some (s, []) → statement_in d bytes ≡ Some s
unfolding statement_in
read_says d s bytes these says reads = whole_is (statement d) d bytes (these []) [] s (all_words d bytes these says) reads

pub read_back : (d : Dialect) (s : Statement) (bytes : List ℕ) (part : Closed d bytes) → to_end (statement d) (part.these []) ≡ Some (s, []) → statement_in d bytes ≡ Some s
read_back d s bytes part reads = read_says d s bytes part.these (part.is [] tt) reads
