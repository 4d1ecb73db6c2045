-- Spaces that are cut off a text's front change none of its words.
use Rattle.std.proofs.Common.{◌≡◌, ℕ, List, [], ◌∷◌, drop, ◌∙◌, ap, sym, refl}
use Rattle.std.specs.Str.Pattern.{CutsPrefixes, FindsCharPrefix, HasCharAt}
use lib.Utf8.{encode}
use Rattle.lq_base.specs.declared.dialect.Dialect.{Dialect}
use Rattle.lq_model.specs.SqlText.{query_in, statement_in, test_in}
use Rattle.lq_model.specs.SqlWord.{words}
use Rattle.lq_parse.proofs.Fronts.{blank_says}
use Rattle.lq_sqllex.specs.Laws.{LexemesGoOn}

one : LexemesGoOn → (d : Dialect) (text : List ℕ) (n : ℕ) → HasCharAt 32 text 0 n → words d (drop n text) ≡ words d text
unfolding encode
one go_on d text n it = sym (ap (words d) it.split ∙ blank_says go_on d (drop n text))

pub words_stay : LexemesGoOn → (d : Dialect) (text : List ℕ) (ns : List ℕ) (rest : List ℕ) → CutsPrefixes (FindsCharPrefix 32) text ns rest → words d rest ≡ words d text
words_stay go_on d text [] rest cuts = ap (words d) cuts
words_stay go_on d text (n ∷ ns) rest cuts =
    ap (words d) cuts.3 ∙ one go_on d cuts.0 n cuts.2 ∙ words_stay go_on d text ns cuts.0 cuts.1

pub statement_stays : (d : Dialect) (rest text : List ℕ) → words d rest ≡ words d text → statement_in d rest ≡ statement_in d text
unfolding statement_in
statement_stays d rest text same = rw same refl

pub query_stays : (d : Dialect) (rest text : List ℕ) → words d rest ≡ words d text → query_in d rest ≡ query_in d text
unfolding query_in
query_stays d rest text same = rw same refl

pub test_stays : (d : Dialect) (rest text : List ℕ) → words d rest ≡ words d text → test_in d rest ≡ test_in d text
unfolding test_in
test_stays d rest text same = rw same refl
