-- The examples, by what is computed of them once their lines are known to be UTF-8.
use Rattle.std.proofs.Common.{◌≡◌, ◌&&◌, Bool, List, Ok, false, [], ◌∷◌, codes, lit<, refl, true, ℕ}
use Rattle.std.proofs.Math.Dec.{ltb}
use Rattle.std.proofs.lemmas.Bool.{ltb-true}
use Rattle.std.proofs.lemmas.Fmt.{decimal_digit}
use Rattle.std.proofs.lemmas.Str.{IsUtf8-from_ascii, is_utf8-from_IsUtf8}
use Rattle.std.proofs.lemmas.Str.Ascii.{IsAscii-cons, IsAscii-nil}
use Rattle.std.specs.Str.{IsAscii, is_utf8}
use Rattle.lq_sqlfile.specs.Cuts.{cut_at, from, until}
use Rattle.lq_sqlfile.specs.Lines.{behind_this, check, conditions, header, heading, marked, part_of, attributes, new_pair, pair, value}
use Rattle.lq_sqlfile.specs.File.{read_from, take_line, with_line}
use Rattle.lq_sqlfile.specs.Words.{after, attribute_words, directive_of, is_word}
use Rattle.lq_sqltree.specs.SqlTree.{SqlTreeExamples, checked, checked_tree, whole_body, whole_tree, change_set, elsewhere, heading as keys_of_heading, here, item, sql_tree, tree_of}

abbrev are_ascii : List ℕ → Bool
are_ascii [] = true
are_ascii (b ∷ bs) = ltb b 128 && are_ascii bs

left : (a b : Bool) → (a && b) ≡ true → a ≡ true
left true b is = refl
left false b is = absurd cc

right : (a b : Bool) → (a && b) ≡ true → b ≡ true
right true b is = is
right false b is = absurd cc

ascii : (text : List ℕ) → are_ascii text ≡ true → IsAscii text
ascii [] is = IsAscii-nil
ascii (b ∷ bs) is = IsAscii-cons b bs (ltb-true b 128 (left (ltb b 128) (are_ascii bs) is)) (ascii bs (right (ltb b 128) (are_ascii bs) is))

utf8 : (text : List ℕ) → are_ascii text ≡ true → is_utf8 text ≡ true
utf8 text is = is_utf8-from_IsUtf8 text (IsUtf8-from_ascii text (ascii text is))

whole : sql_tree whole_body ≡ Ok whole_tree
unfolding after cut_at from is_word until attribute_words behind_this check conditions directive_of header heading marked part_of attributes new_pair pair value read_from take_line with_line change_set elsewhere here item keys_of_heading sql_tree tree_of
whole =
    let a = utf8 (codes "--liquibase formatted sql logicalFilePath:a.sql") refl in
    let b = utf8 (codes "--changeset bob:1 dbms:mysql splitStatements:false") refl in
    let c = utf8 (codes "A;") refl in
    let d = utf8 (codes "B;") refl in
    let e = utf8 (codes "--rollback C") refl in
    rw (a, b, c, d, e, decimal_digit 2 (lit< tt)) refl

conditioned : sql_tree checked ≡ Ok checked_tree
unfolding after cut_at from is_word until attribute_words behind_this check conditions directive_of header heading marked part_of attributes new_pair pair value read_from take_line with_line change_set elsewhere here item keys_of_heading sql_tree tree_of
conditioned =
    let a = utf8 (codes "--liquibase formatted sql") refl in
    let b = utf8 [] refl in
    let c = utf8 (codes "--changeset bob:2") refl in
    let d = utf8 (codes "--comment hi") refl in
    let e = utf8 (codes "--preconditions onError:WARN onFail:HALT") refl in
    let f = utf8 (codes "--precondition-sql-check expectedResult:0 Q") refl in
    let g = utf8 (codes "--rollback not required") refl in
    rw (a, b, c, d, e, f, g, decimal_digit 3 (lit< tt)) refl

pub examples : SqlTreeExamples
examples = record { whole = whole; conditions = conditioned }
