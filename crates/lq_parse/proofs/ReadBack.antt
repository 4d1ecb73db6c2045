-- What is printed is read as what was printed.
use Rattle.std.proofs.Common.{◌≡◌, ◌≤◌, ℕ, true, nat_le, List, [], Some, option_map, ap, ◌∙◌, sym, refl}
use Rattle.std.specs.List.{list_all}
use Rattle.std.proofs.lemmas.Bool.{and_parts, leb-true}
use Rattle.std.proofs.lemmas.List.{append-nil}
use Rattle.lq_base.specs.Name.{is_name}
use Rattle.lq_base.specs.Sql.{lexemes}
use Rattle.lq_base.specs.declared.dialect.Dialect.{Dialect}
use Rattle.lq_model.specs.Comparison.{is_literal, is_spelled, levels, test_literals}
use Rattle.lq_model.specs.SqlParser.{Parser, to_end}
use Rattle.lq_model.specs.SqlTest.{any_test}
use Rattle.lq_model.specs.SqlText.{test_in, whole}
use Rattle.lq_model.specs.SqlWord.{words}
use Rattle.lq_model.specs.Step.{is_where}
use Rattle.lq_model.specs.TestText.{test_text}
use Rattle.lq_model.specs.Truth.{test_names}
use Rattle.lq_model.specs.declared.test.Test.{Test}
use Rattle.lq_model.specs.declared.word.Word.{Word}
use Rattle.lq_parse.specs.Laws.{TestsReadBack}
use Rattle.lq_parse.proofs.Again.{test_words, whole_test_again}
use Rattle.lq_parse.proofs.Fronts.{Says}
use Rattle.lq_parse.proofs.Spoken.{Below, test_says}
use Rattle.lq_parse.proofs.Written.{Facts, test_fact}

pub no_words : (d : Dialect) → words d [] ≡ Some []
unfolding words lexemes
no_words d = refl

-- the words of a whole text
pub all_words : (d : Dialect) (bytes : List ℕ) (these : List Word → List Word) → Says d bytes these [] → words d bytes ≡ Some (these [])
all_words d bytes these says = ap (words d) (sym (append-nil bytes)) ∙ says ∙ ap (option_map these) (no_words d)

pub whole_is : {A : Type 0} (parser : Parser A) (d : Dialect) (bytes : List ℕ) (ws rest : List Word) (it : A) → words d bytes ≡ Some ws → to_end parser ws ≡ Some (it, rest) → whole parser d bytes ≡ Some it
whole_is parser d bytes ws rest it says reads = rw (says, reads) refl

pub where_facts : (t : Test) → is_where (Some t) ≡ true → (Facts (test_names t) (test_literals t)) × (nat_le (levels t) 64 ≡ true) × (levels t ≤ 64)
where_facts t can =
    let names = and_parts (list_all is_name (test_names t)) (is_spelled (Some t)) can in
    let spelled = and_parts (nat_le (levels t) 64) (list_all is_literal (test_literals t)) names.1 in
    (record { are_names = names.0; are_literals = spelled.1 }, spelled.0, leb-true (levels t) 64 spelled.0)

pub tests_read : Below → TestsReadBack
unfolding test_in
tests_read below d t can =
    let facts = where_facts t can in
    let parts = test_fact below t facts.0 in
    whole_is any_test d (test_text d t) (test_words t []) [] t (all_words d (test_text d t) (test_words t) (test_says below d t [] parts.1 tt))
    (whole_test_again t parts.0 facts.1 facts.2)
