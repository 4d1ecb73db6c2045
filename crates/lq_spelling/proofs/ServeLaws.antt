-- What an unquoted word that is not reserved serves as, in the text of a statement and of a query.
use Rattle.std.proofs.Common.{◌≡◌, ℕ, true, false, List, ◌∷◌, ◌++◌, Some, None, ◌⊎◌, inl, inr, ap, subst, ◌∙◌, sym, refl}
use Rattle.std.specs.Option.{option_and_then}
use Rattle.lq_base.specs.declared.dialect.Dialect.{Dialect}
use Rattle.lq_model.specs.SqlParser.{Outcome, Parser, ended, same_kind, to_end}
use Rattle.lq_model.specs.SqlQuery.{query}
use Rattle.lq_model.specs.SqlStatement.{statement}
use Rattle.lq_model.specs.SqlText.{query_in, read, statement_in, whole}
use Rattle.lq_model.specs.SqlWord.{may_be_name, with_text, words}
use Rattle.lq_model.specs.declared.word.Word.{Word}
use Rattle.lq_model.specs.declared.word.WordKind.{WordKind}
use Rattle.lq_model.specs.declared.word.WordKind.TheVariants as word
use Rattle.lq_spelling.specs.Laws.{InAnyCase, QueryWordsServe, UnquotedWordsServe}
use Rattle.lq_spelling.proofs.ServeKinds.{Loose, kind_of, loose_of}
use Rattle.lq_spelling.proofs.ServeParts.{Serves, Went, before, named_there, said_there, serves_ended, serves_then}
use Rattle.lq_spelling.proofs.ServeStatements.{serves_statement}
use Rattle.lq_spelling.proofs.ServeTests.{serves_query}

module _ {A : Type 0} (p : Parser A) (serves : Serves p) (d : Dialect) (a : List ℕ) (front back : List Word) (said : List ℕ) (x : A) where
  -- what a word of this kind serves as
  abbrev Serving : WordKind → Type 0
  Serving k = words d a ≡ Some (front ++ with_text k said ∷ back) → whole p d a ≡ Some x
      → ((b : List ℕ) → words d b ≡ Some (front ++ with_text word.Quoted said ∷ back) → whole p d b ≡ Some x)
      ⊎ ((b : List ℕ) (v : Word) → InAnyCase (with_text k said) v → words d b ≡ Some (front ++ v ∷ back) → whole p d b ≡ Some x)

  abbrev ending : Word → Outcome A
  ending w = to_end p (front ++ w ∷ back)

  reads : (b : List ℕ) (w : Word) → words d b ≡ Some (front ++ w ∷ back) → whole p d b ≡ read (ending w)
  reads b w is = ap (option_and_then (λ ws. read (to_end p ws))) is

  serving : (l : Loose) → Serving (kind_of l)
  serving l is gives =
      by (ending (with_text (kind_of l) said)) refl (sym (reads a (with_text (kind_of l) said) is) ∙ gives)
    where
      as_it_went : (r : A) (rest : List Word) → Some r ≡ Some x → Went l said back ending r rest
          → ((b : List ℕ) → words d b ≡ Some (front ++ with_text word.Quoted said ∷ back) → whole p d b ≡ Some x)
          ⊎ ((b : List ℕ) (v : Word) → InAnyCase (with_text (kind_of l) said) v → words d b ≡ Some (front ++ v ∷ back) → whole p d b ≡ Some x)
      as_it_went r rest same (before f there each) = inl (λ b quoted. reads b (with_text word.Quoted said) quoted ∙ ap read (each false said) ∙ same)
      as_it_went r rest same (named_there named) = inl (λ b quoted. reads b (with_text word.Quoted said) quoted ∙ ap read named ∙ same)
      as_it_went r rest same (said_there each) =
          inr (λ b v cased other. reads b v other ∙ ap (λ k. read (ending (with_text k v.text))) cased.0 ∙ ap read (each v.text cased.1) ∙ same)

      by : (o : Outcome A) → ending (with_text (kind_of l) said) ≡ o → read o ≡ Some x
          → ((b : List ℕ) → words d b ≡ Some (front ++ with_text word.Quoted said ∷ back) → whole p d b ≡ Some x)
          ⊎ ((b : List ℕ) (v : Word) → InAnyCase (with_text (kind_of l) said) v → words d b ≡ Some (front ++ v ∷ back) → whole p d b ≡ Some x)
      by None went h = absurd (cc)
      by (Some found) went h = as_it_went found.0 found.1 h ((serves_then p ended serves serves_ended).at l said front back found.0 found.1 went)

  serving_word : (k : WordKind) → may_be_name k ≡ true → same_kind k word.Quoted ≡ false → Serving k
  serving_word k can unquoted =
      let found = loose_of k can unquoted in subst Serving found.is (serving found.loose)

pub unquoted_words_serve : UnquotedWordsServe
unfolding statement_in
unquoted_words_serve d a front back w s can unquoted = serving_word (statement d) (serves_statement d) d a front back w.text s w.kind can unquoted

pub query_words_serve : QueryWordsServe
unfolding query_in
query_words_serve d a front back w q can unquoted = serving_word (query d) (serves_query d) d a front back w.text q w.kind can unquoted
