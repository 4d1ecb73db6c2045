-- Words that are kept as kinds and texts.
use Rattle.std.proofs.Common.{◌≡◌, ℕ, suc, ◌+◌, ◌<◌, Bool, true, false, cond, List, [], ◌∷◌, ◌++◌, length, refl, sym, ap, ◌∙◌, arith, length-append}
use Rattle.std.proofs.lemmas.List.{append-nil}
use Rattle.lq_model.specs.SqlParser.{next, same_kind, sees}
use Rattle.lq_model.specs.SqlWord.{with_text}
use Rattle.lq_model.specs.declared.word.Word.{Word}
use Rattle.lq_model.specs.declared.word.WordKind.{WordKind}
use Rattle.lq_model.specs.declared.word.WordKind.TheVariants.{End}
use Rattle.lq_parse.specs.Kinds.{AreEven, has_text, text_if, texts_behind, texts_of, words_kept}

pub length_kept : (ks : List WordKind) (ts : List (List ℕ)) → length (words_kept ks ts) ≡ length ks
length_kept [] ts = refl
length_kept (k ∷ ks) ts = ap (λ (n : ℕ). suc n) (length_kept ks (texts_behind (has_text k) ts))

-- the texts that one word more asks for
abbrev pub more_texts : Bool → List ℕ → List (List ℕ)
more_texts true t = t ∷ []
more_texts false t = []

text_here : (b : Bool) (t : List ℕ) → (b ≡ false → t ≡ []) → text_if b (more_texts b t) ≡ t
text_here true t none = refl
text_here false t none = sym (none refl)

later : (b : Bool) (k : WordKind) (ks all : List WordKind) (ts more : List (List ℕ)) (w : Word) → length ts ≡ cond b (suc (texts_of ks)) (texts_of ks)
    → ((us : List (List ℕ)) → length us ≡ texts_of ks → words_kept all (us ++ more) ≡ words_kept ks us ++ w ∷ [])
    → with_text k (text_if b (ts ++ more)) ∷ words_kept all (texts_behind b (ts ++ more)) ≡ (with_text k (text_if b ts) ∷ words_kept ks (texts_behind b ts)) ++ w ∷ []
later true k ks all [] more w even h = absurd (omega (arith, even))
later true k ks all (t ∷ ts) more w even h = ap (λ (ws : List Word). with_text k t ∷ ws) (h ts (omega (arith, even)))
later false k ks all ts more w even h = ap (λ (ws : List Word). with_text k [] ∷ ws) (h ts even)

kept_more : (w : Word) (ks : List WordKind) (ts : List (List ℕ)) → (has_text w.kind ≡ false → w.text ≡ []) → AreEven ks ts
    → words_kept (ks ++ w.kind ∷ []) (ts ++ more_texts (has_text w.kind) w.text) ≡ words_kept ks ts ++ w ∷ []
kept_more w [] [] none even = ap (λ (t : List ℕ). with_text w.kind t ∷ []) (text_here (has_text w.kind) w.text none)
kept_more w [] (t ∷ ts) none even = absurd (omega (arith, even))
kept_more w (k ∷ ks) ts none even =
    later (has_text k) k ks (ks ++ w.kind ∷ []) ts (more_texts (has_text w.kind) w.text) w even (λ us is. kept_more w ks us none is)

count_more : (b : Bool) (m n j : ℕ) → m ≡ n + j → cond b (suc m) m ≡ cond b (suc n) n + j
count_more true m n j is = omega (arith, is)
count_more false m n j is = is

count_one : (b : Bool) (t : List ℕ) → cond b 1 0 ≡ 0 + length (more_texts b t)
count_one true t = omega arith
count_one false t = omega arith

counted : (k : WordKind) (t : List ℕ) (ks : List WordKind) → texts_of (ks ++ k ∷ []) ≡ texts_of ks + length (more_texts (has_text k) t)
counted k t [] = count_one (has_text k) t
counted k t (j ∷ ks) = count_more (has_text j) (texts_of (ks ++ k ∷ [])) (texts_of ks) (length (more_texts (has_text k) t)) (counted k t ks)

-- one word more is kept so
pub record Keeps (w : Word) (ks new : List WordKind) (ts texts : List (List ℕ)) : Type 0 where
  pub words : words_kept new texts ≡ words_kept ks ts ++ w ∷ []
  pub even : AreEven new texts

keeps_by : (b : Bool) (w : Word) (ks new : List WordKind) (ts texts : List (List ℕ)) → has_text w.kind ≡ b → (has_text w.kind ≡ false → w.text ≡ []) → AreEven ks ts
    → new ≡ ks ++ w.kind ∷ [] → texts ≡ ts ++ more_texts b w.text → Keeps w ks new ts texts
keeps_by b w ks new ts texts is none even kinds_are texts_are =
    let all : texts ≡ ts ++ more_texts (has_text w.kind) w.text = texts_are ∙ ap (λ (b : Bool). ts ++ more_texts b w.text) (sym is) in
    let long : length texts ≡ length ts + length (more_texts (has_text w.kind) w.text) = ap length all ∙ length-append ts (more_texts (has_text w.kind) w.text) in
    record {
      words = ap (λ (l : List WordKind). words_kept l texts) kinds_are ∙ ap (λ (l : List (List ℕ)). words_kept (ks ++ w.kind ∷ []) l) all ∙ kept_more w ks ts none even;
      even = long ∙ ap (λ (n : ℕ). n + length (more_texts (has_text w.kind) w.text)) even ∙ sym (ap texts_of kinds_are ∙ counted w.kind w.text ks);
    }

pub keeps_text : (w : Word) (ks new : List WordKind) (ts texts : List (List ℕ)) → has_text w.kind ≡ true → AreEven ks ts
    → new ≡ ks ++ w.kind ∷ [] → texts ≡ ts ++ w.text ∷ [] → Keeps w ks new ts texts
keeps_text w ks new ts texts is even kinds_are texts_are = keeps_by true w ks new ts texts is (λ e. absurd cc) even kinds_are texts_are

pub keeps_none : (w : Word) (ks new : List WordKind) (ts texts : List (List ℕ)) → has_text w.kind ≡ false → (has_text w.kind ≡ false → w.text ≡ []) → AreEven ks ts
    → new ≡ ks ++ w.kind ∷ [] → texts ≡ ts → Keeps w ks new ts texts
keeps_none w ks new ts texts is none even kinds_are texts_are = keeps_by false w ks new ts texts is none even kinds_are (texts_are ∙ sym (append-nil ts))

-- where no second word stands, the end does
pub no_second : (kind : WordKind) (ks : List WordKind) (ts : List (List ℕ)) → length ks < 2 → sees kind (next (words_kept ks ts)) ≡ same_kind End kind
unfolding sees
no_second kind [] ts few = refl
no_second kind (k ∷ []) ts few = refl
no_second kind (k ∷ j ∷ ks) ts few = absurd (omega (arith, few))
