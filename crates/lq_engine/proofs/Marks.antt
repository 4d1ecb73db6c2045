-- Lemmas on the marks of statements.
use Rattle.std.proofs.Common.{List, None, Option, Some, [], ap, arith, refl, reverse, subst, sym, true, ℕ, ◌++◌, ◌∙◌, ◌∷◌, ◌≡◌, ◌≤◌}
use Rattle.std.proofs.lemmas.List.{reverse-append}
use Rattle.std.specs.List.Sorted.{IsStrictlySortedBy}
use Rattle.std.specs.Option.{MatchOption}
use Rattle.lq_base.specs.declared.dialect.Dialect.{Dialect}
use Rattle.lq_base.specs.declared.name.Name.{Name}
use Rattle.lq_chain.specs.History.{History, history, marked, undone_to}
use Rattle.lq_chain.proofs.HistoryLemmas.{marked-undone_to, undone_to-marked, undone_to-undone_to}
use Rattle.lq_model.specs.Catalogue.{Catalogue, no_objects, times}
use Rattle.lq_base.specs.declared.dialect.Dialect.TheVariants.{Mysql, Postgresql}
use Rattle.lq_model.specs.NameSpaces.{AreApart}
use Rattle.lq_model.specs.Sound.{IsSound, may_have, may_name}
use Rattle.lq_model.proofs.Maps.{not_some}
use Rattle.lq_rows.specs.Stored.{Continues}
use Rattle.lq_engine.specs.State.{AllSound, AreMarks, IsGood, catalogues_at, stands_for, back, oldest, state}

-- what stood before earlier statements is not changed by going back to a later mark
pub earlier : (h : History Catalogue) (mark : ℕ) (marks : List ℕ) → mark ≤ marked h → AreMarks mark marks → catalogues_at (undone_to h mark) marks ≡ catalogues_at h marks
earlier h mark [] le are = refl
earlier h mark (m ∷ marks) le are =
    let first : (undone_to (undone_to h mark) m).now ≡ (undone_to h m).now = ap (λ (x : History Catalogue). x.now) (undone_to-undone_to h mark m le are.0) in
    ap (λ c. c ∷ catalogues_at (undone_to h mark) marks) first ∙ ap (λ cs. (undone_to h m).now ∷ cs) (both m marks are.0 are.1) where
      both : (m : ℕ) (ms : List ℕ) → m ≤ mark → AreMarks m ms → catalogues_at (undone_to h mark) ms ≡ catalogues_at h ms
      both m [] small are = refl
      both m (k ∷ ms) small are =
          let less : k ≤ mark = omega (arith, small, are.0) in
          let first : (undone_to (undone_to h mark) k).now ≡ (undone_to h k).now = ap (λ (x : History Catalogue). x.now) (undone_to-undone_to h mark k le less) in
          ap (λ c. c ∷ catalogues_at (undone_to h mark) ms) first ∙ ap (λ cs. (undone_to h k).now ∷ cs) (both k ms less are.1)

-- nor by going on from it
pub later : (h new : History Catalogue) (marks : List ℕ) → Continues h new → AreMarks (marked h) marks → catalogues_at new marks ≡ catalogues_at h marks
later h new marks goes are = sym (earlier new (marked h) marks goes.0 are) ∙ ap (λ x. catalogues_at x marks) goes.1

-- after a statement
pub one_more : (h new : History Catalogue) (marks : List ℕ) → Continues h new → AreMarks (marked h) marks → catalogues_at new (marked h ∷ marks) ≡ h.now ∷ catalogues_at h marks
one_more h new marks goes are = ap (λ (x : History Catalogue). x.now ∷ catalogues_at new marks) goes.1 ∙ ap (λ cs. h.now ∷ cs) (later h new marks goes are)

pub newest : (mark : ℕ) (marks : List ℕ) → reverse (marks ++ mark ∷ []) ≡ mark ∷ reverse marks
newest mark marks = reverse-append marks (mark ∷ [])

-- the engine after its calls

pub begun : (d : Dialect) → IsSound d no_objects → IsGood d (history no_objects []) []
unfolding IsGood
begun d sound = (refl, (sound, tt))

pub begun_at : (d : Dialect) (h : History Catalogue) → IsSound d h.now × (h ≡ history h.now []) → IsGood d h []
unfolding IsGood
begun_at d h is = (ap (λ (x : History Catalogue). marked x) is.1, (is.0, tt))

pub taken_over : (d : Dialect) (c : Catalogue) (found : Option (History Catalogue)) (h : History Catalogue)
    → MatchOption found (¬ IsSound d c) (λ parts. IsSound d c × (parts ≡ history c [])) → found ≡ Some h
    → IsSound d h.now × (h ≡ history h.now [])
taken_over d c None h told is = absurd (cc is)
taken_over d c (Some p) h told is =
    let same : p ≡ h = cc is in
    let new : h ≡ history c [] = sym same ∙ told.1 in
    (subst (λ (x : History Catalogue). IsSound d x.now) (sym new) told.0, new ∙ ap (λ (x : History Catalogue). history x.now []) (sym new))

pub ran : (d : Dialect) (h new : History Catalogue) (marks : List ℕ) → Continues h new → IsGood d h marks → IsSound d new.now → IsGood d new (marked h ∷ marks)
unfolding IsGood
ran d h new marks goes good sound = ((goes.0, good.0), (sound, subst (AllSound d) (sym (one_more h new marks goes good.0)) good.1))

pub ran_view : (d : Dialect) (h new : History Catalogue) (marks : List ℕ) → Continues h new → IsGood d h marks → stands_for d new (marked h ∷ marks) ≡ state d new.now (h.now ∷ catalogues_at h marks)
unfolding IsGood
ran_view d h new marks goes good = ap (λ cs. state d new.now cs) (one_more h new marks goes good.0)

pub went_back : (d : Dialect) (h : History Catalogue) (mark : ℕ) (marks : List ℕ) → IsGood d h (mark ∷ marks) → IsGood d (undone_to h mark) marks
unfolding IsGood
went_back d h mark marks good =
    (subst (λ n. AreMarks n marks) (sym (marked-undone_to h mark good.0.0)) good.0.1, (good.1.1.0, subst (AllSound d) (sym (earlier h mark marks good.0.0 good.0.1)) good.1.1.1))

pub went_back_view : (d : Dialect) (h : History Catalogue) (mark : ℕ) (marks : List ℕ) → IsGood d h (mark ∷ marks) → stands_for d (undone_to h mark) marks ≡ back (stands_for d h (mark ∷ marks))
unfolding IsGood
went_back_view d h mark marks good = ap (λ cs. state d (undone_to h mark).now cs) (earlier h mark marks good.0.0 good.0.1)

oldest_is : (h : History Catalogue) (mark : ℕ) (marks : List ℕ) → AreMarks mark marks → oldest (undone_to h mark).now (catalogues_at h marks) ≡ (undone_to h 0).now
oldest_is h mark [] are = ap (λ n. (undone_to h n).now) are
oldest_is h mark (m ∷ marks) are = oldest_is h m marks are.1

oldest_sound : (d : Dialect) (c : Catalogue) (cs : List Catalogue) → IsSound d c → AllSound d cs → IsSound d (oldest c cs)
oldest_sound d c [] sound all = sound
oldest_sound d c (e ∷ cs) sound all = oldest_sound d e cs all.0 all.1

oldest_now : (h : History Catalogue) (marks : List ℕ) → AreMarks (marked h) marks → oldest h.now (catalogues_at h marks) ≡ (undone_to h 0).now
oldest_now h marks are = ap (λ (x : History Catalogue). oldest x.now (catalogues_at h marks)) (sym (undone_to-marked h)) ∙ oldest_is h (marked h) marks are

pub all_back : (d : Dialect) (h : History Catalogue) (marks : List ℕ) → IsGood d h marks → IsGood d (undone_to h 0) []
unfolding IsGood
all_back d h marks good =
    let none : 0 ≤ marked h = omega arith in
    (marked-undone_to h 0 none, (subst (IsSound d) (oldest_now h marks good.0) (oldest_sound d h.now (catalogues_at h marks) good.1.0 good.1.1), tt))

pub all_back_view : (d : Dialect) (h : History Catalogue) (marks : List ℕ) → IsGood d h marks → stands_for d (undone_to h 0) [] ≡ state d (oldest h.now (catalogues_at h marks)) []
unfolding IsGood
all_back_view d h marks good = ap (λ c. state d c []) (sym (oldest_now h marks good.0))

pub is_sound : (d : Dialect) (h : History Catalogue) (marks : List ℕ) → IsGood d h marks → IsSound d h.now
unfolding IsGood
is_sound d h marks good = good.1.0

pub first_mark : (d : Dialect) (h : History Catalogue) (mark : ℕ) (marks : List ℕ) → IsGood d h (mark ∷ marks) → mark ≤ marked h
unfolding IsGood
first_mark d h mark marks good = good.0.0

-- no objects are a sound catalogue

small_names : (n : Name) → times n [] ≤ 1
small_names n = omega arith

pub nothing_sound : (d : Dialect) → IsSound d no_objects
unfolding IsStrictlySortedBy
nothing_sound d = record {
  ordered = tt;
  ordered_views = tt;
  ordered_sequences = tt;
  tables = λ t it e. not_some (sym e);
  views = refl;
  apart = apart d;
  schemas = schemas d;
  steps = refl;
  sequences = may d;
  no_null = refl;
  no_twins = refl;
  aimed = refl;
  alike = refl;
  parents = refl;
  small = refl;
} where
  apart : (d : Dialect) → AreApart d no_objects
  apart Postgresql = small_names
  apart Mysql = (small_names, small_names)

  schemas : (d : Dialect) → may_name d [] ≡ true
  schemas Postgresql = refl
  schemas Mysql = refl

  may : (d : Dialect) → may_have d [] ≡ true
  may Postgresql = refl
  may Mysql = refl

pub forgot : (d : Dialect) (h : History Catalogue) (marks : List ℕ) → IsGood d h marks → IsGood d (history h.now []) []
unfolding IsGood
forgot d h marks good = (refl, (good.1.0, tt))
