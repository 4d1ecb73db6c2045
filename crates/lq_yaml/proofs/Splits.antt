-- What tests and options say when they are taken apart.
use Rattle.std.proofs.Common.{◌≡◌, ℕ, Bool, true, false, cond, not, ◌&&◌, ◌||◌, ◌==◌, List, [], ◌∷◌, ◌++◌, Option, Some, None, option_map, option_and_then, refl, sym, ap, ◌∙◌, ◌⊎◌, inl, inr}
use Rattle.std.proofs.lemmas.Bool.{ne_eqb}
use Rattle.std.specs.List.{list_all}
use Rattle.lq_yaml.specs.Tree.{is_blank, unless_last}
use Rattle.lq_yaml.specs.Line.{trimmed}
use Rattle.lq_yaml.specs.Made.{AreBlanks, HasLast}

pub some_of : {A B : Type 0} (h : A → B) (o : Option A) (y : B) → option_map h o ≡ Some y → (x : A) × (o ≡ Some x) × (h x ≡ y)
some_of h None y is = absurd cc
some_of h (Some x) y is = let same : h x ≡ y = cc in (x, refl, same)

pub then_of : {A B : Type 0} (h : A → Option B) (o : Option A) (y : B) → option_and_then h o ≡ Some y → (x : A) × (o ≡ Some x) × (h x ≡ Some y)
then_of h None y is = absurd cc
then_of h (Some x) y is = (x, refl, is)

pub both_of : (a b : Bool) → (a && b) ≡ true → (a ≡ true) × (b ≡ true)
both_of true b is = (refl, is)
both_of false b is = absurd cc

pub both : (a b : Bool) → a ≡ true → b ≡ true → (a && b) ≡ true
both a b ha hb = rw (ha, hb) refl

pub only_true : {A : Type 0} (b : Bool) (x y : A) → cond b (Some x) None ≡ Some y → (b ≡ true) × (x ≡ y)
only_true true x y is = let same : x ≡ y = cc in (refl, same)
only_true false x y is = absurd cc

pub not_true : (b : Bool) → not b ≡ true → b ≡ false
not_true true is = absurd cc
not_true false is = refl

pub neither : (a b : Bool) → (a || b) ≡ false → (a ≡ false) × (b ≡ false)
neither true b is = absurd cc
neither false b is = (refl, is)

-- another character where a test tells them apart
pub differs : (test : ℕ → Bool) (c k : ℕ) (b : Bool) → test c ≡ b → test k ≡ not b → (c == k) ≡ false
differs test c k true is at = ne_eqb c k (λ e. let same : test c ≡ test k = ap test e in absurd cc)
differs test c k false is at = ne_eqb c k (λ e. let same : test c ≡ test k = ap test e in absurd cc)

-- ---- blanks at the end

pub all_append : (a b : List ℕ) → AreBlanks a → AreBlanks b → AreBlanks (a ++ b)
all_append [] b ha hb = hb
all_append (c ∷ a) b ha hb = let k = both_of (is_blank c) (list_all is_blank a) ha in both _ _ k.0 (all_append a b k.1 hb)

pub blank_trimmed : (gap : List ℕ) → AreBlanks gap → trimmed gap ≡ []
blank_trimmed [] h = refl
blank_trimmed (c ∷ gap) h =
    let k = both_of (is_blank c) (list_all is_blank gap) h in
    ap (λ (l : List ℕ). unless_last is_blank c l) (blank_trimmed gap k.1) ∙ rw k.0 refl

front_kept : (x : ℕ) (before : List ℕ) (last : ℕ) → unless_last is_blank x (before ++ last ∷ []) ≡ x ∷ (before ++ last ∷ [])
front_kept x [] last = refl
front_kept x (c ∷ before) last = refl

pub trimmed_is : (before gap : List ℕ) (last : ℕ) → is_blank last ≡ false → AreBlanks gap → trimmed ((before ++ last ∷ []) ++ gap) ≡ before ++ last ∷ []
trimmed_is [] gap last dark h = ap (λ (l : List ℕ). unless_last is_blank last l) (blank_trimmed gap h) ∙ rw dark refl
trimmed_is (c ∷ before) gap last dark h = ap (λ (l : List ℕ). unless_last is_blank c l) (trimmed_is before gap last dark h) ∙ front_kept c before last

pub trimmed_last : (text gap : List ℕ) (last : ℕ) → HasLast text last → is_blank last ≡ false → AreBlanks gap → trimmed (text ++ gap) ≡ text
trimmed_last text gap last at dark h = ap (λ (l : List ℕ). trimmed (l ++ gap)) at.1 ∙ trimmed_is at.0 gap last dark h ∙ sym at.1

-- what is left has a last character that is no blank, and only blanks were dropped
pub record Trimmed (text left : List ℕ) : Type 0 where
  pub gap : List ℕ
  pub is : text ≡ left ++ gap
  pub blanks : AreBlanks gap
  pub ends : left ≡ [] → ⊥
  pub last : ℕ
  pub at : HasLast left last
  pub no_blank : is_blank last ≡ false

more_left : (c d : ℕ) (ds : List ℕ) (text : List ℕ) → Trimmed text (d ∷ ds) → Trimmed (c ∷ text) (c ∷ d ∷ ds)
more_left c d ds text t = record {
  gap = t.gap;
  is = ap (λ (l : List ℕ). c ∷ l) t.is;
  blanks = t.blanks;
  ends = λ e. absurd cc;
  last = t.last;
  at = (c ∷ t.at.0, ap (λ (l : List ℕ). c ∷ l) t.at.1);
  no_blank = t.no_blank;
}

abbrev pub Left : List ℕ → List ℕ → Type 0
Left text left = ((left ≡ []) × AreBlanks text) ⊎ Trimmed text left

trim_by : (c : ℕ) (text left : List ℕ) (b : Bool) → is_blank c ≡ b → Left text left → Left (c ∷ text) (unless_last is_blank c left)
trim_by c text [] true is (inl x) = inl (rw is refl, both _ _ is x.1)
trim_by c text [] false is (inl x) =
    inr (rw is (record { gap = text; is = refl; blanks = x.1; ends = λ e. absurd cc; last = c; at = ([], refl); no_blank = is }))
trim_by c text [] b is (inr t) = absurd (t.ends refl)
trim_by c text (d ∷ ds) b is (inl x) = absurd cc
trim_by c text (d ∷ ds) b is (inr t) = inr (more_left c d ds text t)

pub trim : (text : List ℕ) → Left text (trimmed text)
trim [] = inl (refl, refl)
trim (c ∷ text) = trim_by c text (trimmed text) (is_blank c) refl (trim text)
