-- The text of a made changelog, which is appended in pieces.
use Rattle.std.proofs.Common.{◌≡◌, ◌∙◌, ◌+◌, ◌++◌, List, add-one, ap, append-nil, append_assoc, codes, decimal, subst, suc, sym, ℕ}
use Rattle.lq_report.proofs.Appended.{two}
use Rattle.lq_tell.specs.SoakLog.{change_text, kind_at, kind_of, next_number, number_at, set_head, set_text, sets_text, table_after, table_at}

pub three : (old t1 t2 new a b c all : List ℕ) → t1 ≡ old ++ a → t2 ≡ t1 ++ b → new ≡ t2 ++ c → a ++ b ++ c ≡ all → new ≡ old ++ all
three old t1 t2 new a b c all e1 e2 e3 same = two old t2 new (a ++ b) c all (e2 ∙ ap (λ (z : List ℕ). z ++ b) e1 ∙ append_assoc old a b) e3 same

pub four : (old t1 t2 t3 new a b c d all : List ℕ) → t1 ≡ old ++ a → t2 ≡ t1 ++ b → t3 ≡ t2 ++ c → new ≡ t3 ++ d → a ++ b ++ c ++ d ≡ all → new ≡ old ++ all
four old t1 t2 t3 new a b c d all e1 e2 e3 e4 same =
    two old t3 new (a ++ b ++ c) d all (also old t2 t3 (a ++ b) c (also old t1 t2 a b e1 e2) e3) e4 same where
      also : (old mid new a b : List ℕ) → mid ≡ old ++ a → new ≡ mid ++ b → new ≡ old ++ (a ++ b)
      also old mid new a b first second = second ∙ ap (λ z. z ++ b) first ∙ append_assoc old a b

-- a number between two texts, once and more often

pub once : (a n b c d e : List ℕ) → (a ++ (n ++ b)) ++ c ++ d ++ e ≡ a ++ n ++ b ++ c ++ d ++ e
once a n b c d e = simp append_assoc

once_less : (a n b c d : List ℕ) → (a ++ (n ++ b)) ++ c ++ d ≡ a ++ n ++ b ++ c ++ d
once_less a n b c d = simp append_assoc

pub twice : (a n b c m d : List ℕ) → (a ++ (n ++ b)) ++ (c ++ (m ++ d)) ≡ a ++ n ++ b ++ c ++ m ++ d
twice a n b c m d = simp append_assoc

pub twice_then : (a n b c m d e : List ℕ) → (a ++ (n ++ b)) ++ (c ++ (m ++ d)) ++ e ≡ a ++ n ++ b ++ c ++ m ++ d ++ e
twice_then a n b c m d e = simp append_assoc

pub thrice : (a n b c m d e k f : List ℕ) → (a ++ (n ++ b)) ++ (c ++ (m ++ d)) ++ (e ++ (k ++ f)) ≡ a ++ n ++ b ++ c ++ m ++ d ++ e ++ k ++ f
thrice a n b c m d e k f = simp append_assoc

-- a changeset between its head and its end
pub in_set : (place kind table number : ℕ) (old t1 t2 new head : List ℕ) → head ≡ set_head place → t1 ≡ old ++ (head ++ (decimal place ++ codes "\",\"author\":\"soak\",\"changes\":[")) → t2 ≡ t1 ++ change_text place kind table number → new ≡ t2 ++ codes "]}}"
    → new ≡ old ++ set_text place kind table number
unfolding set_text
in_set place kind table number old t1 t2 new head head_is e1 e2 e3 =
    let rest : List ℕ = decimal place ++ codes "\",\"author\":\"soak\",\"changes\":[" in
    three old t1 t2 new (set_head place ++ rest) (change_text place kind table number) (codes "]}}") (set_text place kind table number) (e1 ∙ ap (λ (h : List ℕ). old ++ (h ++ rest)) head_is) e2 e3
    (once_less (set_head place) (decimal place) (codes "\",\"author\":\"soak\",\"changes\":[") (change_text place kind table number) (codes "]}}"))

-- no changesets yet
pub none_yet : (number : ℕ) (start : List ℕ) → start ≡ start ++ sets_text number 0
unfolding sets_text
none_yet number start = sym (append-nil start)

-- one changeset more
module _ (number n : ℕ) (start before after : List ℕ) (drawn table d k t : ℕ) (is : before ≡ start ++ sets_text number n) (drawn_is : drawn ≡ number_at number n) (table_is : table ≡ table_at number n) (d_is : d ≡ next_number drawn) where
  abbrev Goes : ℕ → Type 0
  Goes place = k ≡ kind_of place d → t ≡ table_after place k table → after ≡ before ++ set_text place k t d → (after ≡ start ++ sets_text number place) × (d ≡ number_at number place) × (t ≡ table_at number place)

  goes : Goes (suc n)
  unfolding sets_text
  goes k_is t_is after_is =
      let number_is : d ≡ number_at number (suc n) = d_is ∙ ap next_number drawn_is in
      let kind_is : k ≡ kind_at number (suc n) = k_is ∙ ap (kind_of (suc n)) number_is in
      let last_is : t ≡ table_at number (suc n) = t_is ∙ ap (λ (kind : ℕ). table_after (suc n) kind table) kind_is ∙ ap (table_after (suc n) (kind_at number (suc n))) table_is in
      let set_is : set_text (suc n) k t d ≡ set_text (suc n) (kind_at number (suc n)) (table_at number (suc n)) (number_at number (suc n)) =
      ap (λ (kind : ℕ). set_text (suc n) kind t d) kind_is ∙ ap (λ (last : ℕ). set_text (suc n) (kind_at number (suc n)) last d) last_is ∙ ap (set_text (suc n) (kind_at number (suc n)) (table_at number (suc n))) number_is in (
        after_is ∙ ap (λ (text : List ℕ). text ++ set_text (suc n) k t d) is ∙ append_assoc start (sets_text number n) (set_text (suc n) k t d) ∙ ap (λ (set : List ℕ). start ++ (sets_text number n ++ set)) set_is,
        number_is,
        last_is,
      )

  pub one_more : Goes (n + 1)
  one_more = subst Goes (sym (add-one n)) goes
