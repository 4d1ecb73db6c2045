-- What each of some items gives, where the items come in two parts and stand behind what was found before.
use Rattle.std.proofs.Common.{◌≡◌, ◌∙◌, ◌<◌, ◌+◌, ℕ, List, [], ◌∷◌, ◌++◌, length, map, drop, get_or, Option, Some, None, option_and_then, option_map, Bor, append_assoc, append-nil, refl, sym, ap}
use Rattle.std.proofs.lemmas.List.{drop_more}
use Rattle.std.specs.List.{flat_map}
use Rattle.lq_cli.specs.Options.{each}
use Rattle.lq_lines.specs.File.{numbers_in}

abbrev behind : {B : Type 0} → List B → Option (List B) → Option (List B)
behind front found = option_map (λ more. front ++ more) found

abbrev put : {B : Type 0} → B → Option (List B) → Option (List B)
put b found = option_map (λ more. b ∷ more) found

moved : {B : Type 0} (front : List B) (b : B) (found : Option (List B)) → behind front (put b found) ≡ behind (front ++ b ∷ []) found
moved front b None = refl
moved front b (Some more) = ap Some (sym (append_assoc front (b ∷ []) more))

pub goes_on : {A B : Type 0} (f : A → Option B) (front new : List B) (xs ys : List A)
    → option_map (λ more. front ++ more) (each f xs) ≡ Some new
    → option_map (λ more. front ++ more) (each f (xs ++ ys)) ≡ option_map (λ more. new ++ more) (each f ys)
goes_on f front new [] ys is =
    let whole : front ++ [] ≡ new = cc in
    ap (λ all. behind all (each f ys)) (sym (append-nil front) ∙ whole)
goes_on {A} {B} f front new (x ∷ xs) ys is = by (f x) is (λ longer. goes_on f longer new xs ys)
  where
    by : (r : Option B) → behind front (option_and_then (λ b. put b (each f xs)) r) ≡ Some new
        → ((longer : List B) → behind longer (each f xs) ≡ Some new → behind longer (each f (xs ++ ys)) ≡ behind new (each f ys))
        → behind front (option_and_then (λ b. put b (each f (xs ++ ys))) r) ≡ behind new (each f ys)
    by None is later = absurd cc
    by (Some b) is later = moved front b (each f (xs ++ ys)) ∙ later (front ++ b ∷ []) (sym (moved front b (each f xs)) ∙ is)

pub stops : {A B : Type 0} (f : A → Option B) (front : List B) (xs ys : List A)
    → option_map (λ more. front ++ more) (each f xs) ≡ None
    → option_map (λ more. front ++ more) (each f (xs ++ ys)) ≡ None
stops f front [] ys is = absurd cc
stops {A} {B} f front (x ∷ xs) ys is = by (f x) is (λ longer. stops f longer xs ys)
  where
    by : (r : Option B) → behind front (option_and_then (λ b. put b (each f xs)) r) ≡ None
        → ((longer : List B) → behind longer (each f xs) ≡ None → behind longer (each f (xs ++ ys)) ≡ None)
        → behind front (option_and_then (λ b. put b (each f (xs ++ ys))) r) ≡ None
    by None is later = refl
    by (Some b) is later = moved front b (each f (xs ++ ys)) ∙ later (front ++ b ∷ []) (sym (moved front b (each f xs)) ∙ is)

pub line_goes : (f : List ℕ → Option ℕ) (lines : List (Bor (List ℕ))) (i : ℕ) (d : Bor (List ℕ)) (front new : List ℕ) (whole : Option (List ℕ))
    → i < length lines
    → whole ≡ option_map (λ more. front ++ more) (each f (flat_map numbers_in (map (λ line. line.now) (drop i lines))))
    → option_map (λ more. front ++ more) (each f (numbers_in (get_or lines i d).now)) ≡ Some new
    → whole ≡ option_map (λ more. new ++ more) (each f (flat_map numbers_in (map (λ line. line.now) (drop (i + 1) lines))))
line_goes f lines i d front new whole lt is gave =
    is ∙ (ap (λ (rest : List (Bor (List ℕ))). behind front (each f (flat_map numbers_in (map (λ line. line.now) rest)))) (drop_more lines i d lt)
    ∙ goes_on f front new (numbers_in (get_or lines i d).now) (flat_map numbers_in (map (λ line. line.now) (drop (i + 1) lines))) gave)

pub line_stops : (f : List ℕ → Option ℕ) (lines : List (Bor (List ℕ))) (i : ℕ) (d : Bor (List ℕ)) (front : List ℕ) (whole : Option (List ℕ))
    → i < length lines
    → whole ≡ option_map (λ more. front ++ more) (each f (flat_map numbers_in (map (λ line. line.now) (drop i lines))))
    → option_map (λ more. front ++ more) (each f (numbers_in (get_or lines i d).now)) ≡ None
    → whole ≡ None
line_stops f lines i d front whole lt is none =
    is ∙ (ap (λ (rest : List (Bor (List ℕ))). behind front (each f (flat_map numbers_in (map (λ line. line.now) rest)))) (drop_more lines i d lt)
    ∙ stops f front (numbers_in (get_or lines i d).now) (flat_map numbers_in (map (λ line. line.now) (drop (i + 1) lines))) none)
