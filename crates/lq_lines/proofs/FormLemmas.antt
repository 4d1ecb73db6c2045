-- What holds of all that a file gives.
use Rattle.std.proofs.Common.{◌≡◌, ◌∙◌, ◌≤◌, ◌+◌, ◌&&◌, nat_le, ℕ, suc, take, drop, Bool, true, false, cond, List, [], ◌∷◌, length, All, Option, Some, None, option_and_then, option_map, refl, sym, ap, subst}
use Rattle.std.specs.Int.{IsInRange, is_in_range}
use Rattle.std.specs.List.{flat_map, list_any, position}
use Rattle.std.specs.Str.{is_utf8}
use Rattle.std.proofs.lemmas.Bool.{and_parts, leb-true}
use Rattle.std.proofs.lemmas.List.Elements.{All-cons, All-nil}
use Rattle.lq_base.specs.Kind.{plain_number}
use Rattle.lq_base.specs.declared.dialect.Dialect.{Dialect}
use Rattle.lq_cli.specs.Line.{line_of}
use Rattle.lq_cli.specs.Options.{each, number_from}
use Rattle.lq_cli.specs.declared.line.Line.{Line}
use Rattle.lq_lines.specs.File.{command_of, is_empty, is_run, only_run, url_word, with_url, words_in, both_of, cut_lines, is_steps, lines_in, lines_of, lines_with, HasForm, at_most, numbers_in, step_of, steps_of}
use Rattle.lq_lines.specs.declared.lines.Lines.{Lines}

-- ---- options taken apart

then_some : {A B : Type 0} (f : A → Option B) (found : Option A) (y : B) → option_and_then f found ≡ Some y → (x : A) × (found ≡ Some x) × (f x ≡ Some y)
then_some f None y is = absurd cc
then_some f (Some x) y is = (x, refl, is)

if_some : {A : Type 0} (test : Bool) (found : Option A) (y : A) → cond test found None ≡ Some y → (test ≡ true) × (found ≡ Some y)
if_some true found y is = (refl, is)
if_some false found y is = absurd cc

else_some : {A : Type 0} (test : Bool) (found : Option A) (y : A) → cond test None found ≡ Some y → found ≡ Some y
else_some true found y is = absurd cc
else_some false found y is = is

in_range : (least most n : ℕ) → is_in_range least most n ≡ true → IsInRange least most n
in_range least most n is =
    let parts = and_parts (nat_le least n) (nat_le n most) is in
    (leb-true least n parts.0, leb-true n most parts.1)

-- ---- each of some

each_has : {A B : Type 0} (f : A → Option B) (P : B → Type 0) → ((a : A) (b : B) → f a ≡ Some b → P b) → (xs : List A) (ys : List B) → each f xs ≡ Some ys → All P ys
each_has f P so [] ys is = let same : [] ≡ ys = cc in subst (All P) same (All-nil P)
each_has {A} {B} f P so (x ∷ xs) ys is =
    let found = then_some (λ b. option_map (λ more. b ∷ more) (each f xs)) (f x) ys is in
    rest found.0 (each f xs) refl (so x found.0 found.1) (λ more e. each_has f P so xs more e) found.2
  where
    rest : (b : B) (found : Option (List B)) → each f xs ≡ found → P b → ((more : List B) → each f xs ≡ Some more → All P more) → option_map (λ more. b ∷ more) found ≡ Some ys → All P ys
    rest b None e has later made = absurd cc
    rest b (Some more) e has later made = let same : b ∷ more ≡ ys = cc in subst (All P) same (All-cons P b more has (later more e))

each_length : {A B : Type 0} (f : A → Option B) (xs : List A) (ys : List B) → each f xs ≡ Some ys → length ys ≡ length xs
each_length f [] ys is = let same : [] ≡ ys = cc in ap length (sym same)
each_length {A} {B} f (x ∷ xs) ys is =
    let found = then_some (λ b. option_map (λ more. b ∷ more) (each f xs)) (f x) ys is in
    rest found.0 (each f xs) refl (λ more e. each_length f xs more e) found.2
  where
    rest : (b : B) (found : Option (List B)) → each f xs ≡ found → ((more : List B) → each f xs ≡ Some more → length more ≡ length xs) → option_map (λ more. b ∷ more) found ≡ Some ys → length ys ≡ suc (length xs)
    rest b None e later made = absurd cc
    rest b (Some more) e later made = let same : b ∷ more ≡ ys = cc in ap length (sym same) ∙ ap suc (later more e)

-- ---- the two parts

command_runs : (url text : List ℕ) (line : Line) → command_of url text ≡ Some line → is_run line.job ≡ true
unfolding command_of
command_runs url text line is =
    let asked = else_some (list_any is_empty (words_in text)) (option_and_then only_run (line_of (with_url url (words_in text)))) line is in
    let found = then_some only_run (line_of (with_url url (words_in text))) line asked in
    let run = if_some (is_run found.0.job) (Some found.0) line found.2 in
    let same : found.0 ≡ line = cc in
    subst (λ (l : Line). is_run l.job ≡ true) same run.0

step_numbered : (count : ℕ) (word : List ℕ) (n : ℕ) → step_of count word ≡ Some n → IsInRange 1 count n
unfolding step_of number_from
step_numbered count word n is =
    let found = then_some (λ m. cond (nat_le 1 m && nat_le m count) (Some m) None) (plain_number word) n is in
    let kept = if_some (nat_le 1 found.0 && nat_le found.0 count) (Some found.0) n found.2 in
    let same : found.0 ≡ n = cc in
    subst (IsInRange 1 count) same (in_range 1 count found.0 kept.0)

steps_formed : (count : ℕ) (lines : List (List ℕ)) (steps : List ℕ) → steps_of count lines ≡ Some steps → (length steps ≤ 1000000) × All (IsInRange 1 count) steps
unfolding steps_of
steps_formed count lines steps is =
    let found = then_some (at_most 1000000) (each (step_of count) (flat_map numbers_in lines)) steps is in
    let kept = if_some (nat_le (length found.0) 1000000) (Some found.0) steps found.2 in
    let same : found.0 ≡ steps = cc in
    subst (λ (all : List ℕ). (length all ≤ 1000000) × All (IsInRange 1 count) all) same
    (leb-true (length found.0) 1000000 kept.0, each_has (step_of count) (IsInRange 1 count) (step_numbered count) (flat_map numbers_in lines) found.0 found.1)

-- ---- the whole

both_formed : (url : List ℕ) (commands numbers : List (List ℕ)) (of : Lines) → is_in_range 1 64 (length commands) ≡ true → both_of url commands numbers ≡ Some of → HasForm of
unfolding both_of
both_formed url commands numbers of few is =
    let made = then_some (λ lines. option_and_then (λ steps. Some (record { lines = lines; steps = steps })) (steps_of (length commands) numbers)) (each (command_of url) commands) of is in
    let taken = then_some (λ steps. Some (record { lines = made.0; steps = steps })) (steps_of (length commands) numbers) of made.2 in
    let count : length made.0 ≡ length commands = each_length (command_of url) commands made.0 made.1 in
    let steps = steps_formed (length commands) numbers taken.0 taken.1 in
    let whole : Lines = record { lines = made.0; steps = taken.0 } in
    let same : whole ≡ of = cc in
    subst HasForm same (record {
      few = subst (IsInRange 1 64) (sym count) (in_range 1 64 (length commands) few);
      runs = each_has (command_of url) (λ line. is_run line.job ≡ true) (command_runs url) commands made.0 made.1;
      bounded = steps.0;
      numbered = subst (λ n. All (IsInRange 1 n) taken.0) (sym count) steps.1;
    })

with_formed : (url : List ℕ) (commands numbers : List (List ℕ)) (of : Lines) → lines_with url commands numbers ≡ Some of → HasForm of
unfolding lines_with
with_formed url commands numbers of is =
    let made = if_some (is_in_range 1 64 (length commands)) (both_of url commands numbers) of is in
    both_formed url commands numbers of made.0 made.1

cut_formed : (url : List ℕ) (lines : List (List ℕ)) (of : Lines) → cut_lines url lines ≡ Some of → HasForm of
unfolding cut_lines
cut_formed url lines of is =
    let found = then_some (λ place. lines_with url (take place lines) (drop (place + 1) lines)) (position is_steps lines) of is in
    with_formed url (take found.0 lines) (drop (found.0 + 1) lines) of found.2

pub formed : (dialect : Dialect) (path file : List ℕ) (of : Lines) → lines_of dialect path file ≡ Some of → HasForm of
unfolding lines_of
formed dialect path file of is =
    cut_formed (url_word dialect path) (lines_in file) of (if_some (is_utf8 file) (cut_lines (url_word dialect path) (lines_in file)) of is).1
