-- Whole files, by what they are made of and as the reader finds them.
use Rattle.std.proofs.Common.{◌≡◌, ◌∙◌, ◌+◌, ◌⊎◌, List, [], ◌∷◌, ◌++◌, length, Option, Some, None, option_map, option_and_then, Result, Ok, Err, IfOk, ℕ, refl, sym, ap, subst, arith, codes, inl, inr}
use Rattle.std.specs.Str.{IsUtf8, is_utf8}
use Rattle.std.proofs.lemmas.Str.{IsUtf8-from_is_utf8, is_utf8-from_IsUtf8}
use Rattle.lq_sqlfile.specs.Words.{is_word, value_of}
use Rattle.lq_sqlfile.specs.Cuts.{behind_word, word}
use Rattle.lq_sqlfile.specs.File.{HasHeader, IsFile, IsWrong, file_behind, file_of, file_with, read_from, text_in}
use Rattle.lq_sqlfile.specs.Lines.{behind_this, header, header_rest, marked, attributes_in}
use Rattle.lq_sqlfile.specs.Made.{IsBehind, IsHeader, IsMarked}
use Rattle.lq_sqlfile.specs.View.{Gives}
use Rattle.lq_sqlfile.specs.declared.fault.SqlFault.{SqlFault}
use Rattle.lq_sqlfile.specs.declared.fault.SqlFault.TheVariants.{NoHeader, Line, OutOfMemory}
use Rattle.lq_sqlfile.specs.declared.file.SqlFile.{SqlFile}
use Rattle.lq_sqlfile.specs.declared.file.SqlSet.{SqlSet}
use Rattle.lq_sqlfile.proofs.FileForms.{lines_found, lines_made, stops}
use Rattle.lq_sqlfile.proofs.PartForms.{attributes_found, attributes_made, gap_behind, if_of, map_of, marked_found, marked_made, then_of, word_behind, word_front, word_parts}

-- ---- the header

behind_made : (w text rest : List ℕ) → behind_this w text ≡ Some rest → IsBehind w text rest
unfolding behind_this
behind_made w text rest is =
    let named = if_of (is_word (word text) w) (behind_word text) rest is in
    let parts = word_parts text in
    subst (λ (z : List ℕ). IsBehind w text z) named.1 (word text, gap_behind text, parts.0, parts.1, named.0, parts.2)

behind_found : (w text rest : List ℕ) → IsBehind w text rest → behind_this w text ≡ Some rest
unfolding behind_this
behind_found w text rest (name, gap, is, lacks, named, gapped) = rw (is, word_front name gap rest lacks gapped, word_behind name gap rest lacks gapped, named) refl

pub header_made : (line : List ℕ) (logical : Option (List ℕ)) → header line ≡ Some logical → IsHeader line logical
unfolding header behind_this
header_made line logical is =
    let given = map_of (value_of (codes "logicalFilePath")) (option_and_then (attributes_in (codes "logicalFilePath" ∷ [])) (header_rest line)) logical is in
    let pairs = then_of (attributes_in (codes "logicalFilePath" ∷ [])) (header_rest line) given.0 given.1 in
    let third = then_of (behind_this (codes "sql")) (option_and_then (behind_this (codes "formatted")) (option_and_then (behind_this (codes "liquibase")) (marked line))) pairs.0 pairs.1 in
    let second = then_of (behind_this (codes "formatted")) (option_and_then (behind_this (codes "liquibase")) (marked line)) third.0 third.1 in
    let first = then_of (behind_this (codes "liquibase")) (marked line) second.0 second.1 in
    let named = if_of (is_word (word first.0) (codes "liquibase")) (behind_word first.0) second.0 first.2 in (
      word first.0,
      second.0,
      third.0,
      pairs.0,
      given.0,
      subst (λ (z : List ℕ). IsMarked line (word first.0) z) {x = behind_word first.0} {y = second.0} named.1 (marked_made line first.0 first.1),
      named.0,
      behind_made (codes "formatted") second.0 third.0 second.2,
      behind_made (codes "sql") third.0 pairs.0 third.2,
      attributes_made (codes "logicalFilePath" ∷ []) pairs.0 given.0 pairs.2,
      sym given.2,
    )

pub header_found : (line : List ℕ) (logical : Option (List ℕ)) → IsHeader line logical → header line ≡ Some logical
unfolding header behind_this
header_found line logical (name, second, third, pairs, given, mark, named, formatted, sql, are, same) =
    let found = marked_found line name second mark in
    let first : option_and_then (behind_this (codes "liquibase")) (marked line) ≡ Some second = rw (found.1, found.2, named, found.3) refl in
    let rest : header_rest line ≡ Some pairs =
    ap (λ (o : Option (List ℕ)). option_and_then (behind_this (codes "sql")) (option_and_then (behind_this (codes "formatted")) o)) first
    ∙ ap (option_and_then (behind_this (codes "sql"))) (behind_found (codes "formatted") second third formatted) ∙ behind_found (codes "sql") third pairs sql in
    ap (λ (o : Option (List ℕ)). option_map (value_of (codes "logicalFilePath")) (option_and_then (attributes_in (codes "logicalFilePath" ∷ [])) o)) rest
    ∙ ap (option_map (value_of (codes "logicalFilePath"))) (attributes_found (codes "logicalFilePath" ∷ []) pairs given are) ∙ ap Some (sym same)

-- ---- the first line

abbrev IsFirst : List ℕ → Option (List ℕ) → Type 0
IsFirst line logical = IsUtf8 line × IsHeader line logical

abbrev first_of : List ℕ → Option (Option (List ℕ))
first_of line = option_and_then header (text_in line)

first_made : (line : List ℕ) (logical : Option (List ℕ)) → first_of line ≡ Some logical → IsFirst line logical
first_made line logical is =
    let t = then_of header (text_in line) logical is in
    let utf8 = if_of (is_utf8 line) line t.0 t.1 in
    (IsUtf8-from_is_utf8 line utf8.0, header_made line logical (ap header utf8.1 ∙ t.2))

first_found : (line : List ℕ) (logical : Option (List ℕ)) → IsFirst line logical → first_of line ≡ Some logical
first_found line logical is = rw (is_utf8-from_IsUtf8 line is.0) (header_found line logical is.1)

-- ---- files

pub file_found : (lines : List (List ℕ)) (file : SqlFile) → IsFile lines file → file_of lines ≡ Ok file
file_found lines file (first, rest, is, utf8, heads, are) =
    ap file_of is ∙ ap (file_behind rest) (first_found first file.logical (utf8, heads)) ∙ ap (file_with file.logical) (lines_found rest file.sets are)

with_made : (logical : Option (List ℕ)) (r : Result (List SqlSet) ℕ) (file : SqlFile) → file_with logical r ≡ Ok file → (file.logical ≡ logical) × (r ≡ Ok file.sets)
with_made logical (Ok sets) file is = let same : (let f : SqlFile = record { logical = logical; sets = sets } in f) ≡ file = cc in (ap (λ (f : SqlFile). f.logical) (sym same), ap (λ (f : SqlFile). Ok f.sets) same)
with_made logical (Err n) file is = absurd cc

made_by : (first : List ℕ) (rest : List (List ℕ)) (o : Option (Option (List ℕ))) (file : SqlFile) → first_of first ≡ o → file_behind rest o ≡ Ok file → IsFile (first ∷ rest) file
made_by first rest None file at is = absurd cc
made_by first rest (Some logical) file at is =
    let parts = with_made logical (read_from 2 rest None) file is in
    let heads = first_made first logical at in
    (first, rest, refl, heads.0, subst (λ (z : Option (List ℕ)). IsHeader first z) (sym parts.0) heads.1, lines_made rest file.sets parts.1)

pub file_made : (lines : List (List ℕ)) (file : SqlFile) → file_of lines ≡ Ok file → IsFile lines file
file_made [] file is = absurd cc
file_made (first ∷ rest) file is = made_by first rest (first_of first) file refl is

ok_same : (r : Result SqlFile SqlFault) (a b : SqlFile) → r ≡ Ok a → r ≡ Ok b → a ≡ b
ok_same r a b one two = cc

pub one_file : (lines : List (List ℕ)) (a b : SqlFile) → IsFile lines a → IsFile lines b → a ≡ b
one_file lines a b one two = ok_same (file_of lines) a b (file_found lines a one) (file_found lines b two)

-- ---- no header

not_headless : (logical : Option (List ℕ)) (r : Result (List SqlSet) ℕ) → file_with logical r ≡ Err NoHeader → ⊥
not_headless logical (Ok sets) is = absurd cc
not_headless logical (Err n) is = absurd cc

pub no_header : (lines : List (List ℕ)) → file_of lines ≡ Err NoHeader → ¬ (HasHeader lines)
no_header lines is (first, rest, logical, same, utf8, heads) =
    not_headless logical (read_from 2 rest None) (sym (ap file_of same ∙ ap (file_behind rest) (first_found first logical (utf8, heads))) ∙ is)

headless_by : (first : List ℕ) (rest : List (List ℕ)) (o : Option (Option (List ℕ))) → first_of first ≡ o → ¬ (HasHeader (first ∷ rest)) → file_behind rest o ≡ Err NoHeader
headless_by first rest None at bad = refl
headless_by first rest (Some logical) at bad = let heads = first_made first logical at in absurd (bad (first, rest, logical, refl, heads.0, heads.1))

pub headless : (lines : List (List ℕ)) → ¬ (HasHeader lines) → file_of lines ≡ Err NoHeader
headless [] bad = refl
headless (first ∷ rest) bad = headless_by first rest (first_of first) refl bad

-- ---- the line that is wrong

with_wrong : (logical : Option (List ℕ)) (r : Result (List SqlSet) ℕ) (n : ℕ) → file_with logical r ≡ Err (Line n) → r ≡ Err n
with_wrong logical (Ok sets) n is = absurd cc
with_wrong logical (Err m) n is = let same : m ≡ n = cc in ap Err same

file_here : (first : List ℕ) (rest : List (List ℕ)) (logical : Option (List ℕ)) (sets : List SqlSet) → first_of first ≡ Some logical → read_from 2 rest None ≡ Ok sets
    → file_of (first ∷ rest) ≡ Ok (record { logical = logical; sets = sets })
file_here first rest logical sets at is = ap (file_behind rest) at ∙ ap (file_with logical) is

fault_here : (first : List ℕ) (rest : List (List ℕ)) (logical : Option (List ℕ)) (n : ℕ) → first_of first ≡ Some logical → read_from 2 rest None ≡ Err n → file_of (first ∷ rest) ≡ Err (Line n)
fault_here first rest logical n at is = ap (file_behind rest) at ∙ ap (file_with logical) is

no_file : (lines : List (List ℕ)) (n : ℕ) (file : SqlFile) → file_of lines ≡ Err (Line n) → ¬ (IsFile lines file)
no_file lines n file is made = let clash : Ok file ≡ Err (Line n) = sym (file_found lines file made) ∙ is in absurd cc

wrong_by : (first : List ℕ) (rest : List (List ℕ)) (o : Option (Option (List ℕ))) (n : ℕ) → first_of first ≡ o → file_behind rest o ≡ Err (Line n) → IsWrong (first ∷ rest) n
wrong_by first rest None n at is = absurd cc
wrong_by first rest (Some logical) n at is =
    let s = stops 2 n rest None (with_wrong logical (read_from 2 rest None) n is) in
    let count : n ≡ length (first ∷ s.0) + 1 = omega (arith, s.5) in (
      first ∷ s.0,
      s.1,
      s.2,
      record { logical = logical; sets = s.3 },
      ap (λ z. first ∷ z) s.4,
      count,
      file_made (first ∷ s.0) (record { logical = logical; sets = s.3 }) (file_here first s.0 logical s.3 at s.6),
      λ more any. no_file (first ∷ (s.0 ++ s.1 ∷ more)) n any (fault_here first (s.0 ++ s.1 ∷ more) logical n at (s.7 more)),
    )

pub wrong_line : (lines : List (List ℕ)) (n : ℕ) → file_of lines ≡ Err (Line n) → IsWrong lines n
wrong_line [] n is = absurd cc
wrong_line (first ∷ rest) n is = wrong_by first rest (first_of first) n refl is

-- ---- the clauses of the public call

pub gives_file : (lines : List (List ℕ)) (r : Result SqlFile SqlFault) → Gives (file_of lines) r → IfOk r (λ file. IsFile lines file)
gives_file lines (Ok file) is = file_made lines file is
gives_file lines (Err e) is = tt

pub gives_whole : (lines : List (List ℕ)) (r : Result SqlFile SqlFault) (file : SqlFile) → Gives (file_of lines) r → IsFile lines file → (r ≡ Ok file) ⊎ (r ≡ Err OutOfMemory)
gives_whole lines (Ok f) file is made = inl (sym is ∙ file_found lines file made)
gives_whole lines (Err NoHeader) file is made = inl (sym is ∙ file_found lines file made)
gives_whole lines (Err (Line n)) file is made = inl (sym is ∙ file_found lines file made)
gives_whole lines (Err OutOfMemory) file is made = inr refl

pub gives_no_header : (lines : List (List ℕ)) (r : Result SqlFile SqlFault) → Gives (file_of lines) r → r ≡ Err NoHeader → ¬ (HasHeader lines)
gives_no_header lines (Ok f) is same = absurd cc
gives_no_header lines (Err NoHeader) is same = no_header lines is
gives_no_header lines (Err (Line n)) is same = absurd cc
gives_no_header lines (Err OutOfMemory) is same = absurd cc

pub gives_headless : (lines : List (List ℕ)) (r : Result SqlFile SqlFault) → Gives (file_of lines) r → ¬ (HasHeader lines) → (r ≡ Err NoHeader) ⊎ (r ≡ Err OutOfMemory)
gives_headless lines (Ok f) is bad = inl (sym is ∙ headless lines bad)
gives_headless lines (Err NoHeader) is bad = inl refl
gives_headless lines (Err (Line n)) is bad = inl (sym is ∙ headless lines bad)
gives_headless lines (Err OutOfMemory) is bad = inr refl

pub gives_line : (lines : List (List ℕ)) (r : Result SqlFile SqlFault) (n : ℕ) → Gives (file_of lines) r → r ≡ Err (Line n) → IsWrong lines n
gives_line lines (Ok f) n is same = absurd cc
gives_line lines (Err NoHeader) n is same = absurd cc
gives_line lines (Err (Line m)) n is same = wrong_line lines n (is ∙ same)
gives_line lines (Err OutOfMemory) n is same = absurd cc

-- ---- at most one line is wrong

-- two places of a list: the same one, or one before the other
data Places (front other : List (List ℕ)) (line second : List ℕ) : Type 0 where
  level : length front ≡ length other → Places front other line second
  before : (x : List (List ℕ)) → other ≡ front ++ line ∷ x → Places front other line second
  behind : (x : List (List ℕ)) → front ≡ other ++ second ∷ x → Places front other line second

one_more_place : (k : List ℕ) (front other : List (List ℕ)) (line second : List ℕ) → Places front other line second → Places (k ∷ front) (k ∷ other) line second
one_more_place k front other line second (Places.level is) = Places.level (let next : length (k ∷ front) ≡ length (k ∷ other) = omega (arith, is) in next)
one_more_place k front other line second (Places.before x is) = Places.before x (ap (λ z. k ∷ z) is)
one_more_place k front other line second (Places.behind x is) = Places.behind x (ap (λ z. k ∷ z) is)

places : (front other : List (List ℕ)) (line second : List ℕ) (rest more : List (List ℕ)) → front ++ line ∷ rest ≡ other ++ second ∷ more → Places front other line second
places [] [] line second rest more is = Places.level refl
places [] (k ∷ other) line second rest more is = let first : line ≡ k = cc in Places.before other (ap (λ z. z ∷ other) (sym first))
places (k ∷ front) [] line second rest more is = let first : k ≡ second = cc in Places.behind front (ap (λ z. z ∷ front) first)
places (k ∷ front) (j ∷ other) line second rest more is =
    let first : k ≡ j = cc in
    let tail : front ++ line ∷ rest ≡ other ++ second ∷ more = cc in
    subst (λ z. Places (k ∷ front) (z ∷ other) line second) first (one_more_place k front other line second (places front other line second rest more tail))

same_by : (n m : ℕ) (front other : List (List ℕ)) (line second : List ℕ) (a b : SqlFile) → n ≡ length front + 1 → m ≡ length other + 1 → IsFile front a → IsFile other b
    → ((more : List (List ℕ)) (any : SqlFile) → ¬ (IsFile (front ++ line ∷ more) any)) → ((more : List (List ℕ)) (any : SqlFile) → ¬ (IsFile (other ++ second ∷ more) any))
    → Places front other line second → n ≡ m
same_by n m front other line second a b x y one two none nothing (Places.level is) = omega (arith, x, y, is)
same_by n m front other line second a b x y one two none nothing (Places.before rest is) = absurd (none rest b (subst (λ z. IsFile z b) is two))
same_by n m front other line second a b x y one two none nothing (Places.behind rest is) = absurd (nothing rest a (subst (λ z. IsFile z a) is one))

pub one_wrong : (lines : List (List ℕ)) (n m : ℕ) → IsWrong lines n → IsWrong lines m → n ≡ m
one_wrong lines n m (front, line, rest, a, is, x, one, none) (other, second, more, b, split, y, two, nothing) =
    same_by n m front other line second a b x y one two none nothing (places front other line second rest more (sym is ∙ split))

still_headed : (lines front : List (List ℕ)) (line : List ℕ) (rest : List (List ℕ)) (a : SqlFile) → lines ≡ front ++ line ∷ rest → IsFile front a → HasHeader lines
still_headed lines front line rest a is (first, more, split, utf8, heads, are) = (first, more ++ line ∷ rest, a.logical, is ∙ ap (λ z. z ++ line ∷ rest) split, utf8, heads)

pub gives_wrong : (lines : List (List ℕ)) (r : Result SqlFile SqlFault) (n : ℕ) → Gives (file_of lines) r → IsWrong lines n → (r ≡ Err (Line n)) ⊎ (r ≡ Err OutOfMemory)
gives_wrong lines (Ok f) n gives (front, line, rest, a, is, x, one, none) = absurd (none rest f (subst (λ z. IsFile z f) is (file_made lines f gives)))
gives_wrong lines (Err NoHeader) n gives (front, line, rest, a, is, x, one, none) = absurd (no_header lines gives (still_headed lines front line rest a is one))
gives_wrong lines (Err (Line m)) n gives wrong = inl (ap (λ k. Err (Line k)) (one_wrong lines m n (wrong_line lines m gives) wrong))
gives_wrong lines (Err OutOfMemory) n gives wrong = inr refl
