-- The files of changesets, by what they are made of and as the reader finds them.
use Rattle.std.proofs.Common.{◌≡◌, ◌∙◌, ◌+◌, ◌||◌, Bool, true, false, List, [], ◌∷◌, ◌++◌, length, Option, Some, None, option_map, option_and_then, Result, Ok, Err, ℕ, refl, sym, ap, subst, arith, append_assoc, append-nil}
use Rattle.std.specs.List.{list_all, list_any}
use Rattle.std.specs.Str.{IsUtf8, is_utf8}
use Rattle.std.proofs.lemmas.Bool.{and_from, and_parts}
use Rattle.std.proofs.lemmas.Str.{IsUtf8-from_is_utf8, is_utf8-from_IsUtf8}
use Rattle.lq_sqlfile.specs.File.{AreLines, AreParts, AreSets, IsSet, is_heading, is_idle, begun, closed, closed_all, put_before, read_from, read_on, take_inside, take_line, take_part, text_in, with_part}
use Rattle.lq_sqlfile.specs.Lines.{part_of}
use Rattle.lq_sqlfile.specs.Made.{IsPart}
use Rattle.lq_sqlfile.specs.declared.draft.Draft.{Draft}
use Rattle.lq_sqlfile.specs.declared.file.SqlSet.{SqlSet}
use Rattle.lq_sqlfile.specs.declared.part.Heading.{Heading}
use Rattle.lq_sqlfile.specs.declared.part.Part.{Part}
use Rattle.lq_sqlfile.specs.declared.part.Part.TheVariants.{ChangeSet, Comment, Conditions, Check, Rollback, Note, Body}
use Rattle.lq_sqlfile.proofs.PartForms.{if_of, map_of, part_found, part_made, then_of}
use Rattle.lq_sqlfile.proofs.SetForms.{Holds, begins, holds_more, is_set, may_have, one_set}

abbrev State : Type 0
State = List SqlSet × Option Draft

-- ---- one line

-- a line that says a part
abbrev IsSaid : List ℕ → Part → Type 0
IsSaid line said = IsUtf8 line × IsPart line said

line_found : (n : ℕ) (line : List ℕ) (said : Part) (draft : Option Draft) → IsSaid line said → take_line n line draft ≡ take_part n said draft
unfolding take_line
line_found n line said draft is = rw (is_utf8-from_IsUtf8 line is.0, part_found line said is.1) refl

line_made : (n : ℕ) (line : List ℕ) (draft : Option Draft) (next : State) → take_line n line draft ≡ Some next → (said : Part) × IsSaid line said × (take_part n said draft ≡ Some next)
unfolding take_line
line_made n line draft next is =
    let p = then_of (λ part. take_part n part draft) (option_and_then part_of (text_in line)) next is in
    let t = then_of part_of (text_in line) p.0 p.1 in
    let utf8 = if_of (is_utf8 line) line t.0 t.1 in
    (p.0, (IsUtf8-from_is_utf8 line utf8.0, part_made line p.0 (ap part_of utf8.1 ∙ t.2)), p.2)

inside_is : (n : ℕ) (p : Part) (draft : Option Draft) → is_heading p ≡ false → take_part n p draft ≡ take_inside p draft
inside_is n (ChangeSet h) draft plain = absurd cc
inside_is n (Comment t) draft plain = refl
inside_is n (Conditions c) draft plain = refl
inside_is n (Check e q) draft plain = refl
inside_is n (Rollback t) draft plain = refl
inside_is n Note draft plain = refl
inside_is n (Body l) draft plain = refl

idle_plain : (p : Part) → is_idle p ≡ true → is_heading p ≡ false
idle_plain (ChangeSet h) is = absurd cc
idle_plain (Comment t) is = refl
idle_plain (Conditions c) is = refl
idle_plain (Check e q) is = refl
idle_plain (Rollback t) is = refl
idle_plain Note is = refl
idle_plain (Body l) is = refl

none_of : (a b : Bool) → (a || b) ≡ false → (a ≡ false) × (b ≡ false)
none_of true b is = absurd cc
none_of false b is = (refl, is)

-- ---- from what lines are made of to the reading

-- a step, and what is read behind it
goes_on : (n : ℕ) (line : List ℕ) (lines : List (List ℕ)) (draft after : Option Draft) (ended more : List SqlSet) → take_line n line draft ≡ Some (ended, after)
    → read_from (n + 1) lines after ≡ Ok more → read_from n (line ∷ lines) draft ≡ Ok (ended ++ more)
unfolding read_from
goes_on n line lines draft after ended more is rest = rw (is, rest) refl

-- the changeset that begins in line n is read from these lines on
abbrev Again : ℕ → List (List ℕ) → Type 0
Again n lines = (h : Heading) (inside rest : List Part) (s : SqlSet) (sets : List SqlSet) → AreParts lines (inside ++ rest) → list_any is_heading inside ≡ false
    → IsSet n h inside s → AreSets (n + 1 + length inside) rest sets → read_from (n + 1) lines (Some (begun n h)) ≡ Ok (s ∷ sets)

-- behind an open changeset or none
head_nil : (n : ℕ) (draft : Option Draft) (parts : List Part) (sets : List SqlSet) → AreParts [] parts → AreSets n parts sets → read_from n [] draft ≡ Ok (closed_all draft ++ sets)
unfolding read_from
head_nil n draft parts [] are is = ap Ok (sym (append-nil (closed_all draft)))
head_nil n draft parts (s ∷ sets) are (h, inside, rest, same, plain, set, more) = absurd (let clash : [] ≡ ChangeSet h ∷ (inside ++ rest) = sym are ∙ same in cc)

head_cons : (n : ℕ) (line : List ℕ) (lines : List (List ℕ)) (draft : Option Draft) (parts : List Part) (sets : List SqlSet) → Again n lines → AreParts (line ∷ lines) parts → AreSets n parts sets
    → read_from n (line ∷ lines) draft ≡ Ok (closed_all draft ++ sets)
head_cons n line lines draft parts [] again (said, others, whole, utf8, says, more) is = absurd (let clash : [] ≡ said ∷ others = sym is ∙ whole in cc)
head_cons n line lines draft parts (s ∷ sets) again (said, others, whole, utf8, says, are) (h, inside, rest, same, plain, set, more) =
    let both : said ∷ others ≡ ChangeSet h ∷ (inside ++ rest) = sym whole ∙ same in
    let first : said ≡ ChangeSet h = cc in
    let behind : others ≡ inside ++ rest = cc in
    goes_on n line lines draft (Some (begun n h)) (closed_all draft) (s ∷ sets)
    (line_found n line said draft (utf8, says) ∙ ap (λ (p : Part). take_part n p draft) first)
    (again h inside rest s sets (subst (λ (z : List Part). AreParts lines z) behind are) plain set more)

-- a changeset ends
same_set : (line_of : ℕ) (h : Heading) (seen : List Part) (s : SqlSet) (d : Draft) → IsSet line_of h (seen ++ []) s → Holds line_of h seen d → closed d ≡ s
same_set line_of h seen s d set held = one_set line_of h seen (closed d) s (is_set line_of h seen d held) (subst (λ (z : List Part). IsSet line_of h z s) (append-nil seen) set)

-- in a changeset
found_inside : (lines : List (List ℕ)) (n line_of : ℕ) (h : Heading) (seen inside rest : List Part) (s : SqlSet) (sets : List SqlSet) (d : Draft) → AreParts lines (inside ++ rest)
    → list_any is_heading inside ≡ false → IsSet line_of h (seen ++ inside) s → Holds line_of h seen d → AreSets (n + length inside) rest sets → read_from n lines (Some d) ≡ Ok (s ∷ sets)
found_inside [] n line_of h seen [] rest s sets d are plain set held more =
    let here : n + length {A = Part} [] ≡ n = omega arith in
    head_nil n (Some d) rest sets are (subst (λ (m : ℕ). AreSets m rest sets) here more) ∙ ap (λ (z : SqlSet). Ok (z ∷ sets)) (same_set line_of h seen s d set held)
found_inside (line ∷ lines) n line_of h seen [] rest s sets d are plain set held more =
    let here : n + length {A = Part} [] ≡ n = omega arith in
    head_cons n line lines (Some d) rest sets (λ g within behind t ts parts free is next. found_inside lines (n + 1) n g [] within behind t ts (begun n g) parts free is (begins n g) next)
    are (subst (λ (m : ℕ). AreSets m rest sets) here more) ∙ ap (λ (z : SqlSet). Ok (z ∷ sets)) (same_set line_of h seen s d set held)
found_inside [] n line_of h seen (p ∷ inside) rest s sets d are plain set held more = absurd (let clash : p ∷ (inside ++ rest) ≡ [] = are in cc)
found_inside (line ∷ lines) n line_of h seen (p ∷ inside) rest s sets d (said, others, whole, utf8, says, are) plain set held more =
    let first : said ≡ p = cc in
    let behind : others ≡ inside ++ rest = cc in
    let none = none_of (is_heading p) (list_any is_heading inside) plain in
    let next = may_have line_of h seen p inside d s held none.0 set in
    let on : n + length (p ∷ inside) ≡ n + 1 + length inside = omega arith in
    goes_on n line lines (Some d) (Some next.0) [] (s ∷ sets)
    (line_found n line said (Some d) (utf8, says) ∙ ap (λ (q : Part). take_part n q (Some d)) first ∙ inside_is n p (Some d) none.0 ∙ ap (option_map {U = State} (λ z. ([], Some z))) next.1)
    (found_inside lines (n + 1) line_of h (seen ++ p ∷ []) inside rest s sets next.0 (subst (λ (z : List Part). AreParts lines z) behind are) none.1
    (subst (λ (z : List Part). IsSet line_of h z s) (sym (append_assoc seen (p ∷ []) inside)) set) (holds_more line_of h seen p d next.0 held next.1)
    (subst (λ (m : ℕ). AreSets m rest sets) on more))

found_sets : (lines : List (List ℕ)) (n : ℕ) (draft : Option Draft) (parts : List Part) (sets : List SqlSet) → AreParts lines parts → AreSets n parts sets → read_from n lines draft ≡ Ok (closed_all draft ++ sets)
found_sets [] n draft parts sets are is = head_nil n draft parts sets are is
found_sets (line ∷ lines) n draft parts sets are is =
    head_cons n line lines draft parts sets (λ g within behind t ts said free set next. found_inside lines (n + 1) n g [] within behind t ts (begun n g) said free set (begins n g) next) are is

-- before the first changeset
found_idle : (lines : List (List ℕ)) (n : ℕ) (idle rest : List Part) (sets : List SqlSet) → AreParts lines (idle ++ rest) → list_all is_idle idle ≡ true → AreSets (n + length idle) rest sets → read_from n lines None ≡ Ok sets
found_idle lines n [] rest sets are all more =
    let here : n + length {A = Part} [] ≡ n = omega arith in
    found_sets lines n None rest sets are (subst (λ (m : ℕ). AreSets m rest sets) here more)
found_idle [] n (p ∷ idle) rest sets are all more = absurd (let clash : p ∷ (idle ++ rest) ≡ [] = are in cc)
found_idle (line ∷ lines) n (p ∷ idle) rest sets (said, others, whole, utf8, says, are) all more =
    let first : said ≡ p = cc in
    let behind : others ≡ idle ++ rest = cc in
    let both = and_parts (is_idle p) (list_all is_idle idle) all in
    let on : n + length (p ∷ idle) ≡ n + 1 + length idle = omega arith in
    goes_on n line lines None None [] sets
    (line_found n line said None (utf8, says) ∙ ap (λ (q : Part). take_part n q None) first ∙ inside_is n p None (idle_plain p both.0) ∙ rw both.0 refl)
    (found_idle lines (n + 1) idle rest sets (subst (λ (z : List Part). AreParts lines z) behind are) both.1 (subst (λ (m : ℕ). AreSets m rest sets) on more))

pub lines_found : (lines : List (List ℕ)) (sets : List SqlSet) → AreLines lines sets → read_from 2 lines None ≡ Ok sets
lines_found lines sets (idle, rest, are, all, more) = found_idle lines 2 idle rest sets are all more

-- ---- from the reading to what lines are made of

-- what is read from a line on: in no changeset yet, or in one
abbrev Reads : ℕ → List (List ℕ) → Option Draft → List SqlSet → Type 0
Reads n lines None sets = (idle rest : List Part) × AreParts lines (idle ++ rest) × (list_all is_idle idle ≡ true) × AreSets (n + length idle) rest sets
Reads n lines (Some d) sets = (line_of : ℕ) (h : Heading) (seen : List Part) → Holds line_of h seen d
    → (inside rest : List Part) × (s : SqlSet) × (more : List SqlSet) × AreParts lines (inside ++ rest) × (list_any is_heading inside ≡ false)
    × IsSet line_of h (seen ++ inside) s × AreSets (n + length inside) rest more × (sets ≡ s ∷ more)

reads_end : (n : ℕ) (draft : Option Draft) → Reads n [] draft (closed_all draft)
reads_end n None = ([], [], refl, refl, refl)
reads_end n (Some d) = λ line_of h seen held. ([], [], closed d, [], refl, refl, subst (λ (z : List Part). IsSet line_of h z (closed d)) (sym (append-nil seen)) (is_set line_of h seen d held), refl, refl)

-- a heading opens a changeset
head_sets : (n : ℕ) (line : List ℕ) (lines : List (List ℕ)) (h : Heading) (more : List SqlSet) → IsSaid line (ChangeSet h)
    → Reads (n + 1) lines (Some (begun n h)) more → (parts : List Part) × AreParts (line ∷ lines) parts × AreSets n parts more
head_sets n line lines h more says again =
    let r = again n h [] (begins n h) in (
      ChangeSet h ∷ (r.0 ++ r.1),
      (ChangeSet h, r.0 ++ r.1, refl, says.0, says.1, r.4),
      subst (λ (z : List SqlSet). AreSets n (ChangeSet h ∷ (r.0 ++ r.1)) z) (sym r.8) (h, r.0, r.1, refl, r.5, r.6, r.7),
    )

none_yet : (n : ℕ) → n ≡ n + length {A = Part} []
none_yet n = omega arith

reads_head : (n : ℕ) (line : List ℕ) (lines : List (List ℕ)) (h : Heading) (draft : Option Draft) (more : List SqlSet) → IsSaid line (ChangeSet h)
    → Reads (n + 1) lines (Some (begun n h)) more → Reads n (line ∷ lines) draft (closed_all draft ++ more)
reads_head n line lines h None more says again =
    let p = head_sets n line lines h more says again in
    ([], p.0, p.1, refl, subst (λ (m : ℕ). AreSets m p.0 more) (none_yet n) p.2)
reads_head n line lines h (Some d) more says again = λ line_of g seen held.
    let p = head_sets n line lines h more says again in
    ([], p.0, closed d, more, p.1, refl, subst (λ (z : List Part). IsSet line_of g z (closed d)) (sym (append-nil seen)) (is_set line_of g seen d held), subst (λ (m : ℕ). AreSets m p.0 more) (none_yet n) p.2, refl)

one_on : (n : ℕ) (p : Part) (ps : List Part) → n + 1 + length ps ≡ n + length (p ∷ ps)
one_on n p ps = omega arith

reads_idle : (n : ℕ) (line : List ℕ) (lines : List (List ℕ)) (p : Part) (more : List SqlSet) → IsSaid line p → is_idle p ≡ true → Reads (n + 1) lines None more → Reads n (line ∷ lines) None more
reads_idle n line lines p more says idle again = (
  p ∷ again.0,
  again.1,
  (p, again.0 ++ again.1, refl, says.0, says.1, again.2),
  and_from (is_idle p) (list_all is_idle again.0) idle again.3,
  subst (λ (m : ℕ). AreSets m again.1 more) (one_on n p again.0) again.4,
)

reads_more : (n : ℕ) (line : List ℕ) (lines : List (List ℕ)) (p : Part) (d next : Draft) (more : List SqlSet) → IsSaid line p → is_heading p ≡ false → with_part p d ≡ Some next
    → Reads (n + 1) lines (Some next) more → Reads n (line ∷ lines) (Some d) more
reads_more n line lines p d next more says plain is again line_of h seen held =
    let r = again line_of h (seen ++ p ∷ []) (holds_more line_of h seen p d next held is) in (
      p ∷ r.0,
      r.1,
      r.2,
      r.3,
      (p, r.0 ++ r.1, refl, says.0, says.1, r.4),
      rw plain r.5,
      subst (λ (z : List Part). IsSet line_of h z r.2) (append_assoc seen (p ∷ []) r.0) r.6,
      subst (λ (m : ℕ). AreSets m r.1 r.3) (one_on n p r.0) r.7,
      r.8,
    )

reads_inside : (n : ℕ) (line : List ℕ) (lines : List (List ℕ)) (p : Part) (draft : Option Draft) (next : State) (more : List SqlSet) → IsSaid line p → is_heading p ≡ false
    → take_inside p draft ≡ Some next → Reads (n + 1) lines next.1 more → Reads n (line ∷ lines) draft (next.0 ++ more)
reads_inside n line lines p None next more says plain is again =
    let idle = if_of {A = State} (is_idle p) ([], None) next is in
    subst (λ (q : State). Reads n (line ∷ lines) None (q.0 ++ more)) idle.1
    (reads_idle n line lines p more says idle.0 (subst (λ (q : State). Reads (n + 1) lines q.1 more) (sym idle.1) again))
reads_inside n line lines p (Some d) next more says plain is again =
    let had = map_of {B = State} (λ z. ([], Some z)) (with_part p d) next is in
    subst (λ (q : State). Reads n (line ∷ lines) (Some d) (q.0 ++ more)) had.2
    (reads_more n line lines p d had.0 more says plain had.1 (subst (λ (q : State). Reads (n + 1) lines q.1 more) (sym had.2) again))

reads_step : (n : ℕ) (line : List ℕ) (lines : List (List ℕ)) (p : Part) (draft : Option Draft) (next : State) (more : List SqlSet) → IsSaid line p
    → take_part n p draft ≡ Some next → Reads (n + 1) lines next.1 more → Reads n (line ∷ lines) draft (next.0 ++ more)
reads_step n line lines (ChangeSet h) draft next more says is again =
    let same : (let q : State = (closed_all draft, Some (begun n h)) in q) ≡ next = cc in
    subst (λ (q : State). Reads n (line ∷ lines) draft (q.0 ++ more)) same
    (reads_head n line lines h draft more says (subst (λ (q : State). Reads (n + 1) lines q.1 more) (sym same) again))
reads_step n line lines (Comment t) draft next more says is again = reads_inside n line lines (Comment t) draft next more says refl is again
reads_step n line lines (Conditions c) draft next more says is again = reads_inside n line lines (Conditions c) draft next more says refl is again
reads_step n line lines (Check e q) draft next more says is again = reads_inside n line lines (Check e q) draft next more says refl is again
reads_step n line lines (Rollback t) draft next more says is again = reads_inside n line lines (Rollback t) draft next more says refl is again
reads_step n line lines Note draft next more says is again = reads_inside n line lines Note draft next more says refl is again
reads_step n line lines (Body l) draft next more says is again = reads_inside n line lines (Body l) draft next more says refl is again

put_made : (ended sets : List SqlSet) (r : Result (List SqlSet) ℕ) → put_before ended r ≡ Ok sets → (more : List SqlSet) × (r ≡ Ok more) × (ended ++ more ≡ sets)
put_made ended sets (Ok more) is = let same : ended ++ more ≡ sets = cc in (more, refl, same)
put_made ended sets (Err n) is = absurd cc

read_made : (rest : Option Draft → Result (List SqlSet) ℕ) (n : ℕ) (o : Option State) (sets : List SqlSet) → read_on rest n o ≡ Ok sets
    → (next : State) × (o ≡ Some next) × (more : List SqlSet) × (rest next.1 ≡ Ok more) × (next.0 ++ more ≡ sets)
read_made rest n None sets is = absurd cc
read_made rest n (Some next) sets is = let p = put_made next.0 sets (rest next.1) is in (next, refl, p.0, p.1, p.2)

lines_read : (n : ℕ) (lines : List (List ℕ)) (draft : Option Draft) (sets : List SqlSet) → read_from n lines draft ≡ Ok sets → Reads n lines draft sets
unfolding read_from
lines_read n [] draft sets is = let same : closed_all draft ≡ sets = cc in subst (λ (z : List SqlSet). Reads n [] draft z) same (reads_end n draft)
lines_read n (line ∷ lines) draft sets is =
    let r = read_made (λ next. read_from (n + 1) lines next) n (take_line n line draft) sets is in
    let said = line_made n line draft r.0 r.1 in
    subst (λ (z : List SqlSet). Reads n (line ∷ lines) draft z) r.4 (reads_step n line lines said.0 draft r.0 r.2 said.1 said.2 (lines_read (n + 1) lines r.0.1 r.2 r.3))

pub lines_made : (lines : List (List ℕ)) (sets : List SqlSet) → read_from 2 lines None ≡ Ok sets → AreLines lines sets
lines_made lines sets is = lines_read 2 lines None sets is

-- ---- where the reading stops

-- the line at which it stops, whatever follows it; what stands before it is read
abbrev pub Stops : ℕ → List (List ℕ) → Option Draft → ℕ → Type 0
Stops n lines draft m =
    (front : List (List ℕ)) × (line : List ℕ) × (rest : List (List ℕ)) × (sets : List SqlSet) × (lines ≡ front ++ line ∷ rest) × (m ≡ n + length front)
    × (read_from n front draft ≡ Ok sets) × ((more : List (List ℕ)) → read_from n (front ++ line ∷ more) draft ≡ Err m)

put_err : (ended : List SqlSet) (m : ℕ) (r : Result (List SqlSet) ℕ) → put_before ended r ≡ Err m → r ≡ Err m
put_err ended m (Ok more) is = absurd cc
put_err ended m (Err n) is = let same : n ≡ m = cc in ap Err same

step_err : (n : ℕ) (line : List ℕ) (lines : List (List ℕ)) (draft : Option Draft) (next : State) (m : ℕ) → take_line n line draft ≡ Some next → read_from (n + 1) lines next.1 ≡ Err m → read_from n (line ∷ lines) draft ≡ Err m
unfolding read_from
step_err n line lines draft next m is rest = rw (is, rest) refl

stop_here : (n : ℕ) (line : List ℕ) (lines : List (List ℕ)) (draft : Option Draft) → take_line n line draft ≡ None → read_from n (line ∷ lines) draft ≡ Err n
unfolding read_from
stop_here n line lines draft is = rw is refl

stops_by : (n m : ℕ) (line : List ℕ) (lines : List (List ℕ)) (draft : Option Draft) (o : Option State) → take_line n line draft ≡ o
    → ((after : Option Draft) → read_from (n + 1) lines after ≡ Err m → Stops (n + 1) lines after m)
    → read_on (λ next. read_from (n + 1) lines next) n o ≡ Err m → Stops n (line ∷ lines) draft m
unfolding read_from
stops_by n m line lines draft None at again is =
    let here : n ≡ m = cc in
    let none : m ≡ n + length {A = List ℕ} [] = omega arith in
    ([], line, lines, closed_all draft, refl, none, refl, λ more. stop_here n line more draft at ∙ ap Err here)
stops_by n m line lines draft (Some next) at again is =
    let s = again next.1 (put_err next.0 m (read_from (n + 1) lines next.1) is) in
    let count : m ≡ n + length (line ∷ s.0) = omega (arith, s.5) in
    (line ∷ s.0, s.1, s.2, next.0 ++ s.3, ap (λ z. line ∷ z) s.4, count, goes_on n line s.0 draft next.1 next.0 s.3 at s.6, λ more. step_err n line (s.0 ++ s.1 ∷ more) draft next m at (s.7 more))

pub stops : (n m : ℕ) (lines : List (List ℕ)) (draft : Option Draft) → read_from n lines draft ≡ Err m → Stops n lines draft m
unfolding read_from
stops n m [] draft is = absurd cc
stops n m (line ∷ lines) draft is = stops_by n m line lines draft (take_line n line draft) refl (λ after. stops (n + 1) m lines after) is
