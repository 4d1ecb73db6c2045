-- One line after another.
use Rattle.std.proofs.Common.{◌≡◌, ◌∙◌, ◌+◌, Bool, true, false, cond, List, [], ◌∷◌, ◌++◌, Option, Some, None, option_map, option_and_then, Result, Ok, Err, ℕ, refl, sym, ap, subst, append-nil, append_assoc}
use Rattle.lq_sqlfile.specs.File.{is_idle, begun, closed_all, put_before, read_from, read_on, take_inside, take_line, take_part, text_in, with_part}
use Rattle.lq_sqlfile.specs.Lines.{part_of}
use Rattle.lq_sqlfile.specs.View.{Takes}
use Rattle.lq_sqlfile.specs.declared.draft.Draft.{Draft}
use Rattle.lq_sqlfile.specs.declared.file.SqlSet.{SqlSet}
use Rattle.lq_sqlfile.specs.declared.part.Heading.{Heading}
use Rattle.lq_sqlfile.specs.declared.part.Part.{Part}
use Rattle.lq_sqlfile.specs.declared.part.Part.TheVariants.{ChangeSet}
use Rattle.lq_sqlfile.specs.declared.reading.Reader.{Reader}

abbrev at : List SqlSet → Option Draft → Reader
at sets draft = record { sets = sets; draft = draft }

abbrev with_draft : Option Draft → List SqlSet → Option (List SqlSet × Option Draft)
with_draft draft sets = Some (sets, draft)

nothing_more : (sets : List SqlSet) (draft : Option Draft) → with_draft draft (sets ++ []) ≡ with_draft draft sets
nothing_more sets draft = ap (with_draft draft) (append-nil sets)

pub idle_step : (part : Part) (draft after : Option Draft) (sets : List SqlSet) (b : Bool) → draft ≡ None → after ≡ None → b ≡ is_idle part
    → Takes b (take_inside part draft) (at sets draft) (at sets after)
idle_step part draft after sets b none left is =
    subst (λ (d : Option Draft). Takes b (take_inside part d) (at sets d) (at sets after)) (sym none)
    (subst (λ (d : Option Draft). Takes b (take_inside part None) (at sets None) (at sets d)) (sym left)
    (subst (λ (t : Bool). Takes t (take_inside part None) (at sets None) (at sets None)) (sym is) (by (is_idle part))))
  where
    by : (t : Bool) → Takes t (cond t (Some ([], None)) None) (at sets None) (at sets None)
    by true = nothing_more sets None
    by false = refl

pub next_step : (part : Part) (draft : Option Draft) (d next : Draft) (sets : List SqlSet) → draft ≡ Some d → with_part part d ≡ Some next
    → Takes true (take_inside part draft) (at sets draft) (at sets (Some next))
next_step part draft d next sets some is =
    subst (λ (o : Option Draft). Takes true (take_inside part o) (at sets o) (at sets (Some next))) (sym some)
    (subst (λ (o : Option Draft). Takes true (option_map {U = List SqlSet × Option Draft} (λ z. ([], Some z)) o) (at sets (Some d)) (at sets (Some next))) (sym is) (nothing_more sets (Some next)))

pub stuck_step : (part : Part) (draft : Option Draft) (d : Draft) (old new : Reader) → draft ≡ Some d → with_part part d ≡ None → Takes false (take_inside part draft) old new
stuck_step part draft d old new some is = ap (take_inside part) some ∙ ap (option_map {U = List SqlSet × Option Draft} (λ z. ([], Some z))) is

pub head_step : (n : ℕ) (h : Heading) (part : Part) (draft : Option Draft) (sets next : List SqlSet) (opened : Draft) → part ≡ ChangeSet h → next ≡ sets ++ closed_all draft → opened ≡ begun n h
    → Takes true (take_part n part draft) (at sets draft) (at next (Some opened))
head_step n h part draft sets next opened heads is begins =
    subst (λ (p : Part). Takes true (take_part n p draft) (at sets draft) (at next (Some opened))) (sym heads)
    (let same : with_draft (Some (begun n h)) (sets ++ closed_all draft) ≡ with_draft (Some opened) next = rw (is, begins) refl in same)

pub bad_line : (n : ℕ) (line : List ℕ) (draft : Option Draft) → text_in line ≡ None → take_line n line draft ≡ None
unfolding take_line
bad_line n line draft is = ap (λ (o : Option (List ℕ)). option_and_then (λ part. take_part n part draft) (option_and_then part_of o)) is

pub wrong_line : (n : ℕ) (line text : List ℕ) (draft : Option Draft) → text_in line ≡ Some text → part_of text ≡ None → take_line n line draft ≡ None
unfolding take_line
wrong_line n line text draft is none =
    ap (λ (o : Option (List ℕ)). option_and_then (λ part. take_part n part draft) (option_and_then part_of o)) is
    ∙ ap (option_and_then (λ part. take_part n part draft)) none

pub right_line : (n : ℕ) (line text : List ℕ) (part : Part) (draft : Option Draft) → text_in line ≡ Some text → part_of text ≡ Some part → take_line n line draft ≡ take_part n part draft
unfolding take_line
right_line n line text part draft is some =
    ap (λ (o : Option (List ℕ)). option_and_then (λ p. take_part n p draft) (option_and_then part_of o)) is
    ∙ ap (option_and_then (λ p. take_part n p draft)) some

-- ---- the loop

put_twice : (sets closed : List SqlSet) (r : Result (List SqlSet) ℕ) → put_before sets (put_before closed r) ≡ put_before (sets ++ closed) r
put_twice sets closed (Ok more) = ap Ok (sym (append_assoc sets closed more))
put_twice sets closed (Err n) = refl

on_step : (n : ℕ) (behind : List (List ℕ)) (sets next : List SqlSet) (draft : Option Draft) (o : Option (List SqlSet × Option Draft))
    → option_map {U = List SqlSet × Option Draft} (λ p. (sets ++ p.0, p.1)) o ≡ Some (next, draft)
    → put_before sets (read_on (λ d. read_from (n + 1) behind d) n o) ≡ put_before next (read_from (n + 1) behind draft)
on_step n behind sets next draft None is = absurd cc
on_step n behind sets next draft (Some p) is =
    let same : (sets ++ p.0, p.1) ≡ (let q : List SqlSet × Option Draft = (next, draft) in q) = cc in
    put_twice sets p.0 (read_from (n + 1) behind p.1) ∙ ap (λ (q : List SqlSet × Option Draft). put_before q.0 (read_from (n + 1) behind q.1)) same

pub line_taken : (n : ℕ) (all : List (List ℕ)) (line : List ℕ) (behind : List (List ℕ)) (sets next : List SqlSet) (draft after : Option Draft) → all ≡ line ∷ behind
    → Takes true (take_line n line draft) (at sets draft) (at next after)
    → put_before sets (read_from n all draft) ≡ put_before next (read_from (n + 1) behind after)
unfolding read_from
line_taken n all line behind sets next draft after is took =
    ap (λ (ls : List (List ℕ)). put_before sets (read_from n ls draft)) is ∙ on_step n behind sets next after (take_line n line draft) took

pub line_wrong : (n : ℕ) (all : List (List ℕ)) (line : List ℕ) (behind : List (List ℕ)) (sets : List SqlSet) (draft : Option Draft) → all ≡ line ∷ behind
    → take_line n line draft ≡ None → put_before sets (read_from n all draft) ≡ Err n
unfolding read_from
line_wrong n all line behind sets draft is none =
    ap (λ (ls : List (List ℕ)). put_before sets (read_from n ls draft)) is ∙ ap (λ (o : Option (List SqlSet × Option Draft)). put_before sets (read_on (λ d. read_from (n + 1) behind d) n o)) none

pub lines_end : (n : ℕ) (all : List (List ℕ)) (sets next : List SqlSet) (draft : Option Draft) → all ≡ [] → next ≡ sets ++ closed_all draft → put_before sets (read_from n all draft) ≡ Ok next
unfolding read_from
lines_end n all sets next draft is ends = ap (λ (ls : List (List ℕ)). put_before sets (read_from n ls draft)) is ∙ ap Ok (sym ends)
