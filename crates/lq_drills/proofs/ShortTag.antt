-- The tag that a line of words sets is short, and an author in it is a label.
use Rattle.std.proofs.Common.{leb-true, refl, subst}
use Rattle.std.specs.Int.{is_in_range}
use Rattle.std.specs.Option.{option_and_then, option_map}
use Rattle.std.specs.Prelude.{Bool, IfSome, List, None, Option, Some, [], false, if◌then◌else◌, nat_le, not, true, ℕ, ◌&&◌, ◌∷◌, ◌≡◌, ◌≤◌}
use Rattle.lq_base.specs.Number.{char_count, has_control}
use Rattle.lq_base.specs.declared.command.Command.TheVariants as command
use Rattle.lq_base.specs.declared.command.Target.{Target}
use Rattle.lq_cli.specs.Line.{by_count, counting, drilling, generating, going, job_of, line_after, line_of, line_with, only_target, rollback, soak, tagging, to_date, to_tag}
use Rattle.lq_cli.specs.Options.{definitions, given_in, value, contexts_of, labels_of, number_from, properties_of, tag_of, url_of}
use Rattle.lq_cli.specs.Table.{author, context_filter, count, date, form_of, label_filter, number, runs, sets, tag, url, verb_of}
use Rattle.lq_cli.specs.declared.line.Job.{Job}
use Rattle.lq_cli.specs.declared.line.Job.TheVariants.{Drill, Generate, RollbackSql, Run, UpdateCount, UpdateTo}
use Rattle.lq_cli.specs.declared.line.Line.{Line}
use Rattle.lq_cli.specs.declared.verb.Verb.{Verb}
use Rattle.lq_cli.specs.declared.verb.Verb.TheVariants as verb
use Rattle.lq_kinds.specs.ChangeSets.{is_label}
use Rattle.lq_model.proofs.Lists.{and_left, and_right}
use Rattle.lq_jobs.specs.Jobs.{job_tag}

abbrev pub IsShort : List ℕ → Type 0
IsShort text = char_count text ≤ 255

abbrev pub IsLabel : List ℕ → Type 0
IsLabel text = is_label text ≡ true

abbrev pub IsSigned : Job → Type 0
IsSigned (Generate author) = IsLabel author
IsSigned _ = Unit {0}

abbrev pub HasShort : Job → Type 0
HasShort job = IfSome (job_tag job) IsShort × IsSigned job

abbrev pub IsShortLine : Line → Type 0
IsShortLine line = HasShort line.job

abbrev pub Any : {A : Type 0} → A → Type 0
Any a = Unit {0}

-- what holds of each answer of a step that follows holds of the answer
pub then_holds : {A B : Type 0} (Q : A → Type 0) (P : B → Type 0) (f : A → Option B) (o : Option A) → IfSome o Q → ((a : A) → Q a → IfSome (f a) P) → IfSome (option_and_then f o) P
then_holds Q P f None has goes = tt
then_holds Q P f (Some a) has goes = goes a has

pub any : {A : Type 0} (o : Option A) → IfSome o (λ (a : A). Unit {0})
any None = tt
any (Some a) = tt

pub if_holds : {A : Type 0} (P : A → Type 0) (b : Bool) (o : Option A) → IfSome o P → IfSome (if b then o else None) P
if_holds P true o has = has
if_holds P false o has = tt

-- texts of a tag

tag_by : (text : List ℕ) (b : Bool) → (b ≡ true → IsShort text) → IfSome (if b then Some text else None) IsShort
tag_by text true short = short refl
tag_by text false short = tt

short_in : (text : List ℕ) → (is_in_range 1 255 (char_count text) && not (has_control text)) ≡ true → IsShort text
short_in text is = leb-true (char_count text) 255 (and_right (nat_le 1 (char_count text)) (nat_le (char_count text) 255) (and_left (is_in_range 1 255 (char_count text)) (not (has_control text)) is))

tag_short : (text : List ℕ) → IfSome (tag_of text) IsShort
unfolding tag_of
tag_short text = tag_by text (is_in_range 1 255 (char_count text) && not (has_control text)) (short_in text)

label_in : (text : List ℕ) → (is_in_range 1 255 (char_count text) && not (has_control text)) ≡ true → IsLabel text
label_in text is = by (nat_le 1 (char_count text)) (nat_le (char_count text) 255) (not (has_control text)) is where
  by : (a b c : Bool) → ((a && b) && c) ≡ true → (a && (b && c)) ≡ true
  by true b c h = h
  by false b c h = h

label_by : (text : List ℕ) (b : Bool) → (b ≡ true → IsLabel text) → IfSome (if b then Some text else None) IsLabel
label_by text true label = label refl
label_by text false label = tt

tag_label : (text : List ℕ) → IfSome (tag_of text) IsLabel
unfolding tag_of
tag_label text = label_by text (is_in_range 1 255 (char_count text) && not (has_control text)) (label_in text)

-- jobs

goes_back : (o : Option Target) → IfSome (rollback o) HasShort
goes_back None = tt
goes_back (Some target) = (tt, tt)

prints_back : (o : Option Target) → IfSome (option_map RollbackSql o) HasShort
prints_back None = tt
prints_back (Some target) = (tt, tt)

sets_tag : (o : Option (List ℕ)) → IfSome o IsShort → IfSome (option_map (λ (t : List ℕ). Run (command.Tag t)) o) HasShort
sets_tag None short = tt
sets_tag (Some text) short = (short, tt)

tagging_short : (given : List _) → IfSome (tagging given) HasShort
unfolding tagging
tagging_short given = sets_tag (option_and_then tag_of (value given tag)) (then_holds Any IsShort tag_of (value given tag) (any (value given tag)) (λ text u. tag_short text))

drills : (o : Option (List ℕ)) → IfSome (option_map Drill o) HasShort
drills None = tt
drills (Some path) = (tt, tt)

counts : (o : Option ℕ) → IfSome (option_map UpdateCount o) HasShort
counts None = tt
counts (Some n) = (tt, tt)

counting_short : (given : List _) → IfSome (counting given) HasShort
unfolding counting
counting_short given = counts (option_and_then (number_from 0 4294967295) (value given count))

goes_to : (o : Option (List ℕ)) → IfSome (option_map UpdateTo o) HasShort
goes_to None = tt
goes_to (Some text) = (tt, tt)

going_short : (given : List _) → IfSome (going given) HasShort
unfolding going
going_short given = goes_to (option_and_then tag_of (value given tag))

generates : (o : Option (List ℕ)) → IfSome o IsLabel → IfSome (option_map Generate o) HasShort
generates None label = tt
generates (Some author) label = (tt, label)

generating_short : (given : List _) → IfSome (generating given) HasShort
unfolding generating
generating_short given = generates (option_and_then tag_of (value given author)) (then_holds Any IsLabel tag_of (value given author) (any (value given author)) (λ text u. tag_label text))

drilling_short : (given : List _) → IfSome (drilling given) HasShort
unfolding drilling
drilling_short given = drills (value given runs)

soak_short : (given : List _) → IfSome (soak given) HasShort
unfolding soak
soak_short given =
    then_holds Any HasShort _ (option_and_then (number_from 0 18446744073709551615) (value given number)) (any _) (λ n u.
    then_holds Any HasShort _ (option_and_then (number_from 1 10000) (value given sets)) (any _) (λ m v. (tt, tt)))

job_short : (v : Verb) (given : List _) → IfSome (job_of v given) HasShort
unfolding job_of
job_short verb.Validate given = (tt, tt)
job_short verb.Status given = (tt, tt)
job_short verb.Update given = (tt, tt)
job_short verb.UpdateSql given = (tt, tt)
job_short verb.UpdateCount given = counting_short given
job_short verb.UpdateToTag given = going_short given
job_short verb.ChangelogSync given = (tt, tt)
job_short verb.Rollback given = goes_back (option_and_then to_tag (value given tag))
job_short verb.RollbackCount given = goes_back (option_and_then by_count (value given count))
job_short verb.RollbackToDate given = goes_back (option_and_then to_date (value given date))
job_short verb.RollbackSql given = prints_back (only_target given)
job_short verb.Tag given = tagging_short given
job_short verb.ReleaseLocks given = (tt, tt)
job_short verb.UpdateTestingRollback given = (tt, tt)
job_short verb.UndoUnrecorded given = (tt, tt)
job_short verb.Snapshot given = (tt, tt)
job_short verb.ClearChecksums given = (tt, tt)
job_short verb.History given = (tt, tt)
job_short verb.GenerateChangelog given = generating_short given
job_short verb.Drill given = drilling_short given
job_short verb.Soak given = soak_short given

-- lines

with_short : (v : Verb) (given : List _) → IfSome (line_with v given) IsShortLine
unfolding line_with
with_short v given =
    then_holds Any IsShortLine _ (option_and_then url_of (value given url)) (any _) (λ place u.
    then_holds HasShort IsShortLine _ (job_of v given) (job_short v given) (λ job short.
    then_holds Any IsShortLine _ (contexts_of (value given context_filter)) (any _) (λ contexts w.
    then_holds Any IsShortLine _ (labels_of (value given label_filter)) (any _) (λ labels x.
    then_holds Any IsShortLine _ (properties_of (definitions given)) (any _) (λ properties y. short)))))

after_short : (v : Verb) (words : List (List ℕ)) → IfSome (line_after v words) IsShortLine
unfolding line_after
after_short v words =
    then_holds Any IsShortLine (line_with v) (given_in (form_of v) words) (any _) (λ given u. with_short v given)

pub of_short : (words : List (List ℕ)) → IfSome (line_of words) IsShortLine
unfolding line_of
of_short [] = tt
of_short (name ∷ words) = then_holds Any IsShortLine (λ v. line_after v words) (verb_of name) (any _) (λ v u. after_short v words)

pub short_tag : (words : List (List ℕ)) (line : Line) → line_of words ≡ Some line → IfSome (job_tag line.job) (λ tag. char_count tag ≤ 255)
short_tag words line is = (subst (λ o. IfSome o IsShortLine) is (of_short words)).0

pub signed_line : (words : List (List ℕ)) (line : Line) → line_of words ≡ Some line → IsSigned line.job
signed_line words line is = (subst (λ o. IfSome o IsShortLine) is (of_short words)).1
