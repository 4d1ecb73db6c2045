-- What has been gathered of a changelog.
use Rattle.std.specs.List.{All, starts_with}
use Rattle.std.specs.Prelude.{Bool, Err, List, None, Ok, Option, Result, Some, [], codes, cond, eqb, false, if◌then◌else◌, length, nat_lt, option_and_then, true, ℕ, ◌++◌, ◌==◌, ◌∷◌, ◌≡◌, ◌≤◌}
use Rattle.std.specs.Str.{IsUtf8, bytes_eq}
use Rattle.lq_base.specs.Kind.{plain_number}
use Rattle.lq_base.specs.Number.{char_count}
use Rattle.lq_base.specs.declared.dialect.Dialect.{Dialect}
use Rattle.lq_base.specs.declared.fault.KindFault.TheVariants.{Bad, OutOfMemory, Unknown}
use Rattle.lq_base.specs.declared.run.OnFail.{OnFail}
use Rattle.lq_base.specs.declared.run.OnFail.TheVariants.{Halt}
use Rattle.lq_cond.specs.declared.cond.Cond.{Cond}
use Rattle.lq_cond.specs.declared.cond.Cond.TheVariants.{And}
use Rattle.lq_cond.specs.declared.cond.Reaction.{Reaction}
use Rattle.lq_contents.specs.Trees.{file_tree, own_reaction}
use Rattle.lq_any.specs.AnyChange.{gives}
use Rattle.lq_kinds.specs.ChangeSets.{is_label, old_sum_of, set_of, sum_of}
use Rattle.lq_kinds.specs.Changes.{here_at, is_read}
use Rattle.lq_any.specs.declared.any_change.AnyChange.{AnyChange}
use Rattle.lq_any.specs.declared.any_change.AnyChange.TheVariants.{TagDatabase}
use Rattle.lq_kinds.specs.declared.change_set.ChangeSet.{ChangeSet}
use Rattle.lq_kinds.specs.declared.change_set.Changelog.{Changelog}
use Rattle.lq_kinds.specs.declared.fault.SetFault.{SetFault}
use Rattle.lq_kinds.specs.declared.fault.SetFault.TheVariants as set
use Rattle.lq_paths.specs.Paths.{format_of}
use Rattle.lq_paths.specs.declared.path.Format.{Format}
use Rattle.lq_paths.specs.declared.path.Format.TheVariants.{Json, Sql, Yaml}
use Rattle.lq_sources.specs.Faults.{Loaded, Source, by_keys, ◌>>=◌}
use Rattle.lq_sources.specs.Items.{Meaning, entry_of}
use Rattle.lq_sources.specs.Walk.{walked}
use Rattle.lq_sources.specs.declared.fault.Lack.{Lack}
use Rattle.lq_sources.specs.declared.fault.Lack.TheVariants.{File, Wrong}
use Rattle.lq_sources.specs.declared.fault.What.{What}
use Rattle.lq_sources.specs.declared.fault.What.TheVariants.{BadPath, Key, Line}
use Rattle.lq_tree.specs.Look.{placed, value_at, within_list}
use Rattle.lq_tree.specs.declared.node.Node.{Node}

pub record Contents : Type 0 where
  -- the conditions of all files
  pub conds : List Cond
  -- what the root says
  pub on_fail : OnFail
  pub on_error : OnFail
  pub sets : List ChangeSet

-- What a changelog gathers of its items.

-- one changeset more, if it is not to be ignored
abbrev pub with_set : Option ChangeSet → Contents → Contents
with_set None g = g
with_set (Some set) g = record g { sets = g.sets ++ set ∷ [] }

-- the conditions of each file join those before; only the root says how they are reacted to
abbrev pub with_reaction : Bool → Reaction → Contents → Contents
with_reaction is_root r g =
    if is_root then record { conds = g.conds ++ r.cond ∷ []; on_fail = r.on_fail; on_error = r.on_error; sets = g.sets }
    else record g { conds = g.conds ++ r.cond ∷ [] }

-- a changeset of a tree, whose faults begin with its item's key; a file that it loads is that of an include
abbrev pub in_tree : {A : Type 0} → Result A SetFault → Result A Lack
in_tree (Ok a) = Ok a
in_tree (Err (set.InKeys fault)) = Err (Wrong (Key (placed (codes "changeSet") fault)))
in_tree (Err set.BadPath) = Err (Wrong BadPath)
in_tree (Err (set.Wants file relative)) = Err (File (record { path = file; relative = relative }))

-- with the bytes of the files that it loads, as far as they are given
unfoldable pub tree_set : Dialect → List (List ℕ) → List ℕ → Node → Result (Option ChangeSet) Lack
tree_set d given path n = in_tree (set_of d path given n)

-- a fault of a changeset of formatted SQL is at the line at which it begins; it has no load, and so wants no file
abbrev pub what_at : ℕ → SetFault → What
what_at line (set.InKeys OutOfMemory) = Key OutOfMemory
what_at line (set.InKeys fault) = Line line
what_at line set.BadPath = BadPath
what_at line (set.Wants file relative) = Line line

abbrev pub at_line : {A : Type 0} → ℕ → Result A SetFault → Result A What
at_line line (Ok a) = Ok a
at_line line (Err fault) = Err (what_at line fault)

-- the number of a line
abbrev pub line_of : List ℕ → Option ℕ
line_of key = option_and_then (λ n. if nat_lt n 18446744073709551616 then Some n else None) (plain_number key)

abbrev pub no_line : {A : Type 0} → Result A What
no_line = Err (Key (Bad (codes "changeSet")))

-- a map of a changeset's keys; none such is missing in what comes from a file
abbrev pub part_in : Dialect → List ℕ → Option Node → Result (Option ChangeSet) SetFault
part_in d path None = Err (set.InKeys (Bad []))
part_in d path (Some n) = set_of d path [] n

abbrev pub then_set : {A : Type 0} → Result (Option ChangeSet) SetFault → Result A SetFault → Result A SetFault
then_set (Ok _) next = next
then_set (Err fault) next = Err fault

-- a change that has no statement
abbrev pub is_idle : Dialect → List AnyChange → Bool
is_idle d (x ∷ []) = length (gives d x) == 0
is_idle d _ = false

-- a body that holds no statement is no change
abbrev pub without_idle : Dialect → Option ChangeSet → Option ChangeSet
without_idle d None = None
without_idle d (Some x) = if is_idle d x.changes then Some (record x { changes = []; sum = sum_of []; old_sum = old_sum_of [] }) else Some x

abbrev pub map_set : (Option ChangeSet → Option ChangeSet) → Result (Option ChangeSet) SetFault → Result (Option ChangeSet) SetFault
map_set f (Ok found) = Ok (f found)
map_set f (Err fault) = Err fault

abbrev pub is_there : Dialect → Option Node → Bool
is_there d None = false
is_there d (Some n) = is_read d n

unfoldable pub away : Dialect → List ℕ → Node → Result (Option ChangeSet) SetFault
away d path n = part_in d path (value_at (codes "elsewhere") n)

-- a fault of its path is told before those of its body, its checks and its rollback
unfoldable pub at_home : Dialect → List ℕ → Node → Result (Option ChangeSet) SetFault
at_home d path n = then_set (away d path n) (map_set (without_idle d) (part_in d path (value_at (codes "here") n)))

-- a changeset as its heading, what it is elsewhere, and what it is here: a fault of the heading is told first
unfoldable pub parts_set : Dialect → List ℕ → Node → Result (Option ChangeSet) SetFault
parts_set d path n =
    then_set (part_in d path (value_at (codes "heading") n)) (cond (is_there d (value_at (codes "elsewhere") n)) (at_home d path n) (away d path n))

abbrev pub under_line : Dialect → List ℕ → Option (List ℕ × Node) → Result (Option ChangeSet) What
under_line d path None = no_line
under_line d path (Some e) = elim (line_of e.0) [ None ↦ no_line | Some line ↦ at_line line (parts_set d path e.1) ]

-- a changeset of formatted SQL stands under the number of its line
unfoldable pub sql_set : Dialect → List ℕ → Node → Result (Option ChangeSet) What
sql_set d path n = under_line d path (entry_of n)

-- what is wrong keeps an item from being gathered
abbrev pub wrongly : {A : Type 0} → Result A What → Result A Lack
wrongly (Ok a) = Ok a
wrongly (Err what) = Err (Wrong what)

abbrev pub set_by : Option Format → Dialect → List (List ℕ) → List ℕ → Node → Result (Option ChangeSet) Lack
set_by (Some Sql) d given path n = wrongly (sql_set d path n)
set_by (Some Json) d given path n = tree_set d given path n
set_by (Some Yaml) d given path n = tree_set d given path n
set_by None d given path n = tree_set d given path n

-- a changeset of the file at a path, which is its own path where it has no other
unfoldable pub set_in : Dialect → List (List ℕ) → List ℕ → Node → Result (Option ChangeSet) Lack
set_in d given path n = cond (is_label path) (set_by (format_of path) d given path n) (Err (Wrong BadPath))

unfoldable pub reaction_in : Dialect → Node → Result Reaction What
reaction_in d n = by_keys (within_list (codes "preConditions") (own_reaction d n))

abbrev pub map_made : {A B : Type 0} → (A → B) → Result A Lack → Result B Lack
map_made f (Ok a) = Ok (f a)
map_made f (Err lack) = Err lack

-- an item by its key, with the bytes of the files that it loads
abbrev pub gathers : Dialect → List (List ℕ) → Bool → List ℕ → List ℕ → Node → Contents → Result Contents Lack
gathers d given is_root path key n g =
    if bytes_eq key (codes "changeSet") then map_made (λ found. with_set found g) (set_in d given path n)
    else if bytes_eq key (codes "preConditions") then map_made (λ found. with_reaction is_root found g) (wrongly (reaction_in d n))
    else Err (Wrong (Key (Unknown key)))

abbrev pub meaning : Dialect → Meaning Contents
meaning d = record { tree = file_tree; here = here_at d; gathers = gathers d }

-- The changelog that the files below a root hold, or its first fault.

-- before the root is read
abbrev pub nothing : Contents
nothing = record { conds = []; on_fail = Halt; on_error = Halt; sets = [] }

-- all conditions have to hold
abbrev pub changelog_of : Contents → Changelog
changelog_of g = record { cond = And g.conds; on_fail = g.on_fail; on_error = g.on_error; sets = g.sets }

unfoldable pub changelog : Source → List ℕ → Dialect → List (List ℕ × List ℕ) → Loaded Changelog
changelog source root d given = walked (meaning d) source root given nothing >>= (λ g. Ok (changelog_of g))

-- What holds of the texts of a changeset that was loaded.

-- the tag that a change sets is short
abbrev pub HasShortTag : AnyChange → Type 0
HasShortTag (TagDatabase x) = char_count x.tag ≤ 255
HasShortTag _ = Unit {0}

-- the texts that a changeset's row takes over whole are short, and those that it cuts are UTF-8
pub record HasShortTexts (x : ChangeSet) : Type 0 where
  pub file : char_count x.identity.file ≤ 255
  pub id : char_count x.identity.id ≤ 255
  pub author : char_count x.identity.author ≤ 255
  -- `P2:` and 32 hexadecimal digits
  pub sum : char_count x.sum ≤ 35
  pub form : starts_with eqb x.sum (codes "P2:") ≡ true
  pub tags : All HasShortTag x.changes
  pub comment : IsUtf8 x.comment
  pub contexts : IsUtf8 x.context_text
  pub labels : IsUtf8 x.labels_text
