-- The texts of a changelog that was loaded go into the columns of its rows.
use Rattle.std.proofs.Common.{arith}
use Rattle.std.proofs.lemmas.List.Elements.{All-map}
use Rattle.std.specs.List.{All}
use Rattle.std.specs.Option.{option_or}
use Rattle.std.specs.Prelude.{IfSome, List, Option, [], slice_index_or, suc, ℕ, ◌∷◌, ◌≤◌}
use Rattle.lq_base.specs.Number.{char_count}
use Rattle.lq_beside.specs.Replays.{HasTexts}
use Rattle.lq_expr.specs.declared.options.Options.{Options}
use Rattle.lq_any.specs.declared.any_change.AnyChange.{AnyChange}
use Rattle.lq_any.specs.declared.any_change.AnyChange.TheVariants.{TagDatabase}
use Rattle.lq_kinds.specs.declared.change_set.ChangeSet.{ChangeSet}
use Rattle.lq_kinds.specs.declared.change_set.Changelog.{Changelog}
use Rattle.lq_seen.specs.View.{tag_by, tag_of, view, view_log}
use Rattle.lq_changelog.proofs.Names.{names_utf8}
use Rattle.lq_changelog.specs.Gathers.{HasShortTag, HasShortTexts}

abbrev IsShort : Option (List ℕ) → Type 0
IsShort tag = IfSome tag (λ t. char_count t ≤ 255)

first_tag : (x : AnyChange) (more : Option (List ℕ)) → HasShortTag x → IsShort more → IsShort (option_or (tag_by x) more)
first_tag (TagDatabase x) more short rest = short
first_tag _ more short rest = rest

tag_is_short : (xs : List AnyChange) → All HasShortTag xs → IsShort (tag_of xs)
tag_is_short [] all = tt
tag_is_short (x ∷ xs) all = first_tag x (tag_of xs) (all 0 x (omega arith)) (tag_is_short xs (λ k d less. all (suc k) d (omega (arith, less))))

set_has : (options : Options) (x : ChangeSet) → HasShortTexts x → HasTexts (view options x)
set_has options x short = record {
  file = short.file;
  id = short.id;
  author = short.author;
  sum = short.sum;
  tag = tag_is_short x.changes short.tags;
  description = names_utf8 x.changes;
  comments = short.comment;
  contexts = short.contexts;
  labels = short.labels;
}

pub view_has : (options : Options) (g : Changelog) → All HasShortTexts g.sets → All HasTexts (view_log options g).sets
view_has options g short = All-map HasTexts (view options) g.sets (λ k d less. set_has options (slice_index_or g.sets k d) (short k d less))
