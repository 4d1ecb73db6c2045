-- Which changesets a command selects.
use Rattle.std.specs.List.{join_by, list_all}
use Rattle.std.specs.Option.{option_or}
use Rattle.std.specs.Prelude.{Bool, List, None, Option, Some, [], codes, false, length, map, true, ℕ, ◌&&◌, ◌==◌, ◌||◌, ◌∷◌, ◌≡◌}
use Rattle.lq_base.specs.Name.{is_text}
use Rattle.lq_base.specs.declared.dialect.Dialect.{Dialect}
use Rattle.lq_base.specs.declared.run.OnFail.{OnFail}
use Rattle.lq_cond.specs.Told.{told as told_by}
use Rattle.lq_cond.specs.declared.cond.Cond.{Cond}
use Rattle.lq_expr.specs.Spelled.{holds}
use Rattle.lq_expr.specs.declared.expr.Expr.{Expr}
use Rattle.lq_expr.specs.declared.options.Options.{Options}
use Rattle.lq_any.specs.AnyChange.{canonical_of, effect, gives, inverse, is_for, is_fresh}
use Rattle.lq_kinds.specs.ReadFor.{AreFor}
use Rattle.lq_any.specs.declared.any_change.AnyChange.{AnyChange}
use Rattle.lq_any.specs.declared.any_change.AnyChange.TheVariants.{TagDatabase}
use Rattle.lq_kinds.specs.declared.change_set.ChangeSet.{ChangeSet}
use Rattle.lq_kinds.specs.declared.change_set.Changelog.{Changelog}
use Rattle.lq_model.specs.Step.{is_statement}
use Rattle.lq_model.specs.declared.statement.Statement.{Statement}
use Rattle.lq_turns.specs.Laws.{AreRead}
use Rattle.lq_turns.specs.Set.{Changelog as Log, Condition, Meaning, Set, is_old_form, meaning, statements_of, sum_by_form}
use Rattle.lq_turns.specs.declared.deed.OnRows.{OnRows}
use Rattle.lq_turns.specs.declared.turn.Turn.{Turn}

-- the expression holds for the names; without an expression, and without names, nothing is asked
abbrev pub is_met : Option Expr → List (List ℕ) → Bool
is_met None names = true
is_met (Some e) names = length names == 0 || holds names e

-- it is for the dialect, its context holds for the command's names, and the command's label expression for its labels
abbrev pub is_selected : Options → ChangeSet → Bool
is_selected options set = set.here && (is_met set.context options.contexts && is_met options.labels set.labels)

-- A changeset and a changelog of changes of any type, as the commands see them.

-- what changes of any type do
abbrev pub any_meaning : Meaning AnyChange
any_meaning = meaning is_for gives effect is_fresh inverse

-- the name of its type
abbrev pub type_name : AnyChange → List ℕ
type_name x = (canonical_of x).name

-- the names of the types, joined with a comma and a blank
abbrev pub described : List AnyChange → List ℕ
described xs = join_by type_name (codes ", ") xs

-- the tag that a change sets
abbrev pub tag_by : AnyChange → Option (List ℕ)
tag_by (TagDatabase x) = Some x.tag
tag_by _ = None

-- the tag that one of the changes sets
abbrev pub tag_of : List AnyChange → Option (List ℕ)
tag_of [] = None
tag_of (x ∷ xs) = option_or (tag_by x) (tag_of xs)

-- a condition, told of the users' objects and the rows
abbrev pub condition_of : Dialect → Cond → OnFail → OnFail → Condition
condition_of d asked on_fail on_error = record { told = λ c. told_by d asked c.users c.rows; on_fail = on_fail; on_error = on_error }

-- A changeset for a command's options. A stored sum is its own where it is the text of the sum of the same form.
abbrev pub view : Options → ChangeSet → Set AnyChange
view options x = record {
  identity = x.identity;
  here = x.here;
  selected = is_selected options x;
  changes = x.changes;
  rollback = x.rollback;
  condition = condition_of options.dialect x.cond x.on_fail x.on_error;
  run_always = x.run_always;
  run_on_change = x.run_on_change;
  fail_on_error = x.fail_on_error;
  in_transaction = x.in_transaction;
  sum = x.sum;
  is_own_sum = λ stored. is_text stored (sum_by_form x.old_sum x.sum stored);
  is_old_sum = is_old_form;
  sum_like = sum_by_form x.old_sum x.sum;
  valid_sums = x.valid_sums;
  description = described x.changes;
  comments = x.comment;
  tag = tag_of x.changes;
  contexts = x.context_text;
  labels = x.labels_text;
}

abbrev pub views : Options → List ChangeSet → List (Set AnyChange)
views options xs = map (view options) xs

abbrev pub view_log : Options → Changelog → Log AnyChange
view_log options g = record { condition = condition_of options.dialect g.cond g.on_fail g.on_error; sets = views options g.sets }

-- For which dialect are what the commands see and what they run.

-- what the commands see of a changelog was read for the dialect that the changelog was read for
abbrev pub ViewsAreRead : Type 0
ViewsAreRead = (d : Dialect) (options : Options) (g : Changelog) → AreFor d g → AreRead d any_meaning (view_log options g).sets

-- the statements of changes that were read for a dialect are statements of it
abbrev pub StatementsAreSpelled : Type 0
StatementsAreSpelled = (d : Dialect) (xs : List AnyChange) → list_all (is_for d) xs ≡ true → list_all (is_statement d) (statements_of d any_meaning xs) ≡ true

-- Turns of changesets.

-- a turn of the changeset with these statements, and this for its row
abbrev pub turn_of : ChangeSet → List Statement → Bool → OnRows → Turn
turn_of x statements in_transaction row = record { identity = x.identity; statements = statements; in_transaction = in_transaction; is_undo = false; row = row }
