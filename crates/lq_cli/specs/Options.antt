-- The options that the words after a command's name give, as `clap` reads them.
use Rattle.std.specs.Int.{is_in_range}
use Rattle.std.specs.List.{list_all}
use Rattle.std.specs.Prelude.{Bool, List, None, Option, Some, [], codes, false, if◌then◌else◌, map, nat_le, not, option_and_then, option_map, true, ℕ, ◌&&◌, ◌++◌, ◌==◌, ◌||◌, ◌∷◌}
use Rattle.clap.specs.Faults.{fault_of}
use Rattle.clap.specs.Kinds.{Kinds}
use Rattle.clap.specs.Simple.{App, matches_of, new_shape}
use Rattle.clap.specs.Walk.{Row, Rule, Text, all_of, first_of}
use Rattle.lq_base.specs.Kind.{plain_number}
use Rattle.lq_base.specs.Number.{char_count, has_control}
use Rattle.lq_base.specs.declared.dialect.Dialect.{Dialect}
use Rattle.lq_base.specs.declared.dialect.Dialect.TheVariants.{Mysql, Postgresql}
use Rattle.lq_cli.specs.Job.{found}
use Rattle.lq_cli.specs.Table.{Form}
use Rattle.lq_expr.specs.Grammar.{parsed, parsed_names}
use Rattle.lq_expr.specs.declared.expr.Expr.{Expr}
use Rattle.lq_option.specs.Rules.{define, define_id, option}

abbrev pub define_rules : Bool → List Rule
define_rules true = define ∷ []
define_rules false = []

abbrev pub rules_of : Form → List Rule
rules_of form = map (option true) form.required ++ map (option false) form.optional ++ define_rules form.defines

-- a command with these options, without help and positional words
unfoldable pub command_of : List Rule → App
command_of rules = record {
  top = record (new_shape (codes "liquibase")) { no_binary_name = true; disable_help_flag = true; rules = rules };
  subs = [];
}

-- what stands after a first `-`: `-` and more, or `D` and more that is not `=`
abbrev pub is_option_rest : Text → Bool
is_option_rest (b ∷ c ∷ rest) = (b == 45) || ((b == 68) && not (c == 61))
is_option_rest _ = false

-- a word that does not begin with `-`, or one that is written as an option
abbrev pub is_plain_word : Text → Bool
is_plain_word [] = true
is_plain_word (b ∷ rest) = not (b == 45) || is_option_rest rest

abbrev pub are_plain : List Text → Bool
are_plain words = list_all is_plain_word words

abbrev pub unless_faults : Kinds → List Row → Option (List Row)
unless_faults [] rows = Some rows
unless_faults (k ∷ ks) rows = None

-- what a command finds in words, where it finds no fault in them
unfoldable pub matched : App → List Text → Option (List Row)
matched app words = unless_faults (fault_of app words) (matches_of app words)

-- what the words give, where they are plain and of this form
unfoldable pub given_in : Form → List Text → Option (List Row)
given_in form words = if are_plain words then matched (command_of (rules_of form)) words else None

-- the value of an option, where it was given
unfoldable pub value : List Row → Text → Option Text
value given name = first_of name given

-- the values of `-D`, in order
unfoldable pub definitions : List Row → Option (List Text)
definitions given = all_of define_id given

-- What the value of each option says.

-- what stands after a start, where the text begins so
abbrev pub after : List ℕ → List ℕ → Option (List ℕ)
after [] text = Some text
after (p ∷ ps) [] = None
after (p ∷ ps) (b ∷ bs) = if p == b then after ps bs else None

abbrev pub not_empty : List ℕ → Option (List ℕ)
not_empty [] = None
not_empty (b ∷ bs) = Some (b ∷ bs)

-- the first of the two that is there
abbrev pub or_else : {A : Type 0} → Option A → Option A → Option A
or_else (Some a) other = Some a
or_else None other = other

-- what stands after a start, at least one byte
unfoldable pub file_after : List ℕ → List ℕ → Option (List ℕ)
file_after start text = option_and_then not_empty (after start text)

abbrev pub file_of : Dialect → List ℕ → List ℕ → Option (Dialect × List ℕ)
file_of dialect start text = option_map (λ file. (dialect, file)) (file_after start text)

-- `postgresql:FILE` or `mysql:FILE`
unfoldable pub url_of : List ℕ → Option (Dialect × List ℕ)
url_of text = or_else (file_of Postgresql (codes "postgresql:") text) (file_of Mysql (codes "mysql:") text)

-- a number from this one to that one in decimal digits, without a leading zero
unfoldable pub number_from : ℕ → ℕ → List ℕ → Option ℕ
number_from least most text = option_and_then (λ n. if nat_le least n && nat_le n most then Some n else None) (plain_number text)

-- 1 to 255 characters, none a control character
unfoldable pub tag_of : List ℕ → Option (List ℕ)
tag_of text = if is_in_range 1 255 (char_count text) && not (has_control text) then Some text else None

-- names with commas between; none where the option is not given
unfoldable pub contexts_of : Option (List ℕ) → Option (List (List ℕ))
contexts_of None = Some []
contexts_of (Some text) = found (parsed_names text)

-- an expression; none where the option is not given
unfoldable pub labels_of : Option (List ℕ) → Option (Option Expr)
labels_of None = Some None
labels_of (Some text) = option_map (λ expr. Some expr) (found (parsed text))

-- a byte before the parts
abbrev pub before : ℕ → Option (List ℕ × List ℕ) → Option (List ℕ × List ℕ)
before b parts = option_map (λ parts. (b ∷ parts.0, parts.1)) parts

-- the text before the first such mark, and that behind it
unfoldable pub cut_at : ℕ → List ℕ → Option (List ℕ × List ℕ)
cut_at mark [] = None
cut_at mark (b ∷ bs) = if b == mark then Some ([], bs) else before b (cut_at mark bs)

abbrev pub with_name : List ℕ × List ℕ → Option (List ℕ × List ℕ)
with_name parts = option_map (λ name. (name, parts.1)) (not_empty parts.0)

-- `name=value`, with a name of at least one byte before the first `=`
unfoldable pub definition_of : List ℕ → Option (List ℕ × List ℕ)
definition_of text = option_and_then with_name (cut_at 61 text)

-- each one, if each is there
abbrev pub each : {A B : Type 0} → (A → Option B) → List A → Option (List B)
each f [] = Some []
each f (a ∷ as_) = option_and_then (λ b. option_map (λ more. b ∷ more) (each f as_)) (f a)

-- the definitions; none where `-D` is not given
unfoldable pub properties_of : Option (List (List ℕ)) → Option (List (List ℕ × List ℕ))
properties_of None = Some []
properties_of (Some texts) = each definition_of texts
