-- The examples, by what is computed of them.
use Rattle.std.proofs.Common.{◌≡◌, ℕ, ◌≤◌, List, Option, Some, None, option_and_then, refl, ap, ◌∙◌, arith}
use lib.Utf8.{encode}
use Rattle.lq_tree.specs.declared.node.Node.{Node, out-Node}
use Rattle.lq_tree.specs.declared.node.Node.TheOpen.{Node-F}
use Rattle.lq_yaml.specs.File.{ScalarExamples, LineExamples, IsRead}
use Rattle.lq_yaml.specs.Yaml.{State, file_start, run_lines}
use Rattle.lq_yaml.specs.Machine.{finish}
use Rattle.lq_yaml.specs.Tree.{open_levels, value_levels}
use Rattle.lq_yaml.proofs.Files.{is_read, ends}

-- a value in its line has one level at most
one_open : (x : Node-F Node) → open_levels x ≤ 1
one_open (Node-F.Text t) = omega arith
one_open (Node-F.Whole z) = omega arith
one_open (Node-F.Truth b) = omega arith
one_open Node-F.Null = omega arith
one_open (Node-F.List ns) = omega arith
one_open (Node-F.Map es) = omega arith

one_level : (v : Node) → value_levels v ≤ 1
one_level v = one_open (out-Node v)

abbrev levels_of : Option State → ℕ
levels_of None = 0
levels_of (Some s) = s.deep.levels

-- what the lines of a layout lead to
abbrev last_of : Option State → Option Node
last_of o = option_and_then (λ s. finish s.deep.at) o

computed_by : (ls : List (List ℕ)) (node : Node) (o : Option State) → run_lines ls file_start ≡ o → levels_of o ≤ 64 → last_of o ≡ Some node → IsRead ls node
computed_by ls node None runs le is = absurd cc
computed_by ls node (Some s) runs le is = is_read ls s node runs is le

computed : (ls : List (List ℕ)) (node : Node) → levels_of (run_lines ls file_start) ≤ 64 → last_of (run_lines ls file_start) ≡ Some node → IsRead ls node
computed ls node le is = computed_by ls node (run_lines ls file_start) refl le is

nothing : (ls : List (List ℕ)) → last_of (run_lines ls file_start) ≡ None → (node : Node) → IsRead ls node → ⊥
nothing ls is node r =
    let e = ends ls r.0 r.1 in
    let at = ap last_of e.runs ∙ e.ends in
    cc

pub scalar_examples : ScalarExamples
unfolding encode
scalar_examples = record {
  null_word = computed _ _ (omega (arith, one_level)) refl;
  tilde = computed _ _ (omega (arith, one_level)) refl;
  truth = computed _ _ (omega (arith, one_level)) refl;
  zero = computed _ _ (omega (arith, one_level)) refl;
  negative = computed _ _ (omega (arith, one_level)) refl;
  greatest = computed _ _ (omega (arith, one_level)) refl;
  past = computed _ _ (omega (arith, one_level)) refl;
  point = computed _ _ (omega (arith, one_level)) refl;
  padded = computed _ _ (omega (arith, one_level)) refl;
  text = computed _ _ (omega (arith, one_level)) refl;
  single = computed _ _ (omega (arith, one_level)) refl;
  empty_text = computed _ _ (omega (arith, one_level)) refl;
  double = computed _ _ (omega (arith, one_level)) refl;
  escapes = computed _ _ (omega (arith, one_level)) refl;
  empty_list = computed _ _ (omega (arith, one_level)) refl;
  empty_map = computed _ _ (omega (arith, one_level)) refl;
  open_quote = nothing _ refl;
  bad_escape = nothing _ refl;
  surrogate = nothing _ refl;
  pair = nothing _ refl;
  colon = nothing _ refl;
  anchor = nothing _ refl;
  flow = nothing _ refl;
  folded = nothing _ refl;
  question = nothing _ refl;
}

pub line_examples : LineExamples
unfolding encode
line_examples = record {
  mapping = computed _ _ (omega (arith, one_level)) refl;
  sequence = computed _ _ (omega (arith, one_level)) refl;
  nested = computed _ _ (omega (arith, one_level)) refl;
  at_key = computed _ _ (omega (arith, one_level)) refl;
  below = computed _ _ (omega (arith, one_level)) refl;
  quoted_key = computed _ _ (omega (arith, one_level)) refl;
  skipped = computed _ _ (omega (arith, one_level)) refl;
  block = computed _ _ (omega (arith, one_level)) refl;
  stripped = computed _ _ (omega (arith, one_level)) refl;
  no_lines = computed _ _ (omega (arith, one_level)) refl;
  twice = nothing _ refl;
  shallow = nothing _ refl;
  behind_key = nothing _ refl;
  second_marker = nothing _ refl;
  tab = nothing _ refl;
  only_comments = nothing _ refl;
}
