-- Texts without the blanks around them.
use Rattle.std.specs.List.{slice_split}
use Rattle.std.specs.Prelude.{Bool, List, None, Ok, Option, Some, [], cond, if◌then◌else◌, int_le, neg_ℤ, option_and_then, pos, ℕ, ℤ, ◌&&◌, ◌-◌, ◌==◌, ◌^◌, ◌∷◌}
use Rattle.lq_base.specs.Kind.{is_blank, kind_of as kind_named}
use Rattle.lq_base.specs.Name.{is_name}
use Rattle.lq_base.specs.declared.kind.Kind.{Kind}
use Rattle.lq_base.specs.declared.name.Name.{Name}
use Rattle.lq_tree.specs.Look.{Found, Taken, and_then, map_found, or_bad, printed_of, truth_of, whole_of}

-- without the spaces and tabs at its front
abbrev pub without_front_blanks : List ℕ → List ℕ
without_front_blanks [] = []
without_front_blanks (b ∷ bs) = cond (is_blank b) (without_front_blanks bs) (b ∷ bs)

abbrev pub unless_blank : ℕ → List ℕ → List ℕ
unless_blank b [] = cond (is_blank b) [] (b ∷ [])
unless_blank b (c ∷ cs) = b ∷ c ∷ cs

-- without the spaces and tabs at its end
abbrev pub without_end_blanks : List ℕ → List ℕ
without_end_blanks [] = []
without_end_blanks (b ∷ bs) = unless_blank b (without_end_blanks bs)

-- without the spaces and tabs at both ends
abbrev pub without_blanks : List ℕ → List ℕ
without_blanks text = without_end_blanks (without_front_blanks text)

abbrev pub is_comma : ℕ → Bool
is_comma byte = byte == 44

-- the parts of a text with commas between; a text without a comma is one part
abbrev pub comma_parts : List ℕ → List (List ℕ)
comma_parts text = slice_split is_comma text

-- What keys take, by the type of what is read.

abbrev pub if_so : {A : Type 0} → (A → Bool) → A → Option A
if_so test a = if test a then Some a else None

-- a scalar as it is printed
abbrev pub a_text : Taken (List ℕ)
a_text n = or_bad (printed_of n)

abbrev pub a_name : Taken Name
a_name n = or_bad (option_and_then (if_so is_name) (printed_of n))

abbrev pub a_kind : Taken Kind
a_kind n = or_bad (option_and_then kind_named (printed_of n))

-- a truth value, which may be a text
abbrev pub a_truth : Taken Bool
a_truth n = or_bad (truth_of n)

-- a whole number, which may not be a text
abbrev pub a_whole : Taken ℤ
a_whole n = or_bad (whole_of n)

-- a whole number of 128 signed bits
abbrev pub is_whole : ℤ → Bool
is_whole n = int_le (neg_ℤ (pos (2 ^ 127))) n && int_le n (pos (2 ^ 127 - 1))

-- Lists of names, as texts with commas between.

-- the name of a part of a text, without the blanks around it
abbrev pub part_name : List ℕ → Found Name
part_name part = or_bad (if_so is_name (without_blanks part))

-- each part in order
abbrev pub part_names : List (List ℕ) → Found (List Name)
part_names [] = Ok []
part_names (p ∷ ps) = and_then (part_name p) (λ name. map_found (λ more. name ∷ more) (part_names ps))

-- names with commas between; an empty text has one part, which is no name
abbrev pub some_names : Taken (List Name)
some_names n = and_then (a_text n) (λ text. part_names (comma_parts text))
