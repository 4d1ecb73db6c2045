-- Names with values, and the attributes that a text is made of.
use Rattle.std.specs.Prelude.{List, None, Option, Some, [], codes, if◌then◌else◌, length, option_and_then, option_map, suc, zero, ℕ, ◌++◌, ◌∷◌}
use Rattle.lq_sqlfile.specs.Cuts.{apart, behind_word, cut_at, without_blanks, word}
use Rattle.lq_sqlfile.specs.Words.{after, attribute_words, condition_words, directive_of, has_name, is_word, known, plain_part, value_of}
use Rattle.lq_sqlfile.specs.declared.part.Directive.{Directive}
use Rattle.lq_sqlfile.specs.declared.part.Directive.TheVariants as directive
use Rattle.lq_sqlfile.specs.declared.part.Part.{Part}
use Rattle.lq_sqlfile.specs.declared.part.Part.TheVariants as part

-- behind the first quote: the text up to the next one, and what follows that and the blanks behind it
abbrev pub quoted : List ℕ → Option (List ℕ × List ℕ)
quoted inside = option_and_then (λ p. option_map (λ rest. (p.0, rest)) (apart p.1)) (cut_at 34 inside)

abbrev pub value_by : List ℕ → Option (List ℕ) → Option (List ℕ × List ℕ)
value_by text (Some inside) = quoted inside
value_by text None = Some (word text, behind_word text)

-- the value at the front of a text, in quotes or not, and what follows it
unfoldable pub value : List ℕ → Option (List ℕ × List ℕ)
value text = value_by text (after (34 ∷ []) text)

-- the name and the value at the front of a text, and what follows them
unfoldable pub pair : List ℕ → Option (List ℕ × List ℕ × List ℕ)
pair text = option_and_then (λ p. option_map (λ v. (p.0, v.0, v.1)) (value p.1)) (cut_at 58 text)

-- the next pair, if its name is one of the words and is not given yet
unfoldable pub new_pair : List (List ℕ) → List (List ℕ × List ℕ) → List ℕ → Option (List ℕ × List ℕ × List ℕ)
new_pair words given text =
    option_and_then (λ p. option_and_then (λ w. if has_name w given then None else Some (w, p.1, p.2)) (known words p.0)) (pair text)

-- the pairs so far with those that the text is made of, at most so many
unfoldable pub attributes : List (List ℕ) → ℕ → List (List ℕ × List ℕ) → List ℕ → Option (List (List ℕ × List ℕ))
attributes words most given [] = Some given
attributes words zero given (b ∷ bs) = None
attributes words (suc most) given (b ∷ bs) = option_and_then (λ p. attributes words most (given ++ (p.0, p.1) ∷ []) p.2) (new_pair words given (b ∷ bs))

abbrev pub attributes_in : List (List ℕ) → List ℕ → Option (List (List ℕ × List ℕ))
attributes_in words text = attributes words (length text) [] text

-- What a line says.

-- behind the blanks, `--` and the blanks that follow, if the line begins so
unfoldable pub marked : List ℕ → Option (List ℕ)
marked line = option_map without_blanks (after (codes "--") (without_blanks line))

-- `AUTHOR:ID name:value ..`
unfoldable pub heading : List ℕ → Option Part
heading text =
    option_and_then (λ p. option_map (λ pairs. part.ChangeSet (record { author = p.0; id = word p.1; attributes = pairs })) (attributes_in attribute_words (behind_word p.1))) (cut_at 58 text)

abbrev pub some_conditions : List (List ℕ × List ℕ) → Option Part
some_conditions [] = None
some_conditions (p ∷ ps) = Some (part.Conditions (p ∷ ps))

-- `onFail:X onError:Y`, either or both
unfoldable pub conditions : List ℕ → Option Part
conditions text = option_and_then some_conditions (attributes_in condition_words text)

-- `expectedResult:N QUERY`
unfoldable pub check : List ℕ → Option Part
check text = option_and_then (λ p. if is_word p.0 (codes "expectedResult") then Some (part.Check p.1 p.2) else None) (pair text)

-- what the text behind a directive's word says, if the directive is right
abbrev pub meaning : Directive → List ℕ → Option Part
meaning directive.ChangeSet text = heading text
meaning directive.Comment text = Some (part.Comment text)
meaning directive.Conditions text = conditions text
meaning directive.Check text = check text
meaning directive.Rollback text = Some (part.Rollback text)
meaning directive.OtherCondition text = None

abbrev pub part_by : List ℕ → List ℕ → Option Directive → Option Part
part_by line text None = Some (plain_part line)
part_by line text (Some d) = meaning d (behind_word text)

abbrev pub part_behind : List ℕ → Option (List ℕ) → Option Part
part_behind line None = Some (part.Body line)
part_behind line (Some text) = part_by line text (directive_of (word text))

-- what a line says, unless it is a wrong directive
unfoldable pub part_of : List ℕ → Option Part
part_of line = part_behind line (marked line)

-- the text behind its first word, if that is this one
unfoldable pub behind_this : List ℕ → List ℕ → Option (List ℕ)
behind_this w text = if is_word (word text) w then Some (behind_word text) else None

-- behind `--liquibase formatted sql`
abbrev pub header_rest : List ℕ → Option (List ℕ)
header_rest line = option_and_then (behind_this (codes "sql")) (option_and_then (behind_this (codes "formatted")) (option_and_then (behind_this (codes "liquibase")) (marked line)))

-- the logical path, if there is one
unfoldable pub header : List ℕ → Option (Option (List ℕ))
header line = option_map (value_of (codes "logicalFilePath")) (option_and_then (attributes_in (codes "logicalFilePath" ∷ [])) (header_rest line))
