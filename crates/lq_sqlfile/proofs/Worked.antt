-- The examples, by what is computed of them.
use Rattle.std.proofs.Common.{◌≡◌, ℕ, List, Option, Some, None, refl}
use Rattle.lq_sqlfile.specs.Words.{after, attribute_words, directive_of, is_word}
use Rattle.lq_sqlfile.specs.Cuts.{cut_at, from, until}
use Rattle.lq_sqlfile.specs.Made.{HeaderExamples, IsWrongLine, LineExamples}
use Rattle.lq_sqlfile.specs.Lines.{behind_this, check, conditions, header, heading, marked, part_of, attributes, new_pair, pair, value}
use Rattle.lq_sqlfile.specs.declared.part.Part.{Part}
use Rattle.lq_sqlfile.proofs.PartForms.{part_found, part_made}
use Rattle.lq_sqlfile.proofs.WholeForms.{header_made}

differs : (o : Option Part) (said : Part) → o ≡ None → o ≡ Some said → ⊥
differs o said none some = absurd cc

wrong : (line : List ℕ) → part_of line ≡ None → IsWrongLine line
wrong line is said made = differs (part_of line) said is (part_found line said made)

pub line_examples : LineExamples
unfolding after cut_at from is_word until attribute_words behind_this check conditions directive_of heading marked part_of attributes new_pair pair value
line_examples = record {
  heading = part_made _ _ refl;
  attributes = part_made _ _ refl;
  comment = part_made _ _ refl;
  no_comment = part_made _ _ refl;
  conditions = part_made _ _ refl;
  check = part_made _ _ refl;
  rollback = part_made _ _ refl;
  no_rollback = part_made _ _ refl;
  note = part_made _ _ refl;
  longer_word = part_made _ _ refl;
  indented = part_made _ _ refl;
  body = part_made _ _ refl;
  empty = part_made _ _ refl;
  no_colon = wrong _ refl;
  unknown = wrong _ refl;
  twice = wrong _ refl;
  open_quote = wrong _ refl;
  behind_quote = wrong _ refl;
  no_pair = wrong _ refl;
  no_result = wrong _ refl;
  other_condition = wrong _ refl;
}

pub header_examples : HeaderExamples
unfolding after cut_at from is_word until behind_this header marked attributes new_pair pair value
header_examples = record { plain = header_made _ _ refl; spaced = header_made _ _ refl; path = header_made _ _ refl }
