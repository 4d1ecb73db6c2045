use Rattle.std.proofs.Common.{rules, ◌≡◌, ◌+◌, [], ◌∷◌, ◌++◌, length, arith}
use Rattle.std.proofs.lemmas.Str.{is_utf8-from_IsUtf8}
use Rattle.lq_frames.specs.Body.{number}
use Rattle.lq_frames.proofs.Texts.{encoded_first, is_encoded, texts_by-entry}
use Rattle.lq_frames.proofs.encoded.EncodedEntry.new.Goals as goal

pub invariant_of-result : goal.invariant_of-result
invariant_of-result c =
    let is : c.push-2.new.self.items ≡ number (5 + length c.args.text.now) ++ 84 ∷ [] ++ number (length c.args.text.now) ++ c.args.text.now ++ 0 ∷ [] = search rules in
    let lens : c.push-3.new.self.items ≡ length c.args.text.now ∷ [] = search rules in
    is_encoded (c.args.text.now ∷ []) c.push-3.new.self.items c.push-2.new.self.items lens (encoded_first c.args.text.now c.push-2.new.self.items is)
    (is_utf8-from_IsUtf8 c.args.text.now c.utf8.text, tt) (omega arith)

pub returns : goal.returns
returns c =
    let is : c.push-2.new.self.items ≡ number (5 + length c.args.text.now) ++ 84 ∷ [] ++ number (length c.args.text.now) ++ c.args.text.now ++ 0 ∷ [] = search rules in
    let lens : c.push-3.new.self.items ≡ length c.args.text.now ∷ [] = search rules in
    texts_by-entry (c.args.text.now ∷ []) c.push-3.new.self.items c.push-2.new.self.items lens (encoded_first c.args.text.now c.push-2.new.self.items is)
