use Rattle.std.proofs.Common.{rules, ◌≡◌, ◌∙◌, ap, arith, [], ◌∷◌, ◌++◌, length, drop}
use Rattle.std.proofs.lemmas.Str.{is_utf8-from_IsUtf8}
use Rattle.lq_frames.specs.declared.entry.Body.TheVariants.{Texts}
use Rattle.lq_frames.specs.Body.{entry_of, texts_by}
use Rattle.lq_frames.proofs.Texts.{entry_of-length, pushed}
use Rattle.lq_frames.proofs.encoded.EncodedEntry.push.Goals as goal

pub put_text-requires-clause-some : goal.put_text-requires-clause-some
put_text-requires-clause-some c =
    let texts = texts_by c.self.inside.lens.items (drop 5 c.self.inside.bytes.items) in
    let is : c.reserve.new.self.items ≡ entry_of (Texts texts) = c.reserve.ensures.items ∙ c.self.invariant.is in
    omega (arith, ap length is, entry_of-length (Texts texts))

pub invariant_of-self-2 : goal.invariant_of-self-2
invariant_of-self-2 c =
    let texts = texts_by c.self.inside.lens.items (drop 5 c.self.inside.bytes.items) in
    let lens_is : c.push_reserved.new.self.items ≡ c.self.inside.lens.items ++ length c.args.text.now ∷ [] = search rules in
    (pushed texts c.args.text.now c.self.inside.lens.items c.self.inside.bytes.items c.push_reserved.new.self.items c.put_text.new.bytes.items c.self.invariant lens_is
    (c.put_text.ensures texts (c.reserve.ensures.items ∙ c.self.invariant.is)) (is_utf8-from_IsUtf8 c.args.text.now c.utf8.text)).0

pub returns-clause-ok : goal.returns-clause-ok
returns-clause-ok c =
    let texts = texts_by c.self.inside.lens.items (drop 5 c.self.inside.bytes.items) in
    let lens_is : c.push_reserved.new.self.items ≡ c.self.inside.lens.items ++ length c.args.text.now ∷ [] = search rules in
    (pushed texts c.args.text.now c.self.inside.lens.items c.self.inside.bytes.items c.push_reserved.new.self.items c.put_text.new.bytes.items c.self.invariant lens_is
    (c.put_text.ensures texts (c.reserve.ensures.items ∙ c.self.invariant.is)) (is_utf8-from_IsUtf8 c.args.text.now c.utf8.text)).1
    ∙ ap (λ ts. ts ++ c.args.text.now ∷ []) c.self.view_is
