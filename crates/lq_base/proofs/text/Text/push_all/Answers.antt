use Rattle.std.proofs.Common.{rules, ◌≡◌, ◌∙◌, ◌++◌, take, length, string_bytes}
use Rattle.std.specs.List.{flat_map}
use Rattle.std.proofs.lemmas.Str.{IsUtf8-string_bytes}
use Rattle.lq_base.proofs.TextLemmas.{IsSplitPoint-seam}
use Rattle.lq_base.proofs.text.Text.push_all.Goals as goal

pub truncate-requires : goal.truncate-requires
truncate-requires c _ =
    let stays : string_bytes c.push_str.new.self ≡ string_bytes c.loop-part.self-inside.text = search rules in
    let start : c.len-start.result ≡ length (string_bytes c.self.inside.text) = search rules in
    let old : string_bytes c.loop-part.self-inside.text ≡ string_bytes c.self.inside.text ++ flat_map (λ part. part.now) (take c.loop-part.part-index c.args.parts.now) = search rules in
    IsSplitPoint-seam _ _ _ _ (IsUtf8-string_bytes c.push_str.new.self) (IsUtf8-string_bytes c.self.inside.text) (stays ∙ old) start
