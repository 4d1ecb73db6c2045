use Rattle.std.proofs.Common.{[], ap, sym, true, ◌++◌, ◌∙◌, ◌∷◌, ◌≡◌}
use Rattle.std.proofs.lemmas.Str.{is_utf8-from_IsUtf8}
use Rattle.std.specs.Prelude.{string_bytes}
use Rattle.std.specs.Str.{is_utf8}
use Rattle.lq_tree.specs.Json.{json_tree}
use Rattle.lq_jsontext.proofs.ReadBack.{read_back}
use Rattle.lq_jsontext.proofs.writing.write_json.Goals as goal

pub returns-clause-reads : goal.returns-clause-reads
returns-clause-reads c =
    let text = string_bytes c.in_ok-text.text in
    let whole : c.as_str.result.now ≡ text ++ 10 ∷ [] = c.as_str.ensures.value ∙ c.in_ok-push_str.ensures.bytes in
    let utf8 : is_utf8 (text ++ 10 ∷ []) ≡ true = ap is_utf8 (sym whole) ∙ is_utf8-from_IsUtf8 c.as_str.result.now c.as_str.utf8 in
    λ can. ap json_tree (c.in_ok-new.ensures ∙ whole) ∙ read_back c.args.tree.now text c.in_ok-text.ensures.order c.in_ok-text.ensures.compact c.in_ok-text.ensures.reads utf8 can
