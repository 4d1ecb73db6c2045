use Rattle.std.proofs.Common.{sym, ◌≡◌, None, true, false, Bool, cond, inr, refl, ◌∙◌, true≢false, ℕ, List}
use Rattle.std.proofs.lemmas.Str.{is_utf8-from_IsUtf8, IsUtf8-from_is_utf8}
use Rattle.std.specs.Str.{is_utf8, IsUtf8}
use Rattle.serde_json.specs.Read.{read}
use Rattle.serde_json.specs.Errors.{IsMemory}
use Rattle.lq_tree.proofs.reading.value_of.Goals as goal

pub returns-in-Ok-clause-ok : goal.returns-in-Ok-clause-ok
returns-in-Ok-clause-ok c = rw (is_utf8-from_IsUtf8 c.args.bytes.now c.in-Ok.ensures.ok.0) c.in-Ok.ensures.ok.1

refused : (bytes : List ℕ) (b : Bool) → is_utf8 bytes ≡ b → (IsUtf8 bytes → read bytes ≡ None) → cond b (read bytes) None ≡ None
refused bytes true is h = h (IsUtf8-from_is_utf8 bytes is)
refused bytes false is h = refl

pub returns-else-is_memory-clause-err : goal.returns-else-is_memory-clause-err
returns-else-is_memory-clause-err c =
    let other : IsMemory c.in-Err.error → ⊥ = λ h. true≢false (sym (c.is_memory.ensures.1 h) ∙ c.if-is_memory.false) in
    inr (refl, refused c.args.bytes.now _ refl (c.in-Err.ensures.err other))
