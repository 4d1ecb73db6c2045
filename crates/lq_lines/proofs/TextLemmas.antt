-- A file that is a text, and one that is none.
use Rattle.std.proofs.Common.{◌≡◌, ℕ, Bool, true, false, List, None, Result, refl, subst}
use Rattle.std.specs.Str.{IsUtf8, is_utf8}
use Rattle.std.proofs.lemmas.Str.{IsUtf8-from_is_utf8, is_utf8-from_IsUtf8}
use Rattle.lq_base.specs.declared.dialect.Dialect.{Dialect}
use Rattle.lq_lines.specs.File.{url_word, cut_lines, lines_in, lines_of, Gives}
use Rattle.lq_lines.specs.declared.fault.LinesFault.{LinesFault}
use Rattle.lq_lines.specs.declared.lines.Lines.{Lines}

pub text_gives : (dialect : Dialect) (path file url text : List ℕ) (r : Result Lines LinesFault)
    → IsUtf8 file → text ≡ file → url ≡ url_word dialect path → Gives (cut_lines url (lines_in text)) r → Gives (lines_of dialect path file) r
unfolding lines_of
text_gives dialect path file url text r utf8 same is gives =
    rw (is_utf8-from_IsUtf8 file utf8) (subst (λ t. Gives (cut_lines (url_word dialect path) (lines_in t)) r) same (subst (λ u. Gives (cut_lines u (lines_in text)) r) is gives))

pub no_text : (dialect : Dialect) (path file : List ℕ) → ¬ (IsUtf8 file) → lines_of dialect path file ≡ None
unfolding lines_of
no_text dialect path file bad = by (is_utf8 file) refl
  where
    by : (t : Bool) → is_utf8 file ≡ t → lines_of dialect path file ≡ None
    by true is = absurd (bad (IsUtf8-from_is_utf8 file is))
    by false is = rw is refl
