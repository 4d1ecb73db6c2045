-- Lemmas on the names of objects.
use Rattle.std.proofs.Common.{List, ap, refl, sym, [], ◌++◌, ◌∙◌, ◌∷◌, ◌≡◌}
use Rattle.std.proofs.lemmas.List.{append-nil, append_assoc}
use Rattle.std.specs.List.Sorted.{IsStrictlySortedBy}
use Rattle.std.specs.Map.{keys_of}
use Rattle.lq_base.specs.Name.{name_cmp}
use Rattle.lq_base.specs.declared.dialect.Dialect.{Dialect}
use Rattle.lq_base.specs.declared.name.Name.{Name}
use Rattle.lq_engine.specs.State.{names_of}
use Rattle.lq_engine.specs.declared.names.Sort.{Sort}
use Rattle.lq_engine.specs.declared.names.Sort.TheVariants.{Sequence, Table, View}
use Rattle.lq_model.specs.Catalogue.{Catalogue}
use Rattle.lq_model.specs.Sound.{IsSound}
use Rattle.lq_parts.specs.Steps.{Entries, tables_of}

pub same_keys : (es : Entries) → keys_of (tables_of es) ≡ keys_of es
same_keys [] = refl
same_keys (e ∷ es) = ap (λ (ns : List Name). e.0 ∷ ns) (same_keys es)

pub one_name : {X : Type 0} (rest more : List (Name × X)) (e : Name × X) (names now goal : List Name)
    → rest ≡ e ∷ more → now ≡ names ++ e.0 ∷ [] → names ++ keys_of rest ≡ goal → now ++ keys_of more ≡ goal
one_name rest more e names now goal is put all =
    ap (λ (ns : List Name). ns ++ keys_of more) put
    ∙ append_assoc names (e.0 ∷ []) (keys_of more)
    ∙ ap (λ (l : List _). names ++ keys_of l) (sym is)
    ∙ all

pub all_names : {X : Type 0} (rest : List (Name × X)) (names goal : List Name) → rest ≡ [] → names ++ keys_of rest ≡ goal → names ≡ goal
all_names rest names goal is all =
    sym (append-nil names) ∙ ap (λ (l : List _). names ++ keys_of l) (sym is) ∙ all

pub names_rise : (s : Sort) (d : Dialect) (c : Catalogue) → IsSound d c → IsStrictlySortedBy name_cmp (names_of s c)
names_rise Table d c sound = sound.ordered
names_rise View d c sound = sound.ordered_views
names_rise Sequence d c sound = sound.ordered_sequences
