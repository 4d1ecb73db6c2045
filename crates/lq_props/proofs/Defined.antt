-- Values after a definition.
use Rattle.std.proofs.Common.{◌≡◌, ℕ, Bool, true, false, cond, List, [], Option, Some, None, is_some, option_map, option_and_then, unwrap_or, Result, Ok, Err, OnOk, OnErr, String, Global, string_bytes, refl, sym, ap, ◌∙◌}
use Rattle.indexmap.specs.IndexMap.{IndexMap, get_by_text}
use Rattle.std.specs.Str.{bytes_eq}
use Rattle.std.proofs.lemmas.Slice.Eq.{bytes_eq-Decides}
use Rattle.lq_props.specs.Replaced.{value_in, value_in_file, defined, defined_in_file}

stays : (o : Option (List ℕ)) (value : List ℕ) → is_some o ≡ true → o ≡ Some (unwrap_or o value)
stays None value has = absurd Prim.cc
stays (Some v) value has = refl

-- a name that has a value keeps it
pub kept : (look : List ℕ → Option (List ℕ)) (name value n : List ℕ) → is_some (look name) ≡ true → look n ≡ defined look name value n
kept look name value n has =
    elim (bytes_eq name n) as (λ t. bytes_eq name n ≡ t → look n ≡ cond t (Some (unwrap_or (look n) value)) (look n)) [
      | true ↦ λ same. stays (look n) value (ap (λ z. is_some (look z)) (sym ((bytes_eq-Decides name n).0 same)) ∙ has)
      | false ↦ λ other. refl
    ] refl

-- a name that has none gets it
pub given : (look new : List ℕ → Option (List ℕ)) (name value n : List ℕ) → is_some (look name) ≡ false → new n ≡ cond (bytes_eq name n) (Some value) (look n) → new n ≡ defined look name value n
given look new name value n none is =
    elim (bytes_eq name n) as (λ t. bytes_eq name n ≡ t → new n ≡ cond t (Some value) (look n) → new n ≡ cond t (Some (unwrap_or (look n) value)) (look n)) [
      | true ↦ λ same is. is ∙ first (look n) (ap (λ z. is_some (look z)) (sym ((bytes_eq-Decides name n).0 same)) ∙ none)
      | false ↦ λ other is. is
    ] refl is
  where
    first : (o : Option (List ℕ)) → is_some o ≡ false → Some value ≡ Some (unwrap_or o value)
    first None none = refl
    first (Some v) none = absurd Prim.cc

some_map : {X Y : Type 0} (f : X → Y) (o : Option X) → is_some (option_map f o) ≡ is_some o
some_map f None = refl
some_map f (Some x) = refl

texts : (b : Bool) (text : String Global) (o : Option (String Global)) (value : List ℕ) → string_bytes text ≡ value → option_map string_bytes (cond b (Some text) o) ≡ cond b (Some value) (option_map string_bytes o)
texts true text o value is = ap Some is
texts false text o value is = refl

module _ {S : Type 0} where
  -- a text is put at a name that has none
  pub put : (old new : IndexMap (String Global) (String Global) S) (key text : String Global) (name value n : List ℕ) → string_bytes key ≡ name → string_bytes text ≡ value
      → is_some (get_by_text old name) ≡ false → get_by_text new n ≡ cond (bytes_eq (string_bytes key) n) (Some text) (get_by_text old n)
      → value_in new n ≡ defined (value_in old) name value n
  put old new key text name value n named valued none is =
      given (value_in old) (value_in new) name value n (some_map string_bytes (get_by_text old name) ∙ none)
      (ap (option_map string_bytes) is ∙ texts (bytes_eq (string_bytes key) n) text (get_by_text old n) value valued
      ∙ ap (λ z. cond (bytes_eq z n) (Some value) (value_in old n)) named)

  pub empty_has_none : (m : IndexMap (String Global) (String Global) S) (n : List ℕ) → m.entries ≡ [] → value_in m n ≡ None
  empty_has_none m n empty = rw empty refl

module _ {S : Type 0} where
  at_file : (b : Bool) (is : IndexMap (String Global) (String Global) S) (o : Option (IndexMap (String Global) (String Global) S)) (n : List ℕ)
      → option_and_then (λ m. value_in m n) (cond b (Some is) o) ≡ cond b (value_in is n) (option_and_then (λ m. value_in m n) o)
  at_file true is o n = refl
  at_file false is o n = refl

module _ {S T : Type 0} where
  -- the values of one file are changed
  put_file : (old new : IndexMap (String Global) (IndexMap (String Global) (String Global) S) T) (is : IndexMap (String Global) (String Global) S) (file f n : List ℕ)
      → get_by_text new f ≡ cond (bytes_eq file f) (Some is) (get_by_text old f)
      → value_in_file new f n ≡ cond (bytes_eq file f) (value_in is n) (value_in_file old f n)
  put_file old new is file f n changed = rw changed (at_file (bytes_eq file f) is (get_by_text old f) n)

  pub defined_file : (old new : IndexMap (String Global) (IndexMap (String Global) (String Global) S) T) (is : IndexMap (String Global) (String Global) S) (was : List ℕ → Option (List ℕ)) (file name value f n : List ℕ)
      → get_by_text new f ≡ cond (bytes_eq file f) (Some is) (get_by_text old f)
      → was n ≡ value_in_file old file n
      → value_in is n ≡ defined was name value n
      → value_in_file new f n ≡ defined_in_file (value_in_file old) file name value f n
  defined_file old new is was file name value f n changed same now =
      put_file old new is file f n changed
      ∙ elim (bytes_eq file f) as (λ b. bytes_eq file f ≡ b → cond b (value_in is n) (value_in_file old f n) ≡ cond b (defined (value_in_file old f) name value n) (value_in_file old f n)) [
        | true ↦ λ at. now ∙ ap (λ z. cond (bytes_eq name n) (Some (unwrap_or z value)) z) (same ∙ ap (λ z. value_in_file old z n) ((bytes_eq-Decides file f).0 at))
        | false ↦ λ other. refl
      ] refl

  pub same_file : (old new : IndexMap (String Global) (IndexMap (String Global) (String Global) S) T) (is : IndexMap (String Global) (String Global) S) (file f n : List ℕ)
      → get_by_text new f ≡ cond (bytes_eq file f) (Some is) (get_by_text old f)
      → value_in is n ≡ value_in_file old file n
      → value_in_file new f n ≡ value_in_file old f n
  same_file old new is file f n changed same =
      put_file old new is file f n changed
      ∙ elim (bytes_eq file f) as (λ b. bytes_eq file f ≡ b → cond b (value_in is n) (value_in_file old f n) ≡ value_in_file old f n) [
        | true ↦ λ at. same ∙ ap (λ z. value_in_file old z n) ((bytes_eq-Decides file f).0 at)
        | false ↦ λ other. refl
      ] refl

pub on_ok : {X E : Type 0} {A B : Type 0} (r : Result X E) → OnOk r A → (A → B) → OnOk r B
on_ok (Ok x) a f = f a
on_ok (Err e) a f = tt

pub on_err : {X E : Type 0} {A B : Type 0} (r : Result X E) → OnErr r A → (A → B) → OnErr r B
on_err (Ok x) a f = tt
on_err (Err e) a f = f a
