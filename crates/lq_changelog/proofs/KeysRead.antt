-- What the keys of a changeset hold where it is read.
use Rattle.std.proofs.Common.{subst}
use Rattle.std.specs.Prelude.{Bool, Err, List, None, Ok, Option, Result, Some, codes, cond, false, if◌then◌else◌, option_and_then, refl, true, ℕ, ◌≡◌}
use Rattle.lq_base.specs.declared.dialect.Dialect.{Dialect}
use Rattle.lq_tree.specs.Look.{Found, and_then, map_found, or_bad, within, printed_of, value_at}
use Rattle.lq_tree.specs.Given.{if_so}
use Rattle.lq_tree.specs.Keys.{at_required}
use Rattle.lq_tree.specs.declared.node.Node.{Node}
use Rattle.lq_kinds.specs.ChangeSets.{by_keys, by_path, by_set, heading, if_taken, map_set, notes, only_known, path_at, path_in, path_of, running, selection, set_of, set_with, a_label, is_label}
use Rattle.lq_kinds.specs.Changes.{changes_at, Files}
use Rattle.lq_kinds.specs.declared.change_set.ChangeSet.{ChangeSet}
use Rattle.lq_kinds.specs.declared.fault.SetFault.{SetFault}
use Rattle.lq_kinds.specs.declared.fault.SetFault.TheVariants.{BadPath}
use Rattle.lq_kinds.specs.declared.heading.Heading.{Heading}
use Rattle.lq_kinds.specs.declared.heading.Notes.{Notes}
use Rattle.lq_kinds.specs.declared.heading.Running.{Running}
use Rattle.lq_kinds.specs.declared.heading.Selection.{Selection}

-- an id or an author

abbrev found_if : List ℕ → Bool → List ℕ → Found (List ℕ)
found_if key is t = within key (or_bad (if is then Some t else None))

label_tested : (is : Bool) (key t label : List ℕ) → is_label t ≡ is → found_if key is t ≡ Ok label → is_label label ≡ true
label_tested true key t label is e = subst (λ w. is_label w ≡ true) (same t label e) is where
  same : (a b : List ℕ) → found_if key true a ≡ Ok b → a ≡ b
  same a b e = Prim.cc
label_tested false key t label is e = absurd Prim.cc

label_printed : (key : List ℕ) (printed : Option (List ℕ)) (label : List ℕ) → within key (or_bad (option_and_then (if_so is_label) printed)) ≡ Ok label → is_label label ≡ true
label_printed key None label e = absurd Prim.cc
label_printed key (Some t) label e = label_tested (is_label t) key t label refl e

label_read : (key : List ℕ) (value : Option Node) (label : List ℕ) → at_required key a_label value ≡ Ok label → is_label label ≡ true
label_read key None label e = absurd Prim.cc
label_read key (Some n) label e = label_printed key (printed_of n) label e

three_read : {A B C D : Type 0} (make : A → B → C → D) (a : Found A) (b : Found B) (c : Result C SetFault) (made : D)
    → by_keys (and_then (map_found make a) (λ g. map_found g b)) (λ with. map_set with c) ≡ Ok made
    → (x : A) × (y : B) × (z : C) × (a ≡ Ok x) × (b ≡ Ok y) × (make x y z ≡ made)
three_read make (Ok x) (Ok y) (Ok z) made e = (x, y, z, refl, refl, Prim.cc)
three_read make (Ok x) (Ok y) (Err fault) made e = absurd Prim.cc
three_read make (Ok x) (Err fault) c made e = absurd Prim.cc
three_read make (Err fault) b c made e = absurd Prim.cc

-- its id and its author are such texts
pub heading_read : (d : Dialect) (given : Files) (n : Node) (h : Heading) → heading d given n ≡ Ok h → (is_label h.id ≡ true) × (is_label h.author ≡ true)
unfolding heading
heading_read d given n h e =
    let id = at_required (codes "id") a_label (value_at (codes "id") n) in
    let author = at_required (codes "author") a_label (value_at (codes "author") n) in
    let parts = three_read (λ id author changes. record { id = id; author = author; changes = changes }) id author (changes_at d given n) h e in
    subst (λ (x : Heading). (is_label x.id ≡ true) × (is_label x.author ≡ true)) parts.5
    (label_read (codes "id") (value_at (codes "id") n) parts.0 parts.3, label_read (codes "author") (value_at (codes "author") n) parts.1 parts.4)

-- its path

abbrev path_if : Bool → List ℕ → Result (List ℕ) SetFault
path_if is t = cond is (Ok t) (Err BadPath)

path_tested : (is : Bool) (t path : List ℕ) → is_label t ≡ is → path_if is t ≡ Ok path → is_label path ≡ true
path_tested true t path is e = subst (λ w. is_label w ≡ true) (same t path e) is where
  same : (a b : List ℕ) → path_if true a ≡ Ok b → a ≡ b
  same a b e = Prim.cc
path_tested false t path is e = absurd Prim.cc

path_printed : (printed : Option (List ℕ)) (path : List ℕ) → path_of printed ≡ Ok path → is_label path ≡ true
path_printed None path e = absurd Prim.cc
path_printed (Some t) path e = path_tested (is_label t) t path refl e

path_there : (file : List ℕ) (value : Option Node) (path : List ℕ) → is_label file ≡ true → path_in file value ≡ Ok path → is_label path ≡ true
path_there file None path label e = path_tested true file path label e
path_there file (Some n) path label e = path_printed (printed_of n) path e

-- it is such a text if that of the file is one
pub path_read : (file : List ℕ) (n : Node) (path : List ℕ) → is_label file ≡ true → path_at file n ≡ Ok path → is_label path ≡ true
unfolding path_at
path_read file n path label e = path_there file (value_at (codes "logicalFilePath") n) path label e

-- all keys

abbrev set_if : Bool → ChangeSet → Result (Option ChangeSet) SetFault
set_if ignored x = Ok (cond ignored None (Some x))

set_taken : (ignored : Bool) (made x : ChangeSet) → set_if ignored made ≡ Ok (Some x) → made ≡ x
set_taken true made x e = absurd Prim.cc
set_taken false made x e = Prim.cc

parts_read : (known : Found (Unit {0})) (heading : Result Heading SetFault) (selection : Found Selection) (running : Found Running) (path : Result (List ℕ) SetFault) (notes : Found Notes) (x : ChangeSet)
    → by_keys known (λ _. by_set heading (λ h. by_keys selection (λ s. by_keys running (λ r. by_path path (λ p. by_keys notes (λ a. Ok (if_taken r (set_with h s r p a)))))))) ≡ Ok (Some x)
    → (h : Heading) × (s : Selection) × (r : Running) × (p : List ℕ) × (a : Notes) × (heading ≡ Ok h) × (path ≡ Ok p) × (set_with h s r p a ≡ x)
parts_read (Ok _) (Ok h) (Ok s) (Ok r) (Ok p) (Ok a) x e = (h, s, r, p, a, refl, refl, set_taken r.ignored (set_with h s r p a) x e)
parts_read (Ok _) (Ok h) (Ok s) (Ok r) (Ok p) (Err fault) x e = absurd Prim.cc
parts_read (Ok _) (Ok h) (Ok s) (Ok r) (Err fault) notes x e = absurd Prim.cc
parts_read (Ok _) (Ok h) (Ok s) (Err fault) path notes x e = absurd Prim.cc
parts_read (Ok _) (Ok h) (Err fault) running path notes x e = absurd Prim.cc
parts_read (Ok _) (Err fault) selection running path notes x e = absurd Prim.cc
parts_read (Err fault) heading selection running path notes x e = absurd Prim.cc

pub set_read : (d : Dialect) (file : List ℕ) (given : Files) (n : Node) (x : ChangeSet) → set_of d file given n ≡ Ok (Some x)
    → (h : Heading) × (s : Selection) × (r : Running) × (p : List ℕ) × (a : Notes) × (heading d given n ≡ Ok h) × (path_at file n ≡ Ok p) × (set_with h s r p a ≡ x)
unfolding set_of
set_read d file given n x e = parts_read (only_known d n) (heading d given n) (selection d n) (running n) (path_at file n) (notes d n) x e
