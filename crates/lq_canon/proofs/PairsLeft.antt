-- What is left of pairs and changes while they are read.
use Rattle.std.proofs.Common.{Bool, List, None, Option, Some, [], arith, ap, append_assoc, append-nil, codes, false, map, not, option_map, refl, sym, true, ℕ, ◌&&◌, ◌++◌, ◌||◌, ◌∙◌, ◌≡◌, ◌∷◌}
use Rattle.std.specs.Str.{bytes_eq}
use Rattle.lq_model.specs.Changes.{CanonicalChange, CanonicalPairs, CanonicalValue, atom, canonical, canonical_change, canonical_each, canonical_pairs, list, map_of, no_pairs, number, pair, text, truth}
use Rattle.lq_canon.specs.Passing.{pair_of, part_of}
use Rattle.lq_canon.specs.Sums.{has_sql_name, has_wide, is_replaced, is_wide, uniform_pairs, uniform_value, uniformed}
use Rattle.lq_canon.specs.declared.reading.Pair.{Pair}
use Rattle.lq_canon.specs.declared.reading.Part.{Part}

-- pairs that are still to be looked at tell the answer
pub record StillTold (rest x : List ℕ) (answer : Bool) : Type 0 where
  pub left : CanonicalPairs
  pub is : rest ≡ canonical_pairs left ++ 125 ∷ x
  pub tells : has_wide left ≡ answer

-- pairs that are still to be written give the whole
pub record StillWritten (wide : Bool) (name to whole rest x : List ℕ) : Type 0 where
  pub left : CanonicalPairs
  pub is : rest ≡ canonical_pairs left ++ 125 ∷ x
  pub gives : to ++ canonical_pairs (uniform_pairs wide name left) ≡ whole

pub record EachWritten (to whole rest x : List ℕ) : Type 0 where
  pub left : List CanonicalChange
  pub is : rest ≡ canonical_each left ++ 93 ∷ x
  pub gives : to ++ canonical_each (map uniformed left) ≡ whole

-- what a reading of the pair that stands first answers
abbrev pub ReadsPair : List ℕ → Option Pair → Type 0
ReadsPair rest found = (key : List ℕ) (v : CanonicalValue) (x : List ℕ) → rest ≡ atom key ++ (canonical v ++ x) → option_map pair_of found ≡ Some (key, canonical v, x)

abbrev pub ReadsNone : List ℕ → Option Pair → Type 0
ReadsNone rest found = (x : List ℕ) → rest ≡ 125 ∷ x → found ≡ None

pub pair_apart : (key : List ℕ) (v : CanonicalValue) (pairs : CanonicalPairs) (x : List ℕ) → (atom key ++ canonical v ++ canonical_pairs pairs) ++ x ≡ atom key ++ (canonical v ++ (canonical_pairs pairs ++ x))
pair_apart key v pairs x = append_assoc (atom key ++ canonical v) (canonical_pairs pairs) x ∙ append_assoc (atom key) (canonical v) (canonical_pairs pairs ++ x)

-- the pair that stands first, and the pairs behind it
pub record First (left : CanonicalPairs) (found : Pair) (x : List ℕ) : Type 0 where
  pub value : CanonicalValue
  pub after : CanonicalPairs
  pub is : left ≡ pair found.key.now value after
  pub reads : found.value.now ≡ canonical value
  pub rest : found.rest.now ≡ canonical_pairs after ++ 125 ∷ x

pub first_of : (left : CanonicalPairs) (rest x : List ℕ) (found : Pair) → rest ≡ canonical_pairs left ++ 125 ∷ x → ReadsPair rest (Some found) → ReadsNone rest (Some found) → First left found x
first_of no_pairs rest x found is reads none = let other : ◌≡◌ {A = Option Pair} (Some found) None = none x is in absurd (grind arith)
first_of (pair key v after) rest x found is reads none =
    let read : ◌≡◌ {A = Option (List ℕ × List ℕ × List ℕ)} (Some (pair_of found)) (Some (key, canonical v, canonical_pairs after ++ 125 ∷ x)) = reads key v (canonical_pairs after ++ 125 ∷ x) (is ∙ pair_apart key v after (125 ∷ x)) in
    let same : ◌≡◌ {A = List ℕ × List ℕ × List ℕ} (pair_of found) (key, canonical v, canonical_pairs after ++ 125 ∷ x) = grind arith in
    record {
      value = v;
      after = after;
      is = ap (λ k. pair k v after) (sym (ap (λ (p : List ℕ × List ℕ × List ℕ). p.0) same));
      reads = ap (λ (p : List ℕ × List ℕ × List ℕ). p.1) same;
      rest = ap (λ (p : List ℕ × List ℕ × List ℕ). p.2) same;
    }

pub no_more : (left : CanonicalPairs) (rest x : List ℕ) → rest ≡ canonical_pairs left ++ 125 ∷ x → ReadsPair rest None → left ≡ no_pairs
no_more no_pairs rest x is reads = refl
no_more (pair key v after) rest x is reads =
    let read : ◌≡◌ {A = Option (List ℕ × List ℕ × List ℕ)} None (Some (key, canonical v, canonical_pairs after ++ 125 ∷ x)) = reads key v (canonical_pairs after ++ 125 ∷ x) (is ∙ pair_apart key v after (125 ∷ x)) in
    absurd (grind arith)

-- whether one of them is wide

abbrev pub TellsWide : Pair → Bool → Type 0
TellsWide found told = (v : CanonicalValue) → found.value.now ≡ canonical v → told ≡ is_wide found.key.now v

pub told_none : (rest x : List ℕ) (answer : Bool) → StillTold rest x answer → ReadsPair rest None → false ≡ answer
told_none rest x answer still reads = ap has_wide (sym (no_more still.left rest x still.is reads)) ∙ still.tells

pub told_here : (rest x : List ℕ) (answer told : Bool) (found : Pair) → StillTold rest x answer → ReadsPair rest (Some found) → ReadsNone rest (Some found) → TellsWide found told → told ≡ true → true ≡ answer
told_here rest x answer told found still reads none tells is =
    let first = first_of still.left rest x found still.is reads none in
    ap (λ b. b || has_wide first.after) (sym is ∙ tells first.value first.reads) ∙ (ap has_wide (sym first.is) ∙ still.tells)

pub told_on : (rest x : List ℕ) (answer told : Bool) (found : Pair) → StillTold rest x answer → ReadsPair rest (Some found) → ReadsNone rest (Some found) → TellsWide found told → told ≡ false → StillTold found.rest.now x answer
told_on rest x answer told found still reads none tells is =
    let first = first_of still.left rest x found still.is reads none in
    record { left = first.after; is = first.rest; tells = ap (λ b. b || has_wide first.after) (sym is ∙ tells first.value first.reads) ∙ (ap has_wide (sym first.is) ∙ still.tells) }

-- the writing of pairs

abbrev pub WritesPair : Bool → Pair → List ℕ → List ℕ → Type 0
WritesPair replaced found old new = (v : CanonicalValue) → found.value.now ≡ canonical v → new ≡ old ++ (atom found.key.now ++ canonical (uniform_value replaced v))

pub written_on : (wide : Bool) (name to new whole rest x : List ℕ) (found : Pair) → StillWritten wide name to whole rest x → ReadsPair rest (Some found) → ReadsNone rest (Some found)
    → WritesPair (is_replaced wide name found.key.now) found to new → StillWritten wide name new whole found.rest.now x
written_on wide name to new whole rest x found still reads none writes =
    let first = first_of still.left rest x found still.is reads none in
    let key = found.key.now in
    let front = atom key ++ canonical (uniform_value (is_replaced wide name key) first.value) in
    let behind = canonical_pairs (uniform_pairs wide name first.after) in
    record {
      left = first.after;
      is = first.rest;
      gives = ap (λ l. l ++ behind) (writes first.value first.reads) ∙ (append_assoc to front behind ∙ (ap (λ ps. to ++ canonical_pairs (uniform_pairs wide name ps)) (sym first.is) ∙ still.gives));
    }

pub written_all : (wide : Bool) (name to whole rest x : List ℕ) → StillWritten wide name to whole rest x → ReadsPair rest None → to ≡ whole
written_all wide name to whole rest x still reads =
    sym (append-nil to) ∙ (ap (λ ps. to ++ canonical_pairs (uniform_pairs wide name ps)) (sym (no_more still.left rest x still.is reads)) ∙ still.gives)

pub rest_all : (wide : Bool) (name to whole rest x : List ℕ) → StillWritten wide name to whole rest x → ReadsPair rest None → rest ≡ 125 ∷ x
rest_all wide name to whole rest x still reads = still.is ∙ ap (λ ps. canonical_pairs ps ++ 125 ∷ x) (no_more still.left rest x still.is reads)

-- the writing of changes

abbrev pub ReadsChange : List ℕ → Option Part → Type 0
ReadsChange rest found = (change : CanonicalChange) (x : List ℕ) → rest ≡ canonical_change change ++ x → option_map part_of found ≡ Some (change.name, canonical_pairs change.pairs ++ 125 ∷ x)

abbrev pub EndsChanges : List ℕ → Option Part → Type 0
EndsChanges rest found = (x : List ℕ) → rest ≡ 93 ∷ x → found ≡ None

abbrev pub WritesChange : Part → List ℕ → List ℕ → Type 0
WritesChange found old new = (ps : CanonicalPairs) (x : List ℕ) → found.rest.now ≡ canonical_pairs ps ++ 125 ∷ x
    → new ≡ old ++ (atom found.bytes.now ++ canonical (map_of (uniform_pairs (has_wide ps) found.bytes.now ps)))

abbrev pub LeavesRest : Part → List ℕ → Type 0
LeavesRest found after = (ps : CanonicalPairs) (x : List ℕ) → found.rest.now ≡ canonical_pairs ps ++ 125 ∷ x → after ≡ x

pub no_change_more : (left : List CanonicalChange) (rest x : List ℕ) → rest ≡ canonical_each left ++ 93 ∷ x → ReadsChange rest None → left ≡ []
no_change_more [] rest x is reads = refl
no_change_more (change ∷ after) rest x is reads =
    let read : ◌≡◌ {A = Option (List ℕ × List ℕ)} None (Some (change.name, canonical_pairs change.pairs ++ 125 ∷ (canonical_each after ++ 93 ∷ x))) = reads change (canonical_each after ++ 93 ∷ x) (is ∙ append_assoc (canonical_change change) (canonical_each after) (93 ∷ x)) in
    absurd (grind arith)

pub each_all : (to whole rest x : List ℕ) → EachWritten to whole rest x → ReadsChange rest None → to ≡ whole
each_all to whole rest x still reads =
    sym (append-nil to) ∙ (ap (λ cs. to ++ canonical_each (map uniformed cs)) (sym (no_change_more still.left rest x still.is reads)) ∙ still.gives)

pub each_on : (to new whole rest after x : List ℕ) (found : Part) → EachWritten to whole rest x → ReadsChange rest (Some found) → EndsChanges rest (Some found)
    → WritesChange found to new → LeavesRest found after → EachWritten new whole after x
each_on to new whole rest after x found still reads ends writes leaves = by still.left still.is still.gives where
  by : (left : List CanonicalChange) → rest ≡ canonical_each left ++ 93 ∷ x → to ++ canonical_each (map uniformed left) ≡ whole → EachWritten new whole after x
  by [] is gives = let other : ◌≡◌ {A = Option Part} (Some found) None = ends x is in absurd (grind arith)
  by (change ∷ more) is gives =
      let behind = canonical_each more ++ 93 ∷ x in
      let read : ◌≡◌ {A = Option (List ℕ × List ℕ)} (Some (part_of found)) (Some (change.name, canonical_pairs change.pairs ++ 125 ∷ behind)) = reads change behind (is ∙ append_assoc (canonical_change change) (canonical_each more) (93 ∷ x)) in
      let same : ◌≡◌ {A = List ℕ × List ℕ} (part_of found) (change.name, canonical_pairs change.pairs ++ 125 ∷ behind) = grind arith in
      let name = ap (λ (p : List ℕ × List ℕ). p.0) same in
      let pairs = ap (λ (p : List ℕ × List ℕ). p.1) same in
      let rest_is = canonical_each (map uniformed more) in
      let now : new ≡ to ++ canonical_change (uniformed change) = writes change.pairs behind pairs ∙ ap (λ n. to ++ (atom n ++ canonical (map_of (uniform_pairs (has_wide change.pairs) n change.pairs)))) name in
      record {
        left = more;
        is = leaves change.pairs behind pairs;
        gives = ap (λ l. l ++ rest_is) now ∙ (append_assoc to (canonical_change (uniformed change)) rest_is ∙ gives);
      }

-- pairs that are passed

pub record PairsStill (rest x : List ℕ) : Type 0 where
  pub left : CanonicalPairs
  pub is : rest ≡ canonical_pairs left ++ 125 ∷ x

pub passed_on : (rest x : List ℕ) (found : Pair) → PairsStill rest x → ReadsPair rest (Some found) → ReadsNone rest (Some found) → PairsStill found.rest.now x
passed_on rest x found still reads none =
    let first = first_of still.left rest x found still.is reads none in
    record { left = first.after; is = first.rest }

pub passed_all : (rest x : List ℕ) → PairsStill rest x → ReadsPair rest None → rest ≡ 125 ∷ x
passed_all rest x still reads = still.is ∙ ap (λ ps. canonical_pairs ps ++ 125 ∷ x) (no_more still.left rest x still.is reads)

-- changes without texts of SQL

none_replaced : (name : List ℕ) → has_sql_name name ≡ false → (wide : Bool) (key : List ℕ) → is_replaced wide name key ≡ false
none_replaced name none wide key =
    by (bytes_eq name (codes "sql")) (bytes_eq name (codes "createView")) (bytes_eq name (codes "update")) (bytes_eq name (codes "delete")) none (bytes_eq key (codes "sql")) (not wide) (bytes_eq key (codes "selectQuery")) (bytes_eq key (codes "where"))
  where
    by : (a b c d : Bool) → (a || b || c || d) ≡ false → (p q r s : Bool) → ((a && p && q) || ((b && r) || ((c || d) && s))) ≡ false
    by true b c d none p q r s = absurd (cc none)
    by false true c d none p q r s = absurd (cc none)
    by false false true d none p q r s = absurd (cc none)
    by false false false true none p q r s = absurd (cc none)
    by false false false false none p q r s = refl

value_same : (v : CanonicalValue) → uniform_value false v ≡ v
value_same (text t) = refl
value_same (number n) = refl
value_same (truth b) = refl
value_same (list vs) = refl
value_same (map_of ps) = refl

pairs_same : (wide : Bool) (name : List ℕ) → ((key : List ℕ) → is_replaced wide name key ≡ false) → (ps : CanonicalPairs) → uniform_pairs wide name ps ≡ ps
pairs_same wide name none no_pairs = refl
pairs_same wide name none (pair key v ps) =
    ap (λ b. pair key (uniform_value b v) (uniform_pairs wide name ps)) (none key)
    ∙ (ap (λ w. pair key w (uniform_pairs wide name ps)) (value_same v) ∙ ap (pair key v) (pairs_same wide name none ps))

change_same : (change : CanonicalChange) → has_sql_name change.name ≡ false → uniformed change ≡ change
change_same change none = ap (λ (ps : CanonicalPairs). record { name = change.name; pairs = ps }) (pairs_same (has_wide change.pairs) change.name (none_replaced change.name none (has_wide change.pairs)) change.pairs)

-- if the changes that are left are uniform, all are
pub record StillUniform (rest x : List ℕ) (all : List CanonicalChange) : Type 0 where
  pub left : List CanonicalChange
  pub is : rest ≡ canonical_each left ++ 93 ∷ x
  pub so : map uniformed left ≡ left → map uniformed all ≡ all

pub uniform_all : (rest x : List ℕ) (all : List CanonicalChange) → StillUniform rest x all → ReadsChange rest None → map uniformed all ≡ all
uniform_all rest x all still reads = still.so (ap (map uniformed) none ∙ sym none) where
  none : still.left ≡ []
  none = no_change_more still.left rest x still.is reads

pub uniform_on : (rest after x : List ℕ) (all : List CanonicalChange) (found : Part) → StillUniform rest x all → ReadsChange rest (Some found) → EndsChanges rest (Some found) → LeavesRest found after → has_sql_name found.bytes.now ≡ false
    → StillUniform after x all
uniform_on rest after x all found still reads ends leaves none = by still.left still.is still.so where
  by : (left : List CanonicalChange) → rest ≡ canonical_each left ++ 93 ∷ x → (map uniformed left ≡ left → map uniformed all ≡ all) → StillUniform after x all
  by [] is so = let other : ◌≡◌ {A = Option Part} (Some found) None = ends x is in absurd (grind arith)
  by (change ∷ more) is so =
      let behind = canonical_each more ++ 93 ∷ x in
      let read : ◌≡◌ {A = Option (List ℕ × List ℕ)} (Some (part_of found)) (Some (change.name, canonical_pairs change.pairs ++ 125 ∷ behind)) = reads change behind (is ∙ append_assoc (canonical_change change) (canonical_each more) (93 ∷ x)) in
      let same : ◌≡◌ {A = List ℕ × List ℕ} (part_of found) (change.name, canonical_pairs change.pairs ++ 125 ∷ behind) = grind arith in
      let name = ap (λ (p : List ℕ × List ℕ). p.0) same in
      record {
        left = more;
        is = leaves change.pairs behind (ap (λ (p : List ℕ × List ℕ). p.1) same);
        so = λ rest_so. so (ap (λ (c : CanonicalChange). c ∷ map uniformed more) (change_same change (ap has_sql_name (sym name) ∙ none)) ∙ ap (λ cs. change ∷ cs) rest_so);
      }
