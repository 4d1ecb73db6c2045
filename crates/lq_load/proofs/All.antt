-- What a reader finds until there is no record more is all the records of the text.
use Rattle.std.proofs.Common.{ap, arith, subst, sym, ◌∙◌}
use Rattle.std.specs.Prelude.{Bool, List, None, Option, Some, [], false, if◌then◌else◌, length, refl, suc, true, zero, ℕ, ◌<◌, ◌≤◌, ◌++◌, ◌∷◌, ◌≡◌}
use Rattle.csv.specs.Machine.{Read, ends_at_end, field_after, fields_after, is_end, next_record, step}
use Rattle.csv.specs.Reading.{AreRecords, Reached, records_from, records_next}
use Rattle.csv.specs.declared.parser.Config.{Config}
use Rattle.csv.specs.declared.parser.State.{State}
use Rattle.csv.specs.declared.parser.State.TheVariants as st

some_same : {A : Type 0} {x y : A} → (let o : Option A = Some x in o) ≡ Some y → x ≡ y
some_same is = Prim.cc

-- a record takes at least a byte, where there is one
shorter : (cfg : Config) (s : State) (fields : List (List ℕ)) (field : List ℕ) (c : ℕ) (xs : List ℕ) (p : Read) → next_record cfg s fields field (c ∷ xs) ≡ Some p → length p.2 ≤ length xs
unfolding next_record
shorter cfg s fields field c [] p is = by (is_end (step cfg s c).1) is where
  at_end : (b : Bool) (all : List (List ℕ)) → (if b then Some (all, st.StartRecord, []) else None) ≡ Some p → length p.2 ≤ 0
  at_end true all q = subst (λ (r : Read). length r.2 ≤ 0) (some_same q) (omega arith)
  at_end false all q = absurd Prim.cc

  by : (b : Bool) → (if b then Some (fields_after (step cfg s c).1 fields field, (step cfg s c).0, [])
      else (if ends_at_end (step cfg s c).0 then Some (fields_after (step cfg s c).1 fields field ++ (field_after (step cfg s c).1 c field ∷ []), st.StartRecord, []) else None)) ≡ Some p → length p.2 ≤ 0
  by true q = subst (λ (r : Read). length r.2 ≤ 0) (some_same q) (omega arith)
  by false q = at_end (ends_at_end (step cfg s c).0) (fields_after (step cfg s c).1 fields field ++ (field_after (step cfg s c).1 c field ∷ [])) q
shorter cfg s fields field c (x ∷ xs) p is = by (is_end (step cfg s c).1) is (shorter cfg (step cfg s c).0 (fields_after (step cfg s c).1 fields field) (field_after (step cfg s c).1 c field) x xs p) where
  by : (b : Bool) → (if b then Some (fields_after (step cfg s c).1 fields field, (step cfg s c).0, x ∷ xs) else next_record cfg (step cfg s c).0 (fields_after (step cfg s c).1 fields field) (field_after (step cfg s c).1 c field) (x ∷ xs)) ≡ Some p
      → (next_record cfg (step cfg s c).0 (fields_after (step cfg s c).1 fields field) (field_after (step cfg s c).1 c field) (x ∷ xs) ≡ Some p → length p.2 ≤ length xs) → length p.2 ≤ suc (length xs)
  by true q more = subst (λ (r : Read). length r.2 ≤ suc (length xs)) (some_same q) (omega arith)
  by false q more = let at = more q in omega (arith, at)

-- at the end of the text there is one record more at most
none_left : (cfg : Config) (s : State) (p : Read) → next_record cfg s [] [] [] ≡ Some p → (p.1 ≡ st.StartRecord) × (p.2 ≡ [])
unfolding next_record
none_left cfg s p is = by (ends_at_end s) is where
  by : (b : Bool) → (if b then Some (([] ++ ([] ∷ [])), st.StartRecord, []) else None) ≡ Some p → (p.1 ≡ st.StartRecord) × (p.2 ≡ [])
  by true q = let same : (([] ++ ([] ∷ [])), st.StartRecord, []) ≡ p = some_same q in (ap (λ (r : Read). r.1) (sym same), ap (λ (r : Read). r.2) (sym same))
  by false q = absurd Prim.cc

end_is : (cfg : Config) (n : ℕ) → records_from cfg n st.StartRecord [] ≡ []
unfolding records_from next_record
end_is cfg zero = refl
end_is cfg (suc n) = refl

none_at_end : (cfg : Config) (rs : List (List (List ℕ))) (s2 : State) (ys : List ℕ) → Reached cfg st.StartRecord [] rs s2 ys → rs ≡ []
unfolding Reached next_record
none_at_end cfg [] s2 ys reached = refl
none_at_end cfg (r ∷ rs) s2 ys reached = let there : (let o : Option Read = None in o) ≡ Some reached.0 = reached.1 in absurd Prim.cc

-- what was found until there was no more is all
pub all_found : (cfg : Config) (s : State) (xs : List ℕ) (rows : List (List (List ℕ))) (n : ℕ) → length xs < n → AreRecords cfg s xs rows → records_from cfg n s xs ≡ rows
unfolding Reached records_from
all_found cfg s xs [] zero below all = absurd (omega (arith, below))
all_found cfg s xs [] (suc k) below all =
    let none : next_record cfg s [] [] xs ≡ None = ap (λ t. next_record cfg t [] [] xs) all.2.0 ∙ ap (λ zs. next_record cfg all.0 [] [] zs) all.2.1 ∙ all.3 in
    ap (records_next (records_from cfg k)) none
all_found cfg s xs (r ∷ rs) zero below all = absurd (omega (arith, below))
all_found cfg s [] (r ∷ rs) (suc k) below all =
    let p = all.2.0 in
    let left = none_left cfg s p all.2.1 in
    let same : Reached cfg st.StartRecord [] rs all.0 all.1 = subst (λ zs. Reached cfg st.StartRecord zs rs all.0 all.1) left.1 (subst (λ t. Reached cfg t p.2 rs all.0 all.1) left.0 all.2.3) in
    ap (records_next (records_from cfg k)) all.2.1
    ∙ ap (λ f. f ∷ records_from cfg k p.1 p.2) (sym all.2.2)
    ∙ ap (λ more. r ∷ more) (ap (λ t. records_from cfg k t p.2) left.0 ∙ ap (records_from cfg k st.StartRecord) left.1 ∙ end_is cfg k ∙ sym (none_at_end cfg rs all.0 all.1 same))
all_found cfg s (c ∷ xs) (r ∷ rs) (suc k) below all =
    let p = all.2.0 in
    let fewer = shorter cfg s [] [] c xs p all.2.1 in
    ap (records_next (records_from cfg k)) all.2.1
    ∙ ap (λ f. f ∷ records_from cfg k p.1 p.2) (sym all.2.2)
    ∙ ap (λ more. r ∷ more) (all_found cfg p.1 p.2 rs k (omega (arith, below, fewer)) (all.0, all.1, all.2.3, all.3))
