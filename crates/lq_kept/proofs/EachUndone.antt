-- Rows that are taken back one after another, each in its way.
use Rattle.std.proofs.Common.{List, [], ap, length, subst, sym, ◌++◌, ◌∙◌, ◌∷◌, ◌≡◌}
use Rattle.std.proofs.lemmas.List.{append-nil, append_assoc, reverse-append}
use Rattle.std.specs.List.{AllZip}
use Rattle.std.specs.Prelude.{reverse}

-- the ways to come are those of the rows to come, and with turns that take these back, all rows are
pub record Goes {R W T : Type 0} (is_way : R → W → Type 0) (is_turn : R → T → Type 0) (rows rest : List R) (left : List W) (turns : List T) : Type 0 where
  pub ways : AllZip is_way rest (reverse left)
  pub made : (more : List T) → AllZip is_turn rest more → AllZip is_turn rows (turns ++ more)

module _ {R W T : Type 0} (is_way : R → W → Type 0) (is_turn : R → T → Type 0) (rows : List R) where
  pub begins : (ways : List W) (turns : List T) → turns ≡ [] → AllZip is_way rows (reverse ways) → Goes is_way is_turn rows rows ways turns
  begins ways turns none are = record {
    ways = are;
    made = λ more all. subst (λ (ts : List T). AllZip is_turn rows (ts ++ more)) (sym none) all;
  }

  module _ (rest after : List R) (row : R) (is : rest ≡ row ∷ after) where
    pub no_way_left : (left : List W) (turns : List T) → length left ≡ 0 → Goes is_way is_turn rows rest left turns → ⊥
    no_way_left [] turns none goes = subst (λ (rs : List R). AllZip is_way rs []) is goes.ways
    no_way_left (way ∷ left) turns none goes = Prim.cc

    module _ (left front : List W) (way : W) (ends : left ≡ front ++ way ∷ []) (turns : List T) (goes : Goes is_way is_turn rows rest left turns) where
      both : AllZip is_way (row ∷ after) (way ∷ reverse front)
      both = subst (λ (ws : List W). AllZip is_way (row ∷ after) ws) (ap reverse ends ∙ reverse-append front (way ∷ []))
          (subst (λ (rs : List R). AllZip is_way rs (reverse left)) is goes.ways)

      pub its_way : is_way row way
      its_way = both.0

      pub goes_on : (new : List T) (turn : T) → new ≡ turns ++ turn ∷ [] → is_turn row turn → Goes is_way is_turn rows after front new
      goes_on new turn grown made = record {
        ways = both.1;
        made = λ more all. subst (λ (ts : List T). AllZip is_turn rows ts) (sym (append_assoc turns (turn ∷ []) more) ∙ ap (λ (ts : List T). ts ++ more) (sym grown))
            (goes.made (turn ∷ more) (subst (λ (rs : List R). AllZip is_turn rs (turn ∷ more)) (sym is) (made, all)));
      }

  pub all_undone : (rest : List R) (left : List W) (turns : List T) → length rest ≡ 0 → Goes is_way is_turn rows rest left turns → AllZip is_turn rows turns
  all_undone [] left turns none goes = subst (λ (ts : List T). AllZip is_turn rows ts) (append-nil turns) (goes.made [] tt)
  all_undone (row ∷ rest) left turns none goes = Prim.cc
