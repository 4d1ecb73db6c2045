-- The names of some columns name columns that are there.
use Rattle.std.proofs.Common.{◌≡◌, ◌||◌, ◌∷◌, Bool, List, [], ap, false, map, not, refl, true}
use Rattle.std.specs.List.{list_any}
use Rattle.lq_base.specs.Name.{is_named}
use Rattle.lq_base.specs.declared.name.Name.{Name}
use Rattle.lq_model.specs.Catalogue.{is_in}
use Rattle.lq_model.specs.Views.{lacks_column}
use Rattle.lq_model.specs.declared.column.Column.{Column}
use Rattle.lq_model.proofs.Lists.{named_itself, or_false}

or_behind : (a b : Bool) → b ≡ true → (a || b) ≡ true
or_behind true b is = refl
or_behind false b is = is

front_in : (n : Name) (ns : List Name) → is_in n (n ∷ ns) ≡ true
front_in n ns = ap (λ b. b || is_in n ns) (named_itself n)

all_in : (ms ns : List Name) → ((n : Name) → is_in n ms ≡ true → is_in n ns ≡ true) → list_any (λ n. not (is_in n ns)) ms ≡ false
all_in [] ns inside = refl
all_in (m ∷ ms) ns inside = or_false _ _ (ap not (inside m (front_in m ms))) (all_in ms ns (λ n is. inside n (or_behind (is_named n m) (is_in n ms) is)))

pub lacks_none : (cs : List Column) → lacks_column cs (map (λ c. c.name) cs) ≡ false
lacks_none cs = all_in (map (λ c. c.name) cs) (map (λ c. c.name) cs) (λ n is. is)
